use Rattle.std.proofs.Common.{◌≡◌, drop, length, take}
use Rattle.std.specs.Io.KnownBytes.{Appends}
use Rattle.fw_edge.specs.Ledgers.{packet_counts}
use Rattle.fwupd_watch.specs.Traces.{ReadOn, pairs_text}
use Rattle.fwupd_watch.proofs.tracing.write_pairs.Given as goal

-- the pairs before the place are written and read, and their packets are counted; the readers of
-- the others are unchanged
abbrev pub invariant-loop-place : goal.invariant-loop-place
invariant-loop-place g l = record {
  lines : Appends (g.W.Write.contents l.fn.writer) (g.W.Write.contents l.writer) (pairs_text l.form l.fn.readers l.written l.world.sites l.place);
  counts : l.counts.items ≡ packet_counts (take l.place l.world.sites);
  few : length l.counts.items ≡ l.place;
  readers : drop l.place l.readers ≡ drop l.place l.fn.readers;
  size : length l.readers ≡ length l.fn.readers;
  read : ReadOn l.form l.written l.world.sites l.place l.fn.readers l.readers;
}
