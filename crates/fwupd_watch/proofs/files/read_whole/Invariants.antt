use Rattle.std.proofs.Common.{◌≡◌, length}
use Rattle.std.specs.Io.KnownBytes.{Consumes}
use Rattle.fwupd_watch.proofs.files.read_whole.Given as goal

-- the bytes so far are those of the reader
abbrev pub invariant-loop : goal.invariant-loop
invariant-loop g l = record {
  size : length l.piece ≡ 16384;
  came : Consumes (g.R.Read.remaining l.fn.reader) (g.R.Read.remaining l.reader) l.bytes.items;
}
