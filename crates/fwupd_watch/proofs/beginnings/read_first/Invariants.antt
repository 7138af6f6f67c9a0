use Rattle.std.proofs.Common.{◌≡◌, ◌≤◌, ◌-◌, length}
use Rattle.std.specs.Io.KnownBytes.{Consumes}
use Rattle.fwupd_watch.proofs.beginnings.read_first.Given as goal

-- the bytes so far are those of the reader, and not more than requested
abbrev pub invariant-loop-piece : goal.invariant-loop-piece
invariant-loop-piece g l = record {
  size : length l.piece ≡ 16384;
  within : length l.bytes.items ≤ l.most;
  came : Consumes (g.R.Read.remaining l.fn.reader) (g.R.Read.remaining l.reader) l.bytes.items;
}

-- the number of missing bytes
abbrev pub decreases-loop-piece : goal.decreases-loop-piece
decreases-loop-piece g l = l.most - length l.bytes.items
