use Rattle.std.proofs.Common.{◌≡◌, ◌-◌, length}
use Rattle.std.specs.Io.KnownBytes.{Consumes}
use Rattle.fwupd_nodes.proofs.decoding.read_input.Given as goal

-- the bytes so far are those of the reader
abbrev pub invariant-loop-piece : goal.invariant-loop-piece
invariant-loop-piece g l = record {
  size : length l.piece ≡ 4096;
  came : Consumes (g.R.Read.remaining l.fn.reader) (g.R.Read.remaining l.reader) l.bytes.items;
}

-- the number of bytes up to the limit
abbrev pub decreases-loop-piece : goal.decreases-loop-piece
decreases-loop-piece g l = 16777217 - length l.bytes.items
