use Rattle.std.proofs.Common.{◌<◌, length, take}
use Rattle.std.specs.Io.KnownBytes.{Appends}
use Rattle.fw_edge.proofs.retries.write_whole.Given as goal

-- the bytes so far are written
abbrev pub invariant-loop : goal.invariant-loop
invariant-loop g l = record {
  within : l.written < length l.bytes;
  so_far : Appends (g.W.Write.contents l.fn.writer) (g.W.Write.contents l.writer) (take l.written l.bytes);
}
