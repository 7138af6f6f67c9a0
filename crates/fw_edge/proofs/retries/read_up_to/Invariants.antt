use Rattle.std.proofs.Common.{◌<◌, length}
use Rattle.std.specs.Io.KnownBytes.{Consumes}
use Rattle.fw_edge.proofs.retries.read_up_to.Given as goal

-- the held bytes were read
abbrev pub invariant-loop : goal.invariant-loop
invariant-loop g l = record {
  within : length l.held.items < l.size;
  held : Consumes (g.R.Read.remaining l.fn.reader) (g.R.Read.remaining l.reader) l.held.items;
}
