use Rattle.std.proofs.Common.{◌≡◌, length}
use Rattle.std.specs.Io.KnownBytes.{Keeps}
use Rattle.fwupd_base.proofs.retries.read_some.Given as goal

-- interrupted reads returned nothing
abbrev pub invariant-loop : goal.invariant-loop
invariant-loop g l = record {
  size : length l.buffer ≡ length l.fn.buffer;
  kept : Keeps (g.R.Read.remaining l.fn.reader) (g.R.Read.remaining l.reader);
}
