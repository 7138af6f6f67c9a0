use Rattle.std.proofs.Common.{◌≡◌, drop}
use Rattle.fd_core.specs.Commands.{in_table}
use Rattle.fd_core.proofs.device.restrictions.is_listed.Given as goal

-- the key isn't among the entries so far
abbrev pub invariant-loop-listed : goal.invariant-loop-listed
invariant-loop-listed l = in_table (drop l.listed-index l.table) l.key ≡ in_table l.table l.key
