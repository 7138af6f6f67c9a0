use Rattle.std.proofs.Common.{◌≡◌, drop}
use Rattle.fd_core.specs.Commands.{lacks_listed}
use Rattle.fd_core.proofs.device.restrictions.misses_one.Given as goal

-- the entries so far are applied, or have a restriction
abbrev pub invariant-loop-listed : goal.invariant-loop-listed
invariant-loop-listed g l = lacks_listed (g.B.Bank.rows l.bank) (drop l.listed-index l.table) ≡ lacks_listed (g.B.Bank.rows l.bank) l.table
