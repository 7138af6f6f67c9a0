use Rattle.std.proofs.Common.{◌≡◌, drop}
use Rattle.fd_core.specs.Commands.{has_applied}
use Rattle.fd_core.proofs.device.restrictions.has_any.Given as goal

-- none of the components so far is applied
abbrev pub invariant-loop-component : goal.invariant-loop-component
invariant-loop-component g l =
    has_applied (g.B.Bank.rows l.bank) (drop l.component-index l.components) ≡ has_applied (g.B.Bank.rows l.bank) l.components
