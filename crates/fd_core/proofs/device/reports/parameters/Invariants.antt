use Rattle.std.proofs.Common.{◌*◌, ◌≡◌, ◌≤◌, length, map, take}
use Rattle.fd_core.specs.Commands.{parameters_by}
use Rattle.fd_core.proofs.device.reports.parameters.Given as goal
use Rattle.fwup_wire.specs.Parameters.{all_parameters_bytes}

-- the list is that of the components so far, each of at most 63 bytes
abbrev pub invariant-loop-component : goal.invariant-loop-component
invariant-loop-component g l =
    (l.list ≡ map (parameters_by (g.B.Bank.rows l.bank)) (take l.component-index l.components))
    × (length (all_parameters_bytes l.list) ≤ 63 * l.component-index)
