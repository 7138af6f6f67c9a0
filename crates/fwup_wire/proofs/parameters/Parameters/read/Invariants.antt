use Rattle.std.proofs.Common.{is_some, ◌-◌, ◌≡◌}
use Rattle.fwup_wire.specs.Parameters.{parameters_in}
use Rattle.fwup_wire.proofs.parameters.Parameters.read.Given as goal

-- the rest is a list of components if the whole is one
abbrev pub invariant-loop : goal.invariant-loop
invariant-loop l =
    is_some (parameters_in l.count l.bytes) ≡ is_some (parameters_in (l.count - l.counter) l.cursor)
