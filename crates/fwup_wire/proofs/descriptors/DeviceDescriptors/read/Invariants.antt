use Rattle.std.proofs.Common.{is_some, ◌-◌, ◌≡◌}
use Rattle.fwup_wire.specs.Descriptors.{descriptors_in}
use Rattle.fwup_wire.proofs.descriptors.DeviceDescriptors.read.Given as goal

-- the rest is a list of descriptors if the whole is one
abbrev pub invariant-loop : goal.invariant-loop
invariant-loop l =
    is_some (descriptors_in l.count l.bytes) ≡ is_some (descriptors_in (l.count - l.counter) l.cursor)
