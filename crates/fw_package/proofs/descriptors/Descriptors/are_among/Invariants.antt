use Rattle.std.proofs.Common.{◌≡◌, map}
use Rattle.std.specs.List.{list_all}
use Rattle.fw_package.specs.Choice.{is_among}
use Rattle.fw_package.specs.Package.{descriptor_of}
use Rattle.fw_package.proofs.descriptors.Descriptors.are_among.Given as goal

-- the answer for the descriptors left is the answer for all
abbrev pub invariant-loop-descriptor : goal.invariant-loop-descriptor
invariant-loop-descriptor l =
    (goal.iterator-loop-descriptor).can_next l.descriptor-iterator × (goal.iterator-loop-descriptor).is_finite l.descriptor-iterator
    × (list_all (is_among (map descriptor_of l.device)) l.descriptor-iterator ≡ list_all (is_among (map descriptor_of l.device)) l.fn.self)
