use Rattle.std.proofs.Common.{◌≡◌, ◌++◌}
use Rattle.fw_setup.proofs.nodes.same_descriptors.Given as goal

-- the descriptors so far, and those that are left
abbrev pub invariant-loop-descriptor : goal.invariant-loop-descriptor
invariant-loop-descriptor l =
    (goal.iterator-loop-descriptor).can_next l.descriptor-iterator × (goal.iterator-loop-descriptor).is_finite l.descriptor-iterator
    × (l.same ++ l.descriptor-iterator ≡ l.descriptors)
