use Rattle.std.proofs.Common.{◌≡◌, ◌++◌}
use Rattle.std.specs.List.{flat_map}
use Rattle.fw_trace.specs.Answers.{descriptor_fields, descriptors_fields}
use Rattle.fw_trace.proofs.answers.push_descriptors.Given as goal

-- the text so far, then the rest to append
abbrev pub invariant-loop-descriptor : goal.invariant-loop-descriptor
invariant-loop-descriptor l =
    (goal.iterator-loop-descriptor).can_next l.descriptor-iterator × (goal.iterator-loop-descriptor).is_finite l.descriptor-iterator
    × (l.text.items ++ flat_map descriptor_fields l.descriptor-iterator ≡ l.fn.text.items ++ descriptors_fields l.fn.descriptors)
