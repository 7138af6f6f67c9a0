use Rattle.std.proofs.Common.{◌≡◌, ◌++◌}
use Rattle.std.specs.List.{flat_map}
use Rattle.fw_trace.specs.Answers.{components_fields, parameters_fields}
use Rattle.fw_trace.proofs.answers.push_components.Given as goal

-- the text so far, then the rest to append
abbrev pub invariant-loop-parameters : goal.invariant-loop-parameters
invariant-loop-parameters l =
    (goal.iterator-loop-parameters).can_next l.parameters-iterator × (goal.iterator-loop-parameters).is_finite l.parameters-iterator
    × (l.text.items ++ flat_map parameters_fields l.parameters-iterator ≡ l.fn.text.items ++ components_fields l.fn.components)
