use Rattle.std.proofs.Common.{◌≡◌, ◌++◌}
use Rattle.json.specs.Tree.{items_tokens}
use Rattle.fw_json.specs.Inspections.{descriptor_value}
use Rattle.fw_json.specs.Values.{items}
use Rattle.fw_json.proofs.inspection.push_descriptors.Given as goal

-- the items so far, then the rest to write
abbrev pub invariant-loop-descriptor : goal.invariant-loop-descriptor
invariant-loop-descriptor l =
    (goal.iterator-loop-descriptor).can_next l.descriptor-iterator × (goal.iterator-loop-descriptor).is_finite l.descriptor-iterator
    × (l.writer.before ≡ l.fn.writer.before)
    × (l.writer.tokens ++ items_tokens (items descriptor_value l.descriptor-iterator) ≡ l.fn.writer.tokens ++ items_tokens (items descriptor_value l.fn.descriptors))
