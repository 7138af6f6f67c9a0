use Rattle.std.proofs.Common.{◌≡◌, ◌++◌}
use Rattle.json.specs.Tree.{items_tokens}
use Rattle.fw_json.specs.Inspections.{use_value}
use Rattle.fw_json.specs.Values.{items}
use Rattle.fw_json.proofs.inspection.push_uses.Given as goal

-- the items so far, then the rest to write
abbrev pub invariant-loop-component : goal.invariant-loop-component
invariant-loop-component l =
    (goal.iterator-loop-component).can_next l.component-iterator × (goal.iterator-loop-component).is_finite l.component-iterator
    × (l.writer.before ≡ l.fn.writer.before)
    × (l.writer.tokens ++ items_tokens (items use_value l.component-iterator) ≡ l.fn.writer.tokens ++ items_tokens (items use_value l.fn.uses))
