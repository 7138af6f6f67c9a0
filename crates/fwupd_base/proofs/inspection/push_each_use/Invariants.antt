use Rattle.std.proofs.Common.{◌≡◌, ◌++◌}
use Rattle.std.specs.List.{flat_map}
use Rattle.fwupd_base.specs.Inspection.{use_text}
use Rattle.fwupd_base.proofs.inspection.push_each_use.Given as goal

-- the text so far, then the rest to append
abbrev pub invariant-loop-component : goal.invariant-loop-component
invariant-loop-component l =
    (goal.iterator-loop-component).can_next l.component-iterator × (goal.iterator-loop-component).is_finite l.component-iterator
    × (l.text.items ++ flat_map use_text l.component-iterator ≡ l.fn.text.items ++ flat_map use_text l.fn.uses)
