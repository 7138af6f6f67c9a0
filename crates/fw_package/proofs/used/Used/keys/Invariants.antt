use Rattle.fw_package.proofs.Twins.{IsPacked}
use Rattle.fw_package.proofs.used.Used.keys.Given as goal

-- the numbers of the components that were passed
abbrev pub invariant-loop-component : goal.invariant-loop-component
invariant-loop-component l =
    (goal.iterator-loop-component).can_next l.component-iterator × (goal.iterator-loop-component).is_finite l.component-iterator
    × IsPacked l.fn.self l.component-iterator l.keys.items
