use Rattle.std.proofs.Common.{◌≡◌}
use Rattle.std.specs.List.{list_any}
use Rattle.std.specs.Prelude.{length, nat_lt}
use Rattle.fw_package.proofs.used.Used.has_image_over.Given as goal

-- the answer for the components left is the answer for all
abbrev pub invariant-loop-component : goal.invariant-loop-component
invariant-loop-component l =
    (goal.iterator-loop-component).can_next l.component-iterator × (goal.iterator-loop-component).is_finite l.component-iterator
    × (list_any (λ c. nat_lt l.limit (length c.image)) l.component-iterator ≡ list_any (λ c. nat_lt l.limit (length c.image)) l.fn.self)
