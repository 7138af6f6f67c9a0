use Rattle.std.proofs.Common.{◌≡◌, ◌≤◌, ◌++◌, length}
use Rattle.fw_package.proofs.plans.Plan.new.Given as goal

-- the numbers so far, and those that are left
abbrev pub invariant-loop-number : goal.invariant-loop-number
invariant-loop-number l =
    (goal.iterator-loop-number).can_next l.number-iterator × (goal.iterator-loop-number).is_finite l.number-iterator
    × (l.numbers.items ++ l.number-iterator ≡ l.fn.uses)
    × (length l.numbers.items ≤ 8)
