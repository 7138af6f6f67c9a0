use Rattle.std.proofs.Common.{◌≡◌}
use Rattle.ua_core.proofs.plans.index_of.Given as goal
use Rattle.ua_core.specs.Learn.{index_of}

-- the index among the components that are left is the index among all
abbrev pub invariant-loop-device : goal.invariant-loop-device
invariant-loop-device l =
    (goal.iterator-loop-device).can_next l.device-iterator × (goal.iterator-loop-device).is_finite l.device-iterator
    × (index_of l.device-iterator l.key ≡ index_of l.devices l.key)
