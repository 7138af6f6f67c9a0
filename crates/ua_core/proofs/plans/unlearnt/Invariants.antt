use Rattle.std.proofs.Common.{map, take, ◌≡◌}
use Rattle.ua_core.proofs.plans.unlearnt.Given as goal
use Rattle.ua_core.specs.Learn.{unlearnt}

-- the components so far
abbrev pub invariant-loop-number : goal.invariant-loop-number
invariant-loop-number l = l.plan.items ≡ map unlearnt (take l.number-index l.numbers)
