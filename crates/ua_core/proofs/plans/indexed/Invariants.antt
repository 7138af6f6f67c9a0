use Rattle.std.proofs.Common.{map, take, ◌≡◌}
use Rattle.ua_core.proofs.plans.indexed.Given as goal
use Rattle.ua_core.specs.Learn.{with_index}

-- the components so far
abbrev pub invariant-loop-planned : goal.invariant-loop-planned
invariant-loop-planned l = l.learnt.items ≡ map (with_index l.lent l.devices) (take l.planned-index l.plan)
