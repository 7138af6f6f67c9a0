use Rattle.std.proofs.Common.{◌≡◌, ◌++◌, take, drop}
use Rattle.pldm_exch.specs.Rests.{rests_after_tick}
use Rattle.pldm_exch.proofs.rests.fall.Given as goal

-- the rests that were passed have fallen
abbrev pub invariant-loop-rest : goal.invariant-loop-rest
invariant-loop-rest l = l.rests ≡ rests_after_tick (take l.rest-index l.fn.rests) ++ drop l.rest-index l.fn.rests
