use Rattle.std.proofs.Common.{◌≡◌, ◌++◌, take, drop}
use Rattle.pldm_exch.specs.Kept.{answerer_tick}
use Rattle.pldm_exch.proofs.answerer.age_all.Given as goal

-- the places that were passed are aged
abbrev pub invariant-loop-place : goal.invariant-loop-place
invariant-loop-place l = l.places ≡ answerer_tick (take l.place-index l.fn.places) ++ drop l.place-index l.fn.places
