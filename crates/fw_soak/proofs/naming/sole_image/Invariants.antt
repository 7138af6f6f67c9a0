use Rattle.std.specs.Prelude.{option_map}
use Rattle.fw_soak.proofs.Sole.{Looks}
use Rattle.fw_soak.proofs.naming.sole_image.Given as goal

-- the result for the remaining numbers, with the image found so far, is the result for all
abbrev pub invariant-loop-number : goal.invariant-loop-number
invariant-loop-number l =
    (goal.iterator-loop-number).can_next l.number-iterator × (goal.iterator-loop-number).is_finite l.number-iterator
    × Looks l.«package» l.key.classification l.key.identifier l.fn.uses l.number-iterator (option_map (λ i. i.now) l.found)
