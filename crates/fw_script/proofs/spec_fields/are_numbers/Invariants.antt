use Rattle.std.proofs.Common.{◌≡◌, drop, map}
use Rattle.fw_script.specs.SpecFields.{are_numbers}
use Rattle.fw_script.proofs.spec_fields.are_numbers.Given as goal

-- the result for the remaining words is the result for all
abbrev pub invariant-loop-word : goal.invariant-loop-word
invariant-loop-word l = are_numbers (map (λ w. w.now) (drop l.word-index l.words)) ≡ are_numbers (map (λ w. w.now) l.words)
