use Rattle.std.proofs.Common.{◌≡◌, drop, map}
use Rattle.fw_script.specs.SpecFields.{uses_from}
use Rattle.fw_script.proofs.Specs.{used_behind}
use Rattle.fw_script.proofs.spec_fields.rising_uses.Given as goal

-- the uses so far, then those of the remaining words, are those of all
abbrev pub invariant-loop-word : goal.invariant-loop-word
invariant-loop-word l = used_behind l.uses.items (uses_from l.least (map (λ w. w.now) (drop l.word-index l.words))) ≡ uses_from 1 (map (λ w. w.now) l.words)
