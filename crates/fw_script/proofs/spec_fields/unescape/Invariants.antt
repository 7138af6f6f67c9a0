use Rattle.std.proofs.Common.{◌≡◌, length}
use Rattle.fw_script.specs.SpecFields.{unescaped_word}
use Rattle.fw_script.proofs.Specs.{behind}
use Rattle.fw_script.proofs.spec_fields.unescape.Given as goal

-- the bytes so far, then those of the remaining word, are those of the whole word
abbrev pub invariant-loop-rest : goal.invariant-loop-rest
invariant-loop-rest l = behind l.bytes.items (unescaped_word l.rest) ≡ unescaped_word l.word

abbrev pub decreases-loop-rest : goal.decreases-loop-rest
decreases-loop-rest l = length l.rest
