-- What the lines of a node by itself print: one line each.
use Rattle.std.specs.Prelude.{ℕ, List, [], ◌∷◌, ◌++◌, codes}
use Rattle.std.specs.List.{flat_map}
use Rattle.hex.specs.Hex.{encode_upper}
use Rattle.fw_script.specs.Faults.{name_of}
use Rattle.fw_script.specs.declared.faults.ScriptCause.{ScriptCause}
use Rattle.fw_serve.specs.declared.texts.LineRefusal.{LineRefusal}
use Rattle.fw_serve.specs.declared.texts.LineRefusal.TheVariants as refusals

-- the name of a refusal
abbrev pub refusal_name : LineRefusal → List ℕ
refusal_name refusals.NoSuchNode = codes "NoSuchNode"
refusal_name refusals.NoSuchPackage = codes "NoSuchPackage"
refusal_name refusals.Busy = codes "Busy"
refusal_name refusals.NotReady = codes "NotReady"
refusal_name refusals.NotNow = codes "NotNow"
refusal_name refusals.ClockEnd = codes "ClockEnd"

-- packets in upper-case digits: a space between two of them, and a line feed after the last; a dash
-- if there is none
abbrev pub packets_line : List (List ℕ) → List ℕ
packets_line [] = codes "-\n"
packets_line (p ∷ []) = encode_upper p ++ codes "\n"
packets_line (p ∷ q ∷ ps) = encode_upper p ++ 32 ∷ packets_line (q ∷ ps)

-- the same, with a space after each, while they are written
abbrev pub packets_spaced : List (List ℕ) → List ℕ
packets_spaced ps = flat_map (λ p. encode_upper p ++ 32 ∷ []) ps

-- a call that isn't taken
abbrev pub refused_line : LineRefusal → List ℕ
refused_line refusal = codes "refused " ++ refusal_name refusal ++ codes "\n"

-- a line that can't be read
abbrev pub fault_line : ScriptCause → List ℕ
fault_line cause = codes "fault " ++ name_of cause ++ codes "\n"

-- the answer of the event log
abbrev pub answer_line : List ℕ → List ℕ
answer_line answer = encode_upper answer ++ codes "\n"
