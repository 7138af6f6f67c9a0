-- The faults of a line, and which of several faults is reported.
use Rattle.std.specs.Prelude.{ℕ, ◌≡◌, ◌≢◌, List, Result, Ok, Err, codes, nat_le, if◌then◌else◌}
use Rattle.fw_script.specs.declared.faults.ScriptCause.{ScriptCause}
use Rattle.fw_script.specs.declared.faults.ScriptCause.TheVariants as causes
use Rattle.fw_script.specs.declared.faults.ScriptFault.{ScriptFault}

-- the name of a cause
abbrev pub name_of : ScriptCause → List ℕ
name_of causes.Directive = codes "Directive"
name_of causes.Fields = codes "Fields"
name_of causes.Order = codes "Order"
name_of causes.Number = codes "Number"
name_of causes.Hex = codes "Hex"
name_of causes.Range = codes "Range"
name_of causes.Duplicate = codes "Duplicate"
name_of causes.Limit = codes "Limit"
name_of causes.Missing = codes "Missing"
name_of causes.Memory = codes "Memory"

-- its place in the list
abbrev pub rank_of : ScriptCause → ℕ
rank_of causes.Directive = 1
rank_of causes.Fields = 2
rank_of causes.Order = 3
rank_of causes.Number = 4
rank_of causes.Hex = 5
rank_of causes.Range = 6
rank_of causes.Duplicate = 7
rank_of causes.Limit = 8
rank_of causes.Missing = 9
rank_of causes.Memory = 10

-- of two faults of a line, the one that comes first in the list
abbrev pub earlier : ScriptCause → ScriptCause → ScriptCause
earlier a b = if nat_le (rank_of a) (rank_of b) then a else b

-- two values of a line, or its fault
abbrev pub both : {A B : Type 0} → Result A ScriptCause → Result B ScriptCause → Result (A × B) ScriptCause
both (Ok a) (Ok b) = Ok (a, b)
both (Ok a) (Err fault) = Err fault
both (Err fault) (Ok b) = Err fault
both (Err fault) (Err other) = Err (earlier fault other)

-- The result is this value or fault, unless memory was refused.
abbrev pub AnswersUnlessMemory : {A B : Type 0} → (A → B) → Result A ScriptCause → Result B ScriptCause → Type 0
AnswersUnlessMemory seen (Ok a) wanted = wanted ≡ Ok (seen a)
AnswersUnlessMemory seen (Err cause) wanted = cause ≢ causes.Memory → wanted ≡ Err cause

-- The same for a whole text, whose faults have their line.
abbrev pub ReadsAs : {A B : Type 0} → (A → B) → Result A ScriptFault → Result B ScriptFault → Type 0
ReadsAs seen (Ok a) wanted = wanted ≡ Ok (seen a)
ReadsAs seen (Err fault) wanted = fault.cause ≢ causes.Memory → wanted ≡ Err fault
