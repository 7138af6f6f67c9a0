-- The messages of PLDM type 0 (DSP0240), and of the PLDM types whose commands have no names here.
use Rattle.std.specs.Prelude.{ℕ, ◌==◌, if◌then◌else◌, List, [], ◌∷◌, ◌++◌, codes, is_some}
use Rattle.fw_trace.specs.declared.names.CodeTable.TheVariants as tables
use Rattle.fw_trace.specs.declared.tables.Form.TheVariants as forms
use Rattle.fw_trace.specs.Names.{base_command, name_or_digits}
use Rattle.fw_trace.specs.Pieces.{in_two, rest_text}
use Rattle.fw_trace.specs.Tables.{FieldOf, answer_body_text, table_text}

-- the fields of a request by its command
abbrev pub base_request_fields : (command : ℕ) → List FieldOf
base_request_fields command =
    if command == 0x01 then (codes " tid ", forms.Number) ∷ []
    else if command == 0x03
    then (codes " handle ", forms.Handle) ∷ (codes " operation ", forms.Byte) ∷ (codes " type ", forms.Byte) ∷ []
    else if command == 0x05 then (codes " type ", forms.Byte) ∷ (codes " version ", forms.Digits 4) ∷ []
    else []

-- the fields of an answer with code 0: a bit for each of the 64 PLDM types, or for each of a type's
-- 256 commands
abbrev pub base_answer_fields : (command : ℕ) → List FieldOf
base_answer_fields command =
    if command == 0x02 then (codes " tid ", forms.Number) ∷ []
    else if command == 0x03
    then (codes " handle ", forms.Handle) ∷ (codes " flag ", forms.Byte) ∷ (codes " versions ", forms.Rest) ∷ []
    else if command == 0x04 then (codes " types ", forms.Digits 8) ∷ []
    else if command == 0x05 then (codes " commands ", forms.Digits 32) ∷ []
    else []

-- a command that has no name here, by its PLDM type
unfoldable pub other_command : (kind command : ℕ) → List ℕ
other_command kind command = in_two (codes " type ") kind ++ in_two (codes " command ") command

unfoldable pub other_request : (kind command : ℕ) → List ℕ → List ℕ
other_request kind command fields = other_command kind command ++ rest_text fields

unfoldable pub other_answer : (kind command : ℕ) → List ℕ → List ℕ
other_answer kind command body = other_command kind command ++ answer_body_text tables.Shared [] body

-- a base command, by its name or, if it has none, by its number
unfoldable pub base_request : (command : ℕ) → List ℕ → List ℕ
base_request command fields =
    if is_some (base_command command)
    then name_or_digits (base_command command) command ++ table_text (base_request_fields command) fields
    else other_request 0 command fields

unfoldable pub base_answer : (command : ℕ) → List ℕ → List ℕ
base_answer command body =
    if is_some (base_command command)
    then name_or_digits (base_command command) command ++ answer_body_text tables.Base (base_answer_fields command) body
    else other_answer 0 command body
