-- MCTP control messages (DSP0236, section 12).
use Rattle.std.specs.Prelude.{ℕ, ◌/◌, ◌%◌, ◌==◌, if◌then◌else◌, List, [], ◌∷◌, ◌++◌, codes, Option, Some, None}
use Rattle.std.specs.Option.{option_map}
use Rattle.fw_text.specs.Printing.{word_and_number}
use Rattle.mctp_ctl.specs.Codes.{command_of}
use Rattle.mctp_ctl.specs.declared.codes.ControlCommand.{ControlCommand}
use Rattle.mctp_ctl.specs.declared.codes.ControlCommand.TheVariants as controls
use Rattle.fw_trace.specs.declared.names.CodeTable.TheVariants as tables
use Rattle.fw_trace.specs.declared.tables.Form.TheVariants as forms
use Rattle.fw_trace.specs.Names.{control_name, name_or_digits}
use Rattle.fw_trace.specs.Pieces.{rest_text}
use Rattle.fw_trace.specs.Tables.{FieldOf, answer_body_text, table_text}

-- the fields of a request by its command
abbrev pub control_request_fields : Option ControlCommand → List FieldOf
control_request_fields (Some controls.SetEndpointId) = (codes " operation ", forms.Byte) ∷ (codes " eid ", forms.Number) ∷ []
control_request_fields (Some controls.GetMctpVersionSupport) = (codes " type ", forms.Byte) ∷ []
control_request_fields command = []

-- the fields of an answer with completion code 0
abbrev pub control_answer_fields : Option ControlCommand → List FieldOf
control_answer_fields (Some controls.SetEndpointId) =
    (codes " status ", forms.Byte) ∷ (codes " eid ", forms.Number) ∷ (codes " pool ", forms.Number) ∷ []
control_answer_fields (Some controls.GetEndpointId) =
    (codes " eid ", forms.Number) ∷ (codes " type ", forms.Byte) ∷ (codes " medium ", forms.Byte) ∷ []
control_answer_fields (Some controls.GetEndpointUuid) = (codes " uuid ", forms.Digits 16) ∷ []
control_answer_fields (Some controls.GetMctpVersionSupport) = (codes " versions ", forms.List 4) ∷ []
control_answer_fields (Some controls.GetMessageTypeSupport) = (codes " types ", forms.List 1) ∷ []
control_answer_fields None = []

-- a word, then the instance identifier, which is in the flags, and the command
unfoldable pub control_start : List ℕ → (flags command : ℕ) → List ℕ
control_start word flags command =
    word_and_number word (flags % 32) ++ name_or_digits (option_map control_name (command_of command)) command

-- a message that can't be decoded
unfoldable pub control_unread : List ℕ → List ℕ
control_unread bytes = codes "control" ++ rest_text bytes

-- A control message after its type byte: bit 7 is Rq, bit 6 is D, the low five bits are the
-- instance identifier, and the command follows. A message of less than two bytes isn't decoded, nor
-- is a datagram, whose D bit is set.
unfoldable pub control_text : List ℕ → List ℕ
control_text (flags ∷ command ∷ rest) =
    if flags / 64 == 2
    then control_start (codes "control rq ") flags command
    ++ table_text (control_request_fields (command_of command)) rest
    else if flags / 64 == 0
    then control_start (codes "control rs ") flags command
    ++ answer_body_text tables.Control (control_answer_fields (command_of command)) rest
    else control_unread (flags ∷ command ∷ rest)
control_text bytes = control_unread bytes
