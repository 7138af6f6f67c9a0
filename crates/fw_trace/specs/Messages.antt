-- The text of a message.
use Rattle.std.specs.Prelude.{ℕ, ◌==◌, if◌then◌else◌, List, [], ◌∷◌, ◌++◌, codes, Result, Ok, Err}
use Rattle.fw_text.specs.Printing.{word_and_number}
use Rattle.pldm_base.specs.Header.{pldm_of}
use Rattle.pldm_base.specs.declared.header.PldmFault.{PldmFault}
use Rattle.pldm_base.specs.declared.header.PldmHead.{PldmHead}
use Rattle.fw_trace.specs.Answers.{update_answer}
use Rattle.fw_trace.specs.Bases.{base_answer, base_request, other_answer, other_request}
use Rattle.fw_trace.specs.Commands.{update_request}
use Rattle.fw_trace.specs.Control.{control_text}
use Rattle.fw_trace.specs.Pieces.{in_two, rest_text}

-- a request, by its PLDM type
abbrev pub request_text : PldmHead → List ℕ → List ℕ
request_text h body =
    if h.pldm_type == 5 then update_request h.command body
    else if h.pldm_type == 0 then base_request h.command body
    else other_request h.pldm_type h.command body

abbrev pub answer_text : PldmHead → List ℕ → List ℕ
answer_text h body =
    if h.pldm_type == 5 then update_answer h.command body
    else if h.pldm_type == 0 then base_answer h.command body
    else other_answer h.pldm_type h.command body

-- a PLDM message: whether it is a request, its instance identifier, its command and its fields
unfoldable pub pldm_request : PldmHead → List ℕ → List ℕ
pldm_request h body = word_and_number (codes "pldm rq ") h.instance ++ request_text h body

unfoldable pub pldm_answer : PldmHead → List ℕ → List ℕ
pldm_answer h body = word_and_number (codes "pldm rs ") h.instance ++ answer_text h body

-- a message whose head can't be decoded, by the bytes after its type byte
unfoldable pub pldm_unread : List ℕ → List ℕ
pldm_unread bytes = codes "pldm" ++ rest_text bytes

abbrev pub pldm_read : Result (PldmHead × List ℕ) PldmFault → List ℕ → List ℕ
pldm_read (Ok m) bytes = if m.0.rq then pldm_request m.0 m.1 else pldm_answer m.0 m.1
pldm_read (Err fault) bytes = pldm_unread bytes

-- a message of another type: its type byte and its digits
unfoldable pub other_text : (kind : ℕ) → List ℕ → List ℕ
other_text kind bytes = in_two (codes "type ") kind ++ rest_text bytes

-- the text of a message, by its type byte
unfoldable pub message_text : List ℕ → List ℕ
message_text [] = []
message_text (kind ∷ bytes) =
    if kind == 0 then control_text bytes
    else if kind == 1 then pldm_read (pldm_of (kind ∷ bytes)) bytes
    else other_text kind bytes
