-- The fields of the answers of firmware update (DSP0267 1.0), in the order of their tables.
use Rattle.std.specs.Prelude.{ℕ, ◌==◌, ◌&&◌, if◌then◌else◌, List, [], ◌∷◌, ◌++◌, codes, length, Result, Ok, Err}
use Rattle.std.specs.List.{flat_map}
use Rattle.fw_text.specs.Printing.{in_eight, in_four, word_and_number}
use Rattle.fwup_wire.specs.Answers.{answer_read}
use Rattle.fwup_wire.specs.Fields.{bit}
use Rattle.fwup_wire.specs.Values.{AnswerOf, DeviceDescriptorOf, ParametersOf, VersionOf}
use Rattle.fwup_wire.specs.declared.answer.Malformed.{Malformed}
use Rattle.fwup_wire.specs.declared.answer.OfferResponse.{OfferResponse}
use Rattle.fwup_wire.specs.declared.answer.Status.{Status}
use Rattle.fwup_wire.specs.declared.answer.TableResponse.{TableResponse}
use Rattle.fw_trace.specs.Commands.{component_fields}
use Rattle.fw_trace.specs.Names.{name_or_digits, update_code, update_command}
use Rattle.fw_trace.specs.Pieces.{in_digits, in_two, rest_text, text_field}

-- a descriptor: its type and its data
unfoldable pub descriptor_fields : DeviceDescriptorOf → List ℕ
descriptor_fields d = in_four (codes " ") d.kind ++ in_digits (codes " ") d.bytes

unfoldable pub descriptors_fields : List DeviceDescriptorOf → List ℕ
descriptors_fields ds = word_and_number (codes " descriptors ") (length ds) ++ flat_map descriptor_fields ds

-- a word, then an image's version: its comparison stamp and its text
unfoldable pub version_fields : List ℕ → VersionOf → List ℕ
version_fields word v = in_eight word v.stamp ++ text_field (codes " ") v.text

-- the pending image, if there is one: without one, its stamp, encoding and text are 0
abbrev pub pending_fields : VersionOf → List ℕ
pending_fields v =
    if (v.stamp == 0) && (v.text.text_type == 0) && (length v.text.bytes == 0) then []
    else version_fields (codes " pending ") v

-- the parameters that a device reports for a component
unfoldable pub parameters_fields : ParametersOf → List ℕ
parameters_fields p =
    component_fields p.key p.index ++ version_fields (codes " active ") p.active ++ pending_fields p.pending

unfoldable pub components_fields : List ParametersOf → List ℕ
components_fields ps = word_and_number (codes " components ") (length ps) ++ flat_map parameters_fields ps

unfoldable pub table_fields : TableResponse → List ℕ
table_fields r = word_and_number (codes " response ") r.response ++ word_and_number (codes " code ") r.code

unfoldable pub offer_response_fields : OfferResponse → List ℕ
offer_response_fields r =
    word_and_number (codes " compatibility ") r.compatibility ++ word_and_number (codes " code ") r.code ++ in_eight (codes " flags ") (bit r.force)
    ++ word_and_number (codes " time ") r.time

unfoldable pub status_fields : Status → List ℕ
status_fields s =
    word_and_number (codes " state ") s.state ++ word_and_number (codes " previous ") s.previous ++ word_and_number (codes " aux ") s.aux
    ++ in_two (codes " status ") s.aux_status ++ word_and_number (codes " progress ") s.progress ++ word_and_number (codes " reason ") s.reason
    ++ in_eight (codes " flags ") (bit s.force)

-- The fields of an answer after its code. Only the size of image data is shown. A decoded answer to
-- RequestUpdate has no metadata and requests no package data. A decoded answer to CancelUpdate
-- names no component that doesn't work.
abbrev pub answer_fields : AnswerOf → List ℕ
answer_fields (AnswerOf.Refused code) = []
answer_fields (AnswerOf.QueryDeviceIdentifiers descriptors) = descriptors_fields descriptors
answer_fields (AnswerOf.GetFirmwareParameters components) = components_fields components
answer_fields AnswerOf.RequestUpdate = codes " metadata 0 send 0"
answer_fields (AnswerOf.PassComponentTable response) = table_fields response
answer_fields (AnswerOf.UpdateComponent response) = offer_response_fields response
answer_fields (AnswerOf.RequestFirmwareData bytes) = word_and_number (codes " bytes ") (length bytes)
answer_fields AnswerOf.TransferComplete = []
answer_fields AnswerOf.VerifyComplete = []
answer_fields AnswerOf.ApplyComplete = []
answer_fields (AnswerOf.ActivateFirmware time) = word_and_number (codes " time ") time
answer_fields (AnswerOf.GetStatus status) = status_fields status
answer_fields AnswerOf.CancelUpdateComponent = []
answer_fields AnswerOf.CancelUpdate = codes " broken 0 components 0000000000000000"

-- the fields of a decoded answer, or the digits of one that can't be decoded
abbrev pub answer_fields_read : Result AnswerOf Malformed → List ℕ → List ℕ
answer_fields_read (Ok a) fields = answer_fields a
answer_fields_read (Err fault) fields = rest_text fields

-- an answer's code, and its fields, decoded for the command of its head
abbrev pub code_and_fields : (command : ℕ) → List ℕ → List ℕ
code_and_fields command [] = []
code_and_fields command (code ∷ fields) =
    name_or_digits (update_code code) code ++ answer_fields_read (answer_read command (code ∷ fields)) fields

-- an answer of firmware update
unfoldable pub update_answer : (command : ℕ) → List ℕ → List ℕ
update_answer command body = name_or_digits (update_command command) command ++ code_and_fields command body
