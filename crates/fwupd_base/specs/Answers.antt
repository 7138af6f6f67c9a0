-- The output of an endpoint without a device for each input line.
use Rattle.std.specs.Prelude.{ℕ, ◌==◌, ◌&&◌, not, true, false, if◌then◌else◌, List, [], ◌∷◌, ◌++◌, Option, Some, None, Result, Ok, Err, codes}
use Rattle.hex.specs.Hex.{decode_of, encode_upper}
use Rattle.hex.specs.declared.error.FromHexError.{FromHexError}
use Rattle.mctp_wire.specs.declared.layout.Head.{Head}
use Rattle.mctp_wire.specs.declared.fault.WireFault.{WireFault}
use Rattle.mctp_wire.specs.declared.fault.WireFault.TheVariants as faults
use Rattle.mctp_wire.specs.declared.unit.Unit.TheVariants.{U64}
use Rattle.mctp_wire.specs.Packet.{packet_of, packet_bytes}
use Rattle.mctp_ctl.specs.declared.answers.Endpoint.{Endpoint}
use Rattle.mctp_ctl.specs.Control.{answer_of}
use Rattle.pldm_base.specs.Base.{base_reply, tid_after}
use Rattle.pldm_base.specs.Codes.{invalid_pldm_type, not_ready}
use Rattle.pldm_base.specs.Header.{pldm_bytes, pldm_of}
use Rattle.pldm_base.specs.declared.header.PldmFault.{PldmFault}
use Rattle.pldm_base.specs.declared.header.PldmHead.{PldmHead}
use Rattle.pldm_base.specs.declared.terminus.Role.TheVariants.{Device}
use Rattle.fwupd_base.specs.declared.drops.LineDropCause.{LineDropCause}
use Rattle.fwupd_base.specs.declared.drops.LineDropCause.TheVariants as drops
use Rattle.fwupd_base.specs.Lines.{lines_of}

-- the name of a cause
abbrev pub name_of : LineDropCause → List ℕ
name_of drops.Hex = codes "Hex"
name_of (drops.Wire faults.Short) = codes "Short"
name_of (drops.Wire faults.Version) = codes "Version"
name_of (drops.Wire faults.Empty) = codes "Empty"
name_of (drops.Wire faults.TooLong) = codes "TooLong"
name_of drops.Destination = codes "Destination"
name_of drops.NotWhole = codes "NotWhole"
name_of drops.StartNumber = codes "StartNumber"
name_of drops.NotRequest = codes "NotRequest"
name_of drops.Kind = codes "Type"
name_of drops.Message = codes "Message"

-- The outcome of a line: the packet that answers it, or why there is none, and the terminus
-- identifier afterwards.
pub record LineOutcome : Type 0 where
  pub reply : Result (List ℕ) LineDropCause
  pub tid : ℕ

abbrev pub dropped_line : ℕ → LineDropCause → LineOutcome
dropped_line tid cause = record { reply = Err cause; tid = tid }

-- the head of an answer: source and destination are exchanged, and TO is clear
abbrev pub answer_head : Endpoint → Head → Head
answer_head e h =
    record { dest = h.source; source = e.eid; som = true; eom = true; seq = 0; to = false; tag = h.tag }

-- an answer, of one packet
abbrev pub answered_line : Endpoint → Head → ℕ → List ℕ → LineOutcome
answered_line e h tid message = record { reply = Ok (packet_bytes (answer_head e h) message); tid = tid }

-- a control message gets the answer of its table
abbrev pub control_reply : Endpoint → Head → ℕ → Option (List ℕ) → LineOutcome
control_reply e h tid None = dropped_line tid drops.Message
control_reply e h tid (Some message) = answered_line e h tid message

-- The completion code and fields that answer a PLDM request. Base commands have their table.
-- Firmware update needs a device, which there isn't, and no other type is supported.
abbrev pub completion_of : ℕ → PldmHead → List ℕ → List ℕ
completion_of tid m fields =
    if m.pldm_type == 0 then base_reply Device tid m.command fields
    else if m.pldm_type == 5 then not_ready ∷ []
    else invalid_pldm_type ∷ []

-- the terminus identifier after a PLDM request: only a base command can set it
abbrev pub tid_after_pldm : ℕ → PldmHead → List ℕ → ℕ
tid_after_pldm tid m fields = if m.pldm_type == 0 then tid_after tid m.command fields else tid

-- a PLDM answer's head: the request's, with Rq clear
abbrev pub pldm_answer_head : PldmHead → PldmHead
pldm_answer_head m = record m { rq = false }

-- a PLDM message is answered if it is a request
abbrev pub pldm_reply : Endpoint → Head → ℕ → Result (PldmHead × List ℕ) PldmFault → LineOutcome
pldm_reply e h tid (Err fault) = dropped_line tid drops.Message
pldm_reply e h tid (Ok (m, fields)) =
    if not m.rq then dropped_line tid drops.Message
    else answered_line e h (tid_after_pldm tid m fields) (pldm_bytes (pldm_answer_head m) (completion_of tid m fields))

-- the answer to a message, by its first byte
abbrev pub body_reply : Endpoint → Head → ℕ → List ℕ → LineOutcome
body_reply e h tid [] = dropped_line tid drops.Kind
body_reply e h tid (kind ∷ rest) =
    if kind == 0 then control_reply e h tid (answer_of e (kind ∷ rest))
    else if kind == 1 then pldm_reply e h tid (pldm_of (kind ∷ rest))
    else dropped_line tid drops.Kind

-- the answer to a packet, if it is to this endpoint, a whole message, and a request
abbrev pub packet_reply : Endpoint → ℕ → Head → List ℕ → LineOutcome
packet_reply e tid h body =
    if not (h.dest == e.eid) then dropped_line tid drops.Destination
    else if not (h.som && h.eom) then dropped_line tid drops.NotWhole
    else if not (h.seq == 0) then dropped_line tid drops.StartNumber
    else if not h.to then dropped_line tid drops.NotRequest
    else body_reply e h tid body

abbrev pub wire_reply : Endpoint → ℕ → Result (Head × List ℕ) WireFault → LineOutcome
wire_reply e tid (Err fault) = dropped_line tid (drops.Wire fault)
wire_reply e tid (Ok packet) = packet_reply e tid packet.0 packet.1

abbrev pub hex_reply : Endpoint → ℕ → Result (List ℕ) FromHexError → LineOutcome
hex_reply e tid (Err _) = dropped_line tid drops.Hex
hex_reply e tid (Ok bytes) = wire_reply e tid (packet_of U64 bytes)

-- the outcome of a line of hexadecimal digits
abbrev pub outcome_of : Endpoint → ℕ → List ℕ → LineOutcome
outcome_of e tid line = hex_reply e tid (decode_of line)

-- the output of a reply: the packet in digits, or the cause why there is none
abbrev pub reply_text : Result (List ℕ) LineDropCause → List ℕ
reply_text (Err cause) = codes "drop " ++ name_of cause
reply_text (Ok packet) = encode_upper packet

-- a reply's line
abbrev pub line_text_of : Result (List ℕ) LineDropCause → List ℕ
line_text_of reply = reply_text reply ++ 10 ∷ []

-- the output for a line
unfoldable pub text_for_line : Endpoint → ℕ → List ℕ → List ℕ
text_for_line e tid line = line_text_of (outcome_of e tid line).reply

-- the terminus identifier after a line
unfoldable pub tid_after_line : Endpoint → ℕ → List ℕ → ℕ
tid_after_line e tid line = (outcome_of e tid line).tid

-- the output for lines, in order; each line gets the identifier after the line before it
abbrev pub lines_text : Endpoint → ℕ → List (List ℕ) → List ℕ
lines_text e tid [] = []
lines_text e tid (line ∷ lines) =
    text_for_line e tid line ++ lines_text e (tid_after_line e tid line) lines

-- the terminus identifier after all lines
abbrev pub tid_along : Endpoint → ℕ → List (List ℕ) → ℕ
tid_along e tid [] = tid
tid_along e tid (line ∷ lines) = tid_along e (tid_after_line e tid line) lines

-- the output for a text, of an endpoint whose terminus identifier isn't set
abbrev pub answers_of : Endpoint → List ℕ → List ℕ
answers_of e text = lines_text e 0 (lines_of text)

-- the endpoint with this identifier and UUID
abbrev pub endpoint_of : ℕ → List ℕ → Endpoint
endpoint_of eid uuid = record { eid = eid; uuid = uuid }
