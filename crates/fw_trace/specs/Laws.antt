-- Lines show what was encoded.
use Rattle.std.specs.Prelude.{ℕ, ◌≡◌, ◌<◌, ◌≤◌, ◌⊎◌, ◌+◌, ◌==◌, Bool, if◌then◌else◌, List, ◌++◌, codes, length, slice_get, Option, Some, true, false}
use Rattle.fw_text.specs.Printing.{word_and_number}
use Rattle.mctp_wire.specs.Packet.{IsHead, packet_bytes}
use Rattle.mctp_wire.specs.Units.{bytes_of}
use Rattle.mctp_wire.specs.declared.layout.Head.{Head}
use Rattle.mctp_reasm.specs.Held.{Held}
use Rattle.mctp_reasm.specs.Inboxes.{held_at}
use Rattle.mctp_reasm.specs.Laws.{held_first_pieces}
use Rattle.mctp_reasm.specs.Pieces.{IsMessage, MessageOf, PacketOf, pieces}
use Rattle.pldm_base.specs.Header.{pldm_bytes}
use Rattle.pldm_base.specs.declared.header.PldmHead.{PldmHead}
use Rattle.fwup_wire.specs.Answers.{HasAnswerWidths, IsAnswerWritable, answer_bytes, answer_code, answers_command}
use Rattle.fwup_wire.specs.Commands.{CommandRoundTrips, command_bytes, command_code}
use Rattle.fwup_wire.specs.Values.{AnswerOf, CommandOf}
use Rattle.fw_trace.specs.Answers.{answer_fields}
use Rattle.fw_trace.specs.Commands.{command_fields}
use Rattle.fw_trace.specs.Hearings.{Assemblies}
use Rattle.fw_trace.specs.Lines.{ReaderOf, head_text, outcome_of_packet, packet_line, packet_text, part_text, place_text}
use Rattle.fw_trace.specs.Messages.{message_text}
use Rattle.fw_trace.specs.Names.{name_or_digits, update_code, update_command}

-- the head of a firmware update message
abbrev pub update_head : (rq : Bool) → (instance command : ℕ) → PldmHead
update_head rq instance command = record { rq = rq; instance = instance; pldm_type = 5; command = command }

-- the name of a command
abbrev pub command_name : CommandOf → List ℕ
command_name CommandOf.QueryDeviceIdentifiers = codes "QueryDeviceIdentifiers"
command_name CommandOf.GetFirmwareParameters = codes "GetFirmwareParameters"
command_name (CommandOf.RequestUpdate _) = codes "RequestUpdate"
command_name (CommandOf.PassComponentTable _) = codes "PassComponentTable"
command_name (CommandOf.UpdateComponent _) = codes "UpdateComponent"
command_name (CommandOf.RequestFirmwareData _ _) = codes "RequestFirmwareData"
command_name (CommandOf.TransferComplete _) = codes "TransferComplete"
command_name (CommandOf.VerifyComplete _) = codes "VerifyComplete"
command_name (CommandOf.ApplyComplete _ _) = codes "ApplyComplete"
command_name (CommandOf.ActivateFirmware _) = codes "ActivateFirmware"
command_name CommandOf.GetStatus = codes "GetStatus"
command_name CommandOf.CancelUpdateComponent = codes "CancelUpdateComponent"
command_name CommandOf.CancelUpdate = codes "CancelUpdate"

-- the line of a request: its instance identifier, the command's name, and the command's fields
abbrev pub asked_text : (instance : ℕ) → CommandOf → List ℕ
asked_text instance c = word_and_number (codes "pldm rq ") instance ++ ((codes " " ++ command_name c) ++ command_fields c)

-- the line of an answer: its instance identifier, the command, the completion code, and the fields
abbrev pub answered_text : (instance command : ℕ) → AnswerOf → List ℕ
answered_text instance command a =
    word_and_number (codes "pldm rs ") instance
    ++ (name_or_digits (update_command command) command
    ++ (name_or_digits (update_code (answer_code a)) (answer_code a) ++ answer_fields a))

-- The text of an encoded command shows that command.
abbrev pub ShowsCommands : Type 0
ShowsCommands =
    (instance : ℕ) (c : CommandOf) → instance ≤ 31 → CommandRoundTrips c
    → message_text (pldm_bytes (update_head true instance (command_code c)) (command_bytes c)) ≡ asked_text instance c

-- The text of an encoded answer shows that answer.
abbrev pub ShowsAnswers : Type 0
ShowsAnswers =
    (instance command : ℕ) (a : AnswerOf) → instance ≤ 31 → answers_command command a ≡ true → HasAnswerWidths a → IsAnswerWritable a
    → message_text (pldm_bytes (update_head false instance command) (answer_bytes a)) ≡ answered_text instance command a

-- the packet goes from one end to the other
abbrev pub IsBetween : ReaderOf → Head → Type 0
IsBetween r h = ((h.source ≡ r.agent) × (h.dest ≡ r.device)) ⊎ ((h.source ≡ r.device) × (h.dest ≡ r.agent))

-- what the packet's destination holds for its kind and its tag
abbrev pub held_for : ReaderOf → Head → Option Held
held_for r h =
    let end : Assemblies = if h.dest == r.device then r.at_device else r.at_agent in
    if h.to then held_at end.requests h.tag else held_at end.replies h.tag

-- If the earlier packets of a message are held, the next packet is shown as a part, and the last as
-- the message.
abbrev pub ShowsParts : Type 0
ShowsParts =
    (r : ReaderOf) (m : MessageOf) (k age : ℕ) (p : PacketOf) → IsMessage r.unit m → IsBetween r p.head
    → k < length (pieces r.unit m) → slice_get (pieces r.unit m) k ≡ Some p → held_for r p.head ≡ held_first_pieces r.unit m k age
    → packet_text p (outcome_of_packet r p)
    ≡ head_text p.head ++ (if k + 1 == length (pieces r.unit m) then codes " " ++ message_text m.bytes else part_text p)

-- A message of one packet is shown whole, whatever was sent before.
abbrev pub ShowsWhole : Type 0
ShowsWhole =
    (r : ReaderOf) (turn number : ℕ) (h : Head) (body : List ℕ) → IsHead h → IsBetween r h → h.som ≡ true → h.eom ≡ true → h.seq ≡ 0
    → 1 ≤ length body → length body ≤ bytes_of r.unit
    → packet_line r turn number (packet_bytes h body)
    ≡ place_text turn r.device number ++ (head_text h ++ (codes " " ++ message_text body)) ++ codes "\n"
