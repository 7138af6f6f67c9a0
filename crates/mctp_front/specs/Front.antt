-- What a front answers in place of a node: the table, by a request's destination and message type.
use Rattle.std.specs.Prelude.{ℕ, ◌+◌, ◌<◌, ◌≤◌, ◌==◌, ◌&&◌, length, true, false, if◌then◌else◌, List, [], ◌∷◌, Option, None, Result, Ok, Err}
use Rattle.std.specs.Option.{option_map}
use Rattle.mctp_wire.specs.declared.fault.WireFault.{WireFault}
use Rattle.mctp_wire.specs.declared.layout.Head.{Head}
use Rattle.mctp_wire.specs.declared.layout.TheConstants.{HEAD_SIZE}
use Rattle.mctp_wire.specs.declared.unit.Unit.{«Unit»}
use Rattle.mctp_wire.specs.declared.unit.Unit.TheVariants.{U64}
use Rattle.mctp_wire.specs.Units.{bytes_of}
use Rattle.mctp_wire.specs.Packet.{packet_bytes, packet_of}
use Rattle.mctp_ctl.specs.declared.answers.Endpoint.{Endpoint}
use Rattle.mctp_front.specs.ControlRows.{physical_answer, version_support_answer}
use Rattle.mctp_front.specs.PldmRows.{pldm_answer}

-- the rows for a message to the own identifier, by its type: control (0) and PLDM (1)
abbrev pub own_answer : List ℕ → Option (List ℕ)
own_answer (kind ∷ rest) =
    if kind == 0 then version_support_answer (kind ∷ rest)
    else if kind == 1 then pldm_answer (kind ∷ rest)
    else None
own_answer [] = None

-- the rows by the destination: the own identifier, or the null identifier (physical addressing)
abbrev pub message_answer : Endpoint → ℕ → List ℕ → Option (List ℕ)
message_answer e dest message =
    if dest == e.eid then own_answer message
    else if dest == 0 then physical_answer e message
    else None

-- The packet that carries an answer to a packet with this head: from the own identifier to the
-- source, under the same tag, and with TO clear. It has a whole message.
abbrev pub answer_packet : ℕ → Head → List ℕ → List ℕ
answer_packet own h message =
    packet_bytes (record { dest = h.source; source = own; som = true; eom = true; seq = 0; to = false; tag = h.tag }) message

-- A packet is answered if it has a whole message (SOM and EOM set) whose sender owns the tag (TO
-- set), and a row answers the message.
abbrev pub answer_in : Endpoint → Result (Head × List ℕ) WireFault → Option (List ℕ)
answer_in e (Ok (h, message)) =
    if h.som && (h.eom && h.to) then option_map (answer_packet e.eid h) (message_answer e h.dest message) else None
answer_in e (Err _) = None

-- a packet with a body of 1 byte to the baseline transmission unit, which each network carries
abbrev pub FitsBaseline : List ℕ → Type 0
FitsBaseline packet = (HEAD_SIZE < length packet) × (length packet ≤ HEAD_SIZE + bytes_of U64)

-- the front's answer to the bytes of a packet; `None`: they pass to the node
abbrev pub front_of : «Unit» → Endpoint → List ℕ → Option (List ℕ)
front_of u e bytes = answer_in e (packet_of u bytes)
