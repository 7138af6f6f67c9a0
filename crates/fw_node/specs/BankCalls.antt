-- Whether a half's core calls its bank at a packet. It does if the packet is the answer to the
-- half's open request, or a new firmware update request, and the core's table calls the bank at
-- that answer or command. A session has no bank.
use Rattle.std.specs.Prelude.{ℕ, ◌==◌, ◌&&◌, Bool, false, true, List, Result, Ok, Err}
use Rattle.fd_core.specs.BankCalls.{DifferIf}
use Rattle.fwup_wire.specs.Answers.{answer_read}
use Rattle.fwup_wire.specs.Values.{CommandOf}
use Rattle.pldm_exch.specs.Caller.{is_quiet}
use Rattle.pldm_exch.specs.Sides.{asker_row, taker_row}
use Rattle.fw_node.specs.Cores.{TimedDevice, device_core}
use Rattle.fw_node.specs.Halves.{CoreOf, HalfOf, IncomingOf, half_on_packet, incoming, read_by}

-- a request that was read: a command calls the bank as the table says, and an error doesn't
abbrev pub read_calls_bank : {C : Type 0} → CoreOf C → (quiet : Bool) → C → Result CommandOf ℕ → Bool
read_calls_bank core quiet c (Ok command) = core.take_calls_bank c command quiet
read_calls_bank core quiet c (Err code) = false

-- the content of a packet
abbrev pub incoming_calls_bank : {C : Type 0} → CoreOf C → HalfOf C → IncomingOf → Bool
incoming_calls_bank core h (IncomingOf.Learnt heard) = core.learn_calls_bank h.core (answer_read heard.command heard.reply)
incoming_calls_bank core h (IncomingOf.New r) =
    (r.head.pldm_type == 5) && read_calls_bank core (is_quiet h.asker.caller) h.core (read_by core r.head.command r.body)
incoming_calls_bank core h i = false

-- the bytes of a packet; a deaf half drops all
abbrev pub packet_calls_bank : {C : Type 0} → CoreOf C → HalfOf C → List ℕ → Bool
packet_calls_bank core h bytes =
    incoming_calls_bank core h
    (incoming (asker_row h.unit h.own h.peer h.asker bytes) (taker_row h.unit h.own h.peer h.taker bytes))

-- The outcome of a packet for a device's half depends on whether the bank works exactly if the
-- packet calls the bank.
abbrev pub PacketsDependOnCalls : Type 0
PacketsDependOnCalls = (h : HalfOf TimedDevice) (bytes : List ℕ)
    → DifferIf (packet_calls_bank device_core h bytes) (half_on_packet device_core false h bytes) (half_on_packet device_core true h bytes)
