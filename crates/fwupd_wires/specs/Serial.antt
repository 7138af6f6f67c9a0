-- A serial line: which of the packets that come over it are given to the node.
use Rattle.std.specs.Prelude.{ℕ, List, Option, Some, None}
use Rattle.mctp_wire.specs.declared.unit.Unit.{«Unit»}
use Rattle.mctp_ctl.specs.declared.answers.Endpoint.{Endpoint}
use Rattle.mctp_front.specs.Front.{front_of}
use Rattle.mctp_serial.specs.Reader.{ReaderOf, packet_after_byte}

-- the packet, if the front has no answer to it
abbrev pub packet_unanswered : Option (List ℕ) → List ℕ → Option (List ℕ)
packet_unanswered None packet = Some packet
packet_unanswered (Some answer) packet = None

-- the packet, if there is one, and the front of this endpoint has no answer to it
abbrev pub packet_behind_front : «Unit» → Endpoint → Option (List ℕ) → Option (List ℕ)
packet_behind_front u endpoint None = None
packet_behind_front u endpoint (Some packet) = packet_unanswered (front_of u endpoint packet) packet

-- The packet that passes to the node with this endpoint when the reader reads a byte: the byte ends
-- the packet's frame, and the front doesn't answer it.
abbrev pub packet_passed : «Unit» → Endpoint → ReaderOf → (byte : ℕ) → Option (List ℕ)
packet_passed u endpoint reader byte = packet_behind_front u endpoint (packet_after_byte reader byte)
