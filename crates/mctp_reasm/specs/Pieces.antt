-- Messages, and the packets that they are cut into (DSP0236, section 8).
use Rattle.std.specs.Prelude.{◌≤◌, ℕ, zero, suc, ◌+◌, ◌*◌, ◌==◌, nat_le, Bool, true, false, if◌then◌else◌, List, [], ◌∷◌, ◌++◌, length, take, drop}
use Rattle.mctp_wire.specs.declared.unit.Unit.{«Unit»}
use Rattle.mctp_wire.specs.Units.{bytes_of, message_limit}
use Rattle.mctp_wire.specs.declared.layout.Head.{Head}
use Rattle.mctp_wire.specs.Packet.{packet_bytes}
use Rattle.mctp_wire.specs.declared.unit.TheConstants.{MAX_PACKETS}

-- a message between two endpoints
pub record MessageOf : Type 0 where
  pub dest : ℕ
  pub source : ℕ
  pub to : Bool
  pub tag : ℕ
  pub bytes : List ℕ

-- a placeholder for a message, before one is written to it
abbrev pub blank : MessageOf
blank = record { dest = 0; source = 0; to = false; tag = 0; bytes = 0 ∷ [] }

-- a message has 1 byte to four packets' bodies
abbrev pub IsMessage : «Unit» → MessageOf → Type 0
IsMessage u m = (1 ≤ length m.bytes) × (length m.bytes ≤ message_limit u)

-- a packet: its head and its body
pub record PacketOf : Type 0 where
  pub head : Head
  pub body : List ℕ

abbrev pub packet_of : Head → List ℕ → PacketOf
packet_of h body = record { head = h; body = body }

-- the common fields of all packets of a message
pub record Route : Type 0 where
  pub dest : ℕ
  pub source : ℕ
  pub to : Bool
  pub tag : ℕ

abbrev pub route_of : Head → Route
route_of h = record { dest = h.dest; source = h.source; to = h.to; tag = h.tag }

abbrev pub message_route : MessageOf → Route
message_route m = record { dest = m.dest; source = m.source; to = m.to; tag = m.tag }

-- Piece n of a message: SOM is set on the first, EOM on the last, and its number is n.
abbrev pub piece : Route → ℕ → Bool → List ℕ → PacketOf
piece r n last body =
    record { head = record { dest = r.dest; source = r.source; som = n == 0; eom = last; seq = n; to = r.to; tag = r.tag }; body = body }

-- at most `most` pieces, from number n on: the bytes cut at the unit
unfoldable pub pieces_from : «Unit» → ℕ → Route → ℕ → List ℕ → List PacketOf
pieces_from u zero r n bytes = []
pieces_from u (suc most) r n bytes =
    if nat_le (length bytes) (bytes_of u) then piece r n true bytes ∷ []
    else piece r n false (take (bytes_of u) bytes) ∷ pieces_from u most r (n + 1) (drop (bytes_of u) bytes)

-- the pieces of a message, one to four
abbrev pub pieces : «Unit» → MessageOf → List PacketOf
pieces u m = pieces_from u MAX_PACKETS (message_route m) 0 m.bytes

-- a packet in its encoded form
abbrev pub spelling_of : PacketOf → List ℕ
spelling_of p = packet_bytes p.head p.body

-- the bytes that packets carry, one after the other
abbrev pub bodies : List PacketOf → List ℕ
bodies [] = []
bodies (p ∷ ps) = p.body ++ bodies ps
