-- MCTP's packet (DSP0236, section 8.1): four bytes of head, and a body of 1 byte to the
-- transmission unit.
use Rattle.std.specs.Prelude.{◌≡◌, ◌≢◌, ℕ, ◌+◌, ◌*◌, ◌/◌, ◌%◌, ◌<◌, ◌≤◌, ◌==◌, Bool, true, false, not, nat_lt, if◌then◌else◌, List, ◌∷◌, length, slice_index, Result, Ok, Err}
use Rattle.mctp_wire.specs.declared.layout.Head.{Head}
use Rattle.mctp_wire.specs.declared.layout.Packet.{Packet}
use Rattle.mctp_wire.specs.declared.layout.TheConstants.{HEAD_SIZE, MAX_BODY}
use Rattle.mctp_wire.specs.declared.unit.Unit.{«Unit»}
use Rattle.mctp_wire.specs.Units.{bytes_of}
use Rattle.mctp_wire.specs.declared.fault.WireFault.{WireFault}
use Rattle.mctp_wire.specs.declared.fault.WireFault.TheVariants.{Short, Version, Empty, TooLong}

-- a truth value as a bit
abbrev pub bit : Bool → ℕ
bit true = 1
bit false = 0

-- the fourth byte of a head, from the high bits to the low: SOM, EOM, the sequence number, TO and
-- the tag
abbrev pub flags_of : Head → ℕ
flags_of h = 128 * bit h.som + 64 * bit h.eom + 16 * h.seq + 8 * bit h.to + h.tag

-- the ranges of a head's small fields: two bits of sequence number and three of tag
abbrev pub IsHead : Head → Type 0
IsHead h = (h.seq < 4) × (h.tag < 8)

-- The bytes are a packet with this head and this body. The low bits of the first byte are the
-- header version, 1; its high bits are reserved and may hold anything.
abbrev pub IsPacket : «Unit» → List ℕ → Head → List ℕ → Type 0
IsPacket u (version ∷ dest ∷ source ∷ flags ∷ rest) h body =
    (version % 16 ≡ 1) × (dest ≡ h.dest) × (source ≡ h.source) × (flags ≡ flags_of h) × IsHead h
    × (rest ≡ body) × (1 ≤ length body) × (length body ≤ bytes_of u)
IsPacket u _ h body = ⊥

-- the head with the given second to fourth bytes
abbrev pub head_of : ℕ → ℕ → ℕ → Head
head_of dest source flags =
    record {
      dest = dest;
      source = source;
      som = flags / 128 % 2 == 1;
      eom = flags / 64 % 2 == 1;
      seq = flags / 16 % 4;
      to = flags / 8 % 2 == 1;
      tag = flags % 8;
    }

-- the result of reading: the head and the body of a packet, or the first fault
abbrev pub packet_of : «Unit» → List ℕ → Result (Head × List ℕ) WireFault
packet_of u (version ∷ dest ∷ source ∷ flags ∷ body) =
    if not (version % 16 == 1) then Err Version
    else if length body == 0 then Err Empty
    else if nat_lt (bytes_of u) (length body) then Err TooLong
    else Ok (head_of dest source flags, body)
packet_of u _ = Err Short

-- the first fault of bytes that are no packet: it holds, and none before it does
abbrev pub IsFirstWireFault : «Unit» → List ℕ → WireFault → Type 0
IsFirstWireFault u bytes Short = length bytes < HEAD_SIZE
IsFirstWireFault u bytes Version = (HEAD_SIZE ≤ length bytes) × (slice_index bytes 0 % 16 ≢ 1)
IsFirstWireFault u bytes Empty = (length bytes ≡ HEAD_SIZE) × (slice_index bytes 0 % 16 ≡ 1)
IsFirstWireFault u bytes TooLong = (HEAD_SIZE + bytes_of u < length bytes) × (slice_index bytes 0 % 16 ≡ 1)

-- the encoded form of a packet: reserved bits are 0
abbrev pub packet_bytes : Head → List ℕ → List ℕ
packet_bytes h body = 1 ∷ h.dest ∷ h.source ∷ flags_of h ∷ body

-- facts about a packet that was read at either unit: its head can be encoded, and its body has 1
-- byte to the greater unit
pub record IsRead (p : Packet) : Type 0 where
  pub head : IsHead p.head
  pub some : 1 ≤ length p.body.now
  pub few : length p.body.now ≤ MAX_BODY

-- The encoded form of a packet that was read.
unfoldable pub spelling : Packet → List ℕ
spelling p = packet_bytes p.head p.body.now

-- an encoded packet is a packet with that head and that body
abbrev pub WritesPackets : Type 0
WritesPackets = (u : «Unit») (h : Head) (body : List ℕ) → IsHead h → 1 ≤ length body → length body ≤ bytes_of u
    → IsPacket u (packet_bytes h body) h body

-- bytes are a packet with at most one head and body, which reading returns
abbrev pub ReadsPackets : Type 0
ReadsPackets = (u : «Unit») (bytes : List ℕ) (h : Head) (body : List ℕ) → IsPacket u bytes h body → packet_of u bytes ≡ Ok (h, body)

-- the encoded form of a packet that was read at one unit reads at each unit as the original bytes
-- do
abbrev pub SpellsAlike : Type 0
SpellsAlike = (u v : «Unit») (bytes : List ℕ) (p : Packet) → packet_of u bytes ≡ Ok (p.head, p.body.now) → packet_of v (spelling p) ≡ packet_of v bytes
