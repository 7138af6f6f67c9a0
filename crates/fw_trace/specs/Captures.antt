-- Packets as Linux captures them on an MCTP interface (libpcap's file format, link type
-- LINKTYPE_LINUX_SLL), and how they decode.
use Rattle.std.specs.Prelude.{◌≡◌, ℕ, zero, suc, ◌<◌, ◌+◌, ◌-◌, ◌%◌, ◌^◌, ◌==◌, ◌||◌, nat_eq, nat_lt, Bool, if◌then◌else◌, List, [], ◌∷◌, ◌++◌, Option, None, Some, length, drop, take, option_map, slice_index}
use Rattle.std.specs.List.{AllByRecursion, flat_map, starts_with}
use Rattle.byteorder.specs.Endian.{little_bytes, little_number}

-- A packet of a capture: the tick of sending, whether it was sent by us, which is to a device, and
-- its bytes.
pub record CapturedOf : Type 0 where
  pub turn : ℕ
  pub is_sent : Bool
  pub bytes : List ℕ

-- the file's header: the magic number, version 2.4, no time zone, no accuracy, at most 65,535 bytes
-- of a packet, and link type 113
abbrev pub capture_header : List ℕ
capture_header =
    0xD4 ∷ 0xC3 ∷ 0xB2 ∷ 0xA1 ∷ 2 ∷ 0 ∷ 4 ∷ 0 ∷ 0 ∷ 0 ∷ 0 ∷ 0 ∷ 0 ∷ 0 ∷ 0 ∷ 0 ∷ 0xFF ∷ 0xFF ∷ 0 ∷ 0 ∷ 113 ∷ 0 ∷ 0 ∷ 0 ∷ []

-- the endpoint that sent a packet: its third byte
abbrev pub source_of : List ℕ → ℕ
source_of (version ∷ dest ∷ source ∷ rest) = source
source_of bytes = 0

-- the captured size of a packet: its bytes, and the 16 of its cooked-mode header
abbrev pub captured_size : List ℕ → ℕ
captured_size bytes = (16 + length bytes) % 2 ^ 32

-- the packet type: sent by us, or to us
abbrev pub type_of : (is_sent : Bool) → ℕ
type_of is_sent = if is_sent then 4 else 0

-- The cooked-mode header, high bytes first: the packet type, the interface's type ARPHRD_MCTP, an
-- address of one byte in a field of eight, and the protocol MCTP.
abbrev pub cooked_head : (is_sent : Bool) → (source : ℕ) → List ℕ
cooked_head is_sent source = 0 ∷ type_of is_sent ∷ 0x01 ∷ 0x22 ∷ 0 ∷ 1 ∷ source ∷ 0 ∷ 0 ∷ 0 ∷ 0 ∷ 0 ∷ 0 ∷ 0 ∷ 0x00 ∷ 0xFA ∷ []

-- a number of four bytes, low byte first
unfoldable pub word : ℕ → List ℕ
word n = little_bytes 4 n

-- the header of a packet: the second and its fraction, the captured size and the original size
unfoldable pub record_head : (turn size : ℕ) → List ℕ
record_head turn size = word turn ++ word 0 ++ word size ++ word size

-- a packet: its header, the cooked-mode header, and its bytes
unfoldable pub capture_record : CapturedOf → List ℕ
capture_record p = record_head p.turn (captured_size p.bytes) ++ cooked_head p.is_sent (source_of p.bytes) ++ p.bytes

-- the packets of a file after its header
abbrev pub capture_records : List CapturedOf → List ℕ
capture_records ps = flat_map capture_record ps

-- a file
abbrev pub capture_file : List CapturedOf → List ℕ
capture_file ps = capture_header ++ capture_records ps

-- how it decodes: the size in the third word of the bytes
abbrev pub size_in : List ℕ → ℕ
size_in bytes = little_number 4 (drop 8 bytes)

abbrev pub packet_in : List ℕ → CapturedOf
packet_in bytes =
    record { turn = little_number 4 bytes; is_sent = slice_index bytes 17 == 4; bytes = take (size_in bytes - 16) (drop 32 bytes) }

-- the bytes hold no whole packet
abbrev pub is_cut : List ℕ → Bool
is_cut bytes = nat_lt (length bytes) 32 || nat_lt (size_in bytes) 16 || nat_lt (length bytes) (16 + size_in bytes)

-- the packets that bytes encode, or none if the last is cut off; `fuel` bounds the number of
-- packets
unfoldable pub packets_in : ℕ → List ℕ → Option (List CapturedOf)
packets_in fuel [] = Some []
packets_in zero (b ∷ bytes) = None
packets_in (suc fuel) (b ∷ bytes) =
    if is_cut (b ∷ bytes) then None
    else option_map (λ ps. packet_in (b ∷ bytes) ∷ ps) (packets_in fuel (drop (16 + size_in (b ∷ bytes)) (b ∷ bytes)))

-- the packets of a file, if it is a capture
abbrev pub capture_packets : List ℕ → Option (List CapturedOf)
capture_packets bytes = if starts_with nat_eq bytes capture_header then packets_in (length bytes) (drop 24 bytes) else None

-- what a capture can encode: times and sizes of four bytes
abbrev pub IsCapturable : CapturedOf → Type 0
IsCapturable p = (p.turn < 2 ^ 32) × (16 + length p.bytes < 2 ^ 32)

-- a file decodes to its packets
abbrev pub CaptureReadsBack : Type 0
CaptureReadsBack = (ps : List CapturedOf) → AllByRecursion IsCapturable ps → capture_packets (capture_file ps) ≡ Some ps
