-- The reader: frames out of a stream of bytes.
use Rattle.std.specs.Prelude.{Bool, ℕ, ◌+◌, ◌*◌, ◌<◌, ◌≤◌, ◌==◌, ◌||◌, ◌&&◌, nat_le, if◌then◌else◌, List, [], ◌∷◌, ◌++◌, length, Option, Some, None}
use Rattle.mctp_wire.specs.Units.{bytes_of}
use Rattle.mctp_wire.specs.declared.layout.TheConstants.{HEAD_SIZE}
use Rattle.mctp_wire.specs.declared.unit.Unit.{«Unit»}
use Rattle.mctp_serial.specs.Check.{check_of}
use Rattle.mctp_serial.specs.Frames.{ESCAPE, FLAG}
use Rattle.mctp_serial.specs.declared.stage.Stage.{Stage}
use Rattle.mctp_serial.specs.declared.stage.Stage.TheVariants as stages

-- A reader: its transmission unit, its stage in a frame, the byte count, the two bytes of the check
-- sequence, and the packet so far.
pub record ReaderOf : Type 0 where
  pub unit : «Unit»
  pub stage : Stage
  pub count : ℕ
  pub high : ℕ
  pub low : ℕ
  pub packet : List ℕ

-- a new reader
abbrev pub new_reader : «Unit» → ReaderOf
new_reader u = record { unit = u; stage = stages.Idle; count = 0; high = 0; low = 0; packet = [] }

-- inside the data, the packet so far has fewer bytes than the byte count
abbrev pub HasDataRoom : Stage → (held count : ℕ) → Type 0
HasDataRoom stages.Filling held count = held < count
HasDataRoom stages.Escaped held count = held < count
HasDataRoom s held count = Prim.Unit {0}

-- also, the byte count is of a packet that fits the unit
abbrev pub IsBounded : «Unit» → Stage → (held count : ℕ) → Type 0
IsBounded u s held count = (count ≤ HEAD_SIZE + bytes_of u) × HasDataRoom s held count

-- the reader in another stage
abbrev pub reader_at : Stage → ReaderOf → ReaderOf
reader_at s r = record r { stage = s }

-- the reader with one more byte of the packet
abbrev pub reader_with : ReaderOf → ℕ → ReaderOf
reader_with r b =
    record r {
      stage = if length r.packet + 1 == r.count then stages.High else stages.Filling;
      packet = r.packet ++ b ∷ [];
    }

-- the reader before the data, with this byte count
abbrev pub reader_before_data : ReaderOf → ℕ → ReaderOf
reader_before_data r count = record r { stage = stages.Filling; count = count; packet = [] }

-- the reader after a byte at which a frame may begin
abbrev pub reader_seeking : ReaderOf → ℕ → ReaderOf
reader_seeking r b = if b == FLAG then reader_at stages.Opened r else reader_at stages.Lost r

-- the reader with this stage, after a byte
abbrev pub reader_from : Stage → ReaderOf → ℕ → ReaderOf
reader_from stages.Idle r b = reader_seeking r b
reader_from stages.Opened r b =
    if b == 1 then reader_at stages.Revised r else reader_seeking r b
reader_from stages.Revised r b =
    if nat_le 1 b && nat_le b (HEAD_SIZE + bytes_of r.unit) then reader_before_data r b
    else reader_at stages.Lost r
reader_from stages.Filling r b =
    if b == ESCAPE then reader_at stages.Escaped r
    else (if b == FLAG then reader_at stages.Opened r else reader_with r b)
reader_from stages.Escaped r b =
    if (b == 0x5D) || (b == 0x5E) then reader_with r (b + 0x20) else reader_at stages.Lost r
reader_from stages.High r b = record r { stage = stages.Low; high = b }
reader_from stages.Low r b = record r { stage = stages.Closing; low = b }
reader_from stages.Closing r b =
    if b == FLAG then reader_at stages.Idle r else reader_at stages.Lost r
reader_from stages.Lost r b = reader_seeking r b

-- the packet, if one is returned
abbrev pub packet_if : Bool → List ℕ → Option (List ℕ)
packet_if given packet = if given then Some packet else None

-- the packet that the reader with this stage returns for a byte
abbrev pub packet_from : Stage → ReaderOf → ℕ → Option (List ℕ)
packet_from stages.Closing r b =
    packet_if ((b == FLAG) && (check_of r.packet == r.high * 256 + r.low)) r.packet
packet_from s r b = None

-- The reader after a byte, and the packet that it returns for the byte.
abbrev pub reader_after_byte : ReaderOf → ℕ → ReaderOf
reader_after_byte r b = reader_from r.stage r b

abbrev pub packet_after_byte : ReaderOf → ℕ → Option (List ℕ)
packet_after_byte r b = packet_from r.stage r b

-- The reader after these bytes, and the packets that it returns for them.
unfoldable pub reader_after : ReaderOf → List ℕ → ReaderOf
reader_after r [] = r
reader_after r (b ∷ bs) = reader_after (reader_after_byte r b) bs

-- the packet, if there is one, before others
abbrev pub packets_with : Option (List ℕ) → List (List ℕ) → List (List ℕ)
packets_with None packets = packets
packets_with (Some packet) packets = packet ∷ packets

unfoldable pub packets_in : ReaderOf → List ℕ → List (List ℕ)
packets_in r [] = []
packets_in r (b ∷ bs) = packets_with (packet_after_byte r b) (packets_in (reader_after_byte r b) bs)
