-- Frames (DSP0253): a flag, the revision, the byte count, the data, the check sequence and a flag.
use Rattle.std.specs.Prelude.{◌≡◌, ◌≢◌, ◌⊎◌, ℕ, ◌+◌, ◌-◌, ◌*◌, ◌/◌, ◌%◌, ◌≤◌, ◌==◌, ◌||◌, if◌then◌else◌, List, [], ◌∷◌, ◌++◌, length}
use Rattle.mctp_wire.specs.Units.{bytes_of}
use Rattle.mctp_wire.specs.declared.layout.TheConstants.{HEAD_SIZE, MAX_PACKET}
use Rattle.mctp_wire.specs.declared.unit.Unit.{«Unit»}
use Rattle.mctp_serial.specs.Check.{check_of}

-- the byte that begins and ends a frame
abbrev pub FLAG : ℕ
FLAG = 0x7E

-- the byte that begins an escape sequence
abbrev pub ESCAPE : ℕ
ESCAPE = 0x7D

-- a packet that a frame can hold
abbrev pub HasFrame : List ℕ → Type 0
HasFrame packet = (1 ≤ length packet) × (length packet ≤ MAX_PACKET)

-- a packet that a frame can hold at this transmission unit: a header, and a body of up to the unit
abbrev pub HasFrameAt : «Unit» → List ℕ → Type 0
HasFrameAt u packet = (1 ≤ length packet) × (length packet ≤ HEAD_SIZE + bytes_of u)

-- The grammar.

-- `bytes` are the data of a frame for one byte of its packet
abbrev pub IsByteData : List ℕ → ℕ → Type 0
IsByteData bytes b =
    ((b ≡ FLAG) × (bytes ≡ ESCAPE ∷ 0x5E ∷ [])) ⊎ (((b ≡ ESCAPE) × (bytes ≡ ESCAPE ∷ 0x5D ∷ []))
    ⊎ ((b ≢ FLAG) × (b ≢ ESCAPE) × (bytes ≡ b ∷ [])))

-- `bytes` are the data of a frame for a packet
abbrev pub IsData : List ℕ → List ℕ → Type 0
IsData bytes [] = bytes ≡ []
IsData bytes (b ∷ packet) =
    (first : List ℕ) × (rest : List ℕ)
    × (bytes ≡ first ++ rest) × IsByteData first b × IsData rest packet

-- `bytes` are a frame of `packet`.
pub record IsFrame (bytes packet : List ℕ) : Type 0 where
  pub escaped : List ℕ
  pub high : ℕ
  pub low : ℕ
  pub layout : bytes ≡ FLAG ∷ 1 ∷ length packet ∷ (escaped ++ high ∷ low ∷ FLAG ∷ [])
  pub size : HasFrame packet
  pub holds : IsData escaped packet
  pub check : high * 256 + low ≡ check_of packet

-- The frame of a packet, as it is written.

abbrev pub data_of_byte : ℕ → List ℕ
data_of_byte b = if (b == FLAG) || (b == ESCAPE) then ESCAPE ∷ (b - 0x20) ∷ [] else b ∷ []

unfoldable pub data_of : List ℕ → List ℕ
data_of [] = []
data_of (b ∷ packet) = data_of_byte b ++ data_of packet

-- the check sequence, the high byte first, and a flag
abbrev pub end_of : List ℕ → List ℕ
end_of packet = check_of packet / 256 ∷ check_of packet % 256 ∷ FLAG ∷ []

abbrev pub frame_of : List ℕ → List ℕ
frame_of packet = FLAG ∷ 1 ∷ length packet ∷ (data_of packet ++ end_of packet)
