-- The laws of frames and their reader.
use Rattle.std.specs.Prelude.{◌≡◌, ◌≢◌, ◌⊎◌, ◌<◌, ℕ, List, [], ◌∷◌, ◌++◌, Some, codes}
use Rattle.std.specs.List.{All}
use Rattle.mctp_wire.specs.declared.unit.Unit.{«Unit»}
use Rattle.mctp_wire.specs.declared.unit.Unit.TheVariants as units
use Rattle.mctp_serial.specs.Check.{check_after}
use Rattle.mctp_serial.specs.Frames.{HasFrame, HasFrameAt, IsFrame, frame_of}
use Rattle.mctp_serial.specs.Reader.{ReaderOf, new_reader, packet_after_byte, packets_in, reader_after}
use Rattle.mctp_serial.specs.declared.stage.Stage.{Stage}
use Rattle.mctp_serial.specs.declared.stage.Stage.TheVariants as stages

-- The published check value of the CRC with these parameters (CRC-16/MCRF4XX).
abbrev pub HasCheckValue : Type 0
HasCheckValue = check_after 0xFFFF (codes "123456789") ≡ 0x6F91

-- The written bytes are a frame of the packet, and a packet has no other frame.
abbrev pub WritesFrames : Type 0
WritesFrames = (packet : List ℕ) → HasFrame packet → IsFrame (frame_of packet) packet

abbrev pub HasOneFrame : Type 0
HasOneFrame =
    (bytes packet : List ℕ) → IsFrame bytes packet → All (λ b. b < 256) bytes
    → bytes ≡ frame_of packet

-- a stage in which a flag begins a frame
abbrev pub IsReady : Stage → Type 0
IsReady stages.Idle = Prim.Unit {0}
IsReady stages.Opened = Prim.Unit {0}
IsReady stages.Filling = Prim.Unit {0}
IsReady stages.Lost = Prim.Unit {0}
IsReady s = ⊥

-- A reader for which a flag begins a frame returns the packet of a frame once, and is between
-- frames again.
abbrev pub ReadsFrame : Type 0
ReadsFrame =
    (r : ReaderOf) (packet : List ℕ) → IsReady r.stage → HasFrameAt r.unit packet
    → (packets_in r (frame_of packet) ≡ packet ∷ [])
    × ((reader_after r (frame_of packet)).stage ≡ stages.Idle)

-- a stream that ends with a whole frame of this packet
pub record EndsWithFrame (stream packet : List ℕ) : Type 0 where
  pub before : List ℕ
  pub frame : List ℕ
  pub whole : IsFrame frame packet
  pub parts : stream ≡ before ++ frame

-- Each packet that a new reader returns, over any bytes, is the packet of a frame that the bytes so
-- far end with.
abbrev pub GivesFramed : Type 0
GivesFramed =
    (u : «Unit») (bytes : List ℕ) (b : ℕ) (packet : List ℕ)
    → packet_after_byte (reader_after (new_reader u) bytes) b ≡ Some packet
    → EndsWithFrame (bytes ++ b ∷ []) packet × HasFrameAt u packet

-- the reader doesn't take a flag for a byte count
abbrev pub TakesNoFlagAsCount : ReaderOf → Type 0
TakesNoFlagAsCount r = (r.stage ≢ stages.Revised) ⊎ (r.unit ≡ units.U64)

-- Of two frames in a row, a reader in any state returns at least the packet of the second, last,
-- and is between frames again. It may not take the flag that begins the first for a byte count.
abbrev pub LosesOneFrame : Type 0
LosesOneFrame =
    (r : ReaderOf) (p q : List ℕ) → TakesNoFlagAsCount r → HasFrameAt r.unit p → HasFrameAt r.unit q
    → (packets_in r (frame_of p ++ frame_of q) ≡ packets_in r (frame_of p) ++ q ∷ [])
    × ((reader_after r (frame_of p ++ frame_of q)).stage ≡ stages.Idle)

-- Of three frames in a row, a reader in any state returns at least the packet of the third, last,
-- and is between frames again.
abbrev pub LosesTwoFrames : Type 0
LosesTwoFrames =
    (r : ReaderOf) (o p q : List ℕ)
    → HasFrameAt r.unit o → HasFrameAt r.unit p → HasFrameAt r.unit q
    → (packets_in r (frame_of o ++ (frame_of p ++ frame_of q))
    ≡ packets_in r (frame_of o ++ frame_of p) ++ q ∷ [])
    × ((reader_after r (frame_of o ++ (frame_of p ++ frame_of q))).stage ≡ stages.Idle)
