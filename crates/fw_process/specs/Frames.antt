-- Stamped packets as frames in a stream of bytes, between processes of one machine.
use Rattle.std.specs.Prelude.{ℕ, ◌≡◌, ◌≤◌, ◌<◌, ◌+◌, ◌^◌, ◌==◌, ◌||◌, ◌++◌, ◌∷◌, [], nat_lt, if◌then◌else◌, List, drop, length, take}
use Rattle.byteorder.specs.Endian.{little_bytes, little_number}
use Rattle.exch_lane.specs.Lanes.{Sent}
use Rattle.exch_lane.specs.Steps.{sent_at}
use Rattle.fw_process.specs.declared.frames.FrameProgress.{FrameProgress}
use Rattle.fw_process.specs.declared.frames.FrameProgress.TheVariants as progress

-- the frame of a packet: its length in two bytes, its stamp in four, each with the low byte first,
-- and the packet
abbrev pub frame_of : Sent → List ℕ
frame_of p = little_bytes 2 (length p.bytes) ++ (little_bytes 4 p.date ++ p.bytes)

-- the stamped packet of a frame
abbrev pub packet_of : List ℕ → Sent
packet_of bytes = sent_at (little_number 4 (drop 2 bytes)) (drop 6 bytes)

-- Bytes of a frame so far: a part of it, or all of it. A packet has 1 to 132 bytes; with another
-- length they are no frame.
abbrev pub progress_for : (size held : ℕ) → FrameProgress
progress_for size held = if (size == 0) || nat_lt 132 size then progress.Bad else (if nat_lt held (6 + size) then progress.Part else progress.Whole)

abbrev pub progress_of : List ℕ → FrameProgress
progress_of bytes = if nat_lt (length bytes) 2 then progress.Part else progress_for (little_number 2 (take 2 bytes)) (length bytes)

-- the bytes so far after the next byte: after a whole frame, or bytes that are none, a frame begins
abbrev pub bytes_from : FrameProgress → List ℕ → ℕ → List ℕ
bytes_from progress.Part bytes b = bytes ++ b ∷ []
bytes_from progress.Whole bytes b = b ∷ []
bytes_from progress.Bad bytes b = b ∷ []

abbrev pub bytes_after : List ℕ → ℕ → List ℕ
bytes_after bytes b = bytes_from (progress_of bytes) bytes b

-- a packet that may be framed
pub record IsFramed (p : Sent) : Type 0 where
  pub some : 1 ≤ length p.bytes
  pub most : length p.bytes ≤ 132
  pub stamp : p.date < 2 ^ 32

-- A frame is read back: each beginning of it is a part, and all of it is whole, and gives its
-- packet and its stamp.
pub record IsReadBack (p : Sent) : Type 0 where
  pub part : (count : ℕ) → count < length (frame_of p) → progress_of (take count (frame_of p)) ≡ progress.Part
  pub whole : progress_of (frame_of p) ≡ progress.Whole
  pub packet : packet_of (frame_of p) ≡ p

abbrev pub FramesAreReadBack : Type 0
FramesAreReadBack = (p : Sent) → IsFramed p → IsReadBack p
