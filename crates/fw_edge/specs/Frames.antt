-- Packets as frames in a stream of bytes, and what is read and written of a frame if that fails.
use Rattle.std.specs.Prelude.{ℕ, ◌≡◌, ◌+◌, ◌≤◌, ◌<◌, ◌⊎◌, List, [], ◌∷◌, ◌++◌, length, take, Option}
use Rattle.std.specs.Io.KnownBytes.{Appends, Consumes, IsAtEnd, Keeps}
use Rattle.byteorder.specs.Endian.{little_bytes, little_number}
use Rattle.mctp_wire.specs.declared.layout.TheConstants.{HEAD_SIZE}
use Rattle.mctp_wire.specs.declared.unit.Unit.{«Unit»}
use Rattle.mctp_wire.specs.Units.{bytes_of}
use Rattle.fw_edge.specs.declared.frame.FrameFault.{FrameFault}
use Rattle.fw_edge.specs.declared.frame.FrameFault.TheVariants as faults

-- the frame of a packet: its length in two bytes, low byte first, and the packet
abbrev pub frame_of : List ℕ → List ℕ
frame_of packet = little_bytes 2 (length packet) ++ packet

-- one frame after another
abbrev pub frames_of : List (List ℕ) → List ℕ
frames_of [] = []
frames_of (packet ∷ packets) = frame_of packet ++ frames_of packets

-- fewer than `size` bytes were read
pub record PartOf (before now : Option (List ℕ)) (size : ℕ) : Type 0 where
  pub bytes : List ℕ
  pub read : Consumes before now bytes
  pub part : length bytes < size

-- a beginning of `bytes` was written, and not all
pub record BeginsOf (before now : Option (List ℕ)) (bytes : List ℕ) : Type 0 where
  pub count : ℕ
  pub fewer : count < length bytes
  pub written : Appends before now (take count bytes)

-- the most bytes of a packet in a network with this transmission unit: a header and a body
abbrev pub most_of : «Unit» → ℕ
most_of u = HEAD_SIZE + bytes_of u

-- a packet may have `size` bytes; and no packet has
abbrev pub IsSize : «Unit» → ℕ → Type 0
IsSize u size = (1 ≤ size) × (size ≤ most_of u)

abbrev pub IsNoSize : «Unit» → ℕ → Type 0
IsNoSize u size = (size ≡ 0) ⊎ (most_of u < size)

-- Fewer bytes were read than the frame has. The first two of them are its packet's length.
abbrev pub IsCut : «Unit» → List ℕ → Type 0
IsCut u [] = Prim.Unit {0}
IsCut u (low ∷ []) = Prim.Unit {0}
IsCut u (low ∷ high ∷ rest) = (length rest < little_number 2 (low ∷ high ∷ [])) × (little_number 2 (low ∷ high ∷ []) ≤ most_of u)

-- two bytes aren't the length of a packet
abbrev pub IsNoLength : «Unit» → List ℕ → Type 0
IsNoLength u bytes = (length bytes ≡ 2) × IsNoSize u (little_number 2 bytes)

-- the reader ended within a frame, after these bytes
pub record ReadCut (u : «Unit») (before now : Option (List ℕ)) : Type 0 where
  pub bytes : List ℕ
  pub some : 1 ≤ length bytes
  pub cut : IsCut u bytes
  pub read : Consumes before now bytes
  pub end : IsAtEnd now

-- a length was read that no packet has
pub record ReadNoLength (u : «Unit») (before now : Option (List ℕ)) : Type 0 where
  pub bytes : List ℕ
  pub length : IsNoLength u bytes
  pub read : Consumes before now bytes

-- a part of a frame was read
pub record ReadPart (u : «Unit») (before now : Option (List ℕ)) : Type 0 where
  pub bytes : List ℕ
  pub cut : IsCut u bytes
  pub read : Consumes before now bytes

-- the bytes a reader had and has left if no frame was read for this reason
abbrev pub ReadStops : «Unit» → FrameFault → (before now : Option (List ℕ)) → Type 0
ReadStops u faults.End before now = Consumes before now [] × IsAtEnd now
ReadStops u faults.Cut before now = ReadCut u before now
ReadStops u faults.Size before now = ReadNoLength u before now
ReadStops u faults.Io before now = ReadPart u before now

-- a writer's bytes if the frame of a packet was not written for this reason
abbrev pub WriteStops : «Unit» → FrameFault → (before now : Option (List ℕ)) → List ℕ → Type 0
WriteStops u faults.End before now packet = ⊥
WriteStops u faults.Cut before now packet = ⊥
WriteStops u faults.Size before now packet = IsNoSize u (length packet) × Keeps before now
WriteStops u faults.Io before now packet = IsSize u (length packet) × BeginsOf before now (frame_of packet)
