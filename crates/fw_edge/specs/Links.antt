-- What a link counts, takes and gives.
use Rattle.std.specs.Prelude.{ℕ, ◌≡◌, ◌≢◌, ◌==◌, ◌+◌, ◌-◌, ◌^◌, ◌⊎◌, ◌∷◌, Bool, true, false, if◌then◌else◌, List, [], Option, None}
use Rattle.std.specs.Io.KnownBytes.{Appends, Consumes}
use Rattle.fw_edge.specs.Frames.{frames_of}
use Rattle.fw_message.specs.declared.side.Side.{Side}
use Rattle.fw_message.specs.declared.side.Side.TheVariants as sides
use Rattle.fw_edge.specs.declared.tally.Tally.{Tally}

-- a count is incremented, or stays at its last value
abbrev pub CountsOne : ℕ → ℕ → Type 0
CountsOne old new = (new ≡ old + 1) ⊎ ((old ≡ 2 ^ 64 - 1) × (new ≡ old))

abbrev pub CountsOneIf : Bool → ℕ → ℕ → Type 0
CountsOneIf true old new = CountsOne old new
CountsOneIf false old new = new ≡ old

-- a packet was taken
pub record SendsPacket (old new : Tally) : Type 0 where
  pub sent : CountsOne old.sent new.sent
  pub asked : new.asked ≡ old.asked
  pub given : new.given ≡ old.given
  pub failures : new.failures ≡ old.failures

-- a frame was asked for, and given or not
pub record AsksForFrame (gave : Bool) (old new : Tally) : Type 0 where
  pub sent : new.sent ≡ old.sent
  pub asked : CountsOne old.asked new.asked
  pub given : CountsOneIf gave old.given new.given
  pub failures : new.failures ≡ old.failures

-- a call failed
pub record FailsCall (old new : Tally) : Type 0 where
  pub sent : new.sent ≡ old.sent
  pub asked : new.asked ≡ old.asked
  pub given : new.given ≡ old.given
  pub failures : CountsOne old.failures new.failures

-- the end of a device's link at which a packet is sent: that of its source, which is its third byte
-- (DSP0236)
abbrev pub end_of : List ℕ → (device : ℕ) → Side
end_of (version ∷ dest ∷ source ∷ rest) device = if source == device then sides.Device else sides.Agent
end_of bytes device = sides.Agent

-- the bytes at each end of a link, if they are known
abbrev pub LinkBytes : Type 0
LinkBytes = Side → Option (List ℕ)

abbrev pub none_known : LinkBytes
none_known side = None

-- bytes are appended at one end, and the other end is unchanged
abbrev pub GrowsAt : Side → List ℕ → LinkBytes → LinkBytes → Type 0
GrowsAt side bytes old new = Appends (old side) (new side) bytes × ((other : Side) → other ≢ side → new other ≡ old other)

-- the received packet, if there is one
abbrev pub packet_if : Bool → (packet : List ℕ) → List (List ℕ)
packet_if true packet = packet ∷ []
packet_if false packet = []

-- the bytes that the links of a run took and gave, and the number of written packets of each pair
pub record LinksOf : Type 0 where
  pub written : List ℕ
  pub took : List LinkBytes
  pub gave : List LinkBytes

abbrev pub links_at : List ℕ → List LinkBytes → List LinkBytes → LinksOf
links_at written took gave = record { written = written; took = took; gave = gave }

-- The frame of a packet was written at an end of a stream: one more frame is on the way to the
-- other end.
abbrev pub WritesFrameAt : (before now : Option (List ℕ)) → (way_before way_now : ℕ) → List ℕ → Type 0
WritesFrameAt before now way_before way_now packet = Appends before now (frames_of (packet ∷ [])) × CountsOne way_before way_now

-- The frame of a packet was read at an end of a stream: one frame less is on the way there.
abbrev pub ReadsFrameAt : (before now : Option (List ℕ)) → (way_before way_now : ℕ) → List ℕ → Type 0
ReadsFrameAt before now way_before way_now packet = Consumes before now (frames_of (packet ∷ [])) × (way_before ≡ way_now + 1)
