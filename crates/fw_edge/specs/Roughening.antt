-- A rough link passes packets on to the lower link, at once or delayed, once, twice or never.
use Rattle.std.specs.Prelude.{ℕ, ◌≡◌, ◌≢◌, ◌≤◌, ◌+◌, ◌-◌, ◌^◌, ◌⊎◌, ◌==◌, ◌++◌, ◌∷◌, [], Bool, false, not, ◌&&◌, nat_lt, List, length, map, min}
use Rattle.std.specs.List.{AllByRecursion, filter}
use Rattle.fw_edge.specs.Fates.{fate_of}
use Rattle.fw_edge.specs.Frames.{frames_of}
use Rattle.fw_edge.specs.Links.{LinkBytes, GrowsAt, CountsOne}
use Rattle.fw_edge.specs.declared.fates.Fate.{Fate}
use Rattle.fw_edge.specs.declared.fates.Fate.TheVariants as fates
use Rattle.fwupd_base.specs.declared.roughness.Roughness.{Roughness}
use Rattle.fw_edge.specs.declared.rough.DelayedPacket.{DelayedPacket}
use Rattle.fw_message.specs.declared.side.Side.{Side}
use Rattle.fw_message.specs.declared.side.Side.TheVariants as sides
use Rattle.rand_pcg.specs.Lcg.{Lcg}

-- A delayed packet: the end at which it was sent, the turn after which it is passed on, and its
-- bytes.
pub record DelayedPacketOf : Type 0 where
  pub side : Side
  pub due : ℕ
  pub bytes : List ℕ

abbrev pub held_of : DelayedPacket → DelayedPacketOf
held_of h = record { side = h.side; due = h.due; bytes = h.packet.items }

abbrev pub helds_of : List DelayedPacket → List DelayedPacketOf
helds_of hs = map held_of hs

-- the delay of each copy of a packet, in turns
abbrev pub waits_of : Fate → List ℕ
waits_of fates.Lost = []
waits_of (fates.Once wait) = wait ∷ []
waits_of (fates.Twice first second) = first ∷ second ∷ []

-- the copies of a packet that aren't delayed
abbrev pub at_once : List ℕ → (bytes : List ℕ) → List (List ℕ)
at_once waits bytes = map (λ w. bytes) (filter (λ w. w == 0) waits)

-- the copies of a packet that are held back, from this turn on
abbrev pub late_copies : (turn : ℕ) → List ℕ → Side → (bytes : List ℕ) → List DelayedPacketOf
late_copies turn waits side bytes = map (λ w. record { side = side; due = min (turn + w) (2 ^ 64 - 1); bytes = bytes }) (filter (λ w. nat_lt 0 w) waits)

-- A packet that was sent at an end is passed on to the lower link once for each copy without delay,
-- and the other copies are held back.
pub record PassesOn (turn : ℕ) (waits : List ℕ) (side : Side) (bytes : List ℕ) (took took_now : LinkBytes) (held held_now : List DelayedPacketOf) : Type 0 where
  pub now : GrowsAt side (frames_of (at_once waits bytes)) took took_now
  pub later : held_now ≡ held ++ late_copies turn waits side bytes

-- A copy of a packet isn't passed on: the lower link refuses a copy without delay, and counts that;
-- or there is no room to hold back a delayed copy.
pub record IsRefusedCopy (wait : ℕ) (failures failures_now held room : ℕ) : Type 0 where
  pub failed : wait ≡ 0 → CountsOne failures failures_now
  pub kept : wait ≢ 0 → failures_now ≡ failures
  pub full : wait ≢ 0 → room ≤ held

-- The copies of a packet are passed on up to one that isn't.
abbrev pub PassesSome : (turn : ℕ) → List ℕ → Side → (bytes : List ℕ) → (failures failures_now room : ℕ) → (held held_now : List DelayedPacketOf) → Type 0
PassesSome turn [] side bytes failures failures_now room held held_now = ⊥
PassesSome turn (wait ∷ waits) side bytes failures failures_now room held held_now =
    (IsRefusedCopy wait failures failures_now (length held_now) room × (held_now ≡ held))
    ⊎ PassesSome turn waits side bytes failures failures_now room (held ++ late_copies turn (wait ∷ []) side bytes) held_now

-- For a link, a turn ends when its ends were asked one after the other, the device's first, and
-- neither gave a frame.
abbrev pub ends_turn : Side → (gave is_idle : Bool) → Bool
ends_turn sides.Device gave is_idle = false
ends_turn sides.Agent gave is_idle = not gave && is_idle

-- whether the device's end was asked last, and gave no frame
abbrev pub idle_after : Side → (gave : Bool) → Bool
idle_after sides.Device gave = not gave
idle_after sides.Agent gave = false

-- after a turn the due packets are passed on, and the others are still held back
abbrev pub is_late : (turn : ℕ) → DelayedPacketOf → Bool
is_late turn h = nat_lt turn h.due

abbrev pub is_due : (turn : ℕ) → DelayedPacketOf → Bool
is_due turn h = not (is_late turn h)

-- Packets are passed on, one after another, each at its end.
abbrev pub GoOut : List DelayedPacketOf → LinkBytes → LinkBytes → Type 0
GoOut [] old new = new ≡ old
GoOut (h ∷ hs) old new = (mid : LinkBytes) × GrowsAt h.side (frames_of (h.bytes ∷ [])) old mid × GoOut hs mid new

pub record Releases (turn : ℕ) (took took_now : LinkBytes) (held held_now : List DelayedPacketOf) : Type 0 where
  pub out : GoOut (filter (is_due turn) held) took took_now
  pub left : held_now ≡ filter (is_late turn) held

-- THE LAW

-- The fate of a packet is within the roughness.
pub record IsWithinRoughness (r : Roughness) (fate : Fate) : Type 0 where
  pub none_lost : r.loss ≡ 0 → 1 ≤ length (waits_of fate)
  pub all_lost : 100 ≤ r.loss → waits_of fate ≡ []
  pub none_doubled : r.duplicate ≡ 0 → length (waits_of fate) ≤ 1
  pub all_doubled : r.loss ≡ 0 → 100 ≤ r.duplicate → length (waits_of fate) ≡ 2
  pub late : AllByRecursion (λ w. w ≤ r.delay) (waits_of fate)

abbrev pub FatesAreWithin : Type 0
FatesAreWithin = (r : Roughness) (g : Lcg) → IsWithinRoughness r (fate_of r g)
