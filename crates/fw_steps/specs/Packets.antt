-- The packets between the agent and a device, in the code's form: the bytes of all packets in one
-- list, and a place for each packet.
use Rattle.std.specs.Prelude.{ℕ, zero, suc, ◌+◌, ◌≡◌, ◌≤◌, Bool, false, nat_lt, List, [], ◌∷◌, Option, Some, None, slice_range}
use Rattle.mctp_wire.specs.declared.layout.TheConstants.{MAX_PACKET}
use Rattle.exch_lane.specs.Lanes.{Sent, lives_until}
use Rattle.fw_steps.specs.declared.packets.Place.{Place}
use Rattle.fw_steps.specs.declared.packets.DatedPacket.{DatedPacket}

-- a borrowed packet
abbrev pub sent_of : DatedPacket → Sent
sent_of p = record { date = p.date; bytes = p.bytes.now }

-- packets, and the room for more
pub record PacketsOf : Type 0 where
  pub packets : List Sent
  pub room : ℕ

-- the packets of these places; the bytes of the first begin at `start`, those of each other at the
-- end of the packet before it
abbrev pub packets_in : (start : ℕ) → List Place → (bytes : List ℕ) → List Sent
packets_in start [] bytes = []
packets_in start (p ∷ ps) bytes = record { date = p.date; bytes = slice_range bytes start p.end } ∷ packets_in p.end ps bytes

-- each packet is at most as long as the limit, and the last one ends at the end of the bytes
abbrev pub AreLengthsEnds : (start : ℕ) → List Place → (size : ℕ) → Type 0
AreLengthsEnds start [] size = start ≡ size
AreLengthsEnds start (p ∷ ps) size = (start ≤ p.end) × (p.end ≤ start + MAX_PACKET) × AreLengthsEnds p.end ps size

-- the start of the packet after this number of first packets
abbrev pub start_at : (start : ℕ) → List Place → ℕ → ℕ
start_at start ps zero = start
start_at start [] (suc n) = start
start_at start (p ∷ ps) (suc n) = start_at p.end ps n

-- whether there is a packet that can't be received any more
abbrev pub is_dead_one : (now : ℕ) → Option Sent → Bool
is_dead_one now None = false
is_dead_one now (Some p) = nat_lt (lives_until p) now
