-- Which packet of a pair a received frame carries.
use Rattle.std.specs.Prelude.{ℕ, ◌≡◌, ◌≤◌, IsSomeAnd, List, Option, None, Some}
use Rattle.exch_lane.specs.Lanes.{IsAlive, Sent, item_numbered}
use Rattle.fw_steps.specs.Worlds.{WorldOf, packets_of}

-- a packet is alive, and has these bytes
abbrev pub LivesWith : (now : ℕ) → List ℕ → Sent → Type 0
LivesWith now bytes p = IsAlive now p × (p.bytes ≡ bytes)

-- there is such a packet of this number, counted from 1
abbrev pub IsLiving : (now : ℕ) → List Sent → List ℕ → (number : ℕ) → Type 0
IsLiving now packets bytes number = IsSomeAnd (item_numbered packets number) (LivesWith now bytes)

-- `number` is the last such packet; or there is none
abbrev pub IsLastLiving : (now : ℕ) → List Sent → List ℕ → Option ℕ → Type 0
IsLastLiving now packets bytes None = (other : ℕ) → IsLiving now packets bytes other → ⊥
IsLastLiving now packets bytes (Some number) =
    IsLiving now packets bytes number × ((other : ℕ) → IsLiving now packets bytes other → other ≤ number)

-- the same for the packets of a pair
abbrev pub IsHeard : WorldOf → (pair : ℕ) → List ℕ → Option ℕ → Type 0
IsHeard w pair bytes number = IsLastLiving w.now (packets_of w pair) bytes number

-- there is such a packet
abbrev pub IsKnown : WorldOf → (pair : ℕ) → List ℕ → Type 0
IsKnown w pair bytes = IsHeard w pair bytes None → ⊥
