-- Packets that can't be received any more.
use Rattle.std.specs.Prelude.{ℕ, zero, suc, ◌+◌, ◌<◌, if◌then◌else◌, nat_lt, List, [], ◌∷◌}
use Rattle.exch_lane.specs.Lanes.{Sent, lives_until}

-- a packet that can't be received any more
abbrev pub IsDead : (now : ℕ) → Sent → Type 0
IsDead now p = lives_until p < now

-- there are at least `count` packets, and each of the first `count` is dead
abbrev pub AreDead : (now count : ℕ) → List Sent → Type 0
AreDead now zero packets = Unit {0}
AreDead now (suc n) [] = ⊥
AreDead now (suc n) (p ∷ ps) = IsDead now p × AreDead now n ps

-- the number of first packets that can't be received any more: those before the first that may
abbrev pub dead_count : (now : ℕ) → List Sent → ℕ
dead_count now [] = 0
dead_count now (p ∷ ps) = if nat_lt (lives_until p) now then dead_count now ps + 1 else 0
