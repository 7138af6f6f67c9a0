-- The rests of the eight tags: for each, the ticks until it may be used again.
use Rattle.std.specs.Prelude.{◌≡◌, ◌≤◌, ℕ, ◌-◌, List, length, map, replicate}
use Rattle.std.specs.List.{AllByRecursion}

-- all tags may be used
abbrev pub no_rests : List ℕ
no_rests = replicate 8 0

-- a tick: each rest falls by one, until it is 0
abbrev pub rests_after_tick : List ℕ → List ℕ
rests_after_tick rests = map (λ rest. rest - 1) rests

-- eight rests of at most 40
abbrev pub AreRests : List ℕ → Type 0
AreRests rests = (length rests ≡ 8) × AllByRecursion (λ rest. rest ≤ 40) rests
