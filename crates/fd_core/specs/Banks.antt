-- The components of a bank, and the count of its failures.
use Rattle.std.specs.Prelude.{[], ◌||◌, ◌∷◌, ◌≡◌, ◌+◌, ◌-◌, ◌^◌, ◌⊎◌, Bool, List, false, ℕ}
use Rattle.fd_core.specs.Images.{same_key}
use Rattle.fwup_wire.specs.declared.values.Key.{Key}

abbrev pub has_key : List Key → Key → Bool
has_key [] key = false
has_key (k ∷ ks) key = same_key k key || has_key ks key

-- each key occurs once
abbrev pub HaveKeysOnce : List Key → Type 0
HaveKeysOnce [] = Unit {0}
HaveKeysOnce (k ∷ ks) = (has_key ks k ≡ false) × HaveKeysOnce ks

-- a call failed: the count of failures rose by one, or stays at its last value
abbrev pub CountsFailure : ℕ → ℕ → Type 0
CountsFailure old new = (new ≡ old + 1) ⊎ ((old ≡ 2 ^ 64 - 1) × (new ≡ old))
