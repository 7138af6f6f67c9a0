-- The members of a new set of devices.
use Rattle.std.proofs.Common.{◌≡◌, ◌∙◌, ◌||◌, ◌==◌, ℕ, ap, arith, false, inl, inr}
use Rattle.std.specs.Prelude.{replicate, slice_index_or}
use Rattle.std.proofs.lemmas.List.{get_or-replicate, get_or_past, length-replicate}
use Rattle.std.proofs.lemmas.Bool.{cases_lt}
use Rattle.std.proofs.Math.Bool.{or-false}

none_among : (n eid : ℕ) → slice_index_or (replicate n false) eid false ≡ false
none_among n eid = elim (cases_lt eid n) [
  | inl within ↦ get_or-replicate n eid false false within
  | inr past ↦ get_or_past (replicate n false) eid false (omega (arith, length-replicate n false))
]

-- the only member of a new set is its first
pub only_first : (eid other : ℕ) → ((other == eid) || slice_index_or (replicate 256 false) other false) ≡ (other == eid)
only_first eid other = ap (λ b. (other == eid) || b) (none_among 256 other) ∙ or-false (other == eid)
