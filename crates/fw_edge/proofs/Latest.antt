-- Packets that are searched from the last one on.
use Rattle.std.proofs.Common.{◌≡◌, ◌≤◌, ◌<◌, ◌+◌, ◌-◌, ℕ, zero, suc, List, [], ◌∷◌, if◌then◌else◌, inl, inr, length, slice_get, Some, None, sym, ap, subst, arith}
use Rattle.std.specs.Prelude.{IsSomeAnd}
use Rattle.std.proofs.lemmas.Bool.{lt-ltb}
use Rattle.std.proofs.lemmas.Bool.Decides.{eqb_tells}
use Rattle.exch_lane.specs.Lanes.{Sent, item_numbered}
use Rattle.fw_steps.specs.Dead.{AreDead}
use Rattle.fw_edge.specs.Hearing.{IsLastLiving, IsLiving, LivesWith}

-- no packet after a number is alive
pub record LivesNoneBehind (now : ℕ) (packets : List Sent) (bytes : List ℕ) (number : ℕ) : Type 0 where
  pub within : number ≤ length packets
  pub none : (other : ℕ) → IsLiving now packets bytes other → other ≤ number

-- a number from 1
numbered_pos : {A : Type 0} (xs : List A) (n : ℕ) → 0 < n → item_numbered xs n ≡ slice_get xs (n - 1)
numbered_pos xs n lt = ap (λ b. if b then slice_get xs (n - 1) else None) (lt-ltb 0 n lt)

living_at : (now : ℕ) (bytes : List ℕ) (packets : List Sent) (n : ℕ) → 0 < n → IsLiving now packets bytes n → IsSomeAnd (slice_get packets (n - 1)) (LivesWith now bytes)
living_at now bytes packets n lt h = subst (λ o. IsSomeAnd o (LivesWith now bytes)) (numbered_pos packets n lt) h

past_end : (now : ℕ) (bytes : List ℕ) (packets : List Sent) (place : ℕ) → IsSomeAnd (slice_get packets place) (LivesWith now bytes) → place < length packets
past_end now bytes [] place h = absurd h
past_end now bytes (p ∷ ps) zero h = omega arith
past_end now bytes (p ∷ ps) (suc place) h = let less = past_end now bytes ps place h in omega arith

at_most : (now : ℕ) (bytes : List ℕ) (packets : List Sent) (n : ℕ) → IsLiving now packets bytes n → n ≤ length packets
at_most now bytes packets zero h = omega arith
at_most now bytes packets (suc n) h =
    let less : suc n - 1 < length packets = past_end now bytes packets (suc n - 1) (living_at now bytes packets (suc n) (omega arith) h) in
    omega arith

pub none_behind_all : (now : ℕ) (packets : List Sent) (bytes : List ℕ) (number : ℕ) → number ≡ length packets → LivesNoneBehind now packets bytes number
none_behind_all now packets bytes number is = record {
  within = omega arith;
  none = λ other h. let most : other ≤ length packets = at_most now bytes packets other h in omega arith;
}

-- the last of the remaining packets isn't alive
pub none_behind_less : (now : ℕ) (packets : List Sent) (bytes : List ℕ) (number : ℕ) → 0 < number → (IsSomeAnd (slice_get packets (number - 1)) (LivesWith now bytes) → ⊥)
    → LivesNoneBehind now packets bytes number → LivesNoneBehind now packets bytes (number - 1)
none_behind_less now packets bytes number some dead h = record {
  within = let le : number ≤ length packets = h.within in omega arith;
  none = less;
}
  where
    dead_there : IsLiving now packets bytes number → ⊥
    dead_there l = dead (living_at now bytes packets number some l)

    less : (other : ℕ) → IsLiving now packets bytes other → other ≤ number - 1
    less other l = elim (eqb_tells other number) [
      | inl same ↦ absurd (dead_there (subst (λ n. IsLiving now packets bytes n) same.1 l))
      | inr differ ↦ (let le : other ≤ number = h.none other l in let ne = differ.1 in omega arith)
    ]

-- the last of the remaining packets is alive
pub last_lives : (now : ℕ) (packets : List Sent) (bytes : List ℕ) (number : ℕ) → 0 < number → IsSomeAnd (slice_get packets (number - 1)) (LivesWith now bytes)
    → LivesNoneBehind now packets bytes number → IsLastLiving now packets bytes (Some number)
last_lives now packets bytes number some lives h = (subst (λ o. IsSomeAnd o (LivesWith now bytes)) (sym (numbered_pos packets number some)) lives, h.none)

-- a dead packet isn't alive
dead_at : (now : ℕ) (bytes : List ℕ) (packets : List Sent) (count place : ℕ) → place < count → AreDead now count packets → IsSomeAnd (slice_get packets place) (LivesWith now bytes) → ⊥
dead_at now bytes packets zero place lt are lives = absurd (omega arith)
dead_at now bytes [] (suc n) place lt are lives = are
dead_at now bytes (p ∷ ps) (suc n) zero lt are lives =
    let dead : p.date + 8 < now = are.0 in
    let until : now ≤ p.date + 8 = lives.0 in
    absurd (omega arith)
dead_at now bytes (p ∷ ps) (suc n) (suc place) lt are lives = dead_at now bytes ps n place (omega arith) are.1 lives

dead_there : (now : ℕ) (bytes : List ℕ) (packets : List Sent) (count number : ℕ) → number ≤ count → AreDead now count packets → IsLiving now packets bytes number → ⊥
dead_there now bytes packets count zero le are lives = lives
dead_there now bytes packets count (suc n) le are lives =
    dead_at now bytes packets count (suc n - 1) (omega arith) are (living_at now bytes packets (suc n) (omega arith) lives)

-- the remaining packets are dead
pub none_lives : (now : ℕ) (packets : List Sent) (bytes : List ℕ) (number dead : ℕ) → number ≤ dead → AreDead now dead packets → LivesNoneBehind now packets bytes number
    → IsLastLiving now packets bytes None
none_lives now packets bytes number dead none are h = λ other lives.
    dead_there now bytes packets dead other (let le : other ≤ number = h.none other lives in omega arith) are lives
