-- Facts about tests, numbers and options.
use Rattle.std.proofs.Common.{◌≡◌, ◌≤◌, ◌<◌, ◌&&◌, ◌⊎◌, ℕ, Bool, true, false, if◌then◌else◌, Option, Some, None, IfSome, is_none, inl, inr, refl, arith}
use Rattle.std.proofs.lemmas.Bool.{cases_lt}
use Rattle.exch_lane.specs.declared.step.LaneFault.{LaneFault}

-- the result of a test
pub bool_cases : (b : Bool) → (b ≡ true) ⊎ (b ≡ false)
bool_cases true = inl refl
bool_cases false = inr refl

pub both : (a b : Bool) → (a && b) ≡ true → (a ≡ true) × (b ≡ true)
both true b e = (refl, e)
both false b e = absurd (cc)

pub may_of : (b : Bool) (x : LaneFault) → (if b then None else Some x) ≡ None → b ≡ true
may_of true x e = refl
may_of false x e = absurd (cc)

-- a number that is at most another, and not equal to it
pub lt_from : (a b : ℕ) → a ≤ b → (a ≡ b → ⊥) → a < b
lt_from a b le ne = elim (cases_lt a b) [ inl lt ↦ lt | inr ge ↦ let is : a ≡ b = omega arith in absurd (ne is) ]

-- options
pub some_maps : {A : Type 0} (o : Option A) (P Q : A → Type 0) → IfSome o P → ((x : A) → P x → Q x) → IfSome o Q
some_maps None P Q h f = tt
some_maps (Some x) P Q h f = f x h

pub none_of : {A : Type 0} (o : Option A) (P : A → Type 0) → IfSome o P → ((x : A) → P x → ⊥) → o ≡ None
none_of None P h f = refl
none_of (Some x) P h f = absurd (f x h)

pub none_is : {A : Type 0} (o : Option A) → is_none o ≡ true → o ≡ None
none_is None e = refl
none_is (Some x) e = absurd (cc)
