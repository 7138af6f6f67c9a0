-- From lists of eight to one tag, and facts of all packets.
use Rattle.std.proofs.Common.{◌≡◌, ◌≢◌, ◌∙◌, ◌<◌, ℕ, zero, suc, List, [], ◌∷◌, ◌++◌, Option, Some, None, length, map, get_or, slice_get, slice_set, refl, arith}
use Rattle.std.specs.List.{AllByRecursion}
use Rattle.std.proofs.lemmas.List.{get_or-replicate, get_or-set_other, get_or-set_same, length-set}
use Rattle.mctp_reasm.specs.Held.{Held}
use Rattle.pldm_exch.specs.Caller.{new_caller, rest_at}
use Rattle.pldm_exch.specs.Kept.{KeptAnswer, kept_at, none_kept}
use Rattle.mctp_reasm.specs.Inboxes.{none_held, held_at}

-- the data under a tag after a tick
pub at_map : {A : Type 0} (f : Option A → Option A) → f None ≡ None → (xs : List (Option A)) (t : ℕ) → get_or (map f xs) t None ≡ f (get_or xs t None)
at_map f none [] t = rw none refl
at_map f none (x ∷ xs) zero = refl
at_map f none (x ∷ xs) (suc t) = at_map f none xs t

-- facts of all elements
pub all_maps : {A : Type 0} (P Q : A → Type 0) (xs : List A) → AllByRecursion P xs → ((x : A) → P x → Q x) → AllByRecursion Q xs
all_maps P Q [] h f = tt
all_maps P Q (x ∷ xs) h f = (f x h.0, all_maps P Q xs h.1 f)

pub all_append : {A : Type 0} (P : A → Type 0) (xs ys : List A) → AllByRecursion P xs → AllByRecursion P ys → AllByRecursion P (xs ++ ys)
all_append P [] ys h k = k
all_append P (x ∷ xs) ys h k = (h.0, all_append P xs ys h.1 k)

pub all_at : {A : Type 0} (P : A → Type 0) (xs : List A) (i : ℕ) (x : A) → AllByRecursion P xs → slice_get xs i ≡ Some x → P x
all_at P [] i x h e = absurd (cc)
all_at P (y ∷ ys) zero x h e = let is : y ≡ x = cc in rw is at h.0
all_at P (y ∷ ys) (suc i) x h e = all_at P ys i x h.1 e

-- a fact of the image of each element
pub all_made : {A B C : Type 0} (P : C → Type 0) (f : B → C) (g : A → B) (xs : List A) → ((i : ℕ) (x : A) → slice_get xs i ≡ Some x → P (f (g x)))
    → AllByRecursion P (map f (map g xs))
all_made P f g [] h = tt
all_made P f g (x ∷ xs) h = (h 0 x refl, all_made P f g xs (λ i y e. h (suc i) y e))

-- the data of new ends under a tag
pub no_rest : (own peer t : ℕ) → t < 8 → rest_at (new_caller own peer) t ≡ 0
no_rest own peer t lt = get_or-replicate {A = ℕ} 8 t 0 0 lt

pub nothing_held_at : (t : ℕ) → t < 8 → held_at none_held t ≡ None
nothing_held_at t lt = get_or-replicate {A = Option Held} 8 t None None lt

pub nothing_kept_at : (t : ℕ) → t < 8 → kept_at none_kept t ≡ None
nothing_kept_at t lt = get_or-replicate {A = Option KeptAnswer} 8 t None None lt

-- the data of a tag after something was put under it
pub set_here : {A : Type 0} (xs : List (Option A)) (tag : ℕ) (x : Option A) → length xs ≡ 8 → tag < 8 → get_or (slice_set xs tag x) tag None ≡ x
set_here xs tag x long low = get_or-set_same xs tag x None (omega (arith, long, low))

pub set_there : {A : Type 0} (xs : List (Option A)) (tag t : ℕ) (x : Option A) → t ≢ tag → get_or (slice_set xs tag x) t None ≡ get_or xs t None
set_there xs tag t x other = get_or-set_other xs tag t x None other

pub set_length : {A : Type 0} (xs : List (Option A)) (tag : ℕ) (x : Option A) → length xs ≡ 8 → length (slice_set xs tag x) ≡ 8
set_length xs tag x long = length-set xs tag x ∙ long
