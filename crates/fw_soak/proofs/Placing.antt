-- Parts of a run, one after the other.
use Rattle.std.proofs.Common.{◌≡◌, ◌<◌, ◌≤◌, ◌+◌, ◌*◌, ◌++◌, ◌∙◌, ℕ, zero, suc, Bool, true, false, List, [], ◌∷◌, arith, ap, get_or, inl, inr, length, refl, subst, sym, take}
use Rattle.std.specs.List.{filter}
use Rattle.std.proofs.lemmas.List.{take_all, take_more}
use Rattle.std.proofs.lemmas.List.Elements.{filter-append}
use Rattle.std.proofs.lemmas.List.{append-nil}
use Rattle.rand_pcg.specs.Lcg.{Lcg}
use Rattle.fw_edge.specs.Fates.{word_after}
use Rattle.fw_soak.specs.Chances.{generator_past}
use Rattle.fw_soak.specs.Turns.{EachIn, EachPlace, RepeatsUpTo}

-- one more place
pub each_more : {S : Type 0} (P : ℕ → S → S → Type 0) (n : ℕ) (a m b : S) → EachPlace P n a m → P n m b → EachPlace P (n + 1) a b
each_more P n a m b h k = let next : suc n ≡ n + 1 = omega arith in subst (λ i. EachPlace P i a b) next (m, h, k)

-- all places
pub each_all : {S : Type 0} (P : ℕ → S → S → Type 0) (n count : ℕ) (a b : S) → n ≡ count → EachPlace P n a b → EachPlace P count a b
each_all P n count a b e h = subst (λ i. EachPlace P i a b) e h

-- one more element
in_append : {A S : Type 0} (P : A → S → S → Type 0) (xs : List A) (x : A) (a m b : S) → EachIn P xs a m → P x m b → EachIn P (xs ++ x ∷ []) a b
in_append P [] x a m b h k = (b, subst (λ y. P x y b) h k, refl)
in_append P (y ∷ xs) x a m b h k = (h.0, h.1, in_append P xs x h.0 m b h.2 k)

pub in_next : {A S : Type 0} (P : A → S → S → Type 0) (i : ℕ) (xs : List A) (d : A) (a m b : S) → i < length xs → EachIn P (take i xs) a m → P (get_or xs i d) m b
    → EachIn P (take (i + 1) xs) a b
in_next P i xs d a m b lt h k = subst (λ ys. EachIn P ys a b) (sym (take_more xs i d lt)) (in_append P (take i xs) (get_or xs i d) a m b h k)

-- all elements
pub in_all : {A S : Type 0} (P : A → S → S → Type 0) (i : ℕ) (xs : List A) (a b : S) → length xs ≤ i → EachIn P (take i xs) a b → EachIn P xs a b
in_all P i xs a b le h = subst (λ ys. EachIn P ys a b) (take_all i xs le) h

-- one more element that has a property, or hasn't
filter_has : {A : Type 0} (p : A → Bool) (xs : List A) (x : A) → p x ≡ true → filter p (xs ++ x ∷ []) ≡ filter p xs ++ x ∷ []
filter_has p xs x is = filter-append p xs (x ∷ []) ∙ ap (λ ys. filter p xs ++ ys) (rw is refl)

filter_lacks : {A : Type 0} (p : A → Bool) (xs : List A) (x : A) → p x ≡ false → filter p (xs ++ x ∷ []) ≡ filter p xs
filter_lacks p xs x is = filter-append p xs (x ∷ []) ∙ ap (λ ys. filter p xs ++ ys) (rw is refl) ∙ append-nil (filter p xs)

pub has_next : {A S : Type 0} (P : A → S → S → Type 0) (p : A → Bool) (i : ℕ) (xs : List A) (d : A) (a m b : S) → i < length xs → p (get_or xs i d) ≡ true → EachIn P (filter p (take i xs)) a m → P (get_or xs i d) m b
    → EachIn P (filter p (take (i + 1) xs)) a b
has_next P p i xs d a m b lt has h k =
    subst (λ ys. EachIn P ys a b) (sym (ap (filter p) (take_more xs i d lt) ∙ filter_has p (take i xs) (get_or xs i d) has)) (in_append P (filter p (take i xs)) (get_or xs i d) a m b h k)

pub lacks_next : {A S : Type 0} (P : A → S → S → Type 0) (p : A → Bool) (i : ℕ) (xs : List A) (d : A) (a b : S) → i < length xs → p (get_or xs i d) ≡ false → EachIn P (filter p (take i xs)) a b
    → EachIn P (filter p (take (i + 1) xs)) a b
lacks_next P p i xs d a b lt lacks h =
    subst (λ ys. EachIn P ys a b) (sym (ap (filter p) (take_more xs i d lt) ∙ filter_lacks p (take i xs) (get_or xs i d) lacks)) h

pub filter_all : {A S : Type 0} (P : A → S → S → Type 0) (p : A → Bool) (i : ℕ) (xs : List A) (a b : S) → length xs ≤ i → EachIn P (filter p (take i xs)) a b → EachIn P (filter p xs) a b
filter_all P p i xs a b le h = subst (λ ys. EachIn P (filter p ys) a b) (take_all i xs le) h

-- the repeats end
pub repeats_off : {S : Type 0} (most : ℕ) (On Off : S → S → Type 0) (n : ℕ) (a m b : S) → n < most → EachPlace (λ i. On) n a m → Off m b → RepeatsUpTo most On Off a b
repeats_off most On Off n a m b lt h k = record { times = n; mid = m; on = h; ends = inl (lt, k) }

pub repeats_all : {S : Type 0} (most : ℕ) (On Off : S → S → Type 0) (n : ℕ) (a b : S) → n ≡ most → EachPlace (λ i. On) n a b → RepeatsUpTo most On Off a b
repeats_all most On Off n a b e h = record { times = n; mid = b; on = h; ends = inr (e, refl) }

-- two more numbers are drawn
past_append : (n m : ℕ) (g : Lcg) → generator_past (n + m) g ≡ generator_past m (generator_past n g)
past_append zero m g = let sum : 0 + m ≡ m = omega arith in ap (λ k. generator_past k g) sum
past_append (suc n) m g = let sum : suc n + m ≡ suc (n + m) = omega arith in ap (λ k. generator_past k g) sum ∙ past_append n m (word_after g)

pub past_two : (n : ℕ) (g : Lcg) → generator_past (2 * (n + 1)) g ≡ generator_past 2 (generator_past (2 * n) g)
past_two n g = let sum : 2 * (n + 1) ≡ 2 * n + 2 = omega arith in ap (λ k. generator_past k g) sum ∙ past_append (2 * n) 2 g
