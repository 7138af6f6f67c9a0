-- The first element of a list with this key.
use Rattle.std.proofs.Common.{◌≡◌, ◌≢◌, ◌∙◌, ◌+◌, ◌==◌, ℕ, suc, Bool, true, false, if◌then◌else◌, List, [], ◌∷◌, map, slice_get, slice_set, Option, Some, None, IfSome, inl, inr, refl, sym, ap, subst, arith}
use Rattle.std.specs.List.{AllByRecursion}
use Rattle.std.specs.Option.{option_map}
use Rattle.std.proofs.lemmas.Bool.{eqb-true, ne_eqb}
use Rattle.std.proofs.lemmas.Bool.Decides.{eqb_tells}

abbrev pub first_of : {A : Type 0} → (A → ℕ) → List A → ℕ → Option A
first_of key [] eid = None
first_of key (x ∷ xs) eid = if key x == eid then Some x else first_of key xs eid

-- its place, with places counted from a number
abbrev pub place_by : {A : Type 0} → (A → ℕ) → ℕ → List A → ℕ → Option ℕ
place_by key n [] eid = None
place_by key n (x ∷ xs) eid = if key x == eid then Some n else place_by key (n + 1) xs eid

-- the element at a place
abbrev pub at_place : {A : Type 0} → List A → Option ℕ → Option A
at_place xs None = None
at_place xs (Some i) = slice_get xs i

-- one more in front
further : (here : Bool) (n : ℕ) (x y : Option ℕ) → y ≡ option_map suc x → (if here then Some (suc n) else y) ≡ option_map suc (if here then Some n else x)
further true n x y e = refl
further false n x y e = e

place_further : {A : Type 0} (key : A → ℕ) (n : ℕ) (xs : List A) (eid : ℕ) → place_by key (suc n) xs eid ≡ option_map suc (place_by key n xs eid)
place_further key n [] eid = refl
place_further key n (x ∷ xs) eid =
    let same : suc n + 1 ≡ suc (n + 1) = omega arith in
    further (key x == eid) n (place_by key (n + 1) xs eid) (place_by key (suc n + 1) xs eid) (ap (λ m. place_by key m xs eid) same ∙ place_further key (n + 1) xs eid)

at_further : {A : Type 0} (x : A) (xs : List A) (o : Option ℕ) → at_place (x ∷ xs) (option_map suc o) ≡ at_place xs o
at_further x xs None = refl
at_further x xs (Some i) = refl

first_by : {A : Type 0} (here : Bool) (x : A) (xs : List A) (p : Option ℕ) (o : Option A) → at_place (x ∷ xs) p ≡ o → at_place (x ∷ xs) (if here then Some 0 else p) ≡ (if here then Some x else o)
first_by true x xs p o e = refl
first_by false x xs p o e = e

-- The element at that place is the first.
pub is_first : {A : Type 0} (key : A → ℕ) (xs : List A) (eid : ℕ) → at_place xs (place_by key 0 xs eid) ≡ first_of key xs eid
is_first key [] eid = refl
is_first key (x ∷ xs) eid =
    first_by (key x == eid) x xs (place_by key 1 xs eid) (first_of key xs eid)
    (ap (at_place (x ∷ xs)) (place_further key 0 xs eid) ∙ at_further x xs (place_by key 0 xs eid) ∙ is_first key xs eid)

-- a fact of all, for the first
first_fact_by : {A : Type 0} (P : A → Type 0) (here : Bool) (x : A) (o : Option A) → P x → IfSome o P → IfSome (if here then Some x else o) P
first_fact_by P true x o k ks = k
first_fact_by P false x o k ks = ks

pub first_fact : {A : Type 0} (key : A → ℕ) (P : A → Type 0) (xs : List A) (eid : ℕ) → AllByRecursion P xs → IfSome (first_of key xs eid) P
first_fact key P [] eid k = tt
first_fact key P (x ∷ xs) eid k = first_fact_by P (key x == eid) x (first_of key xs eid) k.0 (first_fact key P xs eid k.1)

-- the first has the key
key_by : {A : Type 0} (key : A → ℕ) (here : Bool) (x : A) (o : Option A) (eid : ℕ) → (here ≡ true → key x ≡ eid) → IfSome o (λ y. key y ≡ eid) → IfSome (if here then Some x else o) (λ y. key y ≡ eid)
key_by key true x o eid k ks = k refl
key_by key false x o eid k ks = ks

pub first_key : {A : Type 0} (key : A → ℕ) (xs : List A) (eid : ℕ) → IfSome (first_of key xs eid) (λ y. key y ≡ eid)
first_key key [] eid = tt
first_key key (x ∷ xs) eid = key_by key (key x == eid) x (first_of key xs eid) eid (λ e. eqb-true (key x) eid e) (first_key key xs eid)

-- all change, and keep their keys
changed_by : {A : Type 0} (here : Bool) (f : A → A) (x : A) (o u : Option A) → u ≡ option_map f o → (if here then Some (f x) else u) ≡ option_map f (if here then Some x else o)
changed_by true f x o u e = refl
changed_by false f x o u e = e

pub first_changed : {A : Type 0} (key : A → ℕ) (f : A → A) → ((x : A) → key (f x) ≡ key x) → (xs : List A) (eid : ℕ) → first_of key (map f xs) eid ≡ option_map f (first_of key xs eid)
first_changed key f same [] eid = refl
first_changed key f same (x ∷ xs) eid =
    ap (λ p. if p == eid then Some (f x) else first_of key (map f xs) eid) (same x)
    ∙ changed_by (key x == eid) f x (first_of key xs eid) (first_of key (map f xs) eid) (first_changed key f same xs eid)

-- one is replaced by another with the same key
put_by : {A : Type 0} (here : Bool) (x y : A) (o : Option A) → (if here then Some y else o) ≡ (if here then Some y else if here then Some x else o)
put_by true x y o = refl
put_by false x y o = refl

put_here : {A : Type 0} (key : A → ℕ) (x y : A) (xs : List A) (own eid : ℕ) → key x ≡ own → key y ≡ own
    → first_of key (y ∷ xs) eid ≡ (if own == eid then Some y else first_of key (x ∷ xs) eid)
put_here key x y xs own eid was is = rw (was, is) (put_by (own == eid) x y (first_of key xs eid))

put_there : {A : Type 0} (n own eid : ℕ) (x y : A) (o : Option A) → n ≢ own
    → (if n == eid then Some x else if own == eid then Some y else o) ≡ (if own == eid then Some y else if n == eid then Some x else o)
put_there n own eid x y o differ = elim (eqb_tells own eid) [
  | inl same ↦ rw (ne_eqb n eid (λ z. differ (z ∙ sym same.1)), same.0) refl
  | inr other ↦ rw other.0 refl
]

-- the same, of the rest
put_further : {A : Type 0} (key : A → ℕ) (x y : A) (xs : List A) (own eid p : ℕ) (o : Option ℕ) → key x ≢ own → place_by key 0 xs own ≡ o → option_map suc o ≡ Some p
    → ((q : ℕ) → place_by key 0 xs own ≡ Some q → first_of key (slice_set xs q y) eid ≡ (if own == eid then Some y else first_of key xs eid))
    → first_of key (slice_set (x ∷ xs) p y) eid ≡ (if own == eid then Some y else first_of key (x ∷ xs) eid)
put_further key x y xs own eid p None differ there e k = absurd (cc)
put_further key x y xs own eid p (Some q) differ there e k =
    let is : suc q ≡ p = cc in
    ap (λ n. first_of key (slice_set (x ∷ xs) n y) eid) (sym is)
    ∙ ap (λ o. if key x == eid then Some x else o) (k q there)
    ∙ put_there (key x) own eid x y (first_of key xs eid) differ

pub first_set : {A : Type 0} (key : A → ℕ) (xs : List A) (y : A) (own eid p : ℕ) → place_by key 0 xs own ≡ Some p → key y ≡ own
    → first_of key (slice_set xs p y) eid ≡ (if own == eid then Some y else first_of key xs eid)
first_set key [] y own eid p there is = absurd (cc)
first_set key (x ∷ xs) y own eid p there is = elim (eqb_tells (key x) own) [
  | inl here ↦
      let at : Some 0 ≡ Some p = rw here.0 at there in
      let z : 0 ≡ p = cc in
      ap (λ n. first_of key (slice_set (x ∷ xs) n y) eid) (sym z) ∙ put_here key x y xs own eid here.1 is
  | inr other ↦
      let at : place_by key 1 xs own ≡ Some p = rw other.0 at there in
      put_further key x y xs own eid p (place_by key 0 xs own) other.1 refl (sym (place_further key 0 xs own) ∙ at) (λ q e. first_set key xs y own eid q e is)
]

-- the element there is changed by a function
abbrev pub put_at : {A : Type 0} → (A → A) → List A → Option ℕ → Option A → List A
put_at g xs None x = xs
put_at g xs (Some p) None = xs
put_at g xs (Some p) (Some x) = slice_set xs p (g x)

unput : {A : Type 0} (key : A → ℕ) (g : A → A) (xs : List A) (own eid : ℕ) → first_of key xs own ≡ None
    → first_of key xs eid ≡ (if own == eid then option_map g (first_of key xs eid) else first_of key xs eid)
unput key g xs own eid none = elim (eqb_tells own eid) [
  | inl same ↦
      let here : first_of key xs eid ≡ None = ap (first_of key xs) (sym same.1) ∙ none in
      here ∙ sym (ap (λ b. if b then option_map g (first_of key xs eid) else first_of key xs eid) same.0 ∙ ap (option_map g) here)
  | inr other ↦ rw other.0 refl
]

put_found : {A : Type 0} (key : A → ℕ) (g : A → A) (xs : List A) (own eid : ℕ) (x : A) → first_of key xs own ≡ Some x
    → (if own == eid then Some (g x) else first_of key xs eid) ≡ (if own == eid then option_map g (first_of key xs eid) else first_of key xs eid)
put_found key g xs own eid x found = elim (eqb_tells own eid) [
  | inl same ↦ let here : first_of key xs eid ≡ Some x = ap (first_of key xs) (sym same.1) ∙ found in rw same.0 (sym (ap (option_map g) here))
  | inr other ↦ rw other.0 refl
]

pub first_put : {A : Type 0} (key : A → ℕ) (g : A → A) → ((x : A) → key (g x) ≡ key x) → (xs : List A) (own eid : ℕ) (o : Option ℕ) (s : Option A)
    → place_by key 0 xs own ≡ o → first_of key xs own ≡ s
    → first_of key (put_at g xs o s) eid ≡ (if own == eid then option_map g (first_of key xs eid) else first_of key xs eid)
first_put key g same xs own eid None s there found = unput key g xs own eid (sym (sym (ap (at_place xs) there) ∙ is_first key xs own))
first_put key g same xs own eid (Some p) None there found = unput key g xs own eid found
first_put key g same xs own eid (Some p) (Some x) there found =
    first_set key xs (g x) own eid p there (same x ∙ subst (λ o. IfSome o (λ y. key y ≡ own)) found (first_key key xs own))
    ∙ put_found key g xs own eid x found
