-- The record chosen for a device, and the images of its plan.
use Rattle.std.proofs.Common.{◌≡◌, ℕ, zero, suc, ◌+◌, ◌<◌, ◌≤◌, ◌∙◌, ◌==◌, ◌&&◌, ◌||◌, ◌⊎◌, inl, inr, not, ne_eqb, nat_eq, nat_lt, if◌then◌else◌, Bool, true, false, All, Contains, MatchOption, List, [], ◌∷◌, Result, Ok, Err, Option, Some, None, length, map, get_or, refl, sym, ap, subst, arith}
use Rattle.std.specs.List.{filter, list_any, list_all, position, position_or_len}
use Rattle.std.specs.Cmp.Lexicographic.{pointwise}
use borrow.Author.Tests.{ltb-false}
use Rattle.std.proofs.lemmas.Bool.{eq-eqb, eqb-true}
use Rattle.std.proofs.lemmas.List.Elements.{All-cons}
use Rattle.std.proofs.lemmas.List.Quantifiers.{position-Some}
use Rattle.fw_package.specs.Choice.{component_at, has_key, has_large_image, has_long_text, has_twin, is_among, is_for, no_record, plan_of, record_at, record_number, same_descriptor}
use Rattle.fw_package.specs.Laws.{ChoosesFirst, IsRecordFor, PlansKeysOnce, PlansNamedImages}
use Rattle.fw_package.specs.Package.{ComponentOf, DescriptorOf, PackageText, RecordOf}
use Rattle.fw_package.specs.declared.fault.PlanFault.{PlanFault}
use Rattle.fw_package.specs.declared.fault.PlanFault.TheVariants as faults

both : (a b : Bool) → (a && b) ≡ true → (a ≡ true) × (b ≡ true)
both true b h = (refl, h)
both false b h = absurd (cc)

pub neither : (a b : Bool) → (a || b) ≡ false → (a ≡ false) × (b ≡ false)
neither false b h = (refl, h)
neither true b h = absurd (cc)

or_true : (a : Bool) → (a || true) ≡ true
or_true true = refl
or_true false = refl

-- equal bytes
pointwise_is : (xs ys : List ℕ) → pointwise nat_eq xs ys ≡ true → xs ≡ ys
pointwise_is [] [] h = refl
pointwise_is [] (y ∷ ys) h = absurd (cc)
pointwise_is (x ∷ xs) [] h = absurd (cc)
pointwise_is (x ∷ xs) (y ∷ ys) h =
    let t = both (x == y) (pointwise nat_eq xs ys) h in
    let head : x ≡ y = eqb-true x y t.0 in
    let tail = pointwise_is xs ys t.1 in
    cc

pointwise_self : (xs : List ℕ) → pointwise nat_eq xs xs ≡ true
pointwise_self [] = refl
pointwise_self (x ∷ xs) = rw (eq-eqb x x refl, pointwise_self xs) refl

same_is : (a b : DescriptorOf) → same_descriptor a b ≡ true → b ≡ a
same_is a b h =
    let t = both (a.kind == b.kind) (pointwise nat_eq a.bytes b.bytes) h in
    let P : DescriptorOf → DescriptorOf = λ x. x in
    let here : P (record { kind = b.kind; bytes = b.bytes }) ≡ P (record { kind = a.kind; bytes = a.bytes }) = rw (sym (eqb-true a.kind b.kind t.0), sym (pointwise_is a.bytes b.bytes t.1)) refl in
    here

same_self : (a : DescriptorOf) → same_descriptor a a ≡ true
same_self a = rw (eq-eqb a.kind a.kind refl, pointwise_self a.bytes) refl

-- an element is the first or one of the others
contains_first : {A : Type 0} (x : A) (xs : List A) → Contains (x ∷ xs) x
contains_first x xs = (0, omega arith, refl)

contains_other : {A : Type 0} (x y : A) (xs : List A) → Contains xs y → Contains (x ∷ xs) y
contains_other x y xs (k, lt, is) = (suc k, omega arith, is)

contains_case : {A : Type 0} (x y : A) (xs : List A) → Contains (x ∷ xs) y → (x ≡ y) ⊎ Contains xs y
contains_case x y xs (zero, lt, is) = inl is
contains_case x y xs (suc k, lt, is) = inr (k, omega arith, is)

among_from : (b : Bool) (e : DescriptorOf) (es : List DescriptorOf) (d : DescriptorOf) → same_descriptor d e ≡ b → (is_among es d ≡ true → Contains es d) → (b || is_among es d) ≡ true → Contains (e ∷ es) d
among_from true e es d is others h = subst (Contains (e ∷ es)) (same_is d e is) (contains_first e es)
among_from false e es d is others h = contains_other e d es (others h)

among_is : (device : List DescriptorOf) (d : DescriptorOf) → is_among device d ≡ true → Contains device d
among_is [] d h = absurd (cc)
among_is (e ∷ es) d h = among_from (same_descriptor d e) e es d refl (among_is es d) h

-- one that is there is among them
is_among_there : (device : List DescriptorOf) (d : DescriptorOf) → Contains device d → is_among device d ≡ true
is_among_there [] d (k, lt, is) = absurd (omega arith)
is_among_there (e ∷ es) d c = elim (contains_case e d es c) [ inl is ↦ rw (is, same_self d) refl | inr there ↦ rw (is_among_there es d there) (or_true (same_descriptor d e)) ]

-- all descriptors are the device's
all_among : (device ds : List DescriptorOf) → list_all (is_among device) ds ≡ true → All (Contains device) ds
all_among device [] h = λ k d lt. absurd (omega arith)
all_among device (d ∷ ds) h =
    let t = both (is_among device d) (list_all (is_among device) ds) h in
    All-cons (Contains device) d ds (among_is device d t.0) (all_among device ds t.1)

all_among_there : (device ds : List DescriptorOf) → All (Contains device) ds → list_all (is_among device) ds ≡ true
all_among_there device [] h = refl
all_among_there device (d ∷ ds) h = rw (is_among_there device d (h 0 d (omega arith)), all_among_there device ds (λ k e lt. h (suc k) e (omega arith))) refl

not_none : (n : ℕ) → not (n == 0) ≡ true → 1 ≤ n
not_none zero h = absurd (cc)
not_none (suc n) h = omega arith

is_for_is : (device : List DescriptorOf) (r : RecordOf) → is_for device r ≡ true → IsRecordFor device r
is_for_is device r h =
    let t = both (not (length r.descriptors == 0)) (list_all (is_among device) r.descriptors) h in
    record { some = not_none (length r.descriptors) t.0; among = all_among device r.descriptors t.1 }

is_for_there : (device : List DescriptorOf) (r : RecordOf) → IsRecordFor device r → is_for device r ≡ true
is_for_there device r h =
    let more = h.some in
    rw (ne_eqb (length r.descriptors) 0 (λ e. absurd (omega (arith, e))), all_among_there device r.descriptors h.among) refl

not_for : (device : List DescriptorOf) (r : RecordOf) → is_for device r ≡ false → IsRecordFor device r → ⊥
not_for device r h is = let true_too = is_for_there device r is in absurd (cc)

-- a search that finds nothing passes over each
passed_from : (b : Bool) (n m : ℕ) → n < m → (if not b then 1 + n else 0) < suc m
passed_from true n m lt = omega arith
passed_from false n m lt = omega arith

passed : (test : RecordOf → Bool) (rs : List RecordOf) (k : ℕ) (d : RecordOf) → k < length rs → test (get_or rs k d) ≡ true → position_or_len test rs < length rs
passed test [] k d lt h = absurd (omega arith)
passed test (r ∷ rs) zero d lt h = rw h (omega arith)
passed test (r ∷ rs) (suc k) d lt h = passed_from (test r) (position_or_len test rs) (length rs) (passed test rs k d (omega arith) h)

found_from : (b : Bool) (n m : ℕ) → nat_lt n m ≡ b → (if b then Some n else None) ≡ None → n < m → ⊥
found_from true n m e h lt = absurd (cc)
found_from false n m e h lt = let le = ltb-false n m e in absurd (omega arith)

passes_over : (test : RecordOf → Bool) (rs : List RecordOf) (k : ℕ) (d : RecordOf) → position test rs ≡ None → k < length rs → test (get_or rs k d) ≡ true → ⊥
passes_over test rs k d none lt h = found_from (nat_lt (position_or_len test rs) (length rs)) (position_or_len test rs) (length rs) refl none (passed test rs k d lt h)

chosen : (p : PackageText) (device : List DescriptorOf) (o : Option ℕ) → record_number p device ≡ o
    → MatchOption o ((k : ℕ) → k < length p.records → ¬ IsRecordFor device (record_at p k))
    (λ n. (n < length p.records) × IsRecordFor device (record_at p n) × ((k : ℕ) → k < n → ¬ IsRecordFor device (record_at p k)))
chosen p device None e = λ k lt is. passes_over (is_for device) p.records k no_record e lt (is_for_there device (record_at p k) is)
chosen p device (Some n) e =
    let found = position-Some (is_for device) p.records n no_record e in
    (found.0, is_for_is device (record_at p n) found.1, λ k lt is. not_for device (record_at p k) (found.2 k lt) is)

pub chooses_first : ChoosesFirst
chooses_first p device = chosen p device (record_number p device) refl

-- a test that none passes
none_passes : (test : ℕ → Bool) (ns : List ℕ) (n : ℕ) → list_any test ns ≡ false → Contains ns n → test n ≡ false
none_passes test [] n h (k, lt, is) = absurd (omega arith)
none_passes test (m ∷ ms) n h c =
    let t = neither (test m) (list_any test ms) h in
    elim (contains_case m n ms c) [ inl is ↦ ap test (sym is) ∙ t.0 | inr there ↦ none_passes test ms n t.1 there ]

none_filtered : (p : PackageText) (test : ComponentOf → Bool) (ns : List ℕ) → list_any (λ n. test (component_at p n)) ns ≡ false → filter test (map (component_at p) ns) ≡ []
none_filtered p test [] h = refl
none_filtered p test (m ∷ ms) h =
    let t = neither (test (component_at p m)) (list_any (λ n. test (component_at p n)) ms) h in
    rw t.0 (none_filtered p test ms t.1)

-- the key of a component is its own
own_key : (c : ComponentOf) → has_key c.classification c.identifier c ≡ true
own_key c = rw (eq-eqb c.classification c.classification refl, eq-eqb c.identifier c.identifier refl) refl

same_key : (c d : ComponentOf) → c.classification ≡ d.classification → c.identifier ≡ d.identifier → has_key c.classification c.identifier d ≡ true
same_key c d e f = rw (eq-eqb d.classification c.classification (sym e), eq-eqb d.identifier c.identifier (sym f)) refl

key_is : (c d : ComponentOf) → has_key c.classification c.identifier d ≡ true → has_key d.classification d.identifier c ≡ true
key_is c d h =
    let t = both (d.classification == c.classification) (d.identifier == c.identifier) h in
    same_key d c (eqb-true d.classification c.classification t.0) (eqb-true d.identifier c.identifier t.1)

key_swapped : (b : Bool) (c d : ComponentOf) → has_key c.classification c.identifier d ≡ b → has_key d.classification d.identifier c ≡ false → b ≡ false
key_swapped false c d e h = refl
key_swapped true c d e h = let t = key_is c d e in absurd (cc)

twin_apart : (p : PackageText) (ns : List ℕ) (a b : ℕ) → has_twin p ns ≡ false → Contains ns a → Contains ns b → (component_at p a).classification ≡ (component_at p b).classification → (component_at p a).identifier ≡ (component_at p b).identifier → a ≡ b
unfolding has_twin
twin_apart p [] a b h (k, lt, is) cb e f = absurd (omega arith)
twin_apart p (n ∷ ns) a b h ca cb e f =
    let t = neither (list_any (λ m. has_key (component_at p n).classification (component_at p n).identifier (component_at p m)) ns) (has_twin p ns) h in
    elim (contains_case n a ns ca) [
      | inl first ↦ elim (contains_case n b ns cb) [
        | inl also ↦ sym first ∙ also
        | inr there ↦
            let apart : has_key (component_at p n).classification (component_at p n).identifier (component_at p b) ≡ false = none_passes (λ m. has_key (component_at p n).classification (component_at p n).identifier (component_at p m)) ns b t.0 there in
            let one : has_key (component_at p n).classification (component_at p n).identifier (component_at p b) ≡ true = same_key (component_at p n) (component_at p b) (ap (λ m. (component_at p m).classification) first ∙ e) (ap (λ m. (component_at p m).identifier) first ∙ f) in
            absurd (cc)
      ]
      | inr before ↦ elim (contains_case n b ns cb) [
        | inl also ↦
            let apart : has_key (component_at p n).classification (component_at p n).identifier (component_at p a) ≡ false = none_passes (λ m. has_key (component_at p n).classification (component_at p n).identifier (component_at p m)) ns a t.0 before in
            let one : has_key (component_at p n).classification (component_at p n).identifier (component_at p a) ≡ true = same_key (component_at p n) (component_at p a) (ap (λ m. (component_at p m).classification) also ∙ sym e) (ap (λ m. (component_at p m).identifier) also ∙ sym f) in
            absurd (cc)
        | inr there ↦ twin_apart p ns a b t.1 before there e f
      ]
    ]

sole : (p : PackageText) (ns : List ℕ) (n : ℕ) → has_twin p ns ≡ false → Contains ns n → filter (has_key (component_at p n).classification (component_at p n).identifier) (map (component_at p) ns) ≡ component_at p n ∷ []
unfolding has_twin
sole p [] n h (k, lt, is) = absurd (omega arith)
sole p (m ∷ ms) n h c =
    let t = neither (list_any (λ k. has_key (component_at p m).classification (component_at p m).identifier (component_at p k)) ms) (has_twin p ms) h in
    elim (contains_case m n ms c) [
      | inl first ↦ subst (λ k. filter (has_key (component_at p k).classification (component_at p k).identifier) (map (component_at p) (m ∷ ms)) ≡ component_at p k ∷ []) first
          (rw (own_key (component_at p m), none_filtered p (has_key (component_at p m).classification (component_at p m).identifier) ms t.0) refl)
      | inr there ↦
          let apart : has_key (component_at p m).classification (component_at p m).identifier (component_at p n) ≡ false = none_passes (λ k. has_key (component_at p m).classification (component_at p m).identifier (component_at p k)) ms n t.0 there in
          rw (key_swapped (has_key (component_at p n).classification (component_at p n).identifier (component_at p m)) (component_at p n) (component_at p m) refl apart) (sole p ms n t.1 there)
    ]

-- facts about a plan
else_ok : {A : Type 0} (b : Bool) (e : PlanFault) (r : Result A PlanFault) (y : A) → (if b then Err e else r) ≡ Ok y → (b ≡ false) × (r ≡ Ok y)
else_ok false e r y h = (refl, h)
else_ok true e r y h = absurd (cc)

planned : (p : PackageText) (number : ℕ) (ns : List ℕ) → plan_of p number ≡ Ok ns → (has_twin p (record_at p number).uses ≡ false) × ((record_at p number).uses ≡ ns)
unfolding plan_of
planned p number ns h =
    let apart = else_ok (has_twin p (record_at p number).uses) faults.DuplicateComponent _ ns h in
    let few = else_ok (nat_lt 8 (length (record_at p number).uses)) faults.TooManyComponents _ ns apart.1 in
    let small = else_ok (has_large_image p (record_at p number).uses) faults.ImageTooLarge _ ns few.1 in
    let short = else_ok (nat_lt 200 (length (record_at p number).set_text.bytes) || has_long_text p (record_at p number).uses) faults.TextTooLong _ ns small.1 in
    (apart.0, let e = short.1 in cc)

pub plans_keys_once : PlansKeysOnce
plans_keys_once p number n m numbers h cn cm e f =
    let plan = planned p number numbers h in
    twin_apart p numbers n m (ap (has_twin p) (sym plan.1) ∙ plan.0) cn cm e f

pub plans_named_images : PlansNamedImages
plans_named_images p device number n numbers chosen_is h c =
    let plan = planned p number numbers h in
    rw (chosen_is, plan.1, sole p numbers n (ap (has_twin p) (sym plan.1) ∙ plan.0) c) refl
