-- Descriptors that are read one after the other, and the components that a bitmap names.
use Rattle.std.proofs.Common.{◌≡◌, ◌≢◌, ℕ, zero, suc, ◌+◌, ◌-◌, ◌<◌, ◌≤◌, true, false, List, [], ◌∷◌, Result, Ok, Err, IsOk, length, refl, ap, arith}
use Rattle.fw_package.specs.Package.{DescriptorOf}
use Rattle.fw_package.specs.Records.{◌>>=◌, descriptor_split, descriptors_split, is_named}
use Rattle.fw_package.specs.Views.{front_of, named_from}
use Rattle.fw_package.specs.declared.fault.PackageFault.{PackageFault}

-- the bytes after a list that was read
abbrev pub back_of : {A B : Type 0} → Result (A × B) PackageFault → Result B PackageFault
back_of (Ok p) = Ok p.1
back_of (Err e) = Err e

after_one : {A B : Type 0} (x : A) (r : Result (List A × B) PackageFault) → back_of (r >>= (λ p. Ok (x ∷ p.0, p.1))) ≡ back_of r
after_one x (Ok p) = refl
after_one x (Err e) = refl

pub descriptors_step : (count i : ℕ) (bytes rest : List ℕ) (d : DescriptorOf) → descriptor_split bytes ≡ Ok (d, rest) → i < count
    → back_of (descriptors_split (count - i) bytes) ≡ back_of (descriptors_split (count - (i + 1)) rest)
unfolding descriptors_split
descriptors_step count i bytes rest d e lt =
    let left : count - i ≡ suc (count - (i + 1)) = omega arith in
    rw (left, e) (after_one d (descriptors_split (count - (i + 1)) rest))

pub descriptors_stop : (count i : ℕ) (bytes : List ℕ) (e : PackageFault) → descriptor_split bytes ≡ Err e → i < count
    → back_of (descriptors_split (count - i) bytes) ≡ Err e
unfolding descriptors_split
descriptors_stop count i bytes e h lt =
    let left : count - i ≡ suc (count - (i + 1)) = omega arith in
    rw (left, h) refl

pub descriptors_end : (count i : ℕ) (bytes : List ℕ) → count ≤ i → back_of (descriptors_split (count - i) bytes) ≡ Ok bytes
unfolding descriptors_split
descriptors_end count i bytes le = let none : count - i ≡ 0 = omega arith in rw none refl

whole_from : {A B : Type 0} (r : Result (List A × B) PackageFault) (b : B) → back_of r ≡ Ok b → r ≡ Ok (front_of r, b)
whole_from (Ok p) b h = let same : p.1 ≡ b = cc in rw same refl
whole_from (Err e) b h = absurd (cc)

refused_from : {A B : Type 0} (r : Result (List A × B) PackageFault) (e : PackageFault) → back_of r ≡ Err e → r ≡ Err e
refused_from (Ok p) e h = absurd (cc)
refused_from (Err x) e h = cc

pub descriptors_whole : (count : ℕ) (bytes rest : List ℕ) → back_of (descriptors_split count bytes) ≡ Ok rest
    → descriptors_split count bytes ≡ Ok (front_of (descriptors_split count bytes), rest)
descriptors_whole count bytes rest h = whole_from (descriptors_split count bytes) rest h

pub descriptors_refused : (count : ℕ) (bytes : List ℕ) (e : PackageFault) → back_of (descriptors_split count bytes) ≡ Err e → descriptors_split count bytes ≡ Err e
descriptors_refused count bytes e h = refused_from (descriptors_split count bytes) e h

-- the first of the descriptors left, and the others
pub record AreLeft (first : DescriptorOf) (count : ℕ) (bytes rest : List ℕ) : Type 0 where
  pub list : front_of (descriptors_split count bytes) ≡ first ∷ front_of (descriptors_split (count - 1) rest)
  pub others : IsOk (descriptors_split (count - 1) rest)

-- one before a list that was read
abbrev with_one : {A B : Type 0} → A → Result (List A × B) PackageFault → Result (List A × B) PackageFault
with_one x r = r >>= (λ p. Ok (x ∷ p.0, p.1))

split_left : {A B : Type 0} (x : A) (r : Result (List A × B) PackageFault) → IsOk (with_one x r) → (front_of (with_one x r) ≡ x ∷ front_of r) × IsOk r
split_left x (Ok p) h = (refl, h)
split_left x (Err e) h = absurd (cc)

pub descriptors_left : (count : ℕ) (bytes rest : List ℕ) (d : DescriptorOf) → IsOk (descriptors_split count bytes) → count ≢ 0 → descriptor_split bytes ≡ Ok (d, rest)
    → AreLeft d count bytes rest
unfolding descriptors_split
descriptors_left zero bytes rest d h there e = absurd (omega (arith, there))
descriptors_left (suc n) bytes rest d h there e =
    let less : suc n - 1 ≡ n = omega arith in
    let both = split_left d (descriptors_split n rest) (rw e at h) in
    record { list = rw (less, e) both.0; others = rw less both.1 }

pub descriptors_none : (count : ℕ) (bytes : List ℕ) → count ≡ 0 → front_of (descriptors_split count bytes) ≡ []
unfolding descriptors_split
descriptors_none count bytes e = rw e refl

pub descriptors_there : (count : ℕ) (bytes : List ℕ) (e : PackageFault) → IsOk (descriptors_split count bytes) → count ≢ 0 → descriptor_split bytes ≡ Err e → ⊥
unfolding descriptors_split
descriptors_there zero bytes e h there refused = omega (arith, there)
descriptors_there (suc n) bytes e h there refused = let never = rw refused at h in absurd (cc)

count_one : {A B : Type 0} (x : A) (r : Result (List A × B) PackageFault) (n : ℕ) → (IsOk r → length (front_of r) ≡ n) → IsOk (with_one x r) → length (front_of (with_one x r)) ≡ suc n
count_one x (Ok p) n h ok = ap suc (h refl)
count_one x (Err e) n h ok = absurd (cc)

count_first : {A B : Type 0} (f : Result (A × B) PackageFault) (g : B → Result (List A × B) PackageFault) (n : ℕ) → ((b : B) → IsOk (g b) → length (front_of (g b)) ≡ n)
    → IsOk (f >>= (λ x. with_one x.0 (g x.1))) → length (front_of (f >>= (λ x. with_one x.0 (g x.1)))) ≡ suc n
count_first (Ok x) g n h ok = count_one x.0 (g x.1) n (h x.1) ok
count_first (Err e) g n h ok = absurd (cc)

pub descriptors_count : (count : ℕ) (bytes : List ℕ) → IsOk (descriptors_split count bytes) → length (front_of (descriptors_split count bytes)) ≡ count
unfolding descriptors_split
descriptors_count zero bytes ok = refl
descriptors_count (suc n) bytes ok = count_first (descriptor_split bytes) (descriptors_split n) n (λ b. descriptors_count n b) ok

pub ruleset describing = (descriptors_step, descriptors_stop, descriptors_end, descriptors_whole, descriptors_refused)

pub ruleset descriptors_next = (descriptors_left, descriptors_none, descriptors_there)

-- the first component from here on is named, or isn't
pub named_here : (bitmap : List ℕ) (count k : ℕ) → k < count → is_named bitmap k ≡ true → named_from bitmap k (count - k) ≡ k ∷ named_from bitmap (k + 1) (count - (k + 1))
named_here bitmap count k lt e =
    let left : count - k ≡ suc (count - (k + 1)) = omega arith in
    rw (left, e) refl

pub named_later : (bitmap : List ℕ) (count k : ℕ) → k < count → is_named bitmap k ≡ false → named_from bitmap k (count - k) ≡ named_from bitmap (k + 1) (count - (k + 1))
named_later bitmap count k lt e =
    let left : count - k ≡ suc (count - (k + 1)) = omega arith in
    rw (left, e) refl

pub named_none : (bitmap : List ℕ) (count k : ℕ) → count ≤ k → named_from bitmap k (count - k) ≡ []
named_none bitmap count k le = let none : count - k ≡ 0 = omega arith in rw none refl

pub ruleset naming = (named_here, named_later, named_none)
