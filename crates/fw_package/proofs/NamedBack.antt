-- The bitmap that is written names the components that are used.
use Rattle.std.proofs.Common.{◌≡◌, ◌≢◌, ℕ, zero, suc, ◌+◌, ◌*◌, ◌/◌, ◌%◌, ◌<◌, ◌≤◌, ◌∙◌, ◌==◌, ◌&&◌, Bool, true, false, if◌then◌else◌, inl, inr, List, [], ◌∷◌, filter, nat_le, nat_lt, ne_eqb, refl, sym, ap, arith, slice_index}
use Rattle.std.specs.Cmp.Derive.{both_true}
use Rattle.std.specs.Int.{bit_at}
use Rattle.std.specs.List.{range_with_len}
use Rattle.std.specs.List.Sorted.{IsStrictlyIncreasing}
use Rattle.std.proofs.lemmas.Bool.{and_parts, le-leb, leb-true, lt-ltb, ltb-true}
use Rattle.std.proofs.lemmas.Bool.Decides.{eqb_tells}
use Rattle.std.proofs.lemmas.List.FromFn.{get_or-map-range_with_len}
use Rattle.std.proofs.lemmas.Nat.Bits.{bit_at-suc, bit_at_lowest}
use Rattle.fw_package.specs.Asked.{are_uses}
use Rattle.fw_package.specs.Records.{is_named, components_named}
use Rattle.fw_package.specs.Writing.{bitmap_byte, bitmap_of, bits_of, is_used}

low_bit : (b : Bool) (n : ℕ) → ((if b then 1 else 0) + 2 * n) % 2 ≡ (if b then 1 else 0)
low_bit true n = omega arith
low_bit false n = omega arith

high_bits : (b : Bool) (n : ℕ) → ((if b then 1 else 0) + 2 * n) / 2 ≡ n
high_bits true n = omega arith
high_bits false n = omega arith

bit_is : (b : Bool) → ((if b then 1 else 0) == 1) ≡ b
bit_is true = refl
bit_is false = refl

bits_at : (uses : List ℕ) (first n i : ℕ) → i < n → bit_at (bits_of uses first n) i ≡ (if is_used uses (first + i) then 1 else 0)
bits_at uses first zero i lt = absurd (omega (arith, lt))
bits_at uses first (suc n) zero lt =
    let here : first + 0 ≡ first = omega arith in
    bit_at_lowest (bits_of uses first (suc n)) ∙ low_bit (is_used uses first) (bits_of uses (first + 1) n) ∙ ap (λ k. if is_used uses k then 1 else 0) (sym here)
bits_at uses first (suc n) (suc i) lt =
    let there : first + 1 + i ≡ first + suc i = omega arith in
    bit_at-suc (bits_of uses first (suc n)) i
    ∙ ap (λ x. bit_at x i) (high_bits (is_used uses first) (bits_of uses (first + 1) n))
    ∙ bits_at uses (first + 1) n i (omega (arith, lt))
    ∙ ap (λ k. if is_used uses k then 1 else 0) there

pub named_here : (size k : ℕ) (uses : List ℕ) → k < 8 * size → is_named (bitmap_of size uses) k ≡ is_used uses k
named_here size k uses lt =
    let byte : slice_index (bitmap_of size uses) (k / 8) ≡ bitmap_byte uses (k / 8) = get_or-map-range_with_len (bitmap_byte uses) 0 size (k / 8) (k / 8) 0 (omega (arith, lt)) (omega arith) in
    let bit = bits_at uses (8 * (k / 8)) 8 (k % 8) (omega arith) in
    let whole : 8 * (k / 8) + k % 8 ≡ k = omega arith in
    rw (byte, bit, whole) (bit_is (is_used uses k))

-- facts about the first, from the test of rising numbers
record IsNext (count from k : ℕ) (ks : List ℕ) : Type 0 where
  least : from ≤ k
  below : k < count
  others : are_uses count (k + 1) ks ≡ true

next_use : (count from k : ℕ) (ks : List ℕ) → are_uses count from (k ∷ ks) ≡ true → IsNext count from k ks
next_use count from k ks h =
    let first = and_parts (nat_le from k) (nat_lt k count && are_uses count (k + 1) ks) h in
    let second = and_parts (nat_lt k count) (are_uses count (k + 1) ks) first.1 in
    record { least = leb-true from k first.0; below = ltb-true k count second.0; others = second.1 }

pub not_before : (count from k : ℕ) (uses : List ℕ) → are_uses count from uses ≡ true → k < from → is_used uses k ≡ false
not_before count from k [] h lt = refl
not_before count from k (n ∷ ns) h lt =
    let next = next_use count from n ns h in
    let least = next.least in
    let other : n ≢ k = λ e. omega (arith, least, lt, e) in
    let rest : is_used ns k ≡ false = not_before count (n + 1) k ns next.others (omega (arith, least, lt)) in
    rw (ne_eqb n k other, rest) refl

-- two tests that agree from a number on keep the same
same_kept : (p q : ℕ → Bool) (from n : ℕ) → ((k : ℕ) → from ≤ k → p k ≡ q k) → filter p (range_with_len from n) ≡ filter q (range_with_len from n)
same_kept p q from zero same = refl
same_kept p q from (suc n) same =
    rw (same from (omega arith), same_kept p q (from + 1) n (λ k le. same k (omega (arith, le)))) refl

used_range : (count from n : ℕ) (uses : List ℕ) → from + n ≡ count → are_uses count from uses ≡ true → filter (is_used uses) (range_with_len from n) ≡ uses
used_range count from zero [] e h = refl
used_range count from zero (k ∷ ks) e h =
    let next = next_use count from k ks h in
    let least = next.least in
    let below = next.below in
    absurd (omega (arith, e, least, below))
used_range count from (suc n) [] e h = used_range count (from + 1) n [] (omega (arith, e)) refl
used_range count from (suc n) (k ∷ ks) e h =
    let next = next_use count from k ks h in
    let least = next.least in
    elim (eqb_tells k from) [
      | inl same ↦
          let later : (j : ℕ) → from + 1 ≤ j → is_used (k ∷ ks) j ≡ is_used ks j =
          λ j le. let is = same.1 in let other : k ≢ j = λ e. omega (arith, is, le, e) in rw (ne_eqb k j other) refl in
          let start : are_uses count (from + 1) ks ≡ true = ap (λ x. are_uses count (x + 1) ks) (sym same.1) ∙ next.others in
          let rest = same_kept (is_used (k ∷ ks)) (is_used ks) (from + 1) n later ∙ used_range count (from + 1) n ks (omega (arith, e)) start in
          rw (same.0, rest) (ap (λ x. x ∷ ks) (sym same.1))
      | inr other ↦
          let apart = other.1 in
          let past : are_uses count (from + 1) (k ∷ ks) ≡ true = both_true (le-leb (from + 1) k (omega (arith, least, apart))) (both_true (lt-ltb k count next.below) next.others) in
          let none : is_used ks from ≡ false = not_before count (k + 1) from ks next.others (omega (arith, least)) in
          rw (other.0, none) (used_range count (from + 1) n (k ∷ ks) (omega (arith, e)) past)
    ]

same_named : (size from n : ℕ) (uses : List ℕ) → from + n ≤ 8 * size → filter (is_named (bitmap_of size uses)) (range_with_len from n) ≡ filter (is_used uses) (range_with_len from n)
same_named size from zero uses le = refl
same_named size from (suc n) uses le =
    rw (named_here size from uses (omega (arith, le)), same_named size (from + 1) n uses (omega (arith, le))) refl

pub named_back : (size count : ℕ) (uses : List ℕ) → count ≤ 8 * size → are_uses count 0 uses ≡ true → components_named (bitmap_of size uses) count ≡ uses
unfolding components_named
named_back size count uses fits h = same_named size 0 count uses (omega (arith, fits)) ∙ used_range count 0 count uses (omega arith) h

pub uses_rise : (count from : ℕ) (uses : List ℕ) → are_uses count from uses ≡ true → IsStrictlyIncreasing uses
uses_rise count from [] h j lt = absurd (omega (arith, lt))
uses_rise count from (k ∷ []) h j lt = absurd (omega (arith, lt))
uses_rise count from (k ∷ n ∷ ns) h zero lt =
    let next = next_use count from k (n ∷ ns) h in
    let after = next_use count (k + 1) n ns next.others in
    let least = after.least in
    omega (arith, least)
uses_rise count from (k ∷ n ∷ ns) h (suc j) lt =
    let next = next_use count from k (n ∷ ns) h in
    let on : suc j + 1 ≡ suc (j + 1) = omega arith in
    rw on (uses_rise count (k + 1) (n ∷ ns) next.others j (omega (arith, lt)))
