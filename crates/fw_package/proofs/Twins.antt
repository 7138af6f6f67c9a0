-- Keys as numbers: if all are sorted and not each is below the next, two are equal.
use Rattle.std.proofs.Common.{◌≡◌, ℕ, suc, ◌+◌, ◌*◌, ◌<◌, ◌≤◌, ◌∙◌, ◌||◌, ◌&&◌, ◌==◌, ◌↔◌, not, Bool, true, false, List, [], ◌∷◌, ◌++◌, length, map, refl, sym, ap, arith, append_assoc, append-nil, length-append}
use Rattle.std.specs.Bool.{IsTrue}
use Rattle.std.specs.List.{AllByRecursion, IsDistinct, list_any}
use Rattle.std.specs.List.Sorted.{IsNonDecreasing, IsPermutation, IsStrictlyIncreasing}
use Rattle.std.proofs.Math.Dec.{eqb}
use Rattle.std.proofs.lemmas.Bool.{eqb-true, eqb-false}
use Rattle.std.proofs.lemmas.Bool.Decides.{Decides-eqb}
use Rattle.std.proofs.lemmas.List.Kept.{AllPairs-from_increasing}
use Rattle.std.proofs.lemmas.List.Sorted.{IsPermutation-sym}
use Rattle.std.proofs.lemmas.Map.Keys.{IsDistinct-IsPermutation, IsStrictlyIncreasing-from_distinct}
use Rattle.std.proofs.lemmas.Map.Made.{IsDistinct-from_AllPairs}
use Rattle.fw_package.specs.Choice.{has_key}
use Rattle.fw_package.specs.Package.{ComponentOf}
use Rattle.fw_package.specs.Views.{has_doubles, number_of, has_twins}
use Rattle.fw_package.proofs.Chosen.{neither}

-- a key of two numbers of 16 bits
abbrev pub IsSmall : ComponentOf → Type 0
IsSmall c = (c.classification < 65536) × (c.identifier < 65536)

-- two keys are the same if their numbers are
both_same : (p q r : Bool) (a b x y : ℕ) → (x == a) ≡ p → (y == b) ≡ q → (a * 65536 + b == x * 65536 + y) ≡ r → b < 65536 → y < 65536 → (p && q) ≡ r
both_same true true true a b x y e f g lt short = refl
both_same true true false a b x y e f g lt short =
    let i = eqb-true x a e in let j = eqb-true y b f in let k = eqb-false (a * 65536 + b) (x * 65536 + y) g in absurd (k (rw (i, j) refl))
both_same true false true a b x y e f g lt short =
    let i = eqb-true x a e in let j = eqb-false y b f in let k = eqb-true (a * 65536 + b) (x * 65536 + y) g in absurd (omega (arith, i, j, k))
both_same true false false a b x y e f g lt short = refl
both_same false q true a b x y e f g lt short =
    let i = eqb-false x a e in let k = eqb-true (a * 65536 + b) (x * 65536 + y) g in absurd (omega (arith, i, k, lt, short))
both_same false q false a b x y e f g lt short = refl

same_number : (c d : ComponentOf) → IsSmall c → IsSmall d → has_key c.classification c.identifier d ≡ (number_of c == number_of d)
same_number c d small little =
    both_same (d.classification == c.classification) (d.identifier == c.identifier) (number_of c == number_of d) c.classification c.identifier d.classification d.identifier refl refl refl small.1 little.1

any_same : (c : ComponentOf) (ds : List ComponentOf) → IsSmall c → AllByRecursion IsSmall ds → list_any (has_key c.classification c.identifier) ds ≡ list_any (λ j. number_of c == j) (map number_of ds)
any_same c [] small little = refl
any_same c (d ∷ ds) small little =
    ap (λ b. b || list_any (has_key c.classification c.identifier) ds) (same_number c d small little.0) ∙ ap (λ b. (number_of c == number_of d) || b) (any_same c ds small little.1)

twins_doubles : (cs : List ComponentOf) → AllByRecursion IsSmall cs → has_doubles (map number_of cs) ≡ has_twins cs
twins_doubles [] small = refl
twins_doubles (c ∷ cs) small =
    ap (λ b. b || has_doubles (map number_of cs)) (sym (any_same c cs small.0 small.1)) ∙ ap (λ b. list_any (has_key c.classification c.identifier) cs || b) (twins_doubles cs small.1)

-- the components that were passed, and their numbers
pub record IsPacked (all left : List ComponentOf) (keys : List ℕ) : Type 0 where
  pub passed : List ComponentOf
  pub is : all ≡ passed ++ left
  pub small : AllByRecursion IsSmall passed
  pub packed : keys ≡ map number_of passed
  pub room : length keys + length left ≤ 2978

small_more : (cs : List ComponentOf) (c : ComponentOf) → AllByRecursion IsSmall cs → IsSmall c → AllByRecursion IsSmall (cs ++ c ∷ [])
small_more [] c all small = (small, tt)
small_more (d ∷ ds) c all small = (all.0, small_more ds c all.1 small)

map_more : (cs : List ComponentOf) (c : ComponentOf) → map number_of cs ++ number_of c ∷ [] ≡ map number_of (cs ++ c ∷ [])
map_more [] c = refl
map_more (d ∷ ds) c = ap (λ ks. number_of d ∷ ks) (map_more ds c)

pub packed_more : (all left others : List ComponentOf) (keys : List ℕ) (c : ComponentOf) → IsPacked all left keys → left ≡ c ∷ others → IsSmall c → IsPacked all others (keys ++ number_of c ∷ [])
packed_more all left others keys c p e small =
    let long = length-append keys (number_of c ∷ []) in
    let more : length left ≡ suc (length others) = ap length e in
    let room = p.room in
    record {
      passed = p.passed ++ c ∷ [];
      is = p.is ∙ ap (λ cs. p.passed ++ cs) e ∙ sym (append_assoc p.passed (c ∷ []) others);
      small = small_more p.passed c p.small small;
      packed = ap (λ ks. ks ++ number_of c ∷ []) p.packed ∙ map_more p.passed c;
      room = omega (arith, long, more, room);
    }

pub packed_all : (all left : List ComponentOf) (keys : List ℕ) → IsPacked all left keys → left ≡ [] → has_doubles keys ≡ has_twins all
packed_all all left keys p e =
    ap has_doubles p.packed ∙ twins_doubles p.passed p.small ∙ ap has_twins (sym (p.is ∙ ap (λ cs. p.passed ++ cs) e ∙ append-nil p.passed))

-- no two are equal
apart_from : (k : ℕ) (ks : List ℕ) → list_any (λ j. k == j) ks ≡ false → AllByRecursion (λ y. eqb k y ≡ false) ks
apart_from k [] h = tt
apart_from k (j ∷ js) h = let both = neither (k == j) (list_any (λ i. k == i) js) h in (both.0, apart_from k js both.1)

from_apart : (k : ℕ) (ks : List ℕ) → AllByRecursion (λ y. eqb k y ≡ false) ks → list_any (λ j. k == j) ks ≡ false
from_apart k [] h = refl
from_apart k (j ∷ js) h = rw (h.0, from_apart k js h.1) refl

distinct_from : (ks : List ℕ) → has_doubles ks ≡ false → IsDistinct eqb ks
unfolding IsDistinct
distinct_from [] h = tt
distinct_from (k ∷ ks) h = let both = neither (list_any (λ j. k == j) ks) (has_doubles ks) h in (apart_from k ks both.0, distinct_from ks both.1)

from_distinct : (ks : List ℕ) → IsDistinct eqb ks → has_doubles ks ≡ false
unfolding IsDistinct
from_distinct [] h = refl
from_distinct (k ∷ ks) h = rw (from_apart k ks h.0, from_distinct ks h.1) refl

below_apart : (ks : List ℕ) → IsStrictlyIncreasing ks → IsDistinct eqb ks
below_apart ks rising =
    IsDistinct-from_AllPairs Decides-eqb ks (λ i j d lt short e. let less = AllPairs-from_increasing ks rising i j d lt short in omega (arith, less, e))

flipped : (p q : Bool) (x y : ℕ) → eqb x y ≡ p → eqb y x ≡ q → p ≡ q
flipped true true x y e f = refl
flipped false false x y e f = refl
flipped true false x y e f = let i = eqb-true x y e in let j = eqb-false y x f in absurd (j (sym i))
flipped false true x y e f = let i = eqb-false x y e in let j = eqb-true y x f in absurd (i (sym j))

flips : (x y : ℕ) → eqb x y ≡ eqb y x
flips x y = flipped (eqb x y) (eqb y x) x y refl refl

-- two keys are equal exactly if the sorted keys don't all rise
told : (b t : Bool) (keys sorted : List ℕ) → has_doubles keys ≡ t → IsPermutation keys sorted → IsNonDecreasing sorted → (IsTrue b ↔ IsStrictlyIncreasing sorted) → not b ≡ t
told true false keys sorted e moved up rising = refl
told false true keys sorted e moved up rising = refl
told true true keys sorted e moved up rising =
    let none = from_distinct keys (IsDistinct-IsPermutation eqb flips sorted keys (IsPermutation-sym keys sorted moved) (below_apart sorted (rising.0 refl))) in absurd (cc)
told false false keys sorted e moved up rising =
    let all = rising.1 (IsStrictlyIncreasing-from_distinct sorted up (IsDistinct-IsPermutation eqb flips keys sorted moved (distinct_from keys e))) in absurd (cc)

pub twins_told : (b : Bool) (cs : List ComponentOf) (keys sorted : List ℕ) → has_doubles keys ≡ has_twins cs → IsPermutation keys sorted → IsNonDecreasing sorted → (IsTrue b ↔ IsStrictlyIncreasing sorted)
    → not b ≡ has_twins cs
twins_told b cs keys sorted e moved up rising = told b (has_twins cs) keys sorted e moved up rising
