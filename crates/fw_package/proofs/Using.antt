-- The components that a record uses are rising, and there.
use Rattle.std.proofs.Common.{◌≡◌, ℕ, zero, suc, ◌+◌, ◌<◌, ◌∙◌, ◌==◌, Bool, true, false, if◌then◌else◌, All, List, Result, Ok, Err, IfOk, IsSome, ◌≤◌, length, take, drop, sym, ap, arith, slice_index}
use Rattle.std.specs.List.{range_with_len}
use Rattle.std.specs.List.Sorted.{IsStrictlyIncreasing}
use Rattle.std.proofs.lemmas.List.Elements.{All-cons, All-filter}
use Rattle.std.proofs.lemmas.List.FromFn.{get_or-range_with_len, length-range_with_len}
use Rattle.std.proofs.lemmas.List.Kept.{IsStrictlyIncreasing-filter}
use Rattle.std.specs.Result.{is_ok}
use Rattle.std.proofs.lemmas.Result.{IfOk-at_ok}
use Rattle.byteorder.specs.Endian.{little_number}
use Rattle.fw_package.specs.Components.{components_of}
use Rattle.fw_package.specs.Package.{ComponentOf, RecordOf}
use Rattle.fw_package.specs.Reading.{IsUsing}
use Rattle.fw_package.specs.Records.{◌>>=◌, descriptors_split, is_named, components_named, record_of, records_of, split_after}
use Rattle.fw_package.specs.Views.{list_or_empty}
use Rattle.fw_package.specs.Layout.{after_components}
use Rattle.fw_package.proofs.Rows.{components_counted}
use Rattle.fw_package.proofs.Walks.{components_fit}
use Rattle.fw_package.specs.declared.fault.PackageFault.{PackageFault}

range_rises : (n : ℕ) → IsStrictlyIncreasing (range_with_len 0 n)
range_rises n k lt =
    let all = length-range_with_len 0 n in
    rw (get_or-range_with_len 0 n k 0 (omega arith), get_or-range_with_len 0 n (k + 1) 0 (omega arith)) (omega arith)

range_below : (n : ℕ) → All (λ k. k < n) (range_with_len 0 n)
range_below n k d lt =
    let all = length-range_with_len 0 n in
    rw (get_or-range_with_len 0 n k d (omega arith)) (omega arith)

pub named_using : (bitmap : List ℕ) (count : ℕ) → IsStrictlyIncreasing (components_named bitmap count) × All (λ k. k < count) (components_named bitmap count)
unfolding components_named
named_using bitmap count =
    (IsStrictlyIncreasing-filter (is_named bitmap) (range_with_len 0 count) (range_rises count), All-filter (is_named bitmap) (λ k. k < count) (range_with_len 0 count) (range_below count))

-- a fact of all results of a chain's end is a fact of its result
then_any : {A B : Type 0} (P : B → Type 0) (r : Result A PackageFault) (f : A → Result B PackageFault) → ((x : A) → IfOk (f x) P) → IfOk (r >>= f) P
then_any P (Ok x) f h = h x
then_any P (Err e) f h = tt

then_given : {A B : Type 0} (P : A → Type 0) (Q : B → Type 0) (r : Result A PackageFault) (f : A → Result B PackageFault) → IfOk r P → ((x : A) → P x → IfOk (f x) Q) → IfOk (r >>= f) Q
then_given P Q (Ok x) f p h = h x p
then_given P Q (Err e) f p h = tt

if_either : {A : Type 0} (P : A → Type 0) (b : Bool) (x : A) (e : PackageFault) → P x → IfOk (if b then Ok x else Err e) P
if_either P true x e p = p
if_either P false x e p = tt

record_using : (size count : ℕ) (bytes : List ℕ) → IfOk (record_of size count bytes) (IsUsing count)
unfolding record_of
record_using size count bytes =
    then_any (IsUsing count) (split_after 11 bytes) _ (λ head.
    then_any (IsUsing count) (split_after size head.1) _ (λ bitmap.
    then_any (IsUsing count) (split_after (slice_index head.0 8) bitmap.1) _ (λ text.
    then_any (IsUsing count) (descriptors_split (slice_index head.0 2) text.1) _ (λ descriptors.
    if_either (IsUsing count) (length descriptors.1 == little_number 2 (drop 9 head.0)) _ _
    (let using = named_using bitmap.0 count in record { rising = using.0; there = using.1 })))))

pub records_using : (size count n : ℕ) (bytes : List ℕ) → IfOk (records_of size count n bytes) (All (IsUsing count))
unfolding records_of
records_using size count zero bytes = λ k d lt. absurd (omega arith)
records_using size count (suc n) bytes =
    then_given (IsUsing count) (All (IsUsing count)) (record_of size count (take (little_number 2 bytes) bytes)) _ (record_using size count (take (little_number 2 bytes) bytes)) (λ r p.
    then_given (All (IsUsing count)) (All (IsUsing count)) (records_of size count n (drop (little_number 2 bytes) bytes)) _ (records_using size count n (drop (little_number 2 bytes) bytes)) (λ rs ps.
    All-cons (IsUsing count) r rs p ps))

pub all_using : (size count n : ℕ) (bytes : List ℕ) (rs : List RecordOf) → Ok rs ≡ records_of size count n bytes → All (IsUsing count) rs
all_using size count n bytes rs re = IfOk-at_ok (All (IsUsing count)) (sym re) (records_using size count n bytes)

-- a header has room for at most 2,978 components
pub few_components : (count : ℕ) (below : List ℕ) (size : ℕ) → IsSome (after_components count below) → length below ≤ size → size < 65536 → count ≤ 2978
few_components count below size walked inside small =
    let fit = components_fit count below walked in
    omega (arith, fit, inside, small)

-- and the components that are read are as many
pub counted : (file : List ℕ) (count : ℕ) (below : List ℕ) (cs : List ComponentOf) → Ok cs ≡ components_of file count below → length cs ≡ count
counted file count below cs ce = ap length (ap list_or_empty ce) ∙ components_counted file count below (ap is_ok (sym ce))
