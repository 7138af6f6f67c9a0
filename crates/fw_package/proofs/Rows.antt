-- Consecutive records and components.
use Rattle.std.proofs.Common.{◌≡◌, ◌≢◌, ℕ, zero, suc, ◌+◌, ◌-◌, ◌<◌, ◌≤◌, ◌∙◌, List, [], ◌∷◌, Option, Some, None, Result, Ok, Err, IsOk, IsSome, Bool, true, false, nat_lt, if◌then◌else◌, length, drop, take, refl, sym, ap, subst, arith, slice_index}
use Rattle.std.proofs.lemmas.List.{drop-drop}
use borrow.Author.Tests.{ltb-true}
use Rattle.byteorder.specs.Endian.{little_number}
use Rattle.fw_package.specs.Components.{component_of, components_of}
use Rattle.fw_package.specs.Layout.{after_component, after_components, after_record, after_records}
use Rattle.fw_package.specs.Package.{ComponentOf, RecordOf}
use Rattle.fw_package.specs.Records.{◌>>=◌, record_of, records_of}
use Rattle.fw_package.specs.Views.{AreComponents, AreRecords, list_or_empty}
use Rattle.fw_package.specs.declared.fault.PackageFault.{PackageFault}
use Rattle.fw_package.proofs.Walks.{component_there, components_there, record_there}

-- the fault of a list that wasn't read
abbrev pub fault_of : {A : Type 0} → Result A PackageFault → Option PackageFault
fault_of (Ok x) = None
fault_of (Err e) = Some e

pub read_whole : {A : Type 0} (r : Result (List A) PackageFault) → fault_of r ≡ None → (r ≡ Ok (list_or_empty r)) × IsOk r
read_whole (Ok xs) h = (refl, refl)
read_whole (Err e) h = absurd (cc)

pub read_refused : {A : Type 0} (r : Result (List A) PackageFault) (e : PackageFault) → fault_of r ≡ Some e → r ≡ Err e
read_refused (Ok xs) e h = absurd (cc)
read_refused (Err x) e h = cc

pub one_more : {A : Type 0} (x : A) (r : Result (List A) PackageFault) → fault_of (r >>= (λ xs. Ok (x ∷ xs))) ≡ fault_of r
one_more x (Ok xs) = refl
one_more x (Err e) = refl

one_left : {A : Type 0} (x : A) (r : Result (List A) PackageFault) → IsOk (r >>= (λ xs. Ok (x ∷ xs))) → (list_or_empty (r >>= (λ xs. Ok (x ∷ xs))) ≡ x ∷ list_or_empty r) × IsOk r
one_left x (Ok xs) h = (refl, h)
one_left x (Err e) h = absurd (cc)

-- a result that was read wasn't refused
pub not_refused : {A : Type 0} (r : Result A PackageFault) (e : PackageFault) → IsOk r → Err e ≡ r → ⊥
not_refused (Ok x) e ok h = cc
not_refused (Err x) e ok h = cc

-- reading one after the other
pub records_step : (size components count i : ℕ) (bytes : List ℕ) (r : RecordOf) → record_of size components (take (little_number 2 bytes) bytes) ≡ Ok r → i < count
    → fault_of (records_of size components (count - i) bytes) ≡ fault_of (records_of size components (count - (i + 1)) (drop (little_number 2 bytes) bytes))
unfolding records_of
records_step size components count i bytes r e lt =
    let left : count - i ≡ suc (count - (i + 1)) = omega arith in
    rw (left, e) (one_more r (records_of size components (count - (i + 1)) (drop (little_number 2 bytes) bytes)))

pub records_stop : (size components count i : ℕ) (bytes : List ℕ) (e : PackageFault) → record_of size components (take (little_number 2 bytes) bytes) ≡ Err e → i < count
    → fault_of (records_of size components (count - i) bytes) ≡ Some e
unfolding records_of
records_stop size components count i bytes e h lt =
    let left : count - i ≡ suc (count - (i + 1)) = omega arith in
    rw (left, h) refl

pub records_done : (size components count i : ℕ) (bytes : List ℕ) → count ≤ i → fault_of (records_of size components (count - i) bytes) ≡ None
unfolding records_of
records_done size components count i bytes le = let none : count - i ≡ 0 = omega arith in rw none refl

pub records_whole : (size components count : ℕ) (bytes : List ℕ) → fault_of (records_of size components count bytes) ≡ None
    → records_of size components count bytes ≡ Ok (list_or_empty (records_of size components count bytes))
records_whole size components count bytes h = (read_whole (records_of size components count bytes) h).0

pub records_refused : (size components count : ℕ) (bytes : List ℕ) (e : PackageFault) → fault_of (records_of size components count bytes) ≡ Some e
    → records_of size components count bytes ≡ Err e
records_refused size components count bytes e h = read_refused (records_of size components count bytes) e h

pub ruleset recording = (records_step, records_stop, records_done, records_whole, records_refused, record_there)

pub components_step : (file : List ℕ) (count i : ℕ) (bytes : List ℕ) (c : ComponentOf) → component_of file bytes ≡ Ok c → i < count
    → fault_of (components_of file (count - i) bytes) ≡ fault_of (components_of file (count - (i + 1)) (drop (22 + slice_index bytes 21) bytes))
unfolding components_of
components_step file count i bytes c e lt =
    let left : count - i ≡ suc (count - (i + 1)) = omega arith in
    rw (left, e) (one_more c (components_of file (count - (i + 1)) (drop (22 + slice_index bytes 21) bytes)))

pub components_stop : (file : List ℕ) (count i : ℕ) (bytes : List ℕ) (e : PackageFault) → component_of file bytes ≡ Err e → i < count
    → fault_of (components_of file (count - i) bytes) ≡ Some e
unfolding components_of
components_stop file count i bytes e h lt =
    let left : count - i ≡ suc (count - (i + 1)) = omega arith in
    rw (left, h) refl

pub components_done : (file : List ℕ) (count i : ℕ) (bytes : List ℕ) → count ≤ i → fault_of (components_of file (count - i) bytes) ≡ None
unfolding components_of
components_done file count i bytes le = let none : count - i ≡ 0 = omega arith in rw none refl

pub components_whole : (file : List ℕ) (count : ℕ) (bytes : List ℕ) → fault_of (components_of file count bytes) ≡ None
    → components_of file count bytes ≡ Ok (list_or_empty (components_of file count bytes))
components_whole file count bytes h = (read_whole (components_of file count bytes) h).0

pub components_refused : (file : List ℕ) (count : ℕ) (bytes : List ℕ) (e : PackageFault) → fault_of (components_of file count bytes) ≡ Some e
    → components_of file count bytes ≡ Err e
components_refused file count bytes e h = read_refused (components_of file count bytes) e h

pub ruleset composing = (components_step, components_stop, components_done, components_whole, components_refused, components_there)

count_one : {A : Type 0} (x : A) (r : Result (List A) PackageFault) (n : ℕ) → (IsOk r → length (list_or_empty r) ≡ n) → IsOk (r >>= (λ xs. Ok (x ∷ xs))) → length (list_or_empty (r >>= (λ xs. Ok (x ∷ xs)))) ≡ suc n
count_one x (Ok xs) n h ok = ap suc (h refl)
count_one x (Err e) n h ok = absurd (cc)

pub count_first : {A : Type 0} (f : Result A PackageFault) (r : Result (List A) PackageFault) (n : ℕ) → (IsOk r → length (list_or_empty r) ≡ n)
    → IsOk (f >>= (λ x. r >>= (λ xs. Ok (x ∷ xs)))) → length (list_or_empty (f >>= (λ x. r >>= (λ xs. Ok (x ∷ xs))))) ≡ suc n
count_first (Ok x) r n h ok = count_one x r n h ok
count_first (Err e) r n h ok = absurd (cc)

records_counted : (size components count : ℕ) (bytes : List ℕ) → IsOk (records_of size components count bytes) → length (list_or_empty (records_of size components count bytes)) ≡ count
unfolding records_of
records_counted size components zero bytes ok = refl
records_counted size components (suc n) bytes ok =
    count_first (record_of size components (take (little_number 2 bytes) bytes)) (records_of size components n (drop (little_number 2 bytes) bytes)) n
    (records_counted size components n (drop (little_number 2 bytes) bytes)) ok

pub components_counted : (file : List ℕ) (count : ℕ) (bytes : List ℕ) → IsOk (components_of file count bytes) → length (list_or_empty (components_of file count bytes)) ≡ count
unfolding components_of
components_counted file zero bytes ok = refl
components_counted file (suc n) bytes ok =
    count_first (component_of file bytes) (components_of file n (drop (22 + slice_index bytes 21) bytes)) n
    (components_counted file n (drop (22 + slice_index bytes 21) bytes)) ok

pub records_count : (size components count : ℕ) (bytes : List ℕ) → AreRecords size components count bytes → length (list_or_empty (records_of size components count bytes)) ≡ count
records_count size components count bytes are = records_counted size components count bytes are.read

pub components_count : (file : List ℕ) (count : ℕ) (bytes : List ℕ) → AreComponents file count bytes → length (list_or_empty (components_of file count bytes)) ≡ count
components_count file count bytes are = components_counted file count bytes are.read

-- the first record left, and the others
pub record RecordLeft (size components count : ℕ) (bytes : List ℕ) : Type 0 where
  pub long : 2 ≤ length bytes
  pub whole : little_number 2 bytes ≤ length bytes
  pub read : IsOk (record_of size components (take (little_number 2 bytes) bytes))
  pub list : (r : RecordOf) → record_of size components (take (little_number 2 bytes) bytes) ≡ Ok r
      → list_or_empty (records_of size components count bytes) ≡ r ∷ list_or_empty (records_of size components (count - 1) (drop (little_number 2 bytes) bytes))
  pub others : AreRecords size components (count - 1) (drop (little_number 2 bytes) bytes)
  pub tail : drop 1 (list_or_empty (records_of size components count bytes)) ≡ list_or_empty (records_of size components (count - 1) (drop (little_number 2 bytes) bytes))

pub record FirstLeft {A : Type 0} (f : Result A PackageFault) (r whole : Result (List A) PackageFault) : Type 0 where
  pub read : IsOk f
  pub list : (x : A) → f ≡ Ok x → list_or_empty whole ≡ x ∷ list_or_empty r
  pub others : IsOk r
  pub tail : drop 1 (list_or_empty whole) ≡ list_or_empty r

pub first_left : {A : Type 0} (f : Result A PackageFault) (r : Result (List A) PackageFault) → IsOk (f >>= (λ x. r >>= (λ xs. Ok (x ∷ xs)))) → FirstLeft f r (f >>= (λ x. r >>= (λ xs. Ok (x ∷ xs))))
first_left (Ok x) (Ok xs) ok = record { read = refl; list = λ y e. let same : x ≡ y = cc in ap (λ z. z ∷ xs) same; others = refl; tail = refl }
first_left (Ok x) (Err e) ok = absurd (cc)
first_left (Err e) r ok = absurd (cc)

pub record_from : (size components count i : ℕ) (bytes : List ℕ) → i < count → AreRecords size components (count - i) bytes → RecordLeft size components (count - i) bytes
unfolding records_of
record_from size components count i bytes lt are =
    let left : count - i ≡ suc (count - (i + 1)) = omega arith in
    let less : count - i - 1 ≡ count - (i + 1) = omega arith in
    let walk = record_there count i bytes are.walked lt in
    let first = first_left (record_of size components (take (little_number 2 bytes) bytes)) (records_of size components (count - (i + 1)) (drop (little_number 2 bytes) bytes)) (rw left at are.read) in
    record {
      long = walk.long;
      whole = walk.whole;
      read = first.read;
      list = rw (less, left) first.list;
      others = rw less (record { walked = walk.others; read = first.others });
      tail = rw (less, left) first.tail;
    }

pub record_left : (size components count : ℕ) (bytes : List ℕ) → AreRecords size components count bytes → count ≢ 0 → RecordLeft size components count bytes
record_left size components zero bytes are there = absurd (omega (arith, there))
record_left size components (suc n) bytes are there = let all : suc n - 0 ≡ suc n = omega arith in rw all at (record_from size components (suc n) 0 bytes (omega arith) (rw all are))

pub records_none : (size components count : ℕ) (bytes : List ℕ) → count ≡ 0 → list_or_empty (records_of size components count bytes) ≡ []
unfolding records_of
records_none size components count bytes e = rw e refl

pub record ComponentLeft (file : List ℕ) (count : ℕ) (bytes : List ℕ) : Type 0 where
  pub there : IsSome (after_component bytes)
  pub read : IsOk (component_of file bytes)
  pub list : (c : ComponentOf) → component_of file bytes ≡ Ok c → list_or_empty (components_of file count bytes) ≡ c ∷ list_or_empty (components_of file (count - 1) (drop (22 + slice_index bytes 21) bytes))
  pub others : AreComponents file (count - 1) (drop (22 + slice_index bytes 21) bytes)
  pub tail : drop 1 (list_or_empty (components_of file count bytes)) ≡ list_or_empty (components_of file (count - 1) (drop (22 + slice_index bytes 21) bytes))

pub component_from : (file : List ℕ) (count i : ℕ) (bytes : List ℕ) → i < count → AreComponents file (count - i) bytes → ComponentLeft file (count - i) bytes
unfolding components_of
component_from file count i bytes lt are =
    let left : count - i ≡ suc (count - (i + 1)) = omega arith in
    let less : count - i - 1 ≡ count - (i + 1) = omega arith in
    let walk = components_there count i bytes are.walked lt in
    let first = first_left (component_of file bytes) (components_of file (count - (i + 1)) (drop (22 + slice_index bytes 21) bytes)) (rw left at are.read) in
    record {
      there = walk.first;
      read = first.read;
      list = rw (less, left) first.list;
      others = rw less (record { walked = walk.others; read = first.others });
      tail = rw (less, left) first.tail;
    }

pub component_left : (file : List ℕ) (count : ℕ) (bytes : List ℕ) → AreComponents file count bytes → count ≢ 0 → ComponentLeft file count bytes
component_left file zero bytes are there = absurd (omega (arith, there))
component_left file (suc n) bytes are there = let all : suc n - 0 ≡ suc n = omega arith in rw all at (component_from file (suc n) 0 bytes (omega arith) (rw all are))

pub components_none : (file : List ℕ) (count : ℕ) (bytes : List ℕ) → count ≡ 0 → list_or_empty (components_of file count bytes) ≡ []
unfolding components_of
components_none file count bytes e = rw e refl

pub ruleset records_next = (record_left, records_none)

pub ruleset components_next = (component_left, components_none)

-- the records from this number on
pub record RecordsFrom (size components count number : ℕ) (bytes rest : List ℕ) : Type 0 where
  pub are : AreRecords size components (count - number) rest
  pub list : list_or_empty (records_of size components (count - number) rest) ≡ drop number (list_or_empty (records_of size components count bytes))

record_passed : (short cut : Bool) (bytes : List ℕ) → nat_lt (length bytes) 2 ≡ short → nat_lt (length bytes) (little_number 2 bytes) ≡ cut → 2 ≤ length bytes → little_number 2 bytes ≤ length bytes
    → (if short then None else (if cut then None else Some (drop (little_number 2 bytes) bytes))) ≡ Some (drop (little_number 2 bytes) bytes)
record_passed false false bytes s e long whole = refl
record_passed true cut bytes s e long whole = absurd (let lt = ltb-true (length bytes) 2 s in omega (arith, lt, long))
record_passed false true bytes s e long whole = absurd (let lt = ltb-true (length bytes) (little_number 2 bytes) e in omega (arith, lt, whole))

record_after : (bytes : List ℕ) → 2 ≤ length bytes → little_number 2 bytes ≤ length bytes → after_record bytes ≡ Some (drop (little_number 2 bytes) bytes)
record_after bytes long whole = record_passed (nat_lt (length bytes) 2) (nat_lt (length bytes) (little_number 2 bytes)) bytes refl refl long whole

pub records_from : (size components count number : ℕ) (bytes rest : List ℕ) → number ≤ count → AreRecords size components count bytes → after_records number bytes ≡ Some rest
    → RecordsFrom size components count number bytes rest
unfolding after_records
records_from size components count zero bytes rest le are walk =
    let same : bytes ≡ rest = cc in
    let all : count - 0 ≡ count = omega arith in
    subst (λ xs. RecordsFrom size components count 0 bytes xs) same (record { are = rw all are; list = rw all refl })
records_from size components count (suc n) bytes rest le are walk =
    let left = record_left size components count bytes are (λ e. omega (arith, e, le)) in
    let after = record_after bytes left.long left.whole in
    let others = records_from size components (count - 1) n (drop (little_number 2 bytes) bytes) rest (omega arith) left.others (rw after at walk) in
    let less : count - 1 - n ≡ count - suc n = omega arith in
    let one : 1 + n ≡ suc n = omega arith in
    record {
      are = rw less at others.are;
      list = rw less at (others.list ∙ ap (drop n) (sym left.tail) ∙ drop-drop n 1 (list_or_empty (records_of size components count bytes)) ∙ ap (λ k. drop k (list_or_empty (records_of size components count bytes))) one);
    }

pub records_reached : (size components count number : ℕ) (bytes : List ℕ) → number ≤ count → AreRecords size components count bytes → after_records number bytes ≡ None → ⊥
unfolding after_records
records_reached size components count zero bytes le are walk = cc
records_reached size components count (suc n) bytes le are walk =
    let left = record_left size components count bytes are (λ e. omega (arith, e, le)) in
    let after = record_after bytes left.long left.whole in
    records_reached size components (count - 1) n (drop (little_number 2 bytes) bytes) (omega arith) left.others (rw after at walk)

pub record ComponentsFrom (file : List ℕ) (count number : ℕ) (bytes rest : List ℕ) : Type 0 where
  pub are : AreComponents file (count - number) rest
  pub list : list_or_empty (components_of file (count - number) rest) ≡ drop number (list_or_empty (components_of file count bytes))

component_passed : (cut : Bool) (bytes : List ℕ) → nat_lt (length bytes) (22 + slice_index bytes 21) ≡ cut → 22 + slice_index bytes 21 ≤ length bytes
    → (if cut then None else Some (drop (22 + slice_index bytes 21) bytes)) ≡ Some (drop (22 + slice_index bytes 21) bytes)
component_passed false bytes e whole = refl
component_passed true bytes e whole = absurd (let lt = ltb-true (length bytes) (22 + slice_index bytes 21) e in omega (arith, lt, whole))

component_after : (bytes : List ℕ) → IsSome (after_component bytes) → after_component bytes ≡ Some (drop (22 + slice_index bytes 21) bytes)
component_after bytes there = component_passed (nat_lt (length bytes) (22 + slice_index bytes 21)) bytes refl (component_there bytes there).whole

pub components_from : (file : List ℕ) (count number : ℕ) (bytes rest : List ℕ) → number ≤ count → AreComponents file count bytes → after_components number bytes ≡ Some rest
    → ComponentsFrom file count number bytes rest
unfolding after_components
components_from file count zero bytes rest le are walk =
    let same : bytes ≡ rest = cc in
    let all : count - 0 ≡ count = omega arith in
    subst (λ xs. ComponentsFrom file count 0 bytes xs) same (record { are = rw all are; list = rw all refl })
components_from file count (suc n) bytes rest le are walk =
    let left = component_left file count bytes are (λ e. omega (arith, e, le)) in
    let after = component_after bytes left.there in
    let others = components_from file (count - 1) n (drop (22 + slice_index bytes 21) bytes) rest (omega arith) left.others (rw after at walk) in
    let less : count - 1 - n ≡ count - suc n = omega arith in
    let one : 1 + n ≡ suc n = omega arith in
    record {
      are = rw less at others.are;
      list = rw less at (others.list ∙ ap (drop n) (sym left.tail) ∙ drop-drop n 1 (list_or_empty (components_of file count bytes)) ∙ ap (λ k. drop k (list_or_empty (components_of file count bytes))) one);
    }

pub components_reached : (file : List ℕ) (count number : ℕ) (bytes : List ℕ) → number ≤ count → AreComponents file count bytes → after_components number bytes ≡ None → ⊥
unfolding after_components
components_reached file count zero bytes le are walk = cc
components_reached file count (suc n) bytes le are walk =
    let left = component_left file count bytes are (λ e. omega (arith, e, le)) in
    let after = component_after bytes left.there in
    components_reached file (count - 1) n (drop (22 + slice_index bytes 21) bytes) (omega arith) left.others (rw after at walk)

pub ruleset records_starting = (records_from, records_reached, records_count)

pub ruleset components_starting = (components_from, components_reached, components_count)
