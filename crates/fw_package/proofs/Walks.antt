-- One step of a walk over records or components.
use Rattle.std.proofs.Common.{◌≡◌, ℕ, suc, zero, ◌*◌, ◌+◌, ◌-◌, ◌<◌, ◌≤◌, List, Option, Some, None, IsSome, Bool, true, false, nat_lt, slice_index, if◌then◌else◌, length, drop, ap, length-drop, refl, sym, subst, arith}
use Rattle.byteorder.specs.Endian.{little_number}
use borrow.Author.Tests.{ltb-false}
use Rattle.std.specs.Option.{option_and_then}
use Rattle.fw_package.specs.Layout.{bytes_after, after_component, after_components, after_record, after_records}

-- before the last one, the first is passed and then the others
pub records_step : (count i : ℕ) (bytes : List ℕ) → i < count → after_records (count - i) bytes ≡ option_and_then (after_records (count - (i + 1))) (after_record bytes)
unfolding after_records
records_step count i bytes lt =
    let left : count - i ≡ suc (count - (i + 1)) = omega arith in
    rw left refl

pub components_step : (count i : ℕ) (bytes : List ℕ) → i < count → after_components (count - i) bytes ≡ option_and_then (after_components (count - (i + 1))) (after_component bytes)
unfolding after_components
components_step count i bytes lt =
    let left : count - i ≡ suc (count - (i + 1)) = omega arith in
    rw left refl

-- no part is passed if none is left
pub records_end : (count i : ℕ) (bytes : List ℕ) → count ≤ i → after_records (count - i) bytes ≡ Some bytes
unfolding after_records
records_end count i bytes le = let none : count - i ≡ 0 = omega arith in rw none refl

pub components_end : (count i : ℕ) (bytes : List ℕ) → count ≤ i → after_components (count - i) bytes ≡ Some bytes
unfolding after_components
components_end count i bytes le = let none : count - i ≡ 0 = omega arith in rw none refl

-- facts about the first record, if the walk goes through all of them
pub record IsRecordThere (count i : ℕ) (bytes : List ℕ) : Type 0 where
  pub long : 2 ≤ length bytes
  pub whole : little_number 2 bytes ≤ length bytes
  pub others : IsSome (after_records (count - (i + 1)) (drop (little_number 2 bytes) bytes))

there_from : (short cut : Bool) (count i : ℕ) (bytes : List ℕ) → nat_lt (length bytes) 2 ≡ short → nat_lt (length bytes) (little_number 2 bytes) ≡ cut
    → IsSome (option_and_then (after_records (count - (i + 1))) (if short then None else (if cut then None else Some (drop (little_number 2 bytes) bytes)))) → IsRecordThere count i bytes
there_from true cut count i bytes s e h = absurd (cc)
there_from false true count i bytes s e h = absurd (cc)
there_from false false count i bytes s e h = record { long = ltb-false (length bytes) 2 s; whole = ltb-false (length bytes) (little_number 2 bytes) e; others = h }

pub record_there : (count i : ℕ) (bytes : List ℕ) → IsSome (after_records (count - i) bytes) → i < count → IsRecordThere count i bytes
record_there count i bytes h lt =
    there_from (nat_lt (length bytes) 2) (nat_lt (length bytes) (little_number 2 bytes)) count i bytes refl refl (subst IsSome (records_step count i bytes lt) h)

-- facts about the first component
pub record IsComponentThere (bytes : List ℕ) : Type 0 where
  pub long : 22 ≤ length bytes
  pub whole : 22 + slice_index bytes 21 ≤ length bytes

component_from : (cut : Bool) (bytes : List ℕ) → nat_lt (length bytes) (22 + slice_index bytes 21) ≡ cut → IsSome (if cut then None else Some (drop (22 + slice_index bytes 21) bytes)) → IsComponentThere bytes
component_from true bytes e h = absurd (cc)
component_from false bytes e h =
    let le = ltb-false (length bytes) (22 + slice_index bytes 21) e in
    record { long = omega arith; whole = le }

pub component_there : (bytes : List ℕ) → IsSome (after_component bytes) → IsComponentThere bytes
component_there bytes h = component_from (nat_lt (length bytes) (22 + slice_index bytes 21)) bytes refl h

-- the same of one in a walk, and of the others
pub record AreComponentsThere (count i : ℕ) (bytes : List ℕ) : Type 0 where
  pub first : IsSome (after_component bytes)
  pub others : IsSome (after_components (count - (i + 1)) (drop (22 + slice_index bytes 21) bytes))

components_from : (cut : Bool) (count i : ℕ) (bytes : List ℕ) → IsSome (option_and_then (after_components (count - (i + 1))) (if cut then None else Some (drop (22 + slice_index bytes 21) bytes)))
    → IsSome (if cut then None else Some (drop (22 + slice_index bytes 21) bytes)) × IsSome (after_components (count - (i + 1)) (drop (22 + slice_index bytes 21) bytes))
components_from true count i bytes h = absurd (cc)
components_from false count i bytes h = (refl, h)

pub components_there : (count i : ℕ) (bytes : List ℕ) → IsSome (after_components (count - i) bytes) → i < count → AreComponentsThere count i bytes
components_there count i bytes h lt =
    let both = components_from (nat_lt (length bytes) (22 + slice_index bytes 21)) count i bytes (subst IsSome (components_step count i bytes lt) h) in
    record { first = both.0; others = both.1 }

-- the bytes after some bytes are no longer than all
after_within : (cut : Bool) (n : ℕ) (bytes rest : List ℕ) → (if cut then None else Some (drop n bytes)) ≡ Some rest → length rest ≤ length bytes
after_within true n bytes rest e = absurd (cc)
after_within false n bytes rest e =
    let same : drop n bytes ≡ rest = cc in
    let left = length-drop n bytes in
    let all : length (drop n bytes) ≡ length rest = ap length same in
    omega (arith, left, all)

pub after_inside : (n : ℕ) (bytes rest : List ℕ) → bytes_after n bytes ≡ Some rest → length rest ≤ length bytes
after_inside n bytes rest e = after_within (nat_lt (length bytes) n) n bytes rest e

record_inside : (short : Bool) (n : ℕ) (bytes rest : List ℕ) → (if short then None else bytes_after n bytes) ≡ Some rest → length rest ≤ length bytes
record_inside true n bytes rest e = absurd (cc)
record_inside false n bytes rest e = after_inside n bytes rest e

records_then : (n : ℕ) (bytes rest : List ℕ) (first : Option (List ℕ)) → after_record bytes ≡ first → ((others : List ℕ) → after_records n others ≡ Some rest → length rest ≤ length others)
    → option_and_then (after_records n) first ≡ Some rest → length rest ≤ length bytes
records_then n bytes rest None f h e = absurd (cc)
records_then n bytes rest (Some others) f h e =
    let one = record_inside (nat_lt (length bytes) 2) (little_number 2 bytes) bytes others f in
    let more = h others e in
    omega (arith, one, more)

pub records_inside : (n : ℕ) (bytes rest : List ℕ) → after_records n bytes ≡ Some rest → length rest ≤ length bytes
unfolding after_records
records_inside zero bytes rest e = let same : bytes ≡ rest = cc in let all : length bytes ≡ length rest = ap length same in omega (arith, all)
records_inside (suc n) bytes rest e = records_then n bytes rest (after_record bytes) refl (λ others. records_inside n others rest) e

pub walk_inside : (n m : ℕ) (header rest records behind components : List ℕ) → Some rest ≡ bytes_after n header → length records ≤ length rest → Some behind ≡ after_records m records → Some components ≡ bytes_after 2 behind
    → length components ≤ length header
walk_inside n m header rest records behind components e le f g =
    let one = after_inside n header rest (sym e) in
    let two = records_inside m records behind (sym f) in
    let three = after_inside 2 behind components (sym g) in
    omega (arith, one, le, two, three)

-- each component takes 22 bytes
pub components_fit : (n : ℕ) (bytes : List ℕ) → IsSome (after_components n bytes) → 22 * n ≤ length bytes
components_fit zero bytes h = omega arith
components_fit (suc n) bytes h =
    let all : suc n - 0 ≡ suc n = omega arith in
    let less : suc n - 1 ≡ n = omega arith in
    let there = components_there (suc n) 0 bytes (rw all h) (omega arith) in
    let first = component_there bytes there.first in
    let left = length-drop (22 + slice_index bytes 21) bytes in
    let whole = first.whole in
    let others = components_fit n (drop (22 + slice_index bytes 21) bytes) (rw less at there.others) in
    omega (arith, left, whole, others)

pub ruleset record_walk = (records_step, records_end)

pub ruleset component_walk = (components_step, components_end)
