-- Consecutive components in a file of which only the length is known.
use Rattle.std.proofs.Common.{◌≡◌, ◌≢◌, ℕ, zero, suc, ◌+◌, ◌-◌, ◌<◌, ◌≤◌, List, [], ◌∷◌, Some, None, Ok, Err, IsOk, IsSome, length, drop, refl, arith, slice_index}
use Rattle.fw_package.specs.Components.{PlaceOf}
use Rattle.fw_package.specs.Layout.{after_component}
use Rattle.fw_package.specs.Outlines.{place_within, places_of}
use Rattle.fw_package.specs.Views.{ArePlaces, list_or_empty}
use Rattle.fw_package.specs.declared.fault.PackageFault.{PackageFault}
use Rattle.fw_package.proofs.Rows.{count_first, fault_of, first_left, one_more, read_refused, read_whole}
use Rattle.fw_package.proofs.Walks.{components_there}

pub places_step : (long : ℕ) (count i : ℕ) (bytes : List ℕ) (c : PlaceOf) → place_within long bytes ≡ Ok c → i < count
    → fault_of (places_of long (count - i) bytes) ≡ fault_of (places_of long (count - (i + 1)) (drop (22 + slice_index bytes 21) bytes))
unfolding places_of
places_step long count i bytes c e lt =
    let left : count - i ≡ suc (count - (i + 1)) = omega arith in
    rw (left, e) (one_more c (places_of long (count - (i + 1)) (drop (22 + slice_index bytes 21) bytes)))

pub places_stop : (long : ℕ) (count i : ℕ) (bytes : List ℕ) (e : PackageFault) → place_within long bytes ≡ Err e → i < count
    → fault_of (places_of long (count - i) bytes) ≡ Some e
unfolding places_of
places_stop long count i bytes e h lt =
    let left : count - i ≡ suc (count - (i + 1)) = omega arith in
    rw (left, h) refl

pub places_done : (long : ℕ) (count i : ℕ) (bytes : List ℕ) → count ≤ i → fault_of (places_of long (count - i) bytes) ≡ None
unfolding places_of
places_done long count i bytes le = let none : count - i ≡ 0 = omega arith in rw none refl

pub places_whole : (long : ℕ) (count : ℕ) (bytes : List ℕ) → fault_of (places_of long count bytes) ≡ None
    → places_of long count bytes ≡ Ok (list_or_empty (places_of long count bytes))
places_whole long count bytes h = (read_whole (places_of long count bytes) h).0

pub places_refused : (long : ℕ) (count : ℕ) (bytes : List ℕ) (e : PackageFault) → fault_of (places_of long count bytes) ≡ Some e
    → places_of long count bytes ≡ Err e
places_refused long count bytes e h = read_refused (places_of long count bytes) e h

pub ruleset placing = (places_step, places_stop, places_done, places_whole, places_refused, components_there)

pub places_counted : (long : ℕ) (count : ℕ) (bytes : List ℕ) → IsOk (places_of long count bytes) → length (list_or_empty (places_of long count bytes)) ≡ count
unfolding places_of
places_counted long zero bytes ok = refl
places_counted long (suc n) bytes ok =
    count_first (place_within long bytes) (places_of long n (drop (22 + slice_index bytes 21) bytes)) n
    (places_counted long n (drop (22 + slice_index bytes 21) bytes)) ok

pub places_count : (long : ℕ) (count : ℕ) (bytes : List ℕ) → ArePlaces long count bytes → length (list_or_empty (places_of long count bytes)) ≡ count
places_count long count bytes are = places_counted long count bytes are.read

-- the first component left, and the others
pub record PlaceLeft (long : ℕ) (count : ℕ) (bytes : List ℕ) : Type 0 where
  pub there : IsSome (after_component bytes)
  pub read : IsOk (place_within long bytes)
  pub list : (c : PlaceOf) → place_within long bytes ≡ Ok c → list_or_empty (places_of long count bytes) ≡ c ∷ list_or_empty (places_of long (count - 1) (drop (22 + slice_index bytes 21) bytes))
  pub others : ArePlaces long (count - 1) (drop (22 + slice_index bytes 21) bytes)
  pub tail : drop 1 (list_or_empty (places_of long count bytes)) ≡ list_or_empty (places_of long (count - 1) (drop (22 + slice_index bytes 21) bytes))

pub place_from : (long : ℕ) (count i : ℕ) (bytes : List ℕ) → i < count → ArePlaces long (count - i) bytes → PlaceLeft long (count - i) bytes
unfolding places_of
place_from long count i bytes lt are =
    let left : count - i ≡ suc (count - (i + 1)) = omega arith in
    let less : count - i - 1 ≡ count - (i + 1) = omega arith in
    let walk = components_there count i bytes are.walked lt in
    let first = first_left (place_within long bytes) (places_of long (count - (i + 1)) (drop (22 + slice_index bytes 21) bytes)) (rw left at are.read) in
    record {
      there = walk.first;
      read = first.read;
      list = rw (less, left) first.list;
      others = rw less (record { walked = walk.others; read = first.others });
      tail = rw (less, left) first.tail;
    }

pub place_left : (long : ℕ) (count : ℕ) (bytes : List ℕ) → ArePlaces long count bytes → count ≢ 0 → PlaceLeft long count bytes
place_left long zero bytes are there = absurd (omega (arith, there))
place_left long (suc n) bytes are there = let all : suc n - 0 ≡ suc n = omega arith in rw all at (place_from long (suc n) 0 bytes (omega arith) (rw all are))

pub places_none : (long : ℕ) (count : ℕ) (bytes : List ℕ) → count ≡ 0 → list_or_empty (places_of long count bytes) ≡ []
unfolding places_of
places_none long count bytes e = rw e refl

pub ruleset places_next = (place_left, places_none)
