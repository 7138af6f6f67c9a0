-- A packet among those that were sent has a number there.
use Rattle.std.proofs.Common.{◌≡◌, ◌⊎◌, ◌∙◌, ◌+◌, ◌<◌, ◌≤◌, ℕ, zero, suc, true, false, if◌then◌else◌, length, nat_lt, List, [], ◌∷◌, Some, None, slice_get, inl, inr, refl, ap, arith}
use Rattle.std.specs.List.{Contains, filter, slice_index_or}
use Rattle.std.proofs.lemmas.Bool.{le-ltb}
use Rattle.exch_lane.specs.Lanes.{Sent, lives_until, item_numbered}
use Rattle.exch_lane.specs.Steps.{sent_at}
use Rattle.fw_steps.specs.Alone.{is_for}
use Rattle.fw_steps.specs.Steps.{packet_fault}
use Rattle.fw_steps.specs.Worlds.{sent_now}
use Rattle.fw_steps.proofs.LinksAreLanes.Sorted.{numbered_at}

-- A packet of a list is the first, or one of the rest.
pub contains_cases : (q p : Sent) (qs : List Sent) → Contains (q ∷ qs) p → (q ≡ p) ⊎ Contains qs p
contains_cases q p qs c = by_place c.0 c.1 c.2
  where
    by_place : (k : ℕ) → k < length (q ∷ qs) → slice_index_or (q ∷ qs) k p ≡ p → (q ≡ p) ⊎ Contains qs p
    by_place zero lt e = inl e
    by_place (suc k) lt e = inr (k, omega (arith, lt), e)

contains_later : (q p : Sent) (qs : List Sent) → Contains qs p → Contains (q ∷ qs) p
contains_later q p qs c = let lt = c.1 in (suc c.0, omega (arith, lt), c.2)

-- A packet for a device that is sent now is among those that are sent to the device now.
pub contained_for : (now eid : ℕ) (packets : List (List ℕ)) (p : Sent) → is_for eid p.bytes ≡ true → Contains (sent_now now packets) p → Contains (sent_now now (filter (is_for eid) packets)) p
contained_for now eid [] p is c = let lt = c.1 in absurd (omega (arith, lt))
contained_for now eid (q ∷ qs) p is c = elim (contains_cases (sent_at now q) p (sent_now now qs) c) [
  | inl e ↦
      let same : q ≡ p.bytes = ap (λ (x : Sent). x.bytes) e in
      let here : is_for eid q ≡ true = ap (is_for eid) same ∙ is in
      rw here (zero, omega arith, e)
  | inr rest ↦ elim (is_for eid q) as (λ b. Contains (sent_now now (if b then q ∷ filter (is_for eid) qs else filter (is_for eid) qs)) p) [
    | true ↦ contains_later (sent_at now q) p (sent_now now (filter (is_for eid) qs)) (contained_for now eid qs p is rest)
    | false ↦ contained_for now eid qs p is rest
  ]
]

-- a packet's number in a list
pub record HasNumber (p : Sent) (ps : List Sent) : Type 0 where
  pub number : ℕ
  pub at : item_numbered ps number ≡ Some p

get_contained : (p : Sent) (ps : List Sent) (k : ℕ) → k < length ps → slice_index_or ps k p ≡ p → slice_get ps k ≡ Some p
get_contained p [] k lt e = absurd (omega (arith, lt))
get_contained p (q ∷ ps) zero lt e = ap Some e
get_contained p (q ∷ ps) (suc k) lt e = get_contained p ps k (omega (arith, lt)) e

pub number_contained : (p : Sent) (ps : List Sent) → Contains ps p → HasNumber p ps
number_contained p ps c = record { number = suc c.0; at = numbered_at ps c.0 ∙ get_contained p ps c.0 c.1 c.2 }

-- A packet that lives may be delivered.
pub living : (now : ℕ) (p : Sent) → now ≤ p.date + 8 → packet_fault now (Some p) ≡ None
living now p soon = let b : nat_lt (lives_until p) now ≡ false = le-ltb (lives_until p) now soon in rw b refl
