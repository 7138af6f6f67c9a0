-- The effect of a tick on an end is its effect on each tag.
use Rattle.std.proofs.Common.{◌≡◌, ◌≢◌, ◌∙◌, ◌-◌, ◌≤◌, ◌<◌, ℕ, zero, suc, Bool, true, false, List, [], ◌∷◌, length, map, get_or, slice_set, inl, inr, refl, arith}
use Rattle.std.proofs.lemmas.Bool.{cases_lt, le-leb, lt-leb}
use Rattle.std.proofs.lemmas.List.{get_or-set_other, get_or-set_same, length-map}
use Rattle.mctp_reasm.specs.Held.{held_tick}
use Rattle.pldm_exch.specs.Caller.{CallerState, rest_at}
use Rattle.pldm_exch.specs.Kept.{kept_tick}
use Rattle.pldm_exch.specs.Rests.{AreRests, rests_after_tick}
use Rattle.pldm_exch.specs.Ends.{AskerOf, TakerOf}
use Rattle.pldm_exch.specs.Sides.{taker_tick}
use Rattle.exch_lane.proofs.Ghosts.{asker_view, taker_view}
use Rattle.exch_lane.proofs.Lifts.{at_map}
use Rattle.exch_lane.proofs.Views.{asker_at, rested, taker_at}

-- the taker
pub taker_tick_view : (counts : Bool) (a : TakerOf) (t : ℕ) → taker_view (taker_tick counts a) t ≡ taker_at counts (taker_view a t)
taker_tick_view false a t = refl
taker_tick_view true a t = elim (cases_lt 1 a.deaf) [
  | inl more ↦ rw (lt-leb a.deaf 1 more) refl
  | inr less ↦ rw (le-leb a.deaf 1 less, at_map kept_tick refl a.kept t, at_map held_tick refl a.requests t) refl
]

pub taker_tick_kept : (counts : Bool) (a : TakerOf) → length a.kept ≡ 8 → length (taker_tick counts a).kept ≡ 8
taker_tick_kept false a h = h
taker_tick_kept true a h = elim (cases_lt 1 a.deaf) [ inl more ↦ rw (lt-leb a.deaf 1 more) h | inr less ↦ rw (le-leb a.deaf 1 less) (length-map a.kept kept_tick ∙ h) ]

pub taker_tick_requests : (counts : Bool) (a : TakerOf) → length a.requests ≡ 8 → length (taker_tick counts a).requests ≡ 8
taker_tick_requests false a h = h
taker_tick_requests true a h = elim (cases_lt 1 a.deaf) [ inl more ↦ rw (lt-leb a.deaf 1 more) h | inr less ↦ rw (le-leb a.deaf 1 less) (length-map a.requests held_tick ∙ h) ]

-- rests
pub rest_falls : (rests : List ℕ) (t : ℕ) → get_or (rests_after_tick rests) t 0 ≡ get_or rests t 0 - 1
rest_falls [] t = refl
rest_falls (r ∷ rs) zero = refl
rest_falls (r ∷ rs) (suc t) = rest_falls rs t

pub rest_anew : (rests : List ℕ) (t : ℕ) → AreRests rests → t < 8 → get_or (slice_set (rests_after_tick rests) t 40) t 0 ≡ 40
rest_anew rests t h lt = let long = length-map rests (λ rest. rest - 1) in get_or-set_same (rests_after_tick rests) t 40 0 (omega (arith, h.0, lt, long))

pub rest_of_others : (rests : List ℕ) (tag t : ℕ) → t ≢ tag → get_or (slice_set (rests_after_tick rests) tag 40) t 0 ≡ get_or rests t 0 - 1
rest_of_others rests tag t other = get_or-set_other (rests_after_tick rests) tag t 40 0 other ∙ rest_falls rests t

-- the asker: it waits, or it isn't deaf and one tag's rest may start again
pub asker_wait_view : (a : AskerOf) (t : ℕ) → 1 < a.deaf → asker_view (record a { deaf = a.deaf - 1 }) t ≡ asker_at true (asker_view a t)
asker_wait_view a t more = rw (lt-leb a.deaf 1 more) refl

pub asker_hear_view : (a : AskerOf) (t : ℕ) (c : CallerState) → a.deaf ≤ 1 → rest_at c t ≡ rest_at a.caller t - 1
    → asker_view (record a { deaf = 0; caller = c; replies = map held_tick a.replies }) t ≡ asker_at true (asker_view a t)
asker_hear_view a t c less rest = rw (le-leb a.deaf 1 less, rest, at_map held_tick refl a.replies t) refl

pub asker_send_view : (a : AskerOf) (t : ℕ) (c : CallerState) → a.deaf ≤ 1 → rest_at c t ≡ 40
    → asker_view (record a { deaf = 0; caller = c; replies = map held_tick a.replies }) t ≡ rested (asker_at true (asker_view a t))
asker_send_view a t c less rest = rw (le-leb a.deaf 1 less, rest, at_map held_tick refl a.replies t) refl
