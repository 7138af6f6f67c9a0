-- The facts about an asker that isn't deaf after a tick.
use Rattle.std.proofs.Common.{◌≡◌, ◌∙◌, ◌+◌, ◌≤◌, ◌<◌, ◌==◌, ℕ, Bool, true, false, true≢false, Option, Some, None, IfSome, is_none, inl, inr, refl, sym, ap, subst, arith}
use Rattle.std.proofs.lemmas.Bool.{cases_lt, eqb-true, ne_eqb}
use Rattle.pldm_exch.specs.Caller.{CallerState, IsCaller, IsOpen, Open, new_caller, is_quiet, last_tag, open_after_tick, rest_at, sends_at, caller_tick_for}
use Rattle.pldm_exch.specs.Laws.{CallerStep}
use Rattle.pldm_exch.specs.Rests.{rests_after_tick}
use Rattle.exch_lane.specs.Clocks.{MayBeat}
use Rattle.exch_lane.specs.Lanes.{LaneOf, asker_clock, taker_clock}
use Rattle.pldm_exch.specs.Sides.{AskerTick}
use Rattle.exch_lane.proofs.Below.{Laws}
use Rattle.exch_lane.proofs.Facts.{bool_cases, some_maps}
use Rattle.exch_lane.proofs.Ghosts.{Ghost, IsAskedOf, IsCurrent, LaneGood, cell_from}
use Rattle.exch_lane.proofs.Lifts.{no_rest}
use Rattle.exch_lane.proofs.Quiets.{heard_tick, heard_ticked, none_current, open_counts, quiet_stays, rest_over, rested_caller, zero_falls}
use Rattle.exch_lane.proofs.Restarts.{cell_closes, there_at}
use Rattle.exch_lane.proofs.TickViews.{asker_hear_view, rest_falls}
use Rattle.exch_lane.proofs.Waits.{IsWaiting, TicksRow, waiting_body}

-- its caller stays lawful
pub caller_ticks : (l : Laws) (c : CallerState) (o : Option Open) → c.asked ≡ o → IsCaller c → IsCaller (caller_tick_for c o).0
caller_ticks l c o is h = subst (λ o. IsCaller (caller_tick_for c o).0) is (l.callers.after c CallerStep.Tick h)

-- no request is open
fresh_quiet : (c : CallerState) (own peer : ℕ) → c ≡ new_caller own peer → is_quiet (rested_caller c) ≡ true
fresh_quiet c own peer is = subst (λ c. is_quiet (rested_caller c) ≡ true) (sym is) refl

fresh_rest : (c : CallerState) (own peer t : ℕ) → c ≡ new_caller own peer → t < 8 → rest_at (rested_caller c) t ≡ 0
fresh_rest c own peer t is lt = zero_falls c t (subst (λ c. rest_at c t ≡ 0) (sym is) (no_rest own peer t lt))

rested_last : (w : LaneOf) (g : Ghost) → is_quiet (rested_caller w.asker.caller) ≡ false → LaneGood w g → IfSome g.current (λ t. t ≡ last_tag w.asker.caller)
rested_last w g q h = elim (cases_lt 0 w.asker.deaf) [
  | inl deaf ↦ absurd (true≢false (sym (fresh_quiet w.asker.caller w.asker_eid w.taker_eid (h.body.deaf deaf)) ∙ q))
  | inr hears ↦ h.last (omega (arith, hears))
]

rested_unquiet : (w : LaneOf) (g : Ghost) → w.asker.caller.asked ≡ None → is_quiet (rested_caller w.asker.caller) ≡ false → LaneGood w g → is_none g.current ≡ false
rested_unquiet w g none q h = elim (cases_lt 0 w.asker.deaf) [
  | inl deaf ↦ absurd (true≢false (sym (fresh_quiet w.asker.caller w.asker_eid w.taker_eid (h.body.deaf deaf)) ∙ q))
  | inr hears ↦ elim (bool_cases (is_quiet w.asker.caller)) [
    | inl quiet ↦ absurd (true≢false (sym (quiet_stays w.asker.caller none quiet) ∙ q))
    | inr busy ↦ sym (h.quiet (omega (arith, hears))) ∙ busy
  ]
]

rested_over : (w : LaneOf) (g : Ghost) → w.asker.caller.asked ≡ None → is_quiet (rested_caller w.asker.caller) ≡ true → LaneGood w g
    → IfSome g.current (λ t. rest_at (rested_caller w.asker.caller) t ≡ 0)
rested_over w g none q h = elim (cases_lt 0 w.asker.deaf) [
  | inl deaf ↦ some_maps g.current (IsCurrent g) (λ t. rest_at (rested_caller w.asker.caller) t ≡ 0) h.body.current (λ t k. fresh_rest w.asker.caller w.asker_eid w.taker_eid t (h.body.deaf deaf) k.low)
  | inr hears ↦ elim (bool_cases (is_quiet w.asker.caller)) [
    | inl quiet ↦ none_current w g (λ t. rest_at (rested_caller w.asker.caller) t ≡ 0) (omega (arith, hears)) quiet h
    | inr busy ↦ some_maps g.current (λ t. t ≡ last_tag w.asker.caller) (λ t. rest_at (rested_caller w.asker.caller) t ≡ 0) (h.last (omega (arith, hears))) (λ t same. rw same (rest_over w.asker.caller none busy q))
  ]
]

pub rested_waits : (l : Laws) (w : LaneOf) (g : Ghost) → w.asker.deaf ≤ 1 → w.asker.caller.asked ≡ None → LaneGood w g
    → IsWaiting w g true (heard_tick w (rested_caller w.asker.caller))
rested_waits l w g less none h = record {
  ticked = heard_ticked w (rested_caller w.asker.caller) (caller_ticks l w.asker.caller None none h.body.caller) h.body.own h.body.peer h.body.replies;
  view = λ t lt. asker_hear_view w.asker t (rested_caller w.asker.caller) less (rest_falls w.asker.caller.rests t);
  asked = rw none tt;
  last = λ z q. rested_last w g q h;
  unquiet = λ z q. rested_unquiet w g none q h;
  rested = λ z q. rested_over w g none q h;
}

-- the open request keeps waiting
abbrev pub older_caller : CallerState → Open → CallerState
older_caller c o = record c { rests = rests_after_tick c.rests; asked = Some (open_after_tick o) }

pub older_waits : (l : Laws) (w : LaneOf) (g : Ghost) (o : Open) → MayBeat true (asker_clock w) → w.asker.caller.asked ≡ Some o → IsAskedOf w g o
    → sends_at (o.age + 1) ≡ false → (o.age + 1 == 18) ≡ false → LaneGood w g
    → IsWaiting w g true (heard_tick w (older_caller w.asker.caller o))
older_waits l w g o may is k not_due not_over h =
    let lawful : IsCaller (older_caller w.asker.caller o) = rw (not_due, not_over) at (caller_ticks l w.asker.caller (Some o) is h.body.caller) in
    record {
      ticked = heard_ticked w (older_caller w.asker.caller o) lawful h.body.own h.body.peer h.body.replies;
      view = λ t lt. asker_hear_view w.asker t (older_caller w.asker.caller o) (omega (arith, k.hears)) (rest_falls w.asker.caller.rests t);
      asked = record { hears = refl; current = k.current; of = open_counts (asker_clock w) (record { unit = w.unit; asker = w.asker_eid; taker = w.taker_eid; tag = o.tag }) o (g.exchanges o.tag) may k.of };
      last = λ z q. h.last k.hears;
      unquiet = λ z q. rw k.current refl;
      rested = λ z q. absurd (true≢false (sym q));
    }

-- the open request is given up
abbrev pub over_caller : CallerState → CallerState
over_caller c = record c { rests = rests_after_tick c.rests; asked = None }

over_busy : (c : CallerState) (o : Open) → IsOpen c o → (o.age + 1 ≡ 18) → is_quiet (over_caller c) ≡ false
over_busy c o h over =
    let rest = h.rest in
    let falls = rest_falls c.rests (last_tag c) in
    let same : rest_at c (last_tag c) ≡ rest_at c o.tag = ap (rest_at c) (sym h.tag) in
    let left : (rest_at (over_caller c) (last_tag c) == 0) ≡ false = ne_eqb (rest_at (over_caller c) (last_tag c)) 0 (λ z. absurd (omega (arith, rest, falls, same, z, over))) in
    rw (h.unanswered, left) refl

over_waits : (l : Laws) (w : LaneOf) (g : Ghost) (o : Open) → w.asker.caller.asked ≡ Some o → IsAskedOf w g o → IsOpen w.asker.caller o
    → sends_at (o.age + 1) ≡ false → (o.age + 1 == 18) ≡ true → LaneGood w g
    → IsWaiting w g true (heard_tick w (over_caller w.asker.caller))
over_waits l w g o is k open_is not_due over h =
    let lawful : IsCaller (over_caller w.asker.caller) = rw (not_due, over) at (caller_ticks l w.asker.caller (Some o) is h.body.caller) in
    let busy = over_busy w.asker.caller o open_is (eqb-true (o.age + 1) 18 over) in
    record {
      ticked = heard_ticked w (over_caller w.asker.caller) lawful h.body.own h.body.peer h.body.replies;
      view = λ t lt. asker_hear_view w.asker t (over_caller w.asker.caller) (omega (arith, k.hears)) (rest_falls w.asker.caller.rests t);
      asked = tt;
      last = λ z q. h.last k.hears;
      unquiet = λ z q. rw k.current refl;
      rested = λ z q. absurd (true≢false (sym q ∙ busy));
    }

pub gives_up : (l : Laws) (w : LaneOf) (g : Ghost) (taker : Bool) (o : Open) → MayBeat true (asker_clock w) → MayBeat taker (taker_clock w)
    → w.asker.caller.asked ≡ Some o → IsAskedOf w g o → IsOpen w.asker.caller o → sends_at (o.age + 1) ≡ false → (o.age + 1 == 18) ≡ true
    → LaneGood w g
    → TicksRow w g true taker (AskerTick.GivesUp (heard_tick w (over_caller w.asker.caller)))
gives_up l w g taker o may allowed is k open_is not_due over h =
    let waits = over_waits l w g o is k open_is not_due over h in
    let busy = over_busy w.asker.caller o open_is (eqb-true (o.age + 1) 18 over) in
    record {
      ghost = g;
      good = record {
        body = waiting_body w g true taker (heard_tick w (over_caller w.asker.caller)) may allowed h.body waits;
        last = λ z. h.last k.hears;
        quiet = λ z. busy ∙ sym (waits.unquiet z busy);
      };
      runs = rw (is, k.current) (cell_closes (record { cell = cell_from true (g.exchanges o.tag); entries = w.entries }) (g.exchanges o.tag) (there_at g o.tag k.current h.body.current));
    }
