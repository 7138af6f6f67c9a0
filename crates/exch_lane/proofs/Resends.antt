-- A tick in which the open request is sent again.
use Rattle.std.proofs.Common.{◌≡◌, ◌∙◌, ◌+◌, ◌-◌, ◌≤◌, ◌<◌, ◌++◌, ℕ, Bool, true, true≢false, List, Option, Some, None, slice_set, inl, inr, refl, sym, ap, subst, arith}
use Rattle.std.specs.List.{AllByRecursion}
use Rattle.std.proofs.lemmas.Bool.{eq-eqb, le-leb}
use Rattle.std.proofs.lemmas.Bool.Decides.{eqb_tells}
use Rattle.pldm_exch.specs.Caller.{CallerState, IsCaller, Open, open_after_tick, rest_at, sends_at}
use Rattle.pldm_exch.specs.Rests.{rests_after_tick}
use Rattle.exch_lane.specs.Clocks.{MayBeat, clock_after_unit}
use Rattle.exch_lane.specs.Lanes.{LaneOf, asker_clock, taker_clock}
use Rattle.pldm_exch.specs.Sides.{AskerTick}
use Rattle.exch_lane.specs.Steps.{packets_of_message}
use Rattle.exch_lane.proofs.Below.{Laws}
use Rattle.exch_lane.proofs.Elapsed.{elapsed_counted}
use Rattle.exch_lane.proofs.Facts.{some_maps}
use Rattle.exch_lane.proofs.Ghosts.{Ghost, IsCurrent, IsLiving, IsOpenOf, LaneBody, LaneGood, asker_view, cell_with, ends_of, is_at, put, run_of, taker_view, view_of}
use Rattle.exch_lane.proofs.Growing.{current_grows, put_here}
use Rattle.exch_lane.proofs.Hearing.{caller_ticks}
use Rattle.exch_lane.proofs.Packets.{packets_grow, packets_later, request_sent}
use Rattle.exch_lane.proofs.Quiets.{heard_tick, heard_ticked}
use Rattle.exch_lane.proofs.Tags.{view_resends, view_ticks}
use Rattle.exch_lane.proofs.TickViews.{asker_hear_view, asker_send_view, rest_anew, rest_of_others, taker_tick_view}
use Rattle.exch_lane.proofs.Ticked.{IsAskedThen, made_same, tag_ticks, ticked_lane, ticks_body}
use Rattle.exch_lane.proofs.Views.{Exchange, IsExchange, TagOf, asker_at, resent, rested, taker_at, view_ticked}
use Rattle.exch_lane.proofs.Waits.{TicksRow}

-- its caller afterwards
abbrev pub sent_caller : CallerState → Open → CallerState
sent_caller c o = record c { rests = slice_set (rests_after_tick c.rests) o.tag 40; asked = Some (open_after_tick o) }

-- the age at which it is sent again
due_age : (o : Open) → sends_at (o.age + 1) ≡ true → o.age + 1 ≤ 12
due_age o due = elim (eqb_tells (o.age + 1) 6) [
  | inl first ↦ omega (arith, first.1)
  | inr other ↦ elim (eqb_tells (o.age + 1) 12) [
    | inl second ↦ omega (arith, second.1)
    | inr neither ↦ absurd (true≢false (sym due ∙ rw (other.0, neither.0) refl))
  ]
]

-- the open request of an exchange is due
pub record IsDue (w : LaneOf) (g : Ghost) (o : Open) (e : Exchange) : Type 0 where
  pub asked : w.asker.caller.asked ≡ Some o
  pub hears : w.asker.deaf ≡ 0
  pub current : g.current ≡ Some o.tag
  pub is : g.exchanges o.tag ≡ Some e
  pub of : IsOpenOf (asker_clock w) (ends_of w o.tag) o e
  pub due : sends_at (o.age + 1) ≡ true
  pub low : o.tag < 8

-- the lane and its ghost state after the tick
abbrev pub sent_lane : LaneOf → Bool → Open → LaneOf
sent_lane w taker o = ticked_lane w true taker (heard_tick w (sent_caller w.asker.caller o)) (w.packets ++ packets_of_message w.unit (w.now + 1) o.message)

abbrev pub sent_ghost : LaneOf → Ghost → Open → Exchange → Ghost
sent_ghost w g o e = record { exchanges = put o.tag (resent (w.now + 1) e) g.exchanges; current = g.current }

-- its tag
sent_view : (w : LaneOf) (g : Ghost) (taker : Bool) (o : Open) (e : Exchange) → MayBeat true (asker_clock w) → MayBeat taker (taker_clock w)
    → IsDue w g o e → LaneBody w g
    → IsExchange (record (view_ticked (view_of w g.current o.tag) true taker) { asker = rested (asker_at true (asker_view w.asker o.tag)) }) (resent (w.now + 1) e)
sent_view w g taker o e may allowed d h =
    let ticks : IsExchange (view_ticked (view_of w g.current o.tag) true taker) e = rw d.is at (view_ticks (g.exchanges o.tag) (view_of w g.current o.tag) true taker may allowed (h.tags o.tag d.low)) in
    let hears : (asker_at true (asker_view w.asker o.tag)).deaf ≡ 0 = rw (le-leb w.asker.deaf 1 (omega (arith, d.hears))) refl in
    let current : is_at g.current o.tag ≡ true = rw d.current (eq-eqb o.tag o.tag refl) in
    view_resends (view_ticked (view_of w g.current o.tag) true taker) e (o.age + 1) hears current (elapsed_counted (asker_clock w) e.first o.age may d.of.soon) (due_age o d.due) ticks

sent_here : (w : LaneOf) (g : Ghost) (taker : Bool) (o : Open) (e : Exchange) → MayBeat true (asker_clock w) → MayBeat taker (taker_clock w)
    → IsDue w g o e → LaneBody w g
    → TagOf (view_of (sent_lane w taker o) g.current o.tag) (put o.tag (resent (w.now + 1) e) g.exchanges o.tag)
sent_here w g taker o e may allowed d h =
    let anew : rest_at (sent_caller w.asker.caller o) o.tag ≡ 40 = rest_anew w.asker.caller.rests o.tag h.caller.rests d.low in
    let same : view_of (sent_lane w taker o) g.current o.tag ≡ record (view_ticked (view_of w g.current o.tag) true taker) { asker = rested (asker_at true (asker_view w.asker o.tag)) }
    = made_same (w.now + 1) (clock_after_unit true (asker_clock w)).since_miss (clock_after_unit taker (taker_clock w)).since_miss (ends_of w o.tag) (asker_view (heard_tick w (sent_caller w.asker.caller o)) o.tag)
    (rested (asker_at true (asker_view w.asker o.tag))) (taker_view (sent_lane w taker o).taker o.tag) (taker_at taker (taker_view w.taker o.tag)) (is_at g.current o.tag) (asker_send_view w.asker o.tag (sent_caller w.asker.caller o) (omega (arith, d.hears)) anew)
    (taker_tick_view taker w.taker o.tag) in
    rw (eq-eqb o.tag o.tag refl) (subst (λ v. IsExchange v (resent (w.now + 1) e)) (sym same) (sent_view w g taker o e may allowed d h))

sent_tags : (w : LaneOf) (g : Ghost) (taker : Bool) (o : Open) (e : Exchange) → MayBeat true (asker_clock w) → MayBeat taker (taker_clock w)
    → IsDue w g o e → LaneBody w g
    → (t : ℕ) → t < 8 → TagOf (view_of (sent_lane w taker o) g.current t) (put o.tag (resent (w.now + 1) e) g.exchanges t)
sent_tags w g taker o e may allowed d h t lt = elim (eqb_tells t o.tag) [
  | inl same ↦ subst (λ t. TagOf (view_of (sent_lane w taker o) g.current t) (put o.tag (resent (w.now + 1) e) g.exchanges t)) (sym same.1) (sent_here w g taker o e may allowed d h)
  | inr other ↦
      let falls : rest_at (sent_caller w.asker.caller o) t ≡ rest_at w.asker.caller t - 1 = rest_of_others w.asker.caller.rests o.tag t other.1 in
      rw other.0
      (tag_ticks w g true taker (heard_tick w (sent_caller w.asker.caller o)) (w.packets ++ packets_of_message w.unit (w.now + 1) o.message) t may allowed h lt
      (asker_hear_view w.asker t (sent_caller w.asker.caller o) (omega (arith, d.hears)) falls))
]

-- all packets
sent_packets : (w : LaneOf) (g : Ghost) (o : Open) (e : Exchange) → IsDue w g o e → LaneBody w g → e.last ≤ w.now
    → AllByRecursion (IsLiving w.unit (w.now + 1) w.asker_eid w.taker_eid (put o.tag (resent (w.now + 1) e) g.exchanges)) (w.packets ++ packets_of_message w.unit (w.now + 1) o.message)
sent_packets w g o e d h past =
    let old = packets_grow w.unit (w.now + 1) w.asker_eid w.taker_eid g.exchanges o.tag e (w.now + 1) e.reply w.packets d.is (omega arith) (λ r is. is) (packets_later w.unit w.now w.asker_eid w.taker_eid g.exchanges w.packets h.packets) in
    subst (λ m. AllByRecursion (IsLiving w.unit (w.now + 1) w.asker_eid w.taker_eid (put o.tag (resent (w.now + 1) e) g.exchanges)) (w.packets ++ packets_of_message w.unit (w.now + 1) m)) (sym d.of.message)
    (request_sent w.unit (w.now + 1) w.asker_eid w.taker_eid (put o.tag (resent (w.now + 1) e) g.exchanges) o.tag (resent (w.now + 1) e) w.packets d.low (put_here o.tag (resent (w.now + 1) e) g.exchanges) (omega arith) old)

sent_asked : (w : LaneOf) (g : Ghost) (o : Open) (e : Exchange) → MayBeat true (asker_clock w) → IsDue w g o e
    → IsAskedThen w true (heard_tick w (sent_caller w.asker.caller o)) (sent_ghost w g o e) (open_after_tick o)
sent_asked w g o e may d = record {
  hears = refl;
  current = d.current;
  of = rw (eq-eqb o.tag o.tag refl) (record {
    identifier = d.of.identifier;
    kind = d.of.kind;
    command = d.of.command;
    message = d.of.message;
    soon = elapsed_counted (asker_clock w) e.first o.age may d.of.soon;
  });
}

-- the cell stays as it is
cell_resent : (e : Exchange) (now : ℕ) (live : Bool) (o : Option (List ℕ)) → cell_with e live o ≡ cell_with (resent now e) live o
cell_resent e now live None = refl
cell_resent e now live (Some r) = refl

sent_runs : (w : LaneOf) (g : Ghost) (taker : Bool) (o : Open) (e : Exchange) → IsDue w g o e
    → Some (run_of w g) ≡ Some (run_of (sent_lane w taker o) (sent_ghost w g o e))
sent_runs w g taker o e d =
    rw (d.asked, d.current, d.is, eq-eqb o.tag o.tag refl) (ap (λ cell. Some (record { cell = cell; entries = w.entries })) (cell_resent e (w.now + 1) true e.reply))

past_of : (w : LaneOf) (g : Ghost) (o : Open) (e : Exchange) → IsDue w g o e → LaneBody w g → e.last ≤ w.now
past_of w g o e d h = let k : IsExchange (view_of w g.current o.tag) e = rw d.is at (h.tags o.tag d.low) in k.span.past

pub resends : (l : Laws) (w : LaneOf) (g : Ghost) (taker : Bool) (o : Open) (e : Exchange) → MayBeat true (asker_clock w)
    → MayBeat taker (taker_clock w) → IsDue w g o e → LaneGood w g
    → TicksRow w g true taker (AskerTick.Resends (heard_tick w (sent_caller w.asker.caller o)) o.message)
resends l w g taker o e may allowed d h =
    let lawful : IsCaller (sent_caller w.asker.caller o) = rw d.due at (caller_ticks l w.asker.caller (Some o) d.asked h.body.caller) in
    record {
      ghost = sent_ghost w g o e;
      good = record {
        body = ticks_body w g true taker (heard_tick w (sent_caller w.asker.caller o)) (put o.tag (resent (w.now + 1) e) g.exchanges) (w.packets ++ packets_of_message w.unit (w.now + 1) o.message) may allowed h.body
            (heard_ticked w (sent_caller w.asker.caller o) lawful h.body.own h.body.peer h.body.replies)
            (sent_tags w g taker o e may allowed d h.body)
            (sent_packets w g o e d h.body (past_of w g o e d h.body))
            (sent_asked w g o e may d)
            (some_maps g.current (IsCurrent g) (IsCurrent (sent_ghost w g o e)) h.body.current (λ t k. current_grows g g.current o.tag (resent (w.now + 1) e) t k));
        last = λ z. h.last d.hears;
        quiet = λ z. rw d.current refl;
      };
      runs = sent_runs w g taker o e d;
    }
