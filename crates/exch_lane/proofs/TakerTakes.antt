-- A complete request arrives at the taker: it is repeated, or it is new and is that of the cell.
use Rattle.std.proofs.Common.{◌≡◌, ◌∙◌, ◌+◌, ◌≤◌, ◌<◌, ◌++◌, ◌∷◌, [], ℕ, List, Option, Some, None, IsSomeAnd, length, slice_set, inl, inr, refl, sym, subst, arith}
use Rattle.pldm_base.specs.Limits.{reply_limit}
use Rattle.std.specs.List.{AllByRecursion}
use Rattle.std.proofs.lemmas.Bool.{eq-eqb}
use Rattle.std.proofs.lemmas.Bool.Decides.{eqb_tells}
use Rattle.std.proofs.lemmas.Cmp.{nat_list_eq_equiv}
use Rattle.pldm_exch.specs.Kept.{KeptAnswer, kept_at}
use Rattle.exch_lane.specs.Cells.{cell_take}
use Rattle.exch_lane.specs.Lanes.{LaneEntryOf, LaneOf, asker_clock, taker_clock}
use Rattle.pldm_exch.specs.Ends.{TakerOf}
use Rattle.exch_lane.specs.Steps.{packets_of_message}
use Rattle.exch_lane.proofs.Deliveries.{new_is_unanswered, unanswered_is_current, view_takes}
use Rattle.exch_lane.proofs.Facts.{some_maps}
use Rattle.exch_lane.proofs.Ghosts.{Ghost, GoesOn, IsAskedOf, IsCurrent, IsLiving, LaneGood, ends_of, put, run_of, view_of}
use Rattle.exch_lane.proofs.Growing.{asked_grows, current_grows, current_is, put_here}
use Rattle.exch_lane.proofs.Lifts.{set_here, set_length, set_there}
use Rattle.exch_lane.proofs.Packets.{packets_grow, reply_sent}
use Rattle.exch_lane.proofs.TakerHears.{taker_holds, taker_turned, taker_turns}
use Rattle.exch_lane.proofs.Views.{Exchange, IsExchange, IsKept, TagOf, answered_with, reply_of}

-- a packet of the request of an exchange arrived at the taker, which isn't deaf
pub record RequestCame (w : LaneOf) (g : Ghost) (tag : ℕ) (e : Exchange) : Type 0 where
  pub low : tag < 8
  pub is : g.exchanges tag ≡ Some e
  pub hears : w.taker.deaf ≡ 0
  pub soon : w.now ≤ e.last + 8

-- the exchange of the tag
pub came_of : (w : LaneOf) (g : Ghost) (tag : ℕ) (e : Exchange) → tag < 8 → g.exchanges tag ≡ Some e → LaneGood w g → IsExchange (view_of w g.current tag) e
came_of w g tag e low is h = rw is at (h.body.tags tag low)

-- its kept answer is sent again
again_from : (w : LaneOf) (g : Ghost) (tag : ℕ) (e : Exchange) (k : KeptAnswer) (o : Option (List ℕ)) → e.reply ≡ o
    → IsSomeAnd o (λ r. k.reply ≡ reply_of (ends_of w tag) e r) → RequestCame w g tag e → LaneGood w g
    → AllByRecursion (IsLiving w.unit w.now w.asker_eid w.taker_eid g.exchanges) (w.packets ++ packets_of_message w.unit w.now k.reply)
again_from w g tag e k None is reply c h = absurd reply
again_from w g tag e k (Some r) is reply c h =
    subst (λ m. AllByRecursion (IsLiving w.unit w.now w.asker_eid w.taker_eid g.exchanges) (w.packets ++ packets_of_message w.unit w.now m)) (sym reply)
    (reply_sent w.unit w.now w.asker_eid w.taker_eid g.exchanges tag e r w.packets c.low c.is is c.soon h.body.packets)

pub taker_repeats : (w : LaneOf) (g : Ghost) (tag : ℕ) (e : Exchange) (k : KeptAnswer) → IsKept (taker_clock w) (ends_of w tag) e k → RequestCame w g tag e → LaneGood w g
    → GoesOn (taker_turned w (record w.taker { requests = slice_set w.taker.requests tag None }) (w.packets ++ packets_of_message w.unit w.now k.reply) w.entries) (Some (run_of w g))
taker_repeats w g tag e k kept c h = taker_holds w g tag e None (w.packets ++ packets_of_message w.unit w.now k.reply) c.low c.is c.hears tt (again_from w g tag e k e.reply refl kept.reply c h) h

-- the taker after it took a new request
abbrev pub taker_after : LaneOf → ℕ → Exchange → List ℕ → TakerOf
taker_after w tag e reply =
    record w.taker {
      kept = slice_set w.taker.kept tag (Some (record { identifier = e.identifier; reply = reply_of (ends_of w tag) e reply; age = 0 }));
      requests = slice_set w.taker.requests tag None;
    }

abbrev pub taken_lane : LaneOf → ℕ → Exchange → List ℕ → LaneOf
taken_lane w tag e reply =
    taker_turned w (taker_after w tag e reply) (w.packets ++ packets_of_message w.unit w.now (reply_of (ends_of w tag) e reply)) (w.entries ++ LaneEntryOf.Taken e.command e.body reply ∷ [])

takes_tags : (w : LaneOf) (g : Ghost) (tag : ℕ) (e : Exchange) (reply : List ℕ) → length reply ≤ reply_limit w.unit → e.reply ≡ None → RequestCame w g tag e → LaneGood w g
    → (t : ℕ) → t < 8 → TagOf (view_of (taken_lane w tag e reply) g.current t) (put tag (answered_with reply e) g.exchanges t)
takes_tags w g tag e reply few none c h t lt = elim (eqb_tells t tag) [
  | inl same ↦
      let here : TagOf (view_of (taken_lane w tag e reply) g.current tag) (put tag (answered_with reply e) g.exchanges tag)
      = rw (eq-eqb tag tag refl, set_here w.taker.requests tag None h.body.requests c.low, set_here w.taker.kept tag (Some (record { identifier = e.identifier; reply = reply_of (ends_of w tag) e reply; age = 0 })) h.body.kept c.low)
      (view_takes (view_of w g.current tag) e reply h.body.taker_time c.hears none few c.soon (came_of w g tag e c.low c.is h)) in
      subst (λ t. TagOf (view_of (taken_lane w tag e reply) g.current t) (put tag (answered_with reply e) g.exchanges t)) (sym same.1) here
  | inr other ↦ rw (other.0, set_there w.taker.requests tag t None other.1, set_there w.taker.kept tag t (Some (record { identifier = e.identifier; reply = reply_of (ends_of w tag) e reply; age = 0 })) other.1) (h.body.tags t lt)
]

takes_good : (w : LaneOf) (g : Ghost) (tag : ℕ) (e : Exchange) (reply : List ℕ) → length reply ≤ reply_limit w.unit → e.reply ≡ None → RequestCame w g tag e → LaneGood w g
    → LaneGood (taken_lane w tag e reply) (record { exchanges = put tag (answered_with reply e) g.exchanges; current = g.current })
takes_good w g tag e reply few none c h =
    let living = packets_grow w.unit w.now w.asker_eid w.taker_eid g.exchanges tag e e.last (Some reply) w.packets c.is (omega arith) (λ r is. absurd (let clash : None ≡ Some r = sym none ∙ is in cc)) h.body.packets in
    taker_turns w g (put tag (answered_with reply e) g.exchanges) (taker_after w tag e reply) (w.packets ++ packets_of_message w.unit w.now (reply_of (ends_of w tag) e reply)) (w.entries ++ LaneEntryOf.Taken e.command e.body reply ∷ []) h
    (set_length w.taker.kept tag (Some (record { identifier = e.identifier; reply = reply_of (ends_of w tag) e reply; age = 0 })) h.body.kept)
    (set_length w.taker.requests tag None h.body.requests)
    (takes_tags w g tag e reply few none c h)
    (reply_sent w.unit w.now w.asker_eid w.taker_eid (put tag (answered_with reply e) g.exchanges) tag (answered_with reply e) reply w.packets c.low (put_here tag (answered_with reply e) g.exchanges) refl c.soon living)
    (some_maps w.asker.caller.asked (IsAskedOf w g) (IsAskedOf w (record { exchanges = put tag (answered_with reply e) g.exchanges; current = g.current })) h.body.asked
    (λ o k. asked_grows w.unit (asker_clock w) w.asker_eid w.taker_eid w.asker.deaf g tag e e.last (Some reply) o c.is k))
    (some_maps g.current (IsCurrent g) (IsCurrent (record { exchanges = put tag (answered_with reply e) g.exchanges; current = g.current })) h.body.current (λ t k. current_grows g g.current tag (answered_with reply e) t k))

-- the request is that of the cell
takes_runs : (w : LaneOf) (g : Ghost) (tag : ℕ) (e : Exchange) (reply : List ℕ) → e.reply ≡ None → g.exchanges tag ≡ Some e → g.current ≡ Some tag
    → cell_take e.command e.body reply (run_of w g) ≡ Some (run_of (taken_lane w tag e reply) (record { exchanges = put tag (answered_with reply e) g.exchanges; current = g.current }))
takes_runs w g tag e reply none is current = rw (current, is, none, eq-eqb e.command e.command refl, nat_list_eq_equiv.refl e.body, eq-eqb tag tag refl) refl

pub taker_takes : (w : LaneOf) (g : Ghost) (tag : ℕ) (e : Exchange) (reply : List ℕ) → length reply ≤ reply_limit w.unit → kept_at w.taker.kept tag ≡ None
    → RequestCame w g tag e → LaneGood w g
    → GoesOn (taken_lane w tag e reply) (cell_take e.command e.body reply (run_of w g))
taker_takes w g tag e reply few new c h =
    let k = came_of w g tag e c.low c.is h in
    let none = new_is_unanswered (view_of w g.current tag) e c.hears new c.soon k in
    let current = current_is g.current tag (unanswered_is_current (view_of w g.current tag) e none c.soon k) in
    record {
      ghost = record { exchanges = put tag (answered_with reply e) g.exchanges; current = g.current };
      good = takes_good w g tag e reply few none c h;
      runs = takes_runs w g tag e reply none c.is current;
    }
