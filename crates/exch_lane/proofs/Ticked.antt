-- The effect of a tick on a lane, for any action of its asker.
use Rattle.std.proofs.Common.{◌≡◌, ◌+◌, ◌<◌, ℕ, Bool, List, Option, IfSome, length, refl, sym, subst}
use Rattle.std.specs.List.{AllByRecursion}
use Rattle.pldm_exch.specs.Caller.{IsCaller, Open, new_caller}
use Rattle.exch_lane.specs.Clocks.{MayBeat, clock_after_unit}
use Rattle.exch_lane.specs.Lanes.{LaneOf, Sent, asker_clock, taker_clock}
use Rattle.pldm_exch.specs.Ends.{AskerOf}
use Rattle.exch_lane.specs.Steps.{tick_begins}
use Rattle.exch_lane.proofs.Elapsed.{beat_clock}
use Rattle.exch_lane.proofs.Ghosts.{Ghost, IsCurrent, IsLiving, IsOpenRequest, LaneBody, asker_view, ends_of, is_at, taker_view, view_of}
use Rattle.exch_lane.proofs.Tags.{view_ticks}
use Rattle.exch_lane.proofs.TickViews.{taker_tick_kept, taker_tick_requests, taker_tick_view}
use Rattle.exch_lane.proofs.Views.{AskerView, Ends, Exchange, TagOf, TagView, TakerView, asker_at, taker_at, view_ticked}

-- the lane after a tick that leaves this asker and these packets
abbrev pub ticked_lane : LaneOf → (asker taker : Bool) → AskerOf → List Sent → LaneOf
ticked_lane w asker taker a packets = record (tick_begins w asker taker) { asker = a; packets = packets }

-- the facts about the asker after each tick
pub record IsTicked (w : LaneOf) (asker : Bool) (a : AskerOf) : Type 0 where
  pub own : a.caller.own ≡ w.asker_eid
  pub peer : a.caller.peer ≡ w.taker_eid
  pub replies : length a.replies ≡ 8
  pub caller : IsCaller a.caller
  pub deaf : 0 < a.deaf → a.caller ≡ new_caller w.asker_eid w.taker_eid

-- the open request after a tick
abbrev pub IsAskedThen : LaneOf → Bool → AskerOf → Ghost → Open → Type 0
IsAskedThen w asker a g o = IsOpenRequest w.unit (clock_after_unit asker (asker_clock w)) w.asker_eid w.taker_eid a.deaf g o

pub ticks_body : (w : LaneOf) (g : Ghost) (asker taker : Bool) (a : AskerOf) (exchanges : ℕ → Option Exchange) (packets : List Sent)
    → MayBeat asker (asker_clock w) → MayBeat taker (taker_clock w) → LaneBody w g → IsTicked w asker a
    → ((t : ℕ) → t < 8 → TagOf (view_of (ticked_lane w asker taker a packets) g.current t) (exchanges t))
    → AllByRecursion (IsLiving w.unit (w.now + 1) w.asker_eid w.taker_eid exchanges) packets
    → IfSome a.caller.asked (IsAskedThen w asker a (record { exchanges = exchanges; current = g.current }))
    → IfSome g.current (IsCurrent (record { exchanges = exchanges; current = g.current }))
    → LaneBody (ticked_lane w asker taker a packets) (record { exchanges = exchanges; current = g.current })
ticks_body w g asker taker a exchanges packets may allowed h k tags living asked current = record {
  differ = h.differ;
  own = k.own;
  peer = k.peer;
  replies = k.replies;
  kept = taker_tick_kept taker w.taker h.kept;
  requests = taker_tick_requests taker w.taker h.requests;
  asker_time = beat_clock asker (asker_clock w) h.asker_time may;
  taker_time = beat_clock taker (taker_clock w) h.taker_time allowed;
  caller = k.caller;
  tags = tags;
  packets = living;
  asked = asked;
  current = current;
  deaf = k.deaf;
}

-- the view of a tag after a tick
abbrev pub made : (now am tm : ℕ) → Ends → AskerView → TakerView → Bool → TagView
made now am tm x a k b = record { now = now; asker_miss = am; taker_miss = tm; ends = x; asker = a; taker = k; is_current = b }

pub made_same : (now am tm : ℕ) (x : Ends) (a a2 : AskerView) (k k2 : TakerView) (b : Bool) → a ≡ a2 → k ≡ k2
    → made now am tm x a k b ≡ made now am tm x a2 k2 b
made_same now am tm x a a2 k k2 b p q = rw (p, q) refl

-- a tag whose asker's side ticks
pub tag_ticks : (w : LaneOf) (g : Ghost) (asker taker : Bool) (a : AskerOf) (packets : List Sent) (t : ℕ) → MayBeat asker (asker_clock w)
    → MayBeat taker (taker_clock w) → LaneBody w g → t < 8
    → asker_view a t ≡ asker_at asker (asker_view w.asker t) → TagOf (view_of (ticked_lane w asker taker a packets) g.current t) (g.exchanges t)
tag_ticks w g asker taker a packets t may allowed h lt view =
    let same : view_of (ticked_lane w asker taker a packets) g.current t ≡ view_ticked (view_of w g.current t) asker taker
    = made_same (w.now + 1) (clock_after_unit asker (asker_clock w)).since_miss (clock_after_unit taker (taker_clock w)).since_miss (ends_of w t) (asker_view a t) (asker_at asker (asker_view w.asker t))
    (taker_view (ticked_lane w asker taker a packets).taker t) (taker_at taker (taker_view w.taker t)) (is_at g.current t) view (taker_tick_view taker w.taker t) in
    subst (λ v. TagOf v (g.exchanges t)) (sym same) (view_ticks (g.exchanges t) (view_of w g.current t) asker taker may allowed (h.tags t lt))
