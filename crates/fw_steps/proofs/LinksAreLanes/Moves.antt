-- The calls and ticks of a half, on both ways between it and the other.
use Rattle.std.proofs.Common.{◌≡◌, ◌<◌, ◌+◌, ◌-◌, ◌^◌, ◌∙◌, Bool, true, List, [], ◌∷◌, ◌++◌, refl, sym, ap, arith}
use Rattle.std.specs.List.{filter}
use Rattle.std.proofs.lemmas.List.{append-nil}
use Rattle.exch_lane.specs.Clocks.{may_beat}
use Rattle.exch_lane.specs.Lanes.{LaneEntryOf, Sent, LaneStepOf}
use Rattle.exch_lane.specs.Laws.{LaneIsACell}
use Rattle.exch_lane.specs.declared.step.End.TheVariants as ends
use Rattle.fw_node.specs.Halves.{CoreOf, HalfOf, half_restarts, half_ticks, half_after_settle}
use Rattle.fw_steps.specs.Lanes.{Times, is_of, lane_of, times_after_unit, settle_steps, tick_steps, turned_times}
use Rattle.fw_steps.specs.LinksAreLanes.{PendingRoundTrips}
use Rattle.fw_steps.specs.Links.{packets_with_messages}
use Rattle.fw_steps.proofs.LinksAreLanes.Hears.{may_settle, settles_in_lane}
use Rattle.fw_steps.proofs.LinksAreLanes.Ticks.{same_ticks, tick_in_lane}
use Rattle.fw_steps.proofs.LinksAreLanes.Ways.{BothWays, Comes, WaysGo, ways_go}

-- a tick
ticks_come : {A B : Type 0} (f : CoreOf A) (g : CoreOf B) (asker taker : Bool) (now : Times) (a : HalfOf A) (b : HalfOf B) (ps : List Sent) (es : List LaneEntryOf)
    → now.now < 2 ^ 32 - 1 → may_beat asker now.asker_since_miss ≡ true → may_beat taker now.taker_since_miss ≡ true → (asker ≡ true → PendingRoundTrips f a)
    → Comes now (times_after_unit now asker taker) a (half_ticks f asker a).half b (half_ticks g taker b).half ps (half_ticks f asker a).sent es (tick_steps f asker taker a)
ticks_come f g asker taker now a b ps es soon may allowed fits =
    let l = tick_in_lane f g asker taker now a b (filter (is_of a.unit a.own b.own) ps) es soon may allowed fits in
    record {
      may = l.may;
      more = l.more;
      leads = l.leads
          ∙ ap (λ u. lane_of (times_after_unit now asker taker) (half_ticks f asker a).half (half_ticks g taker b).half (packets_with_messages u (times_after_unit now asker taker).now (filter (is_of a.unit a.own b.own) ps) (half_ticks f asker a).sent) (es ++ l.more))
          (same_ticks f asker a).0;
    }

pub tick_ways : {A B : Type 0} (law : LaneIsACell) (f : CoreOf A) (g : CoreOf B) (asker taker : Bool) (now : Times) (a : HalfOf A) (b : HalfOf B) (ps : List Sent) (h : BothWays now a b ps)
    → now.now < 2 ^ 32 - 1 → may_beat asker now.asker_since_miss ≡ true → may_beat taker now.taker_since_miss ≡ true → (asker ≡ true → PendingRoundTrips f a) → (taker ≡ true → PendingRoundTrips g b)
    → WaysGo now (times_after_unit now asker taker) a (half_ticks f asker a).half b (half_ticks g taker b).half ps
    (packets_with_messages b.unit (now.now + 1) (packets_with_messages a.unit (now.now + 1) ps (half_ticks f asker a).sent) (half_ticks g taker b).sent) (tick_steps f asker taker a) (tick_steps g taker asker b) h
tick_ways law f g asker taker now a b ps h soon may allowed fits speaks =
    let there = same_ticks f asker a in
    let back = same_ticks g taker b in
    ways_go law now (times_after_unit now asker taker) a (half_ticks f asker a).half b (half_ticks g taker b).half ps (half_ticks f asker a).sent (half_ticks g taker b).sent
    (tick_steps f asker taker a) (tick_steps g taker asker b) h (omega arith)
    (record { unit = there.0; own = there.1; peer = there.2; other_unit = back.0; other = back.1; back = back.2 })
    (ticks_come f g asker taker now a b ps h.asks.run.entries soon may allowed fits)
    (ticks_come g f taker asker (turned_times now) b a ps h.answers.run.entries soon allowed may speaks)

-- a way without a step
nothing_comes : {A B : Type 0} (now : Times) (b : HalfOf B) (a x : HalfOf A) (ps : List Sent) (es : List LaneEntryOf)
    → ((qs : List Sent) (fs : List LaneEntryOf) → lane_of now b a qs fs ≡ lane_of now b x qs fs) → Comes now now b b a x ps [] es []
nothing_comes now b a x ps es same = record {
  may = tt;
  more = [];
  leads = same (filter (is_of b.unit b.own a.own) ps) es ∙ ap (lane_of now b x (filter (is_of b.unit b.own a.own) ps)) (sym (append-nil es));
}

-- a call of a half
pub call_ways : {A B : Type 0} (law : LaneIsACell) (core : CoreOf A) (x : A) (now : Times) (a : HalfOf A) (b : HalfOf B) (ps : List Sent) (h : BothWays now a b ps)
    → WaysGo now now a (half_after_settle core (record a { core = x })) b b ps ps (settle_steps core a.asker.caller.asked x) [] h
call_ways law core x now a b ps h =
    ways_go law now now a (half_after_settle core (record a { core = x })) b b ps [] [] (settle_steps core a.asker.caller.asked x) [] h (omega arith)
    (record { unit = refl; own = refl; peer = refl; other_unit = refl; other = refl; back = refl })
    (record {
      may = may_settle core x now a b (filter (is_of a.unit a.own b.own) ps) h.asks.run.entries;
      more = [];
      leads = settles_in_lane core x now a b (filter (is_of a.unit a.own b.own) ps) h.asks.run.entries
          ∙ ap (lane_of now (half_after_settle core (record a { core = x })) b (filter (is_of a.unit a.own b.own) ps)) (sym (append-nil h.asks.run.entries));
    })
    (nothing_comes (turned_times now) b a (half_after_settle core (record a { core = x })) ps h.answers.run.entries (λ qs fs. refl))

-- a restart of a half
pub restart_ways : {A B : Type 0} (law : LaneIsACell) (core : CoreOf A) (now : Times) (a : HalfOf A) (b : HalfOf B) (ps : List Sent) (h : BothWays now a b ps)
    → WaysGo now now a (half_restarts core a) b b ps ps (LaneStepOf.Restart ends.Asker ∷ []) (LaneStepOf.Restart ends.Taker ∷ []) h
restart_ways law core now a b ps h =
    ways_go law now now a (half_restarts core a) b b ps [] [] (LaneStepOf.Restart ends.Asker ∷ []) (LaneStepOf.Restart ends.Taker ∷ []) h (omega arith)
    (record { unit = refl; own = refl; peer = refl; other_unit = refl; other = refl; back = refl })
    (record {
      may = (record { lawful = tt; may = refl }, tt);
      more = [];
      leads = ap (lane_of now (half_restarts core a) b (filter (is_of a.unit a.own b.own) ps)) (sym (append-nil h.asks.run.entries));
    })
    (record {
      may = (record { lawful = tt; may = refl }, tt);
      more = [];
      leads = ap (lane_of (turned_times now) b (half_restarts core a) (filter (is_of b.unit b.own a.own) ps)) (sym (append-nil h.answers.run.entries));
    })
