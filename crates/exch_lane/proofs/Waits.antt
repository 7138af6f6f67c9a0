-- A tick in which the asker sends nothing: if it is then quiet, the cell is emptied.
use Rattle.std.proofs.Common.{◌≡◌, ◌∙◌, ◌<◌, ◌==◌, ◌||◌, ℕ, Bool, true, false, if◌then◌else◌, List, Option, Some, None, IfSome, is_none, is_some, inl, inr, refl, sym, ap, arith}
use Rattle.std.proofs.lemmas.Bool.{eqb-true}
use Rattle.std.proofs.lemmas.Bool.Decides.{eqb_tells}
use Rattle.pldm_exch.specs.Caller.{CallerState, is_quiet, last_tag, rest_at}
use Rattle.exch_lane.specs.Cells.{Cell, CellRun, cell_rests, cell_ticks, drop_in, is_asker_quiet, is_empty_cell}
use Rattle.exch_lane.specs.Clocks.{MayBeat}
use Rattle.exch_lane.specs.Lanes.{LaneEntryOf, LaneOf, asker_clock, taker_clock}
use Rattle.pldm_exch.specs.Ends.{AskerOf}
use Rattle.pldm_exch.specs.Sides.{AskerTick}
use Rattle.exch_lane.specs.Steps.{asker_ticks, tick_begins}
use Rattle.exch_lane.proofs.AskerHears.{settled_of}
use Rattle.exch_lane.proofs.Facts.{bool_cases, both, none_is}
use Rattle.exch_lane.proofs.Ghosts.{Ghost, GoesOn, LaneBody, LaneGood, asker_view, cell_from, exchange_at, run_of, view_of}
use Rattle.exch_lane.proofs.Packets.{packets_later}
use Rattle.exch_lane.proofs.Restarts.{cell_drops}
use Rattle.exch_lane.proofs.Tags.{view_leaves}
use Rattle.exch_lane.proofs.Ticked.{IsAskedThen, IsTicked, tag_ticks, ticked_lane, ticks_body}
use Rattle.exch_lane.proofs.Views.{Exchange, IsSettled, TagOf, TagView, asker_at}

-- the facts about an asker after a tick in which it sends nothing
pub record IsWaiting (w : LaneOf) (g : Ghost) (asker : Bool) (a : AskerOf) : Type 0 where
  pub ticked : IsTicked w asker a
  pub view : (t : ℕ) → t < 8 → asker_view a t ≡ asker_at asker (asker_view w.asker t)
  pub asked : IfSome a.caller.asked (IsAskedThen w asker a g)
  pub last : a.deaf ≡ 0 → is_quiet a.caller ≡ false → IfSome g.current (λ t. t ≡ last_tag a.caller)
  pub unquiet : a.deaf ≡ 0 → is_quiet a.caller ≡ false → is_none g.current ≡ false
  pub rested : a.deaf ≡ 0 → is_quiet a.caller ≡ true → IfSome g.current (λ t. rest_at a.caller t ≡ 0)

-- the effect of a tick of the asker on the lane and on its cell
abbrev pub TicksRow : LaneOf → Ghost → (asker taker : Bool) → AskerTick → Type 0
TicksRow w g asker taker row = GoesOn (asker_ticks (tick_begins w asker taker) row) (cell_ticks row (run_of w g))

pub waiting_body : (w : LaneOf) (g : Ghost) (asker taker : Bool) (a : AskerOf) → MayBeat asker (asker_clock w) → MayBeat taker (taker_clock w)
    → LaneBody w g → IsWaiting w g asker a → LaneBody (ticked_lane w asker taker a w.packets) g
waiting_body w g asker taker a may allowed h k =
    ticks_body w g asker taker a g.exchanges w.packets may allowed h k.ticked (λ t lt. tag_ticks w g asker taker a w.packets t may allowed h lt (k.view t lt))
    (packets_later w.unit w.now w.asker_eid w.taker_eid g.exchanges w.packets h.packets) k.asked h.current

-- it isn't deaf and isn't quiet
busy_quiet : (a : AskerOf) → a.deaf ≡ 0 → is_asker_quiet a ≡ false → is_quiet a.caller ≡ false
busy_quiet a z busy = rw z at busy

busy_good : (w : LaneOf) (g : Ghost) (asker taker : Bool) (a : AskerOf) → LaneBody (ticked_lane w asker taker a w.packets) g → IsWaiting w g asker a
    → is_asker_quiet a ≡ false → LaneGood (ticked_lane w asker taker a w.packets) g
busy_good w g asker taker a body k busy = record {
  body = body;
  last = λ z. k.last z (busy_quiet a z busy);
  quiet = λ z. busy_quiet a z busy ∙ sym (k.unquiet z (busy_quiet a z busy));
}

-- if it is quiet, each exchange is settled
rested_settled : (o : Option Exchange) (v : TagView) → v.asker.deaf ≡ 0 → v.asker.rest ≡ 0 → TagOf v o → IfSome o (IsSettled v.now)
rested_settled None v hears rest h = tt
rested_settled (Some e) v hears rest h = let far = h.asker.rest hears in inr (omega (arith, far, rest))

quiet_settles : (o : Option ℕ) (exchange : Option Exchange) (w : LaneOf) (t : ℕ) → w.asker.deaf ≡ 0 → IfSome o (λ t. rest_at w.asker.caller t ≡ 0)
    → TagOf (view_of w o t) exchange → IfSome exchange (IsSettled w.now)
quiet_settles None exchange w t hears rest h = settled_of exchange (view_of w None t) refl h
quiet_settles (Some s) exchange w t hears rest h = elim (eqb_tells t s) [
  | inl same ↦ rested_settled exchange (view_of w (Some s) t) hears (rw same.1 rest) h
  | inr other ↦ settled_of exchange (view_of w (Some s) t) other.0 h
]

quiet_body : (w : LaneOf) (g : Ghost) → w.asker.deaf ≡ 0 → w.asker.caller.asked ≡ None → IfSome g.current (λ t. rest_at w.asker.caller t ≡ 0)
    → LaneBody w g → LaneBody w (record { exchanges = g.exchanges; current = None })
quiet_body w g hears none rest h = record {
  differ = h.differ;
  own = h.own;
  peer = h.peer;
  replies = h.replies;
  kept = h.kept;
  requests = h.requests;
  asker_time = h.asker_time;
  taker_time = h.taker_time;
  caller = h.caller;
  tags = λ t lt. view_leaves (g.exchanges t) (view_of w g.current t) (quiet_settles g.current (g.exchanges t) w t hears rest (h.tags t lt)) (h.tags t lt);
  packets = h.packets;
  asked = rw none tt;
  current = tt;
  deaf = h.deaf;
}

-- the cell of a quiet asker is emptied
abbrev the_run : Cell → List LaneEntryOf → CellRun
the_run cell entries = record { cell = cell; entries = entries }

quiet_none : (c : CallerState) → is_quiet c ≡ true → is_none c.asked ≡ true
quiet_none c quiet = (both (is_none c.asked) (c.answered || (rest_at c (last_tag c) == 0)) quiet).0

rests_runs : (o : Option Exchange) (entries : List LaneEntryOf)
    → (if is_empty_cell (cell_from false o) then Some (record { cell = cell_from false o; entries = entries }) else drop_in (record { cell = cell_from false o; entries = entries }) (cell_from false o))
    ≡ Some (the_run Cell.Empty entries)
rests_runs None entries = refl
rests_runs (Some e) entries = cell_drops (record { cell = cell_from false (Some e); entries = entries }) e

quiet_runs : (w : LaneOf) (g : Ghost) (a : AskerOf) → is_asker_quiet a ≡ true → is_some w.asker.caller.asked ≡ false
    → cell_rests a (run_of w g) ≡ Some (the_run Cell.Empty w.entries)
quiet_runs w g a quiet none = rw (quiet, none) (rests_runs (exchange_at g.exchanges g.current) w.entries)

waits_quiet : (w : LaneOf) (g : Ghost) (asker taker : Bool) (a : AskerOf) → MayBeat asker (asker_clock w) → MayBeat taker (taker_clock w)
    → LaneBody w g → IsWaiting w g asker a → is_some a.caller.asked ≡ is_some w.asker.caller.asked → is_asker_quiet a ≡ true
    → TicksRow w g asker taker (AskerTick.Waits a)
waits_quiet w g asker taker a may allowed h k same quiet =
    let tests = both (a.deaf == 0) (is_quiet a.caller) quiet in
    let hears : a.deaf ≡ 0 = eqb-true a.deaf 0 tests.0 in
    let none : a.caller.asked ≡ None = none_is a.caller.asked (quiet_none a.caller tests.1) in
    let closed : is_some w.asker.caller.asked ≡ false = sym same ∙ ap is_some none in
    record {
      ghost = record { exchanges = g.exchanges; current = None };
      good = record {
        body = quiet_body (ticked_lane w asker taker a w.packets) g hears none (k.rested hears tests.1) (waiting_body w g asker taker a may allowed h k);
        last = λ _. tt;
        quiet = λ _. tests.1;
      };
      runs = quiet_runs w g a quiet closed;
    }

waits_busy : (w : LaneOf) (g : Ghost) (asker taker : Bool) (a : AskerOf) → MayBeat asker (asker_clock w) → MayBeat taker (taker_clock w)
    → LaneBody w g → IsWaiting w g asker a → is_some a.caller.asked ≡ is_some w.asker.caller.asked → is_asker_quiet a ≡ false
    → TicksRow w g asker taker (AskerTick.Waits a)
waits_busy w g asker taker a may allowed h k same busy = record {
  ghost = g;
  good = busy_good w g asker taker a (waiting_body w g asker taker a may allowed h k) k busy;
  runs = rw (busy, same) refl;
}

pub goes_wait : (w : LaneOf) (g : Ghost) (asker taker : Bool) (a : AskerOf) → MayBeat asker (asker_clock w) → MayBeat taker (taker_clock w)
    → LaneBody w g → IsWaiting w g asker a → is_some a.caller.asked ≡ is_some w.asker.caller.asked
    → TicksRow w g asker taker (AskerTick.Waits a)
goes_wait w g asker taker a may allowed h k same = elim (bool_cases (is_asker_quiet a)) [
  | inl quiet ↦ waits_quiet w g asker taker a may allowed h k same quiet
  | inr busy ↦ waits_busy w g asker taker a may allowed h k same busy
]
