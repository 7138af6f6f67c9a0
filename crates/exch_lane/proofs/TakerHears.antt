-- A packet of a request arrives at the taker.
use Rattle.std.proofs.Common.{◌≡◌, ◌<◌, ℕ, List, Option, Some, IfSome, length, slice_set, inl, inr, refl, sym, subst}
use Rattle.std.specs.List.{AllByRecursion}
use Rattle.std.proofs.lemmas.Bool.Decides.{eqb_tells}
use Rattle.mctp_reasm.specs.Held.{Held}
use Rattle.exch_lane.specs.Lanes.{LaneEntryOf, LaneOf, Sent, taker_clock}
use Rattle.pldm_exch.specs.Ends.{TakerOf}
use Rattle.exch_lane.proofs.Deliveries.{view_taker_holds}
use Rattle.exch_lane.proofs.Ghosts.{Ghost, GoesOn, IsAskedOf, IsCurrent, IsLiving, LaneGood, ends_of, run_of, view_of}
use Rattle.exch_lane.proofs.Lifts.{set_here, set_length, set_there}
use Rattle.exch_lane.proofs.Views.{Exchange, IsRequests, TagOf}

-- nothing happens
pub goes_nowhere : (w : LaneOf) (g : Ghost) → LaneGood w g → GoesOn w (Some (run_of w g))
goes_nowhere w g h = record { ghost = g; good = h; runs = refl }

-- only the taker, the packets and the history change
abbrev pub taker_turned : LaneOf → TakerOf → List Sent → List LaneEntryOf → LaneOf
taker_turned w taker packets entries = record w { taker = taker; packets = packets; entries = entries }

pub taker_turns : (w : LaneOf) (g : Ghost) (exchanges : ℕ → Option Exchange) (taker : TakerOf) (packets : List Sent) (entries : List LaneEntryOf) → LaneGood w g
    → length taker.kept ≡ 8 → length taker.requests ≡ 8
    → ((t : ℕ) → t < 8 → TagOf (view_of (taker_turned w taker packets entries) g.current t) (exchanges t))
    → AllByRecursion (IsLiving w.unit w.now w.asker_eid w.taker_eid exchanges) packets
    → IfSome w.asker.caller.asked (IsAskedOf w (record { exchanges = exchanges; current = g.current }))
    → IfSome g.current (IsCurrent (record { exchanges = exchanges; current = g.current }))
    → LaneGood (taker_turned w taker packets entries) (record { exchanges = exchanges; current = g.current })
taker_turns w g exchanges taker packets entries h kept requests tags living asked current = record {
  body = record {
    differ = h.body.differ;
    own = h.body.own;
    peer = h.body.peer;
    replies = h.body.replies;
    kept = kept;
    requests = requests;
    asker_time = h.body.asker_time;
    taker_time = h.body.taker_time;
    caller = h.body.caller;
    tags = tags;
    packets = living;
    asked = asked;
    current = current;
    deaf = h.body.deaf;
  };
  last = h.last;
  quiet = h.quiet;
}

-- the held packets of a request change
silent_tags : (w : LaneOf) (g : Ghost) (tag : ℕ) (e : Exchange) (o : Option Held) (packets : List Sent) → tag < 8 → g.exchanges tag ≡ Some e
    → w.taker.deaf ≡ 0 → IfSome o (IsRequests (taker_clock w) (ends_of w tag) e) → LaneGood w g
    → (t : ℕ) → t < 8 → TagOf (view_of (taker_turned w (record w.taker { requests = slice_set w.taker.requests tag o }) packets w.entries) g.current t) (g.exchanges t)
silent_tags w g tag e o packets low is hears holds h t lt = elim (eqb_tells t tag) [
  | inl same ↦
      let here : TagOf (view_of (taker_turned w (record w.taker { requests = slice_set w.taker.requests tag o }) packets w.entries) g.current tag) (g.exchanges tag)
      = rw (is, set_here w.taker.requests tag o h.body.requests low) (view_taker_holds (view_of w g.current tag) e o hears holds (rw is at (h.body.tags tag low))) in
      subst (λ t. TagOf (view_of (taker_turned w (record w.taker { requests = slice_set w.taker.requests tag o }) packets w.entries) g.current t) (g.exchanges t)) (sym same.1) here
  | inr other ↦ rw (set_there w.taker.requests tag t o other.1) (h.body.tags t lt)
]

pub taker_holds : (w : LaneOf) (g : Ghost) (tag : ℕ) (e : Exchange) (o : Option Held) (packets : List Sent) → tag < 8 → g.exchanges tag ≡ Some e
    → w.taker.deaf ≡ 0 → IfSome o (IsRequests (taker_clock w) (ends_of w tag) e)
    → AllByRecursion (IsLiving w.unit w.now w.asker_eid w.taker_eid g.exchanges) packets → LaneGood w g
    → GoesOn (taker_turned w (record w.taker { requests = slice_set w.taker.requests tag o }) packets w.entries) (Some (run_of w g))
taker_holds w g tag e o packets low is hears holds living h = record {
  ghost = g;
  good = taker_turns w g g.exchanges (record w.taker { requests = slice_set w.taker.requests tag o }) packets w.entries h h.body.kept (set_length w.taker.requests tag o h.body.requests)
      (silent_tags w g tag e o packets low is hears holds h) living h.body.asked h.body.current;
  runs = refl;
}
