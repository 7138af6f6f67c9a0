-- A request begins.
use Rattle.std.proofs.Common.{◌≡◌, ◌∙◌, ◌+◌, ◌≤◌, ◌<◌, ◌==◌, ◌&&◌, ◌%◌, ◌++◌, ℕ, true, if◌then◌else◌, List, Option, Some, None, IfSome, is_some, length, inl, inr, refl, sym, subst, arith}
use Rattle.pldm_base.specs.Limits.{reply_limit}
use Rattle.std.specs.List.{AllByRecursion}
use Rattle.std.proofs.lemmas.Bool.{eq-eqb, eqb-true}
use Rattle.std.proofs.lemmas.Bool.Decides.{eqb_tells}
use Rattle.pldm_exch.specs.Caller.{begin_outcome, is_quiet, may_begin, next_tag, rest_at}
use Rattle.pldm_exch.specs.Laws.{CallerStep}
use Rattle.exch_lane.specs.Cells.{cell_ask}
use Rattle.exch_lane.specs.Lanes.{LaneOf, asker_clock}
use Rattle.exch_lane.specs.Steps.{lane_after_begin, packets_of_message}
use Rattle.exch_lane.specs.declared.step.LaneFault.TheVariants as faults
use Rattle.exch_lane.proofs.Below.{Laws}
use Rattle.exch_lane.proofs.Elapsed.{elapsed_start}
use Rattle.exch_lane.proofs.Facts.{both, may_of, none_is}
use Rattle.exch_lane.proofs.Ghosts.{Ghost, GoesOn, IsLiving, IsAskedOf, LaneBody, LaneGood, ends_of, put, run_of, view_of}
use Rattle.exch_lane.proofs.Growing.{put_here}
use Rattle.exch_lane.proofs.Packets.{packets_begin, request_sent}
use Rattle.exch_lane.proofs.Tags.{view_begins}
use Rattle.exch_lane.proofs.Views.{Exchange, TagOf, TagView, request_of}

-- a tag that has rested, whose exchange is long past
rested_far : (o : Option Exchange) (v : TagView) → v.asker.deaf ≡ 0 → v.asker.rest ≡ 0 → TagOf v o → IfSome o (λ old. old.last + 40 ≤ v.now)
rested_far None v hears rest h = tt
rested_far (Some e) v hears rest h = let far = h.asker.rest hears in omega (arith, far, rest)

-- the exchange that begins
pub exchange_of : LaneOf → ℕ → List ℕ → Exchange
exchange_of w command body = record { identifier = w.asker.caller.number; command = command; body = body; first = w.now; last = w.now; reply = None }

begins_tag : (l : Laws) (w : LaneOf) (g : Ghost) (command : ℕ) (body : List ℕ) → length body ≤ reply_limit w.unit → w.asker.deaf ≡ 0
    → rest_at w.asker.caller (next_tag w.asker.caller) ≡ 0 → g.current ≡ None → LaneGood w g
    → (t : ℕ) → t < 8
    → TagOf (view_of (lane_after_begin w command body) (Some (next_tag w.asker.caller)) t) (put (next_tag w.asker.caller) (exchange_of w command body) g.exchanges t)
unfolding exchange_of
begins_tag l w g command body few hears rest none h t lt =
    let set = l.rests.begin w.asker.caller 5 command body t h.body.caller in
    elim (eqb_tells t (next_tag w.asker.caller)) [
      | inl same ↦
          let number = h.body.caller.number in
          let here : rest_at w.asker.caller t ≡ 0 = rw same.1 rest in
          rw (set, same.0)
          (view_begins (g.exchanges t) (view_of w g.current t) (exchange_of w command body) hears here (record { identifier = number; body = few; reply = tt }) refl refl refl (h.body.tags t lt))
      | inr other ↦ rw (set, other.0) (rw none at (h.body.tags t lt))
    ]

last_begun : (n : ℕ) → n ≤ 31 → n % 8 ≡ ((n + 1) % 32 + 31) % 32 % 8
last_begun n le = omega arith

pub tag_low : (n : ℕ) → n % 8 < 8
tag_low n = omega arith

-- the request that is sent
begins_message : (w : LaneOf) (command : ℕ) (body : List ℕ) → w.asker.caller.own ≡ w.asker_eid → w.asker.caller.peer ≡ w.taker_eid
    → (begin_outcome w.asker.caller 5 command body).1 ≡ request_of (ends_of w (next_tag w.asker.caller)) (exchange_of w command body)
unfolding exchange_of
begins_message w command body own peer = rw (own, peer) refl

begins_now : (w : LaneOf) (command : ℕ) (body : List ℕ) → (exchange_of w command body).last ≡ w.now
unfolding exchange_of
begins_now w command body = refl

begins_there : (tag : ℕ) (e : Exchange) (exchanges : ℕ → Option Exchange) → is_some (put tag e exchanges tag) ≡ true
begins_there tag e exchanges = rw (eq-eqb tag tag refl) refl

begins_asked : (w : LaneOf) (g : Ghost) (command : ℕ) (body : List ℕ) → w.asker.deaf ≡ 0 → LaneGood w g
    → IfSome (lane_after_begin w command body).asker.caller.asked (IsAskedOf (lane_after_begin w command body) (record { exchanges = put (next_tag w.asker.caller) (exchange_of w command body) g.exchanges; current = Some (next_tag w.asker.caller) }))
unfolding exchange_of
begins_asked w g command body hears h = record {
  hears = hears;
  current = refl;
  of = rw (eq-eqb (next_tag w.asker.caller) (next_tag w.asker.caller) refl) (record {
    identifier = refl;
    kind = refl;
    command = refl;
    message = begins_message w command body h.body.own h.body.peer;
    soon = elapsed_start (asker_clock w) w.now h.body.asker_time (omega arith);
  });
}

begins_runs : (w : LaneOf) (g : Ghost) (command : ℕ) (body : List ℕ) → g.current ≡ None
    → cell_ask command body (run_of w g) ≡ Some (run_of (lane_after_begin w command body) (record { exchanges = put (next_tag w.asker.caller) (exchange_of w command body) g.exchanges; current = Some (next_tag w.asker.caller) }))
unfolding exchange_of
begins_runs w g command body none = rw (none, eq-eqb (next_tag w.asker.caller) (next_tag w.asker.caller) refl) refl

begins_body : (l : Laws) (w : LaneOf) (g : Ghost) (command : ℕ) (body : List ℕ) → length body ≤ reply_limit w.unit → w.asker.deaf ≡ 0
    → rest_at w.asker.caller (next_tag w.asker.caller) ≡ 0 → g.current ≡ None → LaneGood w g
    → LaneBody (lane_after_begin w command body) (record { exchanges = put (next_tag w.asker.caller) (exchange_of w command body) g.exchanges; current = Some (next_tag w.asker.caller) })
begins_body l w g command body few hears rest none h =
    let tag : ℕ = next_tag w.asker.caller in
    let e : Exchange = exchange_of w command body in
    let low = tag_low w.asker.caller.number in
    let m : (begin_outcome w.asker.caller 5 command body).1 ≡ request_of (ends_of w (next_tag w.asker.caller)) (exchange_of w command body) = begins_message w command body h.body.own h.body.peer in
    let now : (exchange_of w command body).last ≡ w.now = begins_now w command body in
    record {
      differ = h.body.differ;
      own = h.body.own;
      peer = h.body.peer;
      replies = h.body.replies;
      kept = h.body.kept;
      requests = h.body.requests;
      asker_time = h.body.asker_time;
      taker_time = h.body.taker_time;
      caller = l.callers.after w.asker.caller (CallerStep.Begin 5 command body) h.body.caller;
      tags = begins_tag l w g command body few hears rest none h;
      packets = subst (λ x. AllByRecursion (IsLiving w.unit w.now w.asker_eid w.taker_eid (put tag e g.exchanges)) (w.packets ++ packets_of_message w.unit w.now x)) (sym m)
          (request_sent w.unit w.now w.asker_eid w.taker_eid (put tag e g.exchanges) tag e w.packets low (put_here tag e g.exchanges) (omega (arith, now))
          (packets_begin w.unit w.now w.asker_eid w.taker_eid g.exchanges tag e w.packets (rested_far (g.exchanges tag) (view_of w g.current tag) hears rest (h.body.tags tag low)) h.body.packets));
      asked = begins_asked w g command body hears h;
      current = record { low = low; there = begins_there tag e g.exchanges };
      deaf = λ z. absurd (omega (arith, z, hears));
    }

begins_good : (l : Laws) (w : LaneOf) (g : Ghost) (command : ℕ) (body : List ℕ) → length body ≤ reply_limit w.unit → w.asker.deaf ≡ 0
    → rest_at w.asker.caller (next_tag w.asker.caller) ≡ 0 → g.current ≡ None → LaneGood w g
    → GoesOn (lane_after_begin w command body) (cell_ask command body (run_of w g))
begins_good l w g command body few hears rest none h = record {
  ghost = record { exchanges = put (next_tag w.asker.caller) (exchange_of w command body) g.exchanges; current = Some (next_tag w.asker.caller) };
  good = record {
    body = begins_body l w g command body few hears rest none h;
    last = λ _. last_begun w.asker.caller.number h.body.caller.number;
    quiet = λ _. refl;
  };
  runs = begins_runs w g command body none;
}

pub goes_begin : (l : Laws) (w : LaneOf) (g : Ghost) (command : ℕ) (body : List ℕ) → length body ≤ reply_limit w.unit
    → (if (w.asker.deaf == 0) && may_begin w.asker.caller then None else Some faults.NotNow) ≡ None → LaneGood w g
    → GoesOn (lane_after_begin w command body) (cell_ask command body (run_of w g))
goes_begin l w g command body few may h =
    let all = both (w.asker.deaf == 0) (may_begin w.asker.caller) (may_of ((w.asker.deaf == 0) && may_begin w.asker.caller) faults.NotNow may) in
    let begins_here = both (is_quiet w.asker.caller) (rest_at w.asker.caller (next_tag w.asker.caller) == 0) all.1 in
    let hears : w.asker.deaf ≡ 0 = eqb-true w.asker.deaf 0 all.0 in
    begins_good l w g command body few hears (eqb-true (rest_at w.asker.caller (next_tag w.asker.caller)) 0 begins_here.1) (none_is g.current (sym (h.quiet hears) ∙ begins_here.0)) h
