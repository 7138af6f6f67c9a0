-- The facts about the asker after a tick that it misses, in which it is still deaf, or in which no
-- request is open.
use Rattle.std.proofs.Common.{◌≡◌, ◌∙◌, ◌-◌, ◌≤◌, ◌<◌, ◌==◌, ℕ, true, false, true≢false, Option, Some, None, IfSome, IsSomeAnd, length, map, get_or, inl, inr, refl, sym, ap, arith}
use Rattle.std.proofs.lemmas.Bool.{eq-eqb, eqb-true}
use Rattle.std.proofs.lemmas.List.{length-map}
use Rattle.mctp_reasm.specs.Held.{held_tick}
use Rattle.pldm_exch.specs.Caller.{CallerState, IsCaller, Open, is_quiet, last_tag, open_after_tick, rest_at}
use Rattle.pldm_exch.specs.Rests.{rests_after_tick}
use Rattle.exch_lane.specs.Clocks.{Clock, MayBeat, clock_after_unit}
use Rattle.exch_lane.specs.Lanes.{LaneOf, asker_clock}
use Rattle.pldm_exch.specs.Ends.{AskerOf}
use Rattle.exch_lane.proofs.Elapsed.{elapsed_counted, elapsed_missed}
use Rattle.exch_lane.proofs.Facts.{bool_cases, none_is, some_maps}
use Rattle.exch_lane.proofs.Ghosts.{Ghost, IsAskedOf, IsOpenOf, LaneGood}
use Rattle.exch_lane.proofs.TickViews.{asker_wait_view, rest_falls}
use Rattle.exch_lane.proofs.Ticked.{IsAskedThen, IsTicked}
use Rattle.exch_lane.proofs.Views.{Ends, Exchange}
use Rattle.exch_lane.proofs.Waits.{IsWaiting}

-- the open request over time
pub open_misses : (c : Clock) (x : Ends) (o : Open) (exchange : Option Exchange) → MayBeat false c → IsSomeAnd exchange (IsOpenOf c x o)
    → IsSomeAnd exchange (IsOpenOf (clock_after_unit false c) x o)
open_misses c x o None may h = h
open_misses c x o (Some e) may h = record { identifier = h.identifier; kind = h.kind; command = h.command; message = h.message; soon = elapsed_missed c e.first o.age may h.soon }

pub open_counts : (c : Clock) (x : Ends) (o : Open) (exchange : Option Exchange) → MayBeat true c → IsSomeAnd exchange (IsOpenOf c x o)
    → IsSomeAnd exchange (IsOpenOf (clock_after_unit true c) x (open_after_tick o))
open_counts c x o None may h = h
open_counts c x o (Some e) may h = record { identifier = h.identifier; kind = h.kind; command = h.command; message = h.message; soon = elapsed_counted c e.first o.age may h.soon }

-- a quiet asker has nothing in its cell
pub none_current : (w : LaneOf) (g : Ghost) (P : ℕ → Type 0) → w.asker.deaf ≡ 0 → is_quiet w.asker.caller ≡ true → LaneGood w g → IfSome g.current P
none_current w g P hears quiet h = let none : g.current ≡ None = none_is g.current (sym (h.quiet hears) ∙ quiet) in rw none tt

-- a tick that it misses
pub missed_waits : (w : LaneOf) (g : Ghost) → MayBeat false (asker_clock w) → LaneGood w g → IsWaiting w g false w.asker
missed_waits w g may h = record {
  ticked = record { own = h.body.own; peer = h.body.peer; replies = h.body.replies; caller = h.body.caller; deaf = h.body.deaf };
  view = λ t lt. refl;
  asked = some_maps w.asker.caller.asked (IsAskedOf w g) (IsAskedThen w false w.asker g) h.body.asked
      (λ o k. record { hears = k.hears; current = k.current; of = open_misses (asker_clock w) (record { unit = w.unit; asker = w.asker_eid; taker = w.taker_eid; tag = o.tag }) o (g.exchanges o.tag) may k.of });
  last = λ z q. h.last z;
  unquiet = λ z q. sym (h.quiet z) ∙ q;
  rested = λ z q. none_current w g (λ t. rest_at w.asker.caller t ≡ 0) z q h;
}

-- a tick that leaves it deaf
pub deaf_waits : (w : LaneOf) (g : Ghost) → 1 < w.asker.deaf → LaneGood w g → IsWaiting w g true (record w.asker { deaf = w.asker.deaf - 1 })
deaf_waits w g more h = record {
  ticked = record { own = h.body.own; peer = h.body.peer; replies = h.body.replies; caller = h.body.caller; deaf = λ _. h.body.deaf (omega arith) };
  view = λ t lt. asker_wait_view w.asker t more;
  asked = some_maps w.asker.caller.asked (IsAskedOf w g) (IsAskedThen w true (record w.asker { deaf = w.asker.deaf - 1 }) g) h.body.asked (λ o k. absurd (let z = k.hears in omega arith));
  last = λ z q. absurd (omega (arith, z, more));
  unquiet = λ z q. absurd (omega (arith, z, more));
  rested = λ z q. absurd (omega (arith, z, more));
}

-- the asker, which isn't deaf, with its caller after the tick
abbrev pub heard_tick : LaneOf → CallerState → AskerOf
heard_tick w c = record w.asker { deaf = 0; caller = c; replies = map held_tick w.asker.replies }

pub heard_ticked : (w : LaneOf) (c : CallerState) → IsCaller c → c.own ≡ w.asker_eid → c.peer ≡ w.taker_eid → length w.asker.replies ≡ 8
    → IsTicked w true (heard_tick w c)
heard_ticked w c caller own peer long = record { own = own; peer = peer; replies = length-map w.asker.replies held_tick ∙ long; caller = caller; deaf = λ z. absurd (omega (arith, z)) }

pub heard_view : (w : LaneOf) (c : CallerState) → w.asker.deaf ≤ 1 → c.rests ≡ rests_after_tick w.asker.caller.rests → (t : ℕ) → rest_at c t ≡ rest_at w.asker.caller t - 1
heard_view w c less fell t = ap (λ rests. get_or rests t 0) fell ∙ rest_falls w.asker.caller.rests t

-- without an open request
abbrev pub rested_caller : CallerState → CallerState
rested_caller c = record c { rests = rests_after_tick c.rests }

pub zero_falls : (c : CallerState) (t : ℕ) → rest_at c t ≡ 0 → rest_at (rested_caller c) t ≡ 0
zero_falls c t z = let falls = rest_falls c.rests t in omega (arith, z, falls)

pub quiet_stays : (c : CallerState) → c.asked ≡ None → is_quiet c ≡ true → is_quiet (rested_caller c) ≡ true
quiet_stays c none quiet = elim (bool_cases c.answered) [
  | inl answered ↦ rw (none, answered) refl
  | inr waits ↦
      let left : (rest_at c (last_tag c) == 0) ≡ true = rw (none, waits) at quiet in
      let zero = zero_falls c (last_tag c) (eqb-true (rest_at c (last_tag c)) 0 left) in
      rw (none, waits) (eq-eqb (rest_at (rested_caller c) (last_tag c)) 0 zero)
]

-- a caller that is quiet now and wasn't: the rest of its last tag is over
pub rest_over : (c : CallerState) → c.asked ≡ None → is_quiet c ≡ false → is_quiet (rested_caller c) ≡ true → rest_at (rested_caller c) (last_tag c) ≡ 0
rest_over c none busy quiet = elim (bool_cases c.answered) [
  | inl answered ↦ absurd (let clash : true ≡ false = rw (none, answered) at busy in true≢false clash)
  | inr waits ↦ let left : (rest_at (rested_caller c) (last_tag c) == 0) ≡ true = rw (none, waits) at quiet in eqb-true (rest_at (rested_caller c) (last_tag c)) 0 left
]
