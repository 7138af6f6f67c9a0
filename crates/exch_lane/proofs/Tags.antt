-- One tag in ticks, repeats, a beginning and restarts.
use Rattle.std.proofs.Common.{◌≡◌, ◌∙◌, ◌≤◌, ℕ, Bool, true, false, Option, Some, None, IfSome, inl, inr, refl, sym, arith}
use Rattle.exch_lane.specs.Clocks.{Clock, MayBeat, clock_after_unit, HasElapsedAtMost}
use Rattle.exch_lane.proofs.AskerTicks.{asker_at_none, asker_begins, asker_beats, asker_resends, asker_restarts, nothing_held}
use Rattle.exch_lane.proofs.Elapsed.{within_repeats}
use Rattle.exch_lane.proofs.TakerTicks.{nothing_kept, taker_at_none, taker_begins, taker_beats, taker_resends, taker_restarts}
use Rattle.exch_lane.proofs.Views.{Exchange, IsEmptyTag, IsExchange, IsSettled, IsSpan, IsWording, TagOf, TagView, asker_time, resent, rested, taker_time, view_ticked}

-- a unit of time passes, and each end counts the tick or misses it
span_beats : (counts : Bool) (c : Clock) (e : Exchange) → IsSpan c.now e → IsSpan (clock_after_unit counts c).now e
span_beats counts c e h = let past = h.past in record { order = h.order; span = h.span; past = omega arith }

pub view_ticks : (o : Option Exchange) (v : TagView) (asker taker : Bool) → MayBeat asker (asker_time v) → MayBeat taker (taker_time v) → TagOf v o
    → TagOf (view_ticked v asker taker) o
view_ticks None v asker taker may allowed h =
    let t = taker_at_none taker v.taker h.1 h.2 in
    (asker_at_none asker v.asker h.0, t.0, t.1)
view_ticks (Some e) v asker taker may allowed h = record {
  wording = h.wording;
  span = span_beats asker (asker_time v) e h.span;
  asker = asker_beats asker (asker_time v) v.ends e v.asker may h.asker;
  taker = taker_beats taker (taker_time v) v.ends e v.taker allowed h.taker;
  settled = λ old. elim (h.settled old) [ inl done ↦ inl done | inr far ↦ inr (omega arith) ];
}

-- the open request is sent again
pub span_resends : (c : Clock) (e : Exchange) (age : ℕ) → HasElapsedAtMost c e.first age → age ≤ 12 → IsSpan c.now e → IsSpan c.now (resent c.now e)
span_resends c e age soon le h =
    let order = h.order in
    let past = h.past in
    record { order = omega arith; span = within_repeats c e.first age soon le; past = omega arith }

pub view_resends : (v : TagView) (e : Exchange) (age : ℕ) → v.asker.deaf ≡ 0 → v.is_current ≡ true → HasElapsedAtMost (asker_time v) e.first age → age ≤ 12
    → IsExchange v e → IsExchange (record v { asker = rested v.asker }) (resent v.now e)
view_resends v e age hears current soon le h =
    let past = h.span.past in
    record {
      wording = record { identifier = h.wording.identifier; body = h.wording.body; reply = h.wording.reply };
      span = span_resends (asker_time v) e age soon le h.span;
      asker = asker_resends (asker_time v) v.ends e v.asker hears past h.asker;
      taker = taker_resends (taker_time v) v.ends e v.taker past h.taker;
      settled = λ old. absurd (let clash : true ≡ false = sym current ∙ old in absurd (cc));
    }

-- the exchange leaves the cell
pub view_leaves : (o : Option Exchange) (v : TagView) → IfSome o (IsSettled v.now) → TagOf v o → TagOf (record v { is_current = false }) o
view_leaves None v settled h = h
view_leaves (Some e) v settled h = record { wording = h.wording; span = h.span; asker = h.asker; taker = h.taker; settled = λ _. settled }

-- a tag that has rested has nothing left
pub view_rested : (o : Option Exchange) (v : TagView) → v.asker.deaf ≡ 0 → v.asker.rest ≡ 0 → TagOf v o → IsEmptyTag v
view_rested None v hears rest h = h
view_rested (Some e) v hears rest h =
    let a = nothing_held (asker_time v) v.ends e v.asker hears rest h.asker in
    let t = nothing_kept (taker_time v) v.ends e v.taker a.0 h.taker in
    (a.1, t.0, t.1)

-- a request begins under a tag that has rested
pub view_begins : (o : Option Exchange) (v : TagView) (e : Exchange) → v.asker.deaf ≡ 0 → v.asker.rest ≡ 0 → IsWording v.ends.unit e → e.first ≡ v.now
    → e.last ≡ v.now → e.reply ≡ None
    → TagOf v o → IsExchange (record v { asker = rested v.asker; is_current = true }) e
view_begins o v e hears rest wording first last reply h =
    let none = view_rested o v hears rest h in
    record {
      wording = wording;
      span = record { order = omega (arith, first, last); span = omega (arith, first, last); past = omega (arith, last) };
      asker = asker_begins (asker_time v) v.ends e v.asker last hears none.0;
      taker = taker_begins (taker_time v) v.ends e v.taker reply none.1 none.2;
      settled = λ old. absurd (let clash : true ≡ false = old in absurd (cc));
    }

-- an end restarts
pub view_asker_restarts : (o : Option Exchange) (v : TagView) → TagOf v o → TagOf (record v { asker = record { deaf = 40; rest = 0; replies = None } }) o
view_asker_restarts None v h = (refl, h.1, h.2)
view_asker_restarts (Some e) v h = record { wording = h.wording; span = h.span; asker = asker_restarts (asker_time v) v.ends e h.span; taker = h.taker; settled = h.settled }

pub view_taker_restarts : (o : Option Exchange) (v : TagView) → TagOf v o → TagOf (record v { taker = record { deaf = 40; kept = None; requests = None } }) o
view_taker_restarts None v h = (h.0, refl, refl)
view_taker_restarts (Some e) v h = record { wording = h.wording; span = h.span; asker = h.asker; taker = taker_restarts (taker_time v) v.ends e h.span; settled = h.settled }
