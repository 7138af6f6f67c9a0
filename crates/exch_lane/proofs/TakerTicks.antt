-- The taker's side of one tag over time.
use Rattle.std.proofs.Common.{◌≡◌, ◌∙◌, ◌+◌, ◌-◌, ◌≤◌, ◌<◌, Bool, true, false, Option, Some, None, IfSome, is_some, inl, inr, refl, sym, arith}
use Rattle.std.proofs.lemmas.Bool.{cases_lt, lt-leb, le-leb, lt-ltb, le-ltb}
use Rattle.mctp_reasm.specs.Held.{held_tick}
use Rattle.pldm_exch.specs.Kept.{KeptAnswer, kept_tick}
use Rattle.exch_lane.specs.Clocks.{Clock, MayBeat, clock_after_unit}
use Rattle.exch_lane.proofs.AskerTicks.{held_ages}
use Rattle.exch_lane.proofs.Elapsed.{elapsed_counted, elapsed_later, elapsed_missed, within_assembly, within_keeping}
use Rattle.exch_lane.proofs.Facts.{none_of, some_maps}
use Rattle.exch_lane.proofs.Views.{Ends, Exchange, IsKept, IsRequests, IsSpan, IsTaker, TakerView, resent, taker_at, taker_view_tick}

-- a kept answer ages only below its limit
kept_ages : (o : Option KeptAnswer) (P Q : KeptAnswer → Type 0) → IfSome o P
    → ((k : KeptAnswer) → P k → k.age < 24 → Q (record { identifier = k.identifier; reply = k.reply; age = k.age + 1 })) → IfSome (kept_tick o) Q
kept_ages None P Q h next = tt
kept_ages (Some kept) P Q h next = elim (cases_lt kept.age 24) [
  | inl more ↦ rw (lt-ltb kept.age 24 more) (next kept h more)
  | inr last ↦ rw (le-ltb kept.age 24 last) tt
]

-- an answer that must still be kept is young enough to stay
kept_stays : (c : Clock) (x : Ends) (e : Exchange) (o : Option KeptAnswer) → IfSome o (IsKept c x e) → is_some o ≡ true → c.now < e.first + 24 → is_some (kept_tick o) ≡ true
kept_stays c x e None h some lt = absurd (cc)
kept_stays c x e (Some k) h some lt = let old = h.old in rw (lt-ltb k.age 24 (omega arith)) refl

-- a tick that the taker counts, or misses
taker_waits : (c : Clock) (x : Ends) (e : Exchange) (w : TakerView) → 1 < w.deaf → IsTaker c x e w → IsTaker (clock_after_unit true c) x e (record w { deaf = w.deaf - 1 })
taker_waits c x e w lt h =
    let d = h.deaf (omega arith) in
    record {
      requests = rw d.1 tt;
      kept = rw d.0 tt;
      still = λ z. absurd (omega (arith, z));
      deaf = λ _. (d.0, d.1, λ r. let far = d.2 r in omega arith);
    }

taker_ages : (c : Clock) (x : Ends) (e : Exchange) (w : TakerView) → MayBeat true c → w.deaf ≤ 1 → IsTaker c x e w
    → IsTaker (clock_after_unit true c) x e (record { deaf = 0; kept = kept_tick w.kept; requests = held_tick w.requests })
taker_ages c x e w may le h = record {
  requests = held_ages w.requests (IsRequests c x e) (IsRequests (clock_after_unit true c) x e) h.requests (λ o r. r.age)
      (λ o r lt. record { part = r.part; age = omega arith; soon = elapsed_counted c (e.last + 8) o.age may r.soon });
  kept = kept_ages w.kept (IsKept c x e) (IsKept (clock_after_unit true c) x e) h.kept
      (λ k r lt. record { identifier = r.identifier; reply = r.reply; age = omega arith; old = let old = r.old in omega arith; soon = elapsed_counted c (e.last + 8) k.age may r.soon });
  still = λ _ some soon. elim (cases_lt 0 w.deaf) [
    | inl was ↦ let d = h.deaf was in let far = d.2 some in absurd (omega arith)
    | inr not ↦ kept_stays c x e w.kept h.kept (h.still (omega arith) some (omega arith)) (omega arith)
  ];
  deaf = λ z. absurd (omega (arith, z));
}

taker_counts : (c : Clock) (x : Ends) (e : Exchange) (w : TakerView) → MayBeat true c → IsTaker c x e w → IsTaker (clock_after_unit true c) x e (taker_view_tick w)
taker_counts c x e w may h = elim (cases_lt 1 w.deaf) [
  | inl more ↦ rw (lt-leb w.deaf 1 more) (taker_waits c x e w more h)
  | inr less ↦ rw (le-leb w.deaf 1 less) (taker_ages c x e w may less h)
]

taker_misses : (c : Clock) (x : Ends) (e : Exchange) (w : TakerView) → MayBeat false c → IsTaker c x e w → IsTaker (clock_after_unit false c) x e w
taker_misses c x e w may h = record {
  requests = some_maps w.requests (IsRequests c x e) (IsRequests (clock_after_unit false c) x e) h.requests (λ o r. record { part = r.part; age = r.age; soon = elapsed_missed c (e.last + 8) o.age may r.soon });
  kept = some_maps w.kept (IsKept c x e) (IsKept (clock_after_unit false c) x e) h.kept
      (λ k r. record { identifier = r.identifier; reply = r.reply; age = r.age; old = let old = r.old in omega arith; soon = elapsed_missed c (e.last + 8) k.age may r.soon });
  still = λ z some soon. h.still z some (omega arith);
  deaf = λ z. let d = h.deaf z in (d.0, d.1, λ r. let far = d.2 r in omega arith);
}

pub taker_beats : (counts : Bool) (c : Clock) (x : Ends) (e : Exchange) (w : TakerView) → MayBeat counts c → IsTaker c x e w
    → IsTaker (clock_after_unit counts c) x e (taker_at counts w)
taker_beats true c x e w may h = taker_counts c x e w may h
taker_beats false c x e w may h = taker_misses c x e w may h

pub taker_at_none : (counts : Bool) (w : TakerView) → w.requests ≡ None → w.kept ≡ None → ((taker_at counts w).requests ≡ None) × ((taker_at counts w).kept ≡ None)
taker_at_none false w e f = (e, f)
taker_at_none true w e f = elim (cases_lt 1 w.deaf) [ inl more ↦ rw (lt-leb w.deaf 1 more) (e, f) | inr less ↦ rw (le-leb w.deaf 1 less, e, f) (refl, refl) ]

-- the request is sent again
pub taker_resends : (c : Clock) (x : Ends) (e : Exchange) (w : TakerView) → e.last ≤ c.now → IsTaker c x e w → IsTaker c x (resent c.now e) w
taker_resends c x e w past h = record {
  requests = some_maps w.requests (IsRequests c x e) (IsRequests c x (resent c.now e)) h.requests
      (λ o r. record { part = r.part; age = r.age; soon = elapsed_later c (e.last + 8) (c.now + 8) o.age (omega arith) r.soon });
  kept = some_maps w.kept (IsKept c x e) (IsKept c x (resent c.now e)) h.kept
      (λ k r. record { identifier = r.identifier; reply = r.reply; age = r.age; old = r.old; soon = elapsed_later c (e.last + 8) (c.now + 8) k.age (omega arith) r.soon });
  still = h.still;
  deaf = h.deaf;
}

-- nothing old is left if a tag has rested
pub nothing_kept : (c : Clock) (x : Ends) (e : Exchange) (w : TakerView) → e.last + 40 ≤ c.now → IsTaker c x e w → (w.requests ≡ None) × (w.kept ≡ None)
nothing_kept c x e w far h = (
  none_of w.requests (IsRequests c x e) h.requests (λ o r. let soon = within_assembly c (e.last + 8) o.age r.soon (let young = r.age in omega arith) in omega arith),
  none_of w.kept (IsKept c x e) h.kept (λ k r. let soon = within_keeping c (e.last + 8) k.age r.soon (let young = r.age in omega arith) in omega arith),
)

pub taker_begins : (c : Clock) (x : Ends) (e : Exchange) (w : TakerView) → e.reply ≡ None → w.requests ≡ None → w.kept ≡ None → IsTaker c x e w
taker_begins c x e w unanswered requests kept = record {
  requests = rw requests tt;
  kept = rw kept tt;
  still = λ _ some _. absurd (let bad : is_some e.reply ≡ false = rw unanswered refl in let clash : true ≡ false = sym some ∙ bad in absurd (cc));
  deaf = λ _. (kept, requests, λ some. absurd (let bad : is_some e.reply ≡ false = rw unanswered refl in let clash : true ≡ false = sym some ∙ bad in absurd (cc)));
}

-- a restarted taker is deaf for 40 ticks
pub taker_restarts : (c : Clock) (x : Ends) (e : Exchange) → IsSpan c.now e → IsTaker c x e (record { deaf = 40; kept = None; requests = None })
taker_restarts c x e h =
    let order = h.order in
    let past = h.past in
    record { requests = tt; kept = tt; still = λ z. absurd (omega (arith, z)); deaf = λ _. (refl, refl, λ _. omega arith) }
