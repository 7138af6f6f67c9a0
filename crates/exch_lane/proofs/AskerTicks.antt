-- The asker's side of one tag over time.
use Rattle.std.proofs.Common.{◌≡◌, ◌+◌, ◌-◌, ◌≤◌, ◌<◌, Bool, true, false, Option, Some, None, IfSome, inl, inr, refl, arith}
use Rattle.std.proofs.lemmas.Bool.{cases_lt, lt-leb, le-leb}
use Rattle.std.proofs.lemmas.Bool.Decides.{eqb_tells}
use Rattle.mctp_reasm.specs.Held.{Held, held_tick}
use Rattle.exch_lane.specs.Clocks.{Clock, MayBeat, clock_after_unit}
use Rattle.exch_lane.proofs.Elapsed.{elapsed_counted, elapsed_later, elapsed_missed, within_assembly}
use Rattle.exch_lane.proofs.Facts.{lt_from, none_of, some_maps}
use Rattle.exch_lane.proofs.Views.{AskerView, Ends, Exchange, IsAsker, IsReplies, IsSpan, asker_at, asker_view_tick, resent, rested}

-- held packets age only below their limit
pub held_ages : (o : Option Held) (P Q : Held → Type 0) → IfSome o P → ((h : Held) → P h → h.age ≤ 8)
    → ((h : Held) → P h → h.age < 8 → Q (record h { age = h.age + 1 })) → IfSome (held_tick o) Q
held_ages None P Q h young next = tt
held_ages (Some held) P Q h young next = elim (eqb_tells held.age 8) [
  | inl last ↦ rw last.0 tt
  | inr more ↦ rw more.0 (next held h (lt_from held.age 8 (young held h) more.1))
]

-- a tick that the asker counts, or misses
asker_waits : (c : Clock) (x : Ends) (e : Exchange) (w : AskerView) → 1 < w.deaf → IsAsker c x e w → IsAsker (clock_after_unit true c) x e (record w { deaf = w.deaf - 1 })
asker_waits c x e w lt h =
    let d = h.deaf (omega arith) in
    record {
      replies = rw d.2 tt;
      rest = λ z. absurd (omega (arith, z));
      deaf = λ _. (omega (arith, d.0), d.1, d.2);
    }

asker_ages : (c : Clock) (x : Ends) (e : Exchange) (w : AskerView) → MayBeat true c → w.deaf ≤ 1 → IsAsker c x e w
    → IsAsker (clock_after_unit true c) x e (record { deaf = 0; rest = w.rest - 1; replies = held_tick w.replies })
asker_ages c x e w may le h = record {
  replies = held_ages w.replies (IsReplies c x e) (IsReplies (clock_after_unit true c) x e) h.replies (λ o r. r.age)
      (λ o r lt. record { part = r.part; age = omega arith; soon = elapsed_counted c (e.last + 16) o.age may r.soon });
  rest = λ _. elim (cases_lt 0 w.deaf) [
    | inl was ↦ let d = h.deaf was in omega (arith, d.0)
    | inr not ↦ let r = h.rest (omega arith) in omega (arith, r)
  ];
  deaf = λ z. absurd (omega (arith, z));
}

asker_counts : (c : Clock) (x : Ends) (e : Exchange) (w : AskerView) → MayBeat true c → IsAsker c x e w → IsAsker (clock_after_unit true c) x e (asker_view_tick w)
asker_counts c x e w may h = elim (cases_lt 1 w.deaf) [
  | inl more ↦ rw (lt-leb w.deaf 1 more) (asker_waits c x e w more h)
  | inr less ↦ rw (le-leb w.deaf 1 less) (asker_ages c x e w may less h)
]

asker_misses : (c : Clock) (x : Ends) (e : Exchange) (w : AskerView) → MayBeat false c → IsAsker c x e w → IsAsker (clock_after_unit false c) x e w
asker_misses c x e w may h = record {
  replies = some_maps w.replies (IsReplies c x e) (IsReplies (clock_after_unit false c) x e) h.replies (λ o r. record { part = r.part; age = r.age; soon = elapsed_missed c (e.last + 16) o.age may r.soon });
  rest = λ z. let r = h.rest z in omega arith;
  deaf = λ z. let d = h.deaf z in (omega (arith, d.0), d.1, d.2);
}

pub asker_beats : (counts : Bool) (c : Clock) (x : Ends) (e : Exchange) (w : AskerView) → MayBeat counts c → IsAsker c x e w
    → IsAsker (clock_after_unit counts c) x e (asker_at counts w)
asker_beats true c x e w may h = asker_counts c x e w may h
asker_beats false c x e w may h = asker_misses c x e w may h

pub asker_at_none : (counts : Bool) (w : AskerView) → w.replies ≡ None → (asker_at counts w).replies ≡ None
asker_at_none false w e = e
asker_at_none true w e = elim (cases_lt 1 w.deaf) [ inl more ↦ rw (lt-leb w.deaf 1 more) e | inr less ↦ rw (le-leb w.deaf 1 less, e) refl ]

-- the request is sent again
pub asker_resends : (c : Clock) (x : Ends) (e : Exchange) (w : AskerView) → w.deaf ≡ 0 → e.last ≤ c.now → IsAsker c x e w → IsAsker c x (resent c.now e) (rested w)
asker_resends c x e w hears past h = record {
  replies = some_maps w.replies (IsReplies c x e) (IsReplies c x (resent c.now e)) h.replies
      (λ o r. record { part = r.part; age = r.age; soon = elapsed_later c (e.last + 16) (c.now + 16) o.age (omega arith) r.soon });
  rest = λ _. omega arith;
  deaf = λ z. absurd (omega (arith, z, hears));
}

-- nothing old is left if a tag has rested
pub nothing_held : (c : Clock) (x : Ends) (e : Exchange) (w : AskerView) → w.deaf ≡ 0 → w.rest ≡ 0 → IsAsker c x e w → (e.last + 40 ≤ c.now) × (w.replies ≡ None)
nothing_held c x e w hears rested h =
    let far : e.last + 40 ≤ c.now = (let r = h.rest hears in omega (arith, r, rested)) in
    (far, none_of w.replies (IsReplies c x e) h.replies (λ o r. let soon = within_assembly c (e.last + 16) o.age r.soon (let young = r.age in omega arith) in omega arith))

pub asker_begins : (c : Clock) (x : Ends) (e : Exchange) (w : AskerView) → e.last ≡ c.now → w.deaf ≡ 0 → w.replies ≡ None → IsAsker c x e (rested w)
asker_begins c x e w now hears none = record { replies = rw none tt; rest = λ _. omega (arith, now); deaf = λ z. absurd (omega (arith, z, hears)) }

-- a restarted asker is deaf for 40 ticks
pub asker_restarts : (c : Clock) (x : Ends) (e : Exchange) → IsSpan c.now e → IsAsker c x e (record { deaf = 40; rest = 0; replies = None })
asker_restarts c x e h = let past = h.past in record { replies = tt; rest = λ z. absurd (omega (arith, z)); deaf = λ _. (omega arith, refl, refl) }
