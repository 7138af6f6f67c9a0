-- Laws on callers over any number of calls.
use Rattle.std.proofs.Common.{◌==◌, ◌-◌, if◌then◌else◌, ◌≡◌, ◌∙◌, ◌+◌, ◌%◌, ◌≤◌, ◌<◌, ℕ, zero, suc, List, [], ◌∷◌, Option, Some, None, IfSome, length, get_or, slice_set, inl, inr, refl, sym, ap, arith}
use Rattle.std.specs.List.{AllByRecursion}
use Rattle.std.proofs.lemmas.Bool.{eq-eqb, ne_eqb}
use Rattle.std.proofs.lemmas.Bool.Decides.{eqb_tells}
use Rattle.std.proofs.lemmas.List.{get_or-set_other}
use Rattle.mctp_reasm.specs.Pieces.{MessageOf}
use Rattle.pldm_exch.specs.Rests.{AreRests, rests_after_tick, no_rests}
use Rattle.pldm_exch.specs.Caller.{CallTickOf, CallerState, IsCaller, IsOpen, Open, answer_body, answer_outcome, begin_outcome, caller_tick, closed_by, new_caller, answer_outcome_for, open_after_tick, open_request, request_message, rest_at, sends_at, caller_tick_for}
use Rattle.pldm_exch.specs.Laws.{AreAnswered, CallerStep, CallersStayLawful, EightRequestsRest, Exchange, IsSending, OpenRequestsRepeat, RestsChange, RestsOutlastSendings, after_ticks, caller_after, caller_run, each_tick, caller_after_exchange, repeats_under, tick_at, ticks_in}
use Rattle.pldm_exch.specs.Laws.{Abandon, Begin, Hear, Tick}
use Rattle.pldm_exch.proofs.Callers.{abandoned_is, begun_is, below_8, bool_cases, fresh_is, heard_is, tick_is}
use Rattle.pldm_exch.proofs.Resting.{rest_fallen, rest_set, rests_fall}

-- lawful callers
after_is : (c : CallerState) (s : CallerStep) → IsCaller c → IsCaller (caller_after c s)
after_is c (Begin pldm_type command body) h = begun_is c pldm_type command body h
after_is c (Hear m) h = heard_is c m h
after_is c Abandon h = abandoned_is c h
after_is c Tick h = tick_is c h

run_is : (c : CallerState) (ss : List CallerStep) → IsCaller c → IsCaller (caller_run c ss)
run_is c [] h = h
run_is c (s ∷ ss) h = run_is (caller_after c s) ss (after_is c s h)

pub stay_lawful : CallersStayLawful
stay_lawful = record { first = fresh_is; after = after_is; always = run_is }

-- rests
rest_most : (rests : List ℕ) (t : ℕ) → AllByRecursion (λ rest. rest ≤ 40) rests → get_or rests t 0 ≤ 40
rest_most [] t h = omega arith
rest_most (r ∷ rs) zero h = h.0
rest_most (r ∷ rs) (suc t) h = rest_most rs t h.1

-- setting a rest to 40 lowers none
set_keeps : (rests : List ℕ) (t u : ℕ) → u < 8 → t < 8 → AreRests rests → get_or rests u 0 ≤ get_or (slice_set rests t 40) u 0
set_keeps rests t u low lt h = elim (eqb_tells u t) [
  | inl same ↦
      let set : get_or (slice_set rests t 40) u 0 ≡ 40 = ap (λ v. get_or (slice_set rests t 40) v 0) same.1 ∙ rest_set rests t lt h in
      let most = rest_most rests u h.1 in
      omega (arith, set, most)
  | inr other ↦ let same = get_or-set_other rests t u 40 0 other.1 in omega (arith, same)
]

ticked_keeps : (c : CallerState) (o : Option Open) (u : ℕ) → u < 8 → IsCaller c → IfSome o (IsOpen c) → rest_at c u ≤ rest_at (caller_tick_for c o).0 u + 1
ticked_keeps c None u low h open_is = let fell = rest_fallen c.rests u low h.rests in omega (arith, fell)
ticked_keeps c (Some o) u low h open_is =
    let fell = rest_fallen c.rests u low h.rests in
    let lt : o.tag < 8 = rw open_is.tag (below_8 ((c.number + 31) % 32)) in
    let set = set_keeps (rests_after_tick c.rests) o.tag u low lt (rests_fall c.rests h.rests) in
    elim (bool_cases (sends_at (o.age + 1))) [
      | inl due ↦ rw due (omega (arith, fell, set))
      | inr other ↦ elim (eqb_tells (o.age + 1) 18) [
        | inl last ↦ rw (other, last.0) (omega (arith, fell))
        | inr more ↦ rw (other, more.0) (omega (arith, fell))
      ]
    ]

closed_rests : (c : CallerState) (o : Open) (answer : Option (List ℕ)) → (closed_by c o answer).0.rests ≡ c.rests
closed_rests c o None = refl
closed_rests c o (Some body) = refl

heard_rests_as : (c : CallerState) (o : Option Open) (m : MessageOf) → (answer_outcome_for c o m).0.rests ≡ c.rests
heard_rests_as c None m = refl
heard_rests_as c (Some o) m = closed_rests c o (answer_body o m)

heard_rests : (c : CallerState) (m : MessageOf) → (answer_outcome c m).0.rests ≡ c.rests
heard_rests c m = heard_rests_as c c.asked m

-- a call lowers no rest, and a tick none by more than one
step_keeps : (c : CallerState) (s : CallerStep) (u : ℕ) → u < 8 → IsCaller c → rest_at c u ≤ rest_at (caller_after c s) u + ticks_in (s ∷ [])
step_keeps c (Begin pldm_type command body) u low h = let set = set_keeps c.rests (c.number % 8) u low (below_8 c.number) h.rests in omega (arith, set)
step_keeps c (Hear m) u low h = rw (heard_rests c m) (omega arith)
step_keeps c Abandon u low h = omega arith
step_keeps c Tick u low h = let kept = ticked_keeps c c.asked u low h h.asked in omega (arith, kept)

ticks_cons : (s : CallerStep) (ss : List CallerStep) → ticks_in (s ∷ ss) ≡ ticks_in (s ∷ []) + ticks_in ss
ticks_cons (Begin pldm_type command body) ss = omega arith
ticks_cons (Hear m) ss = omega arith
ticks_cons Abandon ss = omega arith
ticks_cons Tick ss = omega arith

run_keeps : (c : CallerState) (ss : List CallerStep) (u : ℕ) → u < 8 → IsCaller c → rest_at c u ≤ rest_at (caller_run c ss) u + ticks_in ss
run_keeps c [] u low h = omega arith
run_keeps c (s ∷ ss) u low h =
    let one = step_keeps c s u low h in
    let more = run_keeps (caller_after c s) ss u low (after_is c s h) in
    let sum = ticks_cons s ss in
    omega (arith, one, more, sum)

-- the message that a tick sends
message_in : MessageOf → CallTickOf → MessageOf
message_in m (CallTickOf.Send sent) = sent
message_in m _ = m

open_tag : (c : CallerState) (o : Open) → IsOpen c o → o.message.tag ≡ o.tag
open_tag c o h = ap (λ m. m.tag) h.message ∙ (ap (λ n. n % 8) h.identifier ∙ sym h.tag)

-- sending sets the rest
sent_rest : (c : CallerState) (o : Option Open) (m : MessageOf) → IsCaller c → IfSome o (IsOpen c) → (caller_tick_for c o).1 ≡ CallTickOf.Send m → (m.tag < 8) × (rest_at (caller_tick_for c o).0 m.tag ≡ 40)
unfolding message_in
sent_rest c None m h open_is e = absurd (cc)
sent_rest c (Some o) m h open_is e = elim (bool_cases (sends_at (o.age + 1))) [
  | inl due ↦
      let low : o.tag < 8 = rw open_is.tag (below_8 ((c.number + 31) % 32)) in
      let sent : (caller_tick_for c (Some o)).1 ≡ CallTickOf.Send o.message = rw due refl in
      let tag : m.tag ≡ o.tag = ap (λ t. (message_in m t).tag) (sym e ∙ sent) ∙ open_tag c o open_is in
      rw (due, tag) (low, rest_set (rests_after_tick c.rests) o.tag low (rests_fall c.rests h.rests))
  | inr other ↦ elim (eqb_tells (o.age + 1) 18) [
    | inl last ↦ let no = rw (other, last.0) at e in absurd (cc)
    | inr more ↦ let no = rw (other, more.0) at e in absurd (cc)
  ]
]

sending_rest : (c : CallerState) (s : CallerStep) (m : MessageOf) → IsCaller c → IsSending c s m → (m.tag < 8) × (rest_at (caller_after c s) m.tag ≡ 40)
sending_rest c (Begin pldm_type command body) m h e =
    let tag : m.tag ≡ c.number % 8 = ap (λ sent. sent.tag) (sym e) in
    rw tag (below_8 c.number, rest_set c.rests (c.number % 8) (below_8 c.number) h.rests)
sending_rest c (Hear n) m h e = absurd e
sending_rest c Abandon m h e = absurd e
sending_rest c Tick m h e = sent_rest c c.asked m h h.asked e

pub outlast : RestsOutlastSendings
outlast c s m ss h e =
    let sent = sending_rest c s m h e in
    let kept = run_keeps (caller_after c s) ss m.tag sent.0 (after_is c s h) in
    let rest = sent.1 in
    (sent.0, omega (arith, kept, rest))

-- the change of each rest
set_at : (rests : List ℕ) (t u : ℕ) → t < 8 → AreRests rests → get_or (slice_set rests t 40) u 0 ≡ (if u == t then 40 else get_or rests u 0)
set_at rests t u lt h = elim (eqb_tells u t) [
  | inl same ↦ rw same.0 (ap (λ v. get_or (slice_set rests t 40) v 0) same.1 ∙ rest_set rests t lt h)
  | inr other ↦ rw other.0 (get_or-set_other rests t u 40 0 other.1)
]

ticked_at : (c : CallerState) (o : Option Open) (u : ℕ) → u < 8 → IsCaller c → IfSome o (IsOpen c) → rest_at (caller_tick_for c o).0 u ≡ (if repeats_under o u then 40 else rest_at c u - 1)
ticked_at c None u low h open_is = rest_fallen c.rests u low h.rests
ticked_at c (Some o) u low h open_is =
    let fell = rest_fallen c.rests u low h.rests in
    let lt : o.tag < 8 = rw open_is.tag (below_8 ((c.number + 31) % 32)) in
    elim (bool_cases (sends_at (o.age + 1))) [
      | inl due ↦ elim (eqb_tells o.tag u) [
        | inl same ↦ rw (due, same.0) (set_at (rests_after_tick c.rests) o.tag u lt (rests_fall c.rests h.rests) ∙ (rw (eq-eqb u o.tag (sym same.1)) refl))
        | inr other ↦ rw (due, other.0) (set_at (rests_after_tick c.rests) o.tag u lt (rests_fall c.rests h.rests) ∙ (rw (ne_eqb u o.tag (λ e. other.1 (sym e))) fell))
      ]
      | inr waits ↦ elim (eqb_tells o.tag u) [
        | inl same ↦ elim (eqb_tells (o.age + 1) 18) [ inl last ↦ rw (waits, last.0, same.0) fell | inr more ↦ rw (waits, more.0, same.0) fell ]
        | inr other ↦ elim (eqb_tells (o.age + 1) 18) [ inl last ↦ rw (waits, last.0, other.0) fell | inr more ↦ rw (waits, more.0, other.0) fell ]
      ]
    ]

pub change : RestsChange
change = record {
  begin = λ c pldm_type command body u h. set_at c.rests (c.number % 8) u (below_8 c.number) h.rests;
  hear = λ c m u. ap (λ rests. get_or rests u 0) (heard_rests c m);
  tick = λ c u h low. ticked_at c c.asked u low h h.asked;
}

-- repeats
tick_asked : (c : CallerState) (o : Open) → o.age + 1 ≤ 17 → (caller_tick_for c (Some o)).0.asked ≡ Some (open_after_tick o)
tick_asked c o young = elim (bool_cases (sends_at (o.age + 1))) [
  | inl due ↦ rw due refl
  | inr other ↦ rw (other, ne_eqb (o.age + 1) 18 (λ e. absurd (omega (arith, e, young)))) refl
]

open_after : (c : CallerState) (o : Open) (n : ℕ) → c.asked ≡ Some o → o.age ≡ 0 → n ≤ 17 → (after_ticks n c).asked ≡ Some (record o { age = n })
open_after c o zero e fresh young = e ∙ ap (λ age. Some (record o { age = age })) fresh
open_after c o (suc n) e fresh young =
    let before = open_after c o n e fresh (omega (arith, young)) in
    let next : n + 1 ≡ suc n = omega arith in
    ap (λ x. (caller_tick_for (after_ticks n c) x).0.asked) before ∙ (tick_asked (after_ticks n c) (record o { age = n }) (omega (arith, young)) ∙ ap (λ age. Some (record o { age = age })) next)

tick_says : (c : CallerState) (o : Open) → (caller_tick_for c (Some o)).1 ≡ tick_at o.age o.message
tick_says c o = elim (eqb_tells (o.age + 1) 6) [
  | inl first ↦ rw first.0 refl
  | inr other ↦ elim (eqb_tells (o.age + 1) 12) [
    | inl second ↦ rw (other.0, second.0) refl
    | inr neither ↦ elim (eqb_tells (o.age + 1) 18) [ inl last ↦ rw (other.0, neither.0, last.0) refl | inr more ↦ rw (other.0, neither.0, more.0) refl ]
  ]
]

pub repeat : OpenRequestsRepeat
repeat c pldm_type command body n young =
    let m : MessageOf = request_message c.own c.peer c.number pldm_type command body in
    let first : CallerState = (begin_outcome c pldm_type command body).0 in
    let before = open_after first (open_request c.number pldm_type command m) n refl refl young in
    ap (λ x. (caller_tick_for (after_ticks n first) x).1) before ∙ tick_says (after_ticks n first) (record { tag = c.number % 8; identifier = c.number; pldm_type = pldm_type; command = command; message = m; age = n })

-- the rests after some requests, numbered from n on, one begun and answered in each tick
rounds : ℕ → ℕ → List ℕ → List ℕ
rounds zero n rests = rests
rounds (suc zero) n rests = slice_set rests (n % 8) 40
rounds (suc (suc more)) n rests = rounds (suc more) ((n + 1) % 32) (rests_after_tick (slice_set rests (n % 8) 40))

closed_number : (c : CallerState) (o : Open) (answer : Option (List ℕ)) → (closed_by c o answer).0.number ≡ c.number
closed_number c o None = refl
closed_number c o (Some body) = refl

heard_number_as : (c : CallerState) (o : Option Open) (m : MessageOf) → (answer_outcome_for c o m).0.number ≡ c.number
heard_number_as c None m = refl
heard_number_as c (Some o) m = closed_number c o (answer_body o m)

exchanged_rests : (c : CallerState) (x : Exchange) → (caller_after_exchange c x).rests ≡ slice_set c.rests (c.number % 8) 40
exchanged_rests c x = heard_rests (begin_outcome c x.pldm_type x.command x.body).0 x.answer

exchanged_number : (c : CallerState) (x : Exchange) → (caller_after_exchange c x).number ≡ (c.number + 1) % 32
exchanged_number c x = let d : CallerState = (begin_outcome c x.pldm_type x.command x.body).0 in heard_number_as d d.asked x.answer

each_rests : (c : CallerState) (xs : List Exchange) → AreAnswered c xs → (each_tick c xs).rests ≡ rounds (length xs) c.number c.rests
unfolding rounds
each_rests c [] h = refl
each_rests c (x ∷ []) h = exchanged_rests c x
each_rests c (x ∷ y ∷ xs) h =
    let d : CallerState = caller_after_exchange c x in
    let rests : (caller_tick d).0.rests ≡ rests_after_tick (slice_set c.rests (c.number % 8) 40) = ap (λ o. (caller_tick_for d o).0.rests) h.1 ∙ ap rests_after_tick (exchanged_rests c x) in
    let number : (caller_tick d).0.number ≡ (c.number + 1) % 32 = ap (λ o. (caller_tick_for d o).0.number) h.1 ∙ exchanged_number c x in
    each_rests (caller_tick d).0 (y ∷ xs) h.2 ∙ (ap (λ n. rounds (length (y ∷ xs)) n (caller_tick d).0.rests) number ∙ ap (rounds (length (y ∷ xs)) ((c.number + 1) % 32)) rests)

eight_rounds : rounds 8 0 no_rests ≡ 33 ∷ 34 ∷ 35 ∷ 36 ∷ 37 ∷ 38 ∷ 39 ∷ 40 ∷ []
unfolding rounds
eight_rounds = refl

pub eight : EightRequestsRest
eight own peer xs long h = each_rests (new_caller own peer) xs h ∙ (ap (λ n. rounds n 0 no_rests) long ∙ eight_rounds)
