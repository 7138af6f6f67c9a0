-- Laws for the layers above: callers and answerers over any number of calls and ticks.
use Rattle.std.specs.Prelude.{◌≡◌, ◌<◌, ◌≤◌, ℕ, zero, suc, ◌+◌, ◌-◌, ◌==◌, ◌&&◌, Bool, true, false, nat_le, if◌then◌else◌, List, [], ◌∷◌, length, Option, Some, None}
use Rattle.mctp_reasm.specs.Pieces.{MessageOf}
use Rattle.pldm_exch.specs.Caller.{CallTickOf, CallerState, IsCaller, Open, caller_after_abandon, answer_outcome, begin_outcome, caller_tick, new_caller, may_begin, next_tag, rest_at, sends_at}
use Rattle.pldm_exch.specs.Kept.{AreKeptAnswers, AskedOf, KeptAnswer, answerer_tick, identifier_of, kept_at, kept_tick, kept_with, none_kept, asked_for}

-- a call of a caller that may change it
pub data CallerStep : Type 0 where
  Begin : (pldm_type command : ℕ) → List ℕ → CallerStep
  Hear : MessageOf → CallerStep
  Abandon : CallerStep
  Tick : CallerStep

-- the caller after a call
abbrev pub caller_after : CallerState → CallerStep → CallerState
caller_after c (Begin pldm_type command body) = (begin_outcome c pldm_type command body).0
caller_after c (Hear m) = (answer_outcome c m).0
caller_after c Abandon = caller_after_abandon c
caller_after c Tick = (caller_tick c).0

-- the caller after the calls, in order
abbrev pub caller_run : CallerState → List CallerStep → CallerState
caller_run c [] = c
caller_run c (s ∷ ss) = caller_run (caller_after c s) ss

-- the ticks among calls
abbrev pub ticks_in : List CallerStep → ℕ
ticks_in [] = 0
ticks_in (Tick ∷ ss) = ticks_in ss + 1
ticks_in (_ ∷ ss) = ticks_in ss

-- the call sends this message
abbrev pub IsSending : CallerState → CallerStep → MessageOf → Type 0
IsSending c (Begin pldm_type command body) m = (begin_outcome c pldm_type command body).1 ≡ m
IsSending c (Hear _) m = ⊥
IsSending c Abandon m = ⊥
IsSending c Tick m = (caller_tick c).1 ≡ CallTickOf.Send m

-- The invariant of a fresh caller holds after any calls: above all, an open request is the last
-- that began, and at most 17 ticks old.
pub record CallersStayLawful : Type 0 where
  pub first : (own peer : ℕ) → IsCaller (new_caller own peer)
  pub after : (c : CallerState) (s : CallerStep) → IsCaller c → IsCaller (caller_after c s)
  pub always : (c : CallerState) (ss : List CallerStep) → IsCaller c → IsCaller (caller_run c ss)

-- After any calls that follow a sending, its tag rests 40 ticks less those since the sending. A
-- rest never ends earlier than 40 ticks after the last sending under its tag.
abbrev pub RestsOutlastSendings : Type 0
RestsOutlastSendings =
    (c : CallerState) (s : CallerStep) (m : MessageOf) (ss : List CallerStep) → IsCaller c → IsSending c s m
    → (m.tag < 8) × (40 ≤ rest_at (caller_run (caller_after c s) ss) m.tag + ticks_in ss)

-- a tick sends the open request again, and it is under this tag
abbrev pub repeats_under : Option Open → ℕ → Bool
repeats_under None tag = false
repeats_under (Some o) tag = (o.tag == tag) && sends_at (o.age + 1)

-- Each change of a rest: sending under a tag sets its rest to 40, a tick lowers each other rest by
-- one, and nothing else changes one.
pub record RestsChange : Type 0 where
  pub begin : (c : CallerState) (pldm_type command : ℕ) (body : List ℕ) (tag : ℕ) → IsCaller c
      → rest_at (begin_outcome c pldm_type command body).0 tag ≡ (if tag == next_tag c then 40 else rest_at c tag)
  pub hear : (c : CallerState) (m : MessageOf) (tag : ℕ) → rest_at (answer_outcome c m).0 tag ≡ rest_at c tag
  pub tick : (c : CallerState) (tag : ℕ) → IsCaller c → tag < 8
      → rest_at (caller_tick c).0 tag ≡ (if repeats_under c.asked tag then 40 else rest_at c tag - 1)

-- the caller after `n` ticks
abbrev pub after_ticks : ℕ → CallerState → CallerState
after_ticks zero c = c
after_ticks (suc n) c = (caller_tick (after_ticks n c)).0

-- the result of the next tick for a request that is open for `age` ticks
abbrev pub tick_at : ℕ → MessageOf → CallTickOf
tick_at age m =
    if age + 1 == 6 then CallTickOf.Send m
    else if age + 1 == 12 then CallTickOf.Send m
    else if age + 1 == 18 then CallTickOf.GaveUp
    else CallTickOf.Nothing

-- A request that isn't answered is sent in the call that begins it, in the sixth tick and in the
-- twelfth, and is given up in the 18th. In each other tick before that nothing happens.
abbrev pub OpenRequestsRepeat : Type 0
OpenRequestsRepeat =
    (c : CallerState) (pldm_type command : ℕ) (body : List ℕ) (n : ℕ) → n ≤ 17
    → (caller_tick (after_ticks n (begin_outcome c pldm_type command body).0)).1 ≡ tick_at n (begin_outcome c pldm_type command body).1

-- a request and its answer
pub record Exchange : Type 0 where
  pub pldm_type : ℕ
  pub command : ℕ
  pub body : List ℕ
  pub answer : MessageOf

-- the caller after a request and its answer
abbrev pub caller_after_exchange : CallerState → Exchange → CallerState
caller_after_exchange c x = (answer_outcome (begin_outcome c x.pldm_type x.command x.body).0 x.answer).0

-- the caller after the requests, one begun and answered in each tick
abbrev pub each_tick : CallerState → List Exchange → CallerState
each_tick c [] = c
each_tick c (x ∷ []) = caller_after_exchange c x
each_tick c (x ∷ y ∷ xs) = each_tick (caller_tick (caller_after_exchange c x)).0 (y ∷ xs)

-- each of them may begin, and is answered
abbrev pub AreAnswered : CallerState → List Exchange → Type 0
AreAnswered c [] = Unit {0}
AreAnswered c (x ∷ xs) =
    (may_begin c ≡ true) × ((caller_after_exchange c x).asked ≡ None) × AreAnswered (caller_tick (caller_after_exchange c x)).0 xs

-- Eight requests, one begun and answered in each of eight ticks, leave the rests 33 to 40.
abbrev pub EightRequestsRest : Type 0
EightRequestsRest =
    (own peer : ℕ) (xs : List Exchange) → length xs ≡ 8 → AreAnswered (new_caller own peer) xs
    → (each_tick (new_caller own peer) xs).rests ≡ 33 ∷ 34 ∷ 35 ∷ 36 ∷ 37 ∷ 38 ∷ 39 ∷ 40 ∷ []

-- The invariant of kept answers holds from the start and stays: eight places, answers of their
-- tags, none older than 24 ticks.
pub record AnswersStayLawful : Type 0 where
  pub first : AreKeptAnswers none_kept
  pub keep : (kept : List (Option KeptAnswer)) (m : MessageOf) → AreKeptAnswers kept → AreKeptAnswers (kept_with kept m)
  pub tick : (kept : List (Option KeptAnswer)) → AreKeptAnswers kept → AreKeptAnswers (answerer_tick kept)

-- A repeated answer has the tag and the identifier of the repeated request.
abbrev pub RepeatsAnswerTheRequest : Type 0
RepeatsAnswerTheRequest =
    (kept : List (Option KeptAnswer)) (request answer : MessageOf) → AreKeptAnswers kept → asked_for kept request ≡ AskedOf.Again answer
    → (answer.tag ≡ request.tag) × (identifier_of answer ≡ identifier_of request)

-- the kept answers after `n` ticks
abbrev pub kept_after : ℕ → List (Option KeptAnswer) → List (Option KeptAnswer)
kept_after zero kept = kept
kept_after (suc n) kept = answerer_tick (kept_after n kept)

-- An answer is kept for 24 ticks, and no longer.
abbrev pub AnswersAreKept : Type 0
AnswersAreKept =
    (kept : List (Option KeptAnswer)) (m : MessageOf) (identifier n : ℕ) → AreKeptAnswers kept → m.tag < 8 → identifier_of m ≡ Some identifier
    → kept_at (kept_after n (kept_with kept m)) m.tag ≡ (if nat_le n 24 then Some (record { identifier = identifier; reply = m; age = n }) else None)

-- The changes of a tag's kept answer: an answer under the tag replaces it, and a tick ages it.
pub record KeptChange : Type 0 where
  pub keep : (kept : List (Option KeptAnswer)) (m : MessageOf) (identifier tag : ℕ) → AreKeptAnswers kept → m.tag < 8 → identifier_of m ≡ Some identifier
      → kept_at (kept_with kept m) tag ≡ (if tag == m.tag then Some (record { identifier = identifier; reply = m; age = 0 }) else kept_at kept tag)
  pub tick : (kept : List (Option KeptAnswer)) (tag : ℕ) → kept_at (answerer_tick kept) tag ≡ kept_tick (kept_at kept tag)
