-- A half sends at most one message a tick: after a repeat the request is open, or it was given up
-- and its tag rests.
use Rattle.std.proofs.Common.{◌≡◌, ◌∙◌, ◌+◌, ◌-◌, ◌⊎◌, ◌≤◌, ◌<◌, ◌%◌, ℕ, Bool, true, false, List, [], get_or, length, slice_set, Option, Some, None, is_none, inl, inr, refl, ap, arith}
use Rattle.std.proofs.lemmas.Bool.Decides.{eqb_tells}
use Rattle.std.proofs.lemmas.List.{get_or-set_same, length-map, length-set}
use Rattle.mctp_reasm.specs.declared.outcomes.Fed.{Fed}
use Rattle.mctp_reasm.specs.declared.outcomes.Fed.TheVariants as outcomes
use Rattle.mctp_reasm.specs.Held.{Held}
use Rattle.mctp_reasm.specs.Inboxes.{feed_outcome_at, held_with, packet_for}
use Rattle.mctp_reasm.specs.Pieces.{MessageOf, PacketOf}
use Rattle.fwup_wire.specs.Values.{CommandOf}
use Rattle.pldm_exch.specs.Caller.{CallTickOf, CallerState, ReplyInOf, Open, answer_body, answer_outcome, begin_outcome, caller_tick, closed_by, new_caller, answer_outcome_for, last_tag, may_begin, next_tag, open_after_tick, rest_at, sends_at, caller_tick_for}
use Rattle.pldm_exch.specs.Ends.{AskingOf, asker_of}
use Rattle.pldm_exch.specs.Rests.{rests_after_tick}
use Rattle.pldm_exch.specs.Sides.{asker_answered, asker_fed, asker_packet, asking_after, asking_row}
use Rattle.fw_node.specs.BothEnds.{IsAsking}
use Rattle.fw_node.specs.Halves.{CoreOf, HalfOf, begins_if, begins_wish, kept_if, last_part, still_wished, unwished_abandoned, unwished_for, with_caller}
use Rattle.fw_node.specs.Packets.{sent_by}

pub bool_cases : (b : Bool) → (b ≡ true) ⊎ (b ≡ false)
bool_cases true = inl refl
bool_cases false = inr refl

-- the invariant of the requests is kept
tag_of : (n : ℕ) → n % 8 ≡ ((n + 1) % 32 + 31) % 32 % 8
tag_of n = omega arith

pub fresh_is : (own peer : ℕ) → IsAsking peer (new_caller own peer)
fresh_is own peer = record { rests = refl; tag = tt; unanswered = tt; asks = refl; message = tt }

pub begun_is : {peer : ℕ} (c : CallerState) (pldm_type command : ℕ) (body : List ℕ) → IsAsking peer c → IsAsking peer (begin_outcome c pldm_type command body).0
begun_is c pldm_type command body h = record { rests = length-set c.rests (next_tag c) 40 ∙ h.rests; tag = tag_of c.number; unanswered = refl; asks = h.asks; message = h.asks }

closed_is : {peer : ℕ} (c : CallerState) (o : Open) (answer : Option (List ℕ)) → IsAsking peer c → IsAsking peer (closed_by c o answer).0
closed_is c o None h = h
closed_is c o (Some body) h = record { rests = h.rests; tag = tt; unanswered = tt; asks = h.asks; message = tt }

heard_as_is : {peer : ℕ} (c : CallerState) (o : Option Open) (m : MessageOf) → IsAsking peer c → IsAsking peer (answer_outcome_for c o m).0
heard_as_is c None m h = h
heard_as_is c (Some o) m h = closed_is c o (answer_body o m) h

learnt_is : {peer : ℕ} (a : AskingOf) (replies : List (Option Held)) (c : CallerState) (o : Option ReplyInOf) → IsAsking peer a.caller → IsAsking peer c → IsAsking peer (asking_after a (asker_answered replies c o)).caller
learnt_is a replies c None h is = h
learnt_is a replies c (Some heard) h is = is

fed_is : {peer : ℕ} (a : AskingOf) (replies : List (Option Held)) (fed : Fed) → IsAsking peer a.caller → IsAsking peer (asking_after a (asker_fed replies a.caller fed)).caller
fed_is a replies (outcomes.Whole m) h = learnt_is a replies (answer_outcome a.caller m).0 (answer_outcome a.caller m).1 h (heard_as_is a.caller a.caller.asked m h)
fed_is a replies outcomes.Open h = h
fed_is a replies (outcomes.Dropped cause) h = h

packet_is : {peer : ℕ} (a : AskingOf) (p : Option PacketOf) → IsAsking peer a.caller → IsAsking peer (asking_after a (asker_packet a.unit (asker_of 0 a) p)).caller
packet_is a None h = h
packet_is a (Some p) h = fed_is a (held_with a.unit a.replies p) (feed_outcome_at a.unit a.replies p) h

pub hears_is : {peer : ℕ} (a : AskingOf) (bytes : List ℕ) → IsAsking peer a.caller → IsAsking peer (asking_after a (asking_row a bytes)).caller
hears_is a bytes h = packet_is a (packet_for a.unit a.own a.peer false bytes) h

kept_is : {peer : ℕ} (b : Bool) (c : CallerState) → IsAsking peer c → IsAsking peer (kept_if b c)
kept_is true c h = h
kept_is false c h = record { rests = h.rests; tag = tt; unanswered = tt; asks = h.asks; message = tt }

wished_is : {peer : ℕ} (wish : Option CommandOf) (c : CallerState) (o : Option Open) → IsAsking peer c → IsAsking peer (unwished_for wish c o)
wished_is wish c None h = h
wished_is wish c (Some o) h = kept_is (still_wished wish o) c h

pub settled_is : {peer : ℕ} (wish : Option CommandOf) (c : CallerState) → IsAsking peer c → IsAsking peer (unwished_abandoned wish c)
settled_is wish c h = wished_is wish c c.asked h

-- a tick: the request is sent again, is given up, or waits
abbrev pub again : CallerState → Open → CallerState
again c o = record c { rests = slice_set (rests_after_tick c.rests) o.tag 40; asked = Some (open_after_tick o) }

fallen_long : {peer : ℕ} (c : CallerState) → IsAsking peer c → length (rests_after_tick c.rests) ≡ 8
fallen_long c h = length-map c.rests (λ rest. rest - 1) ∙ h.rests

ticked_is : {peer : ℕ} (c : CallerState) (o : Option Open) → IsAsking peer c → c.asked ≡ o → IsAsking peer (caller_tick_for c o).0
ticked_is c None h e = record { rests = fallen_long c h; tag = rw e tt; unanswered = rw e tt; asks = h.asks; message = rw e tt }
ticked_is c (Some o) h e = elim (bool_cases (sends_at (o.age + 1))) [
  | inl due ↦ rw due (record { rests = length-set (rests_after_tick c.rests) o.tag 40 ∙ fallen_long c h; tag = rw e at h.tag; unanswered = rw e at h.unanswered; asks = h.asks; message = rw e at h.message })
  | inr other ↦ elim (eqb_tells (o.age + 1) 18) [
    | inl last ↦ rw (other, last.0) (record { rests = fallen_long c h; tag = tt; unanswered = tt; asks = h.asks; message = tt })
    | inr more ↦ rw (other, more.0) (record { rests = fallen_long c h; tag = rw e at h.tag; unanswered = rw e at h.unanswered; asks = h.asks; message = rw e at h.message })
  ]
]

pub tick_is : {peer : ℕ} (c : CallerState) → IsAsking peer c → IsAsking peer (caller_tick c).0
tick_is c h = ticked_is c c.asked h refl

pub ruleset callers_stay = (fresh_is, begun_is, hears_is, settled_is, tick_is)

-- after a repeat no other request may begin, whether that request stays open or is given up
busy : (b : Bool) (c : CallerState) → c.answered ≡ false → rest_at c (last_tag c) ≡ 40 → is_none c.asked ≡ false → may_begin (kept_if b c) ≡ false
busy true c waits rest asked = rw asked refl
busy false c waits rest asked = rw (waits, rest) refl

again_busy : {peer : ℕ} (wish : Option CommandOf) (c : CallerState) (o : Open) → IsAsking peer c → o.tag ≡ last_tag c → c.answered ≡ false → may_begin (unwished_abandoned wish (again c o)) ≡ false
again_busy wish c o h tag waits =
    let long = fallen_long c h in
    let low : last_tag c < length (rests_after_tick c.rests) = omega (arith, long) in
    busy (still_wished wish (open_after_tick o)) (again c o) waits
    (ap (λ t. get_or (slice_set (rests_after_tick c.rests) t 40) (last_tag c) 0) tag ∙ get_or-set_same (rests_after_tick c.rests) (last_tag c) 40 0 low) refl

-- then no message is sent last
none_begun : {C : Type 0} (wish : Option CommandOf) (h : HalfOf C) → may_begin h.asker.caller ≡ false → length (begins_wish wish h []).sent ≡ 0
none_begun None h e = refl
none_begun (Some c) h e = rw e refl

one_if : {C : Type 0} (b : Bool) (h : HalfOf C) (c : CommandOf) → length (begins_if b h c []).sent ≤ 1
one_if true h c = omega arith
one_if false h c = omega arith

one_begun : {C : Type 0} (wish : Option CommandOf) (h : HalfOf C) → length (begins_wish wish h []).sent ≤ 1
one_begun None h = omega arith
one_begun (Some c) h = one_if (may_begin h.asker.caller) h c

pub one_last : {C : Type 0} (core : CoreOf C) (h : HalfOf C) → length (last_part core h []).sent ≤ 1
one_last core h = one_begun (core.wish h.core) (with_caller h (unwished_abandoned (core.wish h.core) h.asker.caller))

-- and at most one is sent again
pub one_sent : (call : CallTickOf) → length (sent_by call) ≤ 1
one_sent CallTickOf.Nothing = omega arith
one_sent (CallTickOf.Send m) = omega arith
one_sent CallTickOf.GaveUp = omega arith

none_last : {C : Type 0} {peer : ℕ} (core : CoreOf C) (h : HalfOf C) (c : CallerState) (o : Open) → IsAsking peer c → o.tag ≡ last_tag c → c.answered ≡ false → h.asker.caller ≡ again c o → length (last_part core h []).sent ≡ 0
none_last core h c o is tag waits e =
    none_begun (core.wish h.core) (with_caller h (unwished_abandoned (core.wish h.core) h.asker.caller))
    (ap (λ x. may_begin (unwished_abandoned (core.wish h.core) x)) e ∙ again_busy (core.wish h.core) c o is tag waits)

one_by : {C : Type 0} {peer : ℕ} (core : CoreOf C) (h : HalfOf C) (c : CallerState) (o : Option Open) → IsAsking peer c → c.asked ≡ o → h.asker.caller ≡ (caller_tick_for c o).0
    → length (sent_by (caller_tick_for c o).1) + length (last_part core h []).sent ≤ 1
one_by core h c None is asked e = let one = one_last core h in omega (arith, one)
one_by core h c (Some o) is asked e = elim (bool_cases (sends_at (o.age + 1))) [
  | inl due ↦ let silent = none_last core h c o is (rw asked at is.tag) (rw asked at is.unanswered) (rw due at e) in rw due (omega (arith, silent))
  | inr other ↦ elim (eqb_tells (o.age + 1) 18) [
    | inl last ↦ let one = one_last core h in rw (other, last.0) (omega (arith, one))
    | inr more ↦ let one = one_last core h in rw (other, more.0) (omega (arith, one))
  ]
]

pub one_a_tick : {C : Type 0} {peer : ℕ} (core : CoreOf C) (h : HalfOf C) (c : CallerState) → IsAsking peer c → h.asker.caller ≡ (caller_tick c).0
    → length (sent_by (caller_tick c).1) + length (last_part core h []).sent ≤ 1
one_a_tick core h c is e = one_by core h c c.asked is refl e
