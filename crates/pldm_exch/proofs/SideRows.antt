-- The outcomes at the ends, from facts about a packet.
use Rattle.std.proofs.Common.{◌≡◌, ℕ, Bool, true, false, if◌then◌else◌, List, Option, Some, None, Result, Ok, Err, refl, sym}
use Rattle.mctp_reasm.specs.Held.{Held}
use Rattle.mctp_reasm.specs.Inboxes.{feed_outcome_at, held_with, packet_for}
use Rattle.mctp_reasm.specs.Pieces.{MessageOf, PacketOf}
use Rattle.mctp_reasm.specs.declared.outcomes.Fed.TheVariants as outcomes
use Rattle.pldm_base.specs.Header.{pldm_of}
use Rattle.pldm_exch.specs.Caller.{CallerState, ReplyInOf, Open, answer_body, answer_outcome, closed_by, answer_outcome_for}
use Rattle.pldm_base.specs.declared.header.PldmFault.{PldmFault}
use Rattle.pldm_base.specs.declared.header.PldmHead.{PldmHead}
use Rattle.pldm_exch.specs.Kept.{AskedOf, KeptAnswer, asked_for}
use Rattle.pldm_exch.specs.Ends.{AnsweringOf, AskingOf}
use Rattle.pldm_exch.specs.Sides.{TakerRow, answering_row, asker_answered, asking_after, asking_row, reply_in_row, requests_in, taker_asked, taker_read}

-- a message that answers nothing changes nothing
closed_none : (c : CallerState) (o : Open) (body : Option (List ℕ)) → None ≡ (closed_by c o body).1 → (closed_by c o body).0 ≡ c
closed_none c o None e = refl
closed_none c o (Some body) e = absurd (cc)

heard_none : (c : CallerState) (o : Option Open) (m : MessageOf) → None ≡ (answer_outcome_for c o m).1 → (answer_outcome_for c o m).0 ≡ c
heard_none c None m e = refl
heard_none c (Some o) m e = closed_none c o (answer_body o m) e

-- a complete message at the node that asks
whole_reply : (a : AskingOf) (bytes : List ℕ) (p : PacketOf) (m : MessageOf) → Some p ≡ packet_for a.unit a.own a.peer false bytes
    → outcomes.Whole m ≡ feed_outcome_at a.unit a.replies p
    → asking_row a bytes ≡ asker_answered (held_with a.unit a.replies p) (answer_outcome a.caller m).0 (answer_outcome a.caller m).1
whole_reply a bytes p m found whole = rw (sym found, sym whole) refl

learnt_is : (replies : List (Option Held)) (c : CallerState) (h : Option ReplyInOf) → reply_in_row (asker_answered replies c h) ≡ h
learnt_is replies c None = refl
learnt_is replies c (Some h) = refl

after_is : (a : AskingOf) (replies : List (Option Held)) (c : CallerState) (h : Option ReplyInOf) → (None ≡ h → c ≡ a.caller)
    → asking_after a (asker_answered replies c h) ≡ record a { caller = c; replies = replies }
after_is a replies c None same = rw (same refl) refl
after_is a replies c (Some h) same = refl

pub whole_learnt : (a : AskingOf) (bytes : List ℕ) (p : PacketOf) (m : MessageOf) → Some p ≡ packet_for a.unit a.own a.peer false bytes
    → outcomes.Whole m ≡ feed_outcome_at a.unit a.replies p → reply_in_row (asking_row a bytes) ≡ (answer_outcome a.caller m).1
whole_learnt a bytes p m found whole =
    rw (whole_reply a bytes p m found whole) (learnt_is (held_with a.unit a.replies p) (answer_outcome a.caller m).0 (answer_outcome a.caller m).1)

pub whole_after : (a : AskingOf) (bytes : List ℕ) (p : PacketOf) (m : MessageOf) → Some p ≡ packet_for a.unit a.own a.peer false bytes
    → outcomes.Whole m ≡ feed_outcome_at a.unit a.replies p
    → asking_after a (asking_row a bytes) ≡ record a { caller = (answer_outcome a.caller m).0; replies = held_with a.unit a.replies p }
whole_after a bytes p m found whole =
    rw (whole_reply a bytes p m found whole)
    (after_is a (held_with a.unit a.replies p) (answer_outcome a.caller m).0 (answer_outcome a.caller m).1 (heard_none a.caller a.caller.asked m))

-- a complete message at the node that answers
pub whole_request : (t : AnsweringOf) (bytes : List ℕ) (p : PacketOf) (m : MessageOf) → Some p ≡ packet_for t.unit t.own t.peer true bytes
    → outcomes.Whole m ≡ feed_outcome_at t.unit t.requests p
    → answering_row t bytes ≡ taker_read (held_with t.unit t.requests p) t.kept m (pldm_of m.bytes)
whole_request t bytes p m found whole = rw (sym found, sym whole) refl

asked_in : (requests : List (Option Held)) (m : MessageOf) (h : PldmHead) (body : List ℕ) (a : AskedOf) → requests_in (taker_asked requests m h body a) ≡ requests
asked_in requests m h body (AskedOf.Again answer) = refl
asked_in requests m h body AskedOf.New = refl

read_if : (b : Bool) (requests : List (Option Held)) (m : MessageOf) (row : TakerRow) → requests_in row ≡ requests → requests_in (if b then row else TakerRow.Strays requests m) ≡ requests
read_if true requests m row e = e
read_if false requests m row e = refl

read_in : (requests : List (Option Held)) (kept : List (Option KeptAnswer)) (m : MessageOf) (r : Result (PldmHead × List ℕ) PldmFault) → requests_in (taker_read requests kept m r) ≡ requests
read_in requests kept m (Ok r) = read_if r.0.rq requests m (taker_asked requests m r.0 r.1 (asked_for kept m)) (asked_in requests m r.0 r.1 (asked_for kept m))
read_in requests kept m (Err fault) = refl

-- the held packets of requests at the node that answers, afterwards
pub whole_requests : (t : AnsweringOf) (bytes : List ℕ) (p : PacketOf) (m : MessageOf) → Some p ≡ packet_for t.unit t.own t.peer true bytes
    → outcomes.Whole m ≡ feed_outcome_at t.unit t.requests p → record t { requests = requests_in (answering_row t bytes) } ≡ record t { requests = held_with t.unit t.requests p }
whole_requests t bytes p m found whole =
    rw (whole_request t bytes p m found whole, read_in (held_with t.unit t.requests p) t.kept m (pldm_of m.bytes)) refl

pub ruleset rows = (whole_learnt, whole_after, whole_request)
