-- One direction's requests, as the node that asks keeps them. DSP0240 pairs an answer with its
-- request by the instance identifier, and each request has a tag of its own (DSP0236). Both are
-- used again only when nothing of the request can be left.
use Rattle.std.specs.Prelude.{◌≡◌, ◌≤◌, ℕ, ◌+◌, ◌%◌, ◌==◌, ◌&&◌, ◌||◌, not, Bool, true, false, if◌then◌else◌, List, drop, get_or, slice_set, Option, Some, None, IfSome, is_none, Result, Ok, Err}
use Rattle.mctp_reasm.specs.Pieces.{MessageOf}
use Rattle.pldm_base.specs.Header.{IsPldm, pldm_bytes, pldm_of}
use Rattle.pldm_base.specs.declared.header.PldmFault.{PldmFault}
use Rattle.pldm_base.specs.declared.header.PldmHead.{PldmHead}
use Rattle.pldm_exch.specs.Rests.{AreRests, rests_after_tick, no_rests}
use Rattle.pldm_exch.specs.declared.caller.CallTick.{CallTick}
use Rattle.pldm_exch.specs.declared.caller.CallTick.TheVariants as ticks

-- a request that waits for its answer, and the ticks since it began
pub record Open : Type 0 where
  pub tag : ℕ
  pub identifier : ℕ
  pub pldm_type : ℕ
  pub command : ℕ
  pub message : MessageOf
  pub age : ℕ

-- the command and the request data of a request that waits
abbrev pub request_of_open : Open → ℕ × List ℕ
request_of_open o = (o.command, drop 4 o.message.bytes)

-- the node that asks and its peer; the number of the next request, modulo 32; the rest of each tag;
-- the open request; whether the last request was answered, or there was none
pub record CallerState : Type 0 where
  pub own : ℕ
  pub peer : ℕ
  pub number : ℕ
  pub rests : List ℕ
  pub asked : Option Open
  pub answered : Bool

-- an answer: the command of its request, and its body
pub record ReplyInOf : Type 0 where
  pub command : ℕ
  pub reply : List ℕ

-- before the first request
abbrev pub new_caller : ℕ → ℕ → CallerState
new_caller own peer = record { own = own; peer = peer; number = 0; rests = no_rests; asked = None; answered = true }

-- the ticks until a tag may be used again
abbrev pub rest_at : CallerState → ℕ → ℕ
rest_at c tag = get_or c.rests tag 0

-- the tag of the next request
abbrev pub next_tag : CallerState → ℕ
next_tag c = c.number % 8

-- the identifier of the last request
abbrev pub last_identifier : CallerState → ℕ
last_identifier c = (c.number + 31) % 32

-- the tag of the last request
abbrev pub last_tag : CallerState → ℕ
last_tag c = last_identifier c % 8

-- Quiet: no request is open, and the last one was answered or its tag has rested.
abbrev pub is_quiet : CallerState → Bool
is_quiet c = is_none c.asked && (c.answered || (rest_at c (last_tag c) == 0))

-- A request may begin if the caller is quiet and the next tag has rested.
abbrev pub may_begin : CallerState → Bool
may_begin c = is_quiet c && (rest_at c (next_tag c) == 0)

-- the message of request n: it carries tag n modulo 8 and identifier n, and TO and Rq are set
abbrev pub request_message : (own peer n pldm_type command : ℕ) → List ℕ → MessageOf
request_message own peer n pldm_type command body =
    record {
      dest = peer;
      source = own;
      to = true;
      tag = n % 8;
      bytes = pldm_bytes (record { rq = true; instance = n; pldm_type = pldm_type; command = command }) body;
    }

-- that message as an open request
abbrev pub open_request : (n pldm_type command : ℕ) → MessageOf → Open
open_request n pldm_type command m =
    record { tag = n % 8; identifier = n; pldm_type = pldm_type; command = command; message = m; age = 0 }

-- A request begins: its message is sent, and its tag rests.
abbrev pub begin_outcome : CallerState → (pldm_type command : ℕ) → List ℕ → CallerState × MessageOf
begin_outcome c pldm_type command body =
    let m : MessageOf = request_message c.own c.peer c.number pldm_type command body in (
      record c {
        number = (c.number + 1) % 32;
        rests = slice_set c.rests (next_tag c) 40;
        asked = Some (open_request c.number pldm_type command m);
        answered = false;
      },
      m,
    )

-- The open request is given up without an answer.
abbrev pub caller_after_abandon : CallerState → CallerState
caller_after_abandon c = record c { asked = None }

-- the head is that of an answer to this request: Rq is clear, and identifier, type and command are
-- the request's
abbrev pub is_answer_head : Open → PldmHead → Bool
is_answer_head o h =
    not h.rq && (h.instance == o.identifier) && (h.pldm_type == o.pldm_type) && (h.command == o.command)

-- the body of what was read, if it is an answer to this request
abbrev pub answer_in : Open → Result (PldmHead × List ℕ) PldmFault → Option (List ℕ)
answer_in o (Ok m) = if is_answer_head o m.0 then Some m.1 else None
answer_in o (Err fault) = None

-- the body of a message, if it is an answer to this request: TO is clear, the tag is the request's,
-- and the bytes are a PLDM message with the head of an answer to it
abbrev pub answer_body : Open → MessageOf → Option (List ℕ)
answer_body o m = if not m.to && (m.tag == o.tag) then answer_in o (pldm_of m.bytes) else None

-- the message is an answer to this request, with this body: TO and Rq are clear, and tag,
-- identifier, type and command are the request's
abbrev pub IsAnswerTo : Open → MessageOf → List ℕ → Type 0
IsAnswerTo o m body =
    (m.to ≡ false) × (m.tag ≡ o.tag)
    × IsPldm m.bytes (record { rq = false; instance = o.identifier; pldm_type = o.pldm_type; command = o.command }) body

-- a request is closed by its answer
abbrev pub closed_by : CallerState → Open → Option (List ℕ) → CallerState × Option ReplyInOf
closed_by c o None = (c, None)
closed_by c o (Some body) =
    (record c { asked = None; answered = true }, Some (record { command = o.command; reply = body }))

abbrev pub answer_outcome_for : CallerState → Option Open → MessageOf → CallerState × Option ReplyInOf
answer_outcome_for c None m = (c, None)
answer_outcome_for c (Some o) m = closed_by c o (answer_body o m)

-- A message arrives: an answer to the open request closes it, and any other message changes
-- nothing.
abbrev pub answer_outcome : CallerState → MessageOf → CallerState × Option ReplyInOf
answer_outcome c m = answer_outcome_for c c.asked m

-- the result of a tick: nothing, this message is sent again, or the open request was given up
pub data CallTickOf : Type 0 where
  Nothing : CallTickOf
  Send : (message : MessageOf) → CallTickOf
  GaveUp : CallTickOf

-- the ages at which an open request is sent again
abbrev pub sends_at : ℕ → Bool
sends_at age = (age == 6) || (age == 12)

abbrev pub open_after_tick : Open → Open
open_after_tick o = record o { age = o.age + 1 }

abbrev pub caller_tick_for : CallerState → Option Open → CallerState × CallTickOf
caller_tick_for c None = (record c { rests = rests_after_tick c.rests }, CallTickOf.Nothing)
caller_tick_for c (Some o) =
    if sends_at (o.age + 1) then (
      record c { rests = slice_set (rests_after_tick c.rests) o.tag 40; asked = Some (open_after_tick o) },
      CallTickOf.Send o.message,
    )
    else if o.age + 1 == 18 then (record c { rests = rests_after_tick c.rests; asked = None }, CallTickOf.GaveUp)
    else (record c { rests = rests_after_tick c.rests; asked = Some (open_after_tick o) }, CallTickOf.Nothing)

-- A tick: all rests fall, and the open request grows older. At 6 and at 12 ticks the same message
-- is sent again, and its tag's rest starts again; at 18 the request is given up without an answer.
abbrev pub caller_tick : CallerState → CallerState × CallTickOf
caller_tick c = caller_tick_for c c.asked

-- the result without the message
abbrev pub tick_word : CallTickOf → CallTick
tick_word CallTickOf.Nothing = ticks.Nothing
tick_word (CallTickOf.Send m) = ticks.Send
tick_word CallTickOf.GaveUp = ticks.GaveUp

-- the result with the message of the request which is open afterwards
abbrev pub tick_of : CallTick → Option Open → CallTickOf
tick_of ticks.Nothing o = CallTickOf.Nothing
tick_of ticks.Send None = CallTickOf.Nothing
tick_of ticks.Send (Some o) = CallTickOf.Send o.message
tick_of ticks.GaveUp o = CallTickOf.GaveUp

-- the invariant of an open request: it is the last that began, it is at most 17 ticks old and
-- unanswered, its message is that of a request with this identifier, type and command, and its tag
-- rests 40 ticks less those since its last sending
pub record IsOpen (c : CallerState) (o : Open) : Type 0 where
  pub tag : o.tag ≡ last_tag c
  pub identifier : o.identifier ≡ last_identifier c
  pub age : o.age ≤ 17
  pub unanswered : c.answered ≡ false
  pub message : o.message ≡ request_message c.own c.peer o.identifier o.pldm_type o.command (drop 4 o.message.bytes)
  pub rest : rest_at c o.tag + o.age % 6 ≡ 40

-- the invariant of a caller
pub record IsCaller (c : CallerState) : Type 0 where
  pub number : c.number ≤ 31
  pub rests : AreRests c.rests
  pub asked : IfSome c.asked (IsOpen c)
