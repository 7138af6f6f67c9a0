-- The outcomes of a packet and of a tick at each end of an exchange, one constructor for each case.
use Rattle.std.specs.Prelude.{ℕ, ◌≡◌, ◌-◌, ◌==◌, nat_le, Bool, true, false, if◌then◌else◌, List, map, Option, Some, None, Result, Ok, Err}
use Rattle.mctp_wire.specs.declared.unit.Unit.{«Unit»}
use Rattle.mctp_reasm.specs.Held.{Held, held_tick}
use Rattle.mctp_reasm.specs.Inboxes.{feed_outcome_at, held_with, packet_for}
use Rattle.mctp_reasm.specs.Pieces.{MessageOf, PacketOf}
use Rattle.mctp_reasm.specs.declared.outcomes.Fed.{Fed}
use Rattle.mctp_reasm.specs.declared.outcomes.Fed.TheVariants as outcomes
use Rattle.pldm_base.specs.Header.{IsPldmHead, pldm_of}
use Rattle.pldm_base.specs.declared.header.PldmFault.{PldmFault}
use Rattle.pldm_base.specs.declared.header.PldmHead.{PldmHead}
use Rattle.pldm_exch.specs.Caller.{CallTickOf, CallerState, ReplyInOf, answer_outcome, caller_tick}
use Rattle.pldm_exch.specs.Ends.{AnsweringOf, AskerOf, AskingOf, TakerOf, asker_of, taker_of}
use Rattle.pldm_exch.specs.Kept.{AskedOf, KeptAnswer, answerer_tick, kept_with, asked_for}
use Rattle.pldm_exch.specs.Requests.{RequestOf, body_in, reply_message}
use Rattle.pldm_exch.specs.declared.request.Received.{Received}
use Rattle.pldm_exch.specs.declared.request.Received.TheVariants as brings

-- The outcome of a packet at the node that answers, with the requests that it holds packets of
-- afterwards.
pub data TakerRow : Type 0 where
  -- nothing is answered
  Silent : (requests : List (Option Held)) → TakerRow
  -- a request was repeated, and its kept answer is sent again
  Repeats : (requests : List (Option Held)) → (answer : MessageOf) → TakerRow
  -- a new request is complete: the message, its head and its request data
  TakesUp : (requests : List (Option Held)) → (request : MessageOf) → (head : PldmHead) → (body : List ℕ) → TakerRow
  -- a complete message is no PLDM request
  Strays : (requests : List (Option Held)) → (message : MessageOf) → TakerRow

-- a request: new, or repeated
abbrev pub taker_asked : List (Option Held) → MessageOf → PldmHead → List ℕ → AskedOf → TakerRow
taker_asked requests m head body (AskedOf.Again answer) = TakerRow.Repeats requests answer
taker_asked requests m head body AskedOf.New = TakerRow.TakesUp requests m head body

-- a complete message: a PLDM request, or a stray
abbrev pub taker_read : List (Option Held) → List (Option KeptAnswer) → MessageOf → Result (PldmHead × List ℕ) PldmFault → TakerRow
taker_read requests kept m (Ok r) =
    if r.0.rq then taker_asked requests m r.0 r.1 (asked_for kept m) else TakerRow.Strays requests m
taker_read requests kept m (Err fault) = TakerRow.Strays requests m

-- the outcome, from that of the assembly
abbrev pub taker_fed : List (Option Held) → List (Option KeptAnswer) → Fed → TakerRow
taker_fed requests kept (outcomes.Whole m) = taker_read requests kept m (pldm_of m.bytes)
taker_fed requests kept outcomes.Open = TakerRow.Silent requests
taker_fed requests kept (outcomes.Dropped cause) = TakerRow.Silent requests

abbrev pub taker_packet : «Unit» → TakerOf → Option PacketOf → TakerRow
taker_packet u t None = TakerRow.Silent t.requests
taker_packet u t (Some p) = taker_fed (held_with u t.requests p) t.kept (feed_outcome_at u t.requests p)

-- The outcome of a packet at the node that answers; a deaf one drops it.
abbrev pub taker_row : (u : «Unit») (own peer : ℕ) → TakerOf → List ℕ → TakerRow
taker_row u own peer t bytes =
    if t.deaf == 0 then taker_packet u t (packet_for u own peer true bytes) else TakerRow.Silent t.requests

-- The outcome of a packet at the node that asks, with the replies that it holds packets of
-- afterwards.
pub data AskerRow : Type 0 where
  -- no reply is received
  Ignores : (replies : List (Option Held)) → AskerRow
  -- the open request is answered: its command, and the reply
  Learns : (replies : List (Option Held)) → (caller : CallerState) → (heard : ReplyInOf) → AskerRow

-- a complete message: it answers the open request, or is dropped
abbrev pub asker_answered : List (Option Held) → CallerState → Option ReplyInOf → AskerRow
asker_answered replies caller None = AskerRow.Ignores replies
asker_answered replies caller (Some heard) = AskerRow.Learns replies caller heard

-- the outcome, from that of the assembly
abbrev pub asker_fed : List (Option Held) → CallerState → Fed → AskerRow
asker_fed replies caller (outcomes.Whole m) = asker_answered replies (answer_outcome caller m).0 (answer_outcome caller m).1
asker_fed replies caller outcomes.Open = AskerRow.Ignores replies
asker_fed replies caller (outcomes.Dropped cause) = AskerRow.Ignores replies

abbrev pub asker_packet : «Unit» → AskerOf → Option PacketOf → AskerRow
asker_packet u a None = AskerRow.Ignores a.replies
asker_packet u a (Some p) = asker_fed (held_with u a.replies p) a.caller (feed_outcome_at u a.replies p)

-- The outcome of a packet at the node that asks; a deaf one drops it.
abbrev pub asker_row : (u : «Unit») (own peer : ℕ) → AskerOf → List ℕ → AskerRow
asker_row u own peer a bytes =
    if a.deaf == 0 then asker_packet u a (packet_for u own peer false bytes) else AskerRow.Ignores a.replies

-- The outcome of a tick at the node that asks, with that node afterwards.
pub data AskerTick : Type 0 where
  -- nothing is sent
  Waits : AskerOf → AskerTick
  -- the open request is sent again
  Resends : AskerOf → (request : MessageOf) → AskerTick
  -- the open request was given up
  GivesUp : AskerOf → AskerTick

abbrev pub asker_called : AskerOf → CallTickOf → AskerTick
asker_called a CallTickOf.Nothing = AskerTick.Waits a
asker_called a (CallTickOf.Send m) = AskerTick.Resends a m
asker_called a CallTickOf.GaveUp = AskerTick.GivesUp a

-- A tick that the node that asks counts: a deaf count falls by one, and if it is still above 0
-- nothing else happens. Otherwise the held packets of replies grow older, and so do its requests.
abbrev pub asker_counts : AskerOf → AskerTick
asker_counts a =
    if nat_le a.deaf 1 then
    asker_called
    (record a { deaf = 0; caller = (caller_tick a.caller).0; replies = map held_tick a.replies })
    (caller_tick a.caller).1
    else AskerTick.Waits (record a { deaf = a.deaf - 1 })

-- A tick; an end that doesn't count it does nothing.
abbrev pub asker_tick : Bool → AskerOf → AskerTick
asker_tick true a = asker_counts a
asker_tick false a = AskerTick.Waits a

-- A tick that the node that answers counts: a deaf count falls by one, and if it is still above 0
-- nothing else happens. Otherwise the held packets of requests grow older, and so do the kept
-- answers.
abbrev pub taker_counts : TakerOf → TakerOf
taker_counts t =
    if nat_le t.deaf 1 then record t { deaf = 0; kept = answerer_tick t.kept; requests = map held_tick t.requests }
    else record t { deaf = t.deaf - 1 }

abbrev pub taker_tick : Bool → TakerOf → TakerOf
taker_tick true t = taker_counts t
taker_tick false t = t

-- the outcome of these bytes at a node that asks and isn't deaf
abbrev pub asking_row : AskingOf → List ℕ → AskerRow
asking_row a bytes = asker_packet a.unit (asker_of 0 a) (packet_for a.unit a.own a.peer false bytes)

abbrev pub answering_row : AnsweringOf → List ℕ → TakerRow
answering_row t bytes = taker_packet t.unit (taker_of 0 t) (packet_for t.unit t.own t.peer true bytes)

-- the answer that the node that asks receives
abbrev pub reply_in_row : AskerRow → Option ReplyInOf
reply_in_row (AskerRow.Ignores replies) = None
reply_in_row (AskerRow.Learns replies caller heard) = Some heard

-- that answer, if it is in a message: the command of its request, and the message's body
abbrev pub reply_in_message : (command : ℕ) → MessageOf → ReplyInOf
reply_in_message command m = record { command = command; reply = body_in (pldm_of m.bytes) }

-- the content of a place for messages after a packet: the message that it completed, otherwise the
-- content before
abbrev pub message_after_feed : Fed → (before : MessageOf) → MessageOf
message_after_feed (outcomes.Whole m) before = m
message_after_feed outcomes.Open before = before
message_after_feed (outcomes.Dropped cause) before = before

abbrev pub message_after_packet : «Unit» → List (Option Held) → Option PacketOf → (before : MessageOf) → MessageOf
message_after_packet u held None before = before
message_after_packet u held (Some p) before = message_after_feed (feed_outcome_at u held p) before

-- that node after a packet
abbrev pub asking_after : AskingOf → AskerRow → AskingOf
asking_after a (AskerRow.Ignores replies) = record a { replies = replies }
asking_after a (AskerRow.Learns replies caller heard) = record a { caller = caller; replies = replies }

-- the outcome of a packet for the node that answers
pub data ReceivedOf : Type 0 where
  Nothing : ReceivedOf
  Again : (answer : MessageOf) → ReceivedOf
  New : (request : RequestOf) → ReceivedOf
  Strays : (message : MessageOf) → ReceivedOf

-- the same for the code's type, with the message
abbrev pub received_of : Received → MessageOf → ReceivedOf
received_of brings.Nothing m = ReceivedOf.Nothing
received_of brings.Again m = ReceivedOf.Again m
received_of (brings.New head) m = ReceivedOf.New (record { message = m; head = head; body = body_in (pldm_of m.bytes) })
received_of brings.Strays m = ReceivedOf.Strays m

-- the head of a new request is that of a PLDM message; if there is nothing to do, the message is
-- unchanged
abbrev pub IsReceived : Received → (before after : MessageOf) → Type 0
IsReceived brings.Nothing before after = after ≡ before
IsReceived (brings.New head) before after = IsPldmHead head
IsReceived _ before after = Prim.Unit {0}

-- the same for a `TakerRow`
abbrev pub received_in : TakerRow → ReceivedOf
received_in (TakerRow.Silent requests) = ReceivedOf.Nothing
received_in (TakerRow.Repeats requests answer) = ReceivedOf.Again answer
received_in (TakerRow.TakesUp requests m head body) = ReceivedOf.New (record { message = m; head = head; body = body })
received_in (TakerRow.Strays requests m) = ReceivedOf.Strays m

-- the held packets of requests at the node that answers, after a packet
abbrev pub requests_in : TakerRow → List (Option Held)
requests_in (TakerRow.Silent requests) = requests
requests_in (TakerRow.Repeats requests answer) = requests
requests_in (TakerRow.TakesUp requests m head body) = requests
requests_in (TakerRow.Strays requests m) = requests

-- A new request is answered: the answer is kept.
abbrev pub answered_with : AnsweringOf → RequestOf → List ℕ → AnsweringOf
answered_with t r reply = record t { kept = kept_with t.kept (reply_message r.message r.head reply) }
