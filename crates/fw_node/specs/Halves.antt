-- One half of a pair: the state of a node for one peer. It has a core, which is the agent's session
-- with a device or the device itself, an end that asks the peer, and an end that answers it. Both
-- kinds of core have the same half.
use Rattle.std.specs.Prelude.{ℕ, ◌==◌, Bool, true, false, if◌then◌else◌, List, [], ◌∷◌, ◌++◌, drop, map, Option, Some, None, Result, Ok, Err}
use Rattle.mctp_wire.specs.declared.unit.Unit.{«Unit»}
use Rattle.mctp_reasm.specs.Held.{Held, held_tick}
use Rattle.mctp_reasm.specs.Pieces.{MessageOf}
use Rattle.pldm_base.specs.Codes.{unsupported_command}
use Rattle.pldm_base.specs.declared.header.PldmHead.{PldmHead}
use Rattle.fwup_wire.specs.Answers.{answer_bytes, answer_read}
use Rattle.fwup_wire.specs.Commands.{command_bytes, command_code, command_read}
use Rattle.fwup_wire.specs.Same.{same_command}
use Rattle.fwup_wire.specs.Values.{AnswerOf, CommandOf}
use Rattle.fwup_wire.specs.declared.answer.Malformed.{Malformed}
use Rattle.pldm_exch.specs.Caller.{CallTickOf, CallerState, ReplyInOf, Open, caller_after_abandon, begin_outcome, caller_tick, is_quiet, may_begin}
use Rattle.pldm_exch.specs.Ends.{AnsweringOf, AskerOf, TakerOf, asker_new, taker_new}
use Rattle.pldm_exch.specs.Kept.{answerer_tick, kept_with}
use Rattle.pldm_exch.specs.Requests.{RequestOf, reply_message}
use Rattle.pldm_exch.specs.Sides.{AskerRow, AskerTick, ReceivedOf, TakerRow, asker_counts, asker_row, received_in, requests_in, taker_counts, taker_row}

-- a core after a command, and its answer
pub record TakenBy (C : Type 0) : Type 0 where
  pub core : C
  pub answer : AnswerOf

-- The functions of a core: the transmission unit that its answers fit; its pending command; whether
-- it answers commands of a code; the core after a command and its answer, with `quiet` for a
-- device, and `works` if the one call of its bank succeeds; the core after an answer, or after a
-- malformed answer; whether a command and an answer call its bank; the core after its request was
-- given up; its idle tick; and a restart.
pub record CoreOf (C : Type 0) : Type 0 where
  pub unit : C → «Unit»
  pub wish : C → Option CommandOf
  pub serves : ℕ → Bool
  pub take : C → CommandOf → (quiet works : Bool) → TakenBy C
  pub learn : C → Result AnswerOf Malformed → (works : Bool) → C
  pub take_calls_bank : C → CommandOf → (quiet : Bool) → Bool
  pub learn_calls_bank : C → Result AnswerOf Malformed → Bool
  pub silent : C → C
  pub ticked : C → C
  pub restarted : C → C

-- a half: the network's transmission unit, the node's own endpoint and the peer's, the core, and
-- both ends
pub record HalfOf (C : Type 0) : Type 0 where
  pub unit : «Unit»
  pub own : ℕ
  pub peer : ℕ
  pub core : C
  pub asker : AskerOf
  pub taker : TakerOf

-- a half after a tick, and the messages that it sends
pub record Ticked (C : Type 0) : Type 0 where
  pub half : HalfOf C
  pub sent : List MessageOf

-- the command is the pending command
abbrev pub is_wished : CommandOf → Option CommandOf → Bool
is_wished c None = false
is_wished c (Some d) = same_command c d

-- a decoded command is the pending command
abbrev pub wished_read : Option CommandOf → Result CommandOf ℕ → Bool
wished_read wish (Ok c) = is_wished c wish
wished_read wish (Err e) = false

-- the open request is of this command
abbrev pub still_wished : Option CommandOf → Open → Bool
still_wished wish o = wished_read wish (command_read o.command (drop 4 o.message.bytes))

-- no request is open, or the open request is of this command
abbrev pub wished_or : Option CommandOf → Option Open → Bool
wished_or wish None = true
wished_or wish (Some o) = still_wished wish o

-- the requests, with the open request kept or given up
abbrev pub kept_if : Bool → CallerState → CallerState
kept_if true c = c
kept_if false c = caller_after_abandon c

abbrev pub unwished_for : Option CommandOf → CallerState → Option Open → CallerState
unwished_for wish c None = c
unwished_for wish c (Some o) = kept_if (still_wished wish o) c

-- an open request that is no longer the pending command is given up
abbrev pub unwished_abandoned : Option CommandOf → CallerState → CallerState
unwished_abandoned wish c = unwished_for wish c c.asked

abbrev pub with_caller : {C : Type 0} → HalfOf C → CallerState → HalfOf C
with_caller h c = record h { asker = record h.asker { caller = c } }

abbrev pub begins_if : {C : Type 0} → Bool → HalfOf C → CommandOf → List MessageOf → Ticked C
begins_if true h c sent = record {
  half = with_caller h (begin_outcome h.asker.caller 5 (command_code c) (command_bytes c)).0;
  sent = sent ++ (begin_outcome h.asker.caller 5 (command_code c) (command_bytes c)).1 ∷ [];
}
begins_if false h c sent = record { half = h; sent = sent }

abbrev pub begins_wish : {C : Type 0} → Option CommandOf → HalfOf C → List MessageOf → Ticked C
begins_wish None h sent = record { half = h; sent = sent }
begins_wish (Some c) h sent = begins_if (may_begin h.asker.caller) h c sent

-- the last part of a tick: an open request that is no longer the pending command is given up, and a
-- pending command begins
abbrev pub last_part : {C : Type 0} → CoreOf C → HalfOf C → List MessageOf → Ticked C
last_part core h sent = begins_wish (core.wish h.core) (with_caller h (unwished_abandoned (core.wish h.core) h.asker.caller)) sent

abbrev pub tick_if : {C : Type 0} → Bool → CoreOf C → HalfOf C → List MessageOf → Ticked C
tick_if true core h sent = last_part core (record h { core = core.ticked h.core }) sent
tick_if false core h sent = record { half = h; sent = sent }

abbrev pub tick_if_not_deaf : {C : Type 0} → CoreOf C → HalfOf C → List MessageOf → Ticked C
tick_if_not_deaf core h sent = tick_if (h.asker.deaf == 0) core h sent

abbrev pub half_tick_by_row : {C : Type 0} → CoreOf C → HalfOf C → AskerTick → Ticked C
half_tick_by_row core h (AskerTick.Waits a) = tick_if_not_deaf core (record h { asker = a }) []
half_tick_by_row core h (AskerTick.Resends a m) = tick_if_not_deaf core (record h { asker = a }) (m ∷ [])
half_tick_by_row core h (AskerTick.GivesUp a) = tick_if_not_deaf core (record h { asker = a; core = core.silent h.core }) []

-- a tick that the half counts
abbrev pub half_counts : {C : Type 0} → CoreOf C → HalfOf C → Ticked C
half_counts core h = half_tick_by_row core (record h { taker = taker_counts h.taker }) (asker_counts h.asker)

abbrev pub half_ticks : {C : Type 0} → CoreOf C → Bool → HalfOf C → Ticked C
half_ticks core true h = half_counts core h
half_ticks core false h = record { half = h; sent = [] }

-- a half that hears, after its assemblies, answers and requests grew older
abbrev pub half_with_older_ends : {C : Type 0} → HalfOf C → HalfOf C
half_with_older_ends h = record h {
  asker = record h.asker { deaf = 0; caller = (caller_tick h.asker.caller).0; replies = map held_tick h.asker.replies };
  taker = record h.taker { deaf = 0; kept = answerer_tick h.taker.kept; requests = map held_tick h.taker.requests };
}

abbrev pub half_with_ticked_core : {C : Type 0} → CoreOf C → HalfOf C → HalfOf C
half_with_ticked_core core h = record h { core = core.ticked h.core }

-- The parts of a tick of a half that hears. First held packets, kept answers and the open request
-- grow older, and the request is sent again or given up. The core handles a request that was given
-- up.
abbrev pub core_after_give_up : {C : Type 0} → CoreOf C → CallTickOf → C → C
core_after_give_up core CallTickOf.GaveUp c = core.silent c
core_after_give_up core call c = c

abbrev pub half_grows : {C : Type 0} → CoreOf C → HalfOf C → HalfOf C
half_grows core h = record (half_with_older_ends h) { core = core_after_give_up core (caller_tick h.asker.caller).1 h.core }

-- Then the core ticks. Last, an open request that is no longer the pending command is given up, and
-- a pending command begins.
abbrev pub half_waits : {C : Type 0} → CoreOf C → HalfOf C → Ticked C
half_waits core h = last_part core (half_with_ticked_core core h) []

-- The outcome of a packet for a half: these messages are sent; the core took this command, and its
-- answer is sent; a new request of another PLDM type is to be answered; or a complete message is no
-- PLDM request.
pub data HalfOutcome (C : Type 0) : Type 0 where
  Went : (half : HalfOf C) → (sent : List MessageOf) → HalfOutcome C
  Took : (half : HalfOf C) → (sent : List MessageOf) → (command : CommandOf) → (answer : AnswerOf) → HalfOutcome C
  Asks : (half : HalfOf C) → (request : MessageOf) → (head : PldmHead) → (body : List ℕ) → HalfOutcome C
  Strayed : (half : HalfOf C) → (message : MessageOf) → HalfOutcome C

-- the end of each call: a request that is no longer the pending command is given up
abbrev pub half_after_settle : {C : Type 0} → CoreOf C → HalfOf C → HalfOf C
half_after_settle core h = with_caller h (unwished_abandoned (core.wish h.core) h.asker.caller)

-- a half after it answered a new request
abbrev pub half_after_answer : {C : Type 0} → HalfOf C → List (Option Held) → MessageOf → PldmHead → List ℕ → HalfOf C
half_after_answer h requests m head reply = record h { taker = record h.taker { kept = kept_with h.taker.kept (reply_message m head reply); requests = requests } }

abbrev pub takes_read : {C : Type 0} → CoreOf C → (quiet works : Bool) → HalfOf C → List (Option Held) → MessageOf → PldmHead → Result CommandOf ℕ → HalfOutcome C
takes_read core quiet works h requests m head (Ok c) =
    HalfOutcome.Took
    (half_after_settle core (half_after_answer (record h { core = (core.take h.core c quiet works).core }) requests m head (answer_bytes (core.take h.core c quiet works).answer)))
    (reply_message m head (answer_bytes (core.take h.core c quiet works).answer) ∷ [])
    c
    (core.take h.core c quiet works).answer
takes_read core quiet works h requests m head (Err code) =
    HalfOutcome.Went (half_after_settle core (half_after_answer h requests m head (code ∷ []))) (reply_message m head (code ∷ []) ∷ [])

-- the command of request data for a core; a command that the other kind of core answers isn't
-- decoded
abbrev pub read_by : {C : Type 0} → CoreOf C → ℕ → List ℕ → Result CommandOf ℕ
read_by core command body = if core.serves command then command_read command body else Err unsupported_command

abbrev pub takes_if : {C : Type 0} → Bool → CoreOf C → (works : Bool) → HalfOf C → List (Option Held) → MessageOf → PldmHead → List ℕ → HalfOutcome C
takes_if true core works h requests m head body =
    takes_read core (is_quiet h.asker.caller) works h requests m head (read_by core head.command body)
takes_if false core works h requests m head body = HalfOutcome.Asks (record h { taker = record h.taker { requests = requests } }) m head body

abbrev pub half_takes : {C : Type 0} → CoreOf C → (works : Bool) → HalfOf C → TakerRow → HalfOutcome C
half_takes core works h (TakerRow.Silent requests) = HalfOutcome.Went (record h { taker = record h.taker { requests = requests } }) []
half_takes core works h (TakerRow.Repeats requests answer) = HalfOutcome.Went (record h { taker = record h.taker { requests = requests } }) (answer ∷ [])
half_takes core works h (TakerRow.TakesUp requests m head body) = takes_if (head.pldm_type == 5) core works h requests m head body
half_takes core works h (TakerRow.Strays requests m) = HalfOutcome.Strayed (record h { taker = record h.taker { requests = requests } }) m

-- the outcome of a packet, from the rows of both ends: it is for at most one of them
abbrev pub half_on_rows : {C : Type 0} → CoreOf C → (works : Bool) → HalfOf C → AskerRow → TakerRow → HalfOutcome C
half_on_rows core works h (AskerRow.Ignores replies) row = half_takes core works (record h { asker = record h.asker { replies = replies } }) row
half_on_rows core works h (AskerRow.Learns replies caller heard) row =
    HalfOutcome.Went
    (half_after_settle core (record h {
      core = core.learn h.core (answer_read heard.command heard.reply) works;
      asker = record h.asker { caller = caller; replies = replies };
    }))
    []

abbrev pub half_on_packet : {C : Type 0} → CoreOf C → (works : Bool) → HalfOf C → List ℕ → HalfOutcome C
half_on_packet core works h bytes = half_on_rows core works h (asker_row h.unit h.own h.peer h.asker bytes) (taker_row h.unit h.own h.peer h.taker bytes)

-- A half after a local call that leaves this core: a request that is no longer the pending command
-- is given up.
abbrev pub half_with_core : {C : Type 0} → CoreOf C → HalfOf C → C → HalfOf C
half_with_core core h c = half_after_settle core (record h { core = c })

-- A half after a restart: it is deaf for 40 ticks.
abbrev pub half_restarts : {C : Type 0} → CoreOf C → HalfOf C → HalfOf C
half_restarts core h =
    record h { core = core.restarted h.core; asker = asker_new h.own h.peer 40; taker = taker_new 40 }

-- The content of a packet for a half that hears: nothing, the answer to its open request, a
-- repeated request, a new request, or a stray message.
pub data IncomingOf : Type 0 where
  Nothing : IncomingOf
  Learnt : (heard : ReplyInOf) → IncomingOf
  Again : (answer : MessageOf) → IncomingOf
  New : (request : RequestOf) → IncomingOf
  Strays : (message : MessageOf) → IncomingOf

abbrev pub incoming_from : ReceivedOf → IncomingOf
incoming_from ReceivedOf.Nothing = IncomingOf.Nothing
incoming_from (ReceivedOf.Again answer) = IncomingOf.Again answer
incoming_from (ReceivedOf.New request) = IncomingOf.New request
incoming_from (ReceivedOf.Strays message) = IncomingOf.Strays message

-- from the rows of both ends
abbrev pub incoming : AskerRow → TakerRow → IncomingOf
incoming (AskerRow.Ignores replies) row = incoming_from (received_in row)
incoming (AskerRow.Learns replies caller heard) row = IncomingOf.Learnt heard

-- the held packets and kept answers of the node that answers, afterwards
abbrev pub answering_after : AskerRow → AnsweringOf → TakerRow → AnsweringOf
answering_after (AskerRow.Ignores replies) t row = record t { requests = requests_in row }
answering_after (AskerRow.Learns replies caller heard) t row = t

-- a core after a decoded command, and its reply
pub record RepliedBy (C : Type 0) : Type 0 where
  pub core : C
  pub reply : List ℕ

abbrev pub reply_read : {C : Type 0} → CoreOf C → (quiet works : Bool) → C → Result CommandOf ℕ → RepliedBy C
reply_read core quiet works c (Ok command) =
    record { core = (core.take c command quiet works).core; reply = answer_bytes (core.take c command quiet works).answer }
reply_read core quiet works c (Err code) = record { core = c; reply = code ∷ [] }

-- The outcome of each content for the half.
abbrev pub half_on_incoming : {C : Type 0} → CoreOf C → (works : Bool) → HalfOf C → IncomingOf → HalfOutcome C
half_on_incoming core works h IncomingOf.Nothing = HalfOutcome.Went h []
half_on_incoming core works h (IncomingOf.Learnt heard) =
    HalfOutcome.Went (half_after_settle core (record h { core = core.learn h.core (answer_read heard.command heard.reply) works })) []
half_on_incoming core works h (IncomingOf.Again answer) = HalfOutcome.Went h (answer ∷ [])
half_on_incoming core works h (IncomingOf.New r) =
    takes_if (r.head.pldm_type == 5) core works h h.taker.requests r.message r.head r.body
half_on_incoming core works h (IncomingOf.Strays m) = HalfOutcome.Strayed h m
