-- The two ends of one direction of requests: the node that asks, and the node that answers.
use Rattle.std.specs.Prelude.{ℕ, List, map, Option}
use Rattle.mctp_wire.specs.declared.unit.Unit.{«Unit»}
use Rattle.mctp_reasm.specs.Held.{Held, held_tick}
use Rattle.mctp_reasm.specs.Inboxes.{none_held}
use Rattle.pldm_exch.specs.Caller.{CallerState, caller_tick, new_caller}
use Rattle.pldm_exch.specs.Kept.{KeptAnswer, answerer_tick, none_kept}

-- The node that asks: the ticks for which it is still deaf, its requests, and for each tag the held
-- packets of a reply.
pub record AskerOf : Type 0 where
  pub deaf : ℕ
  pub caller : CallerState
  pub replies : List (Option Held)

-- The node that answers: the ticks for which it is still deaf, and for each tag its kept answer and
-- the held packets of a request.
pub record TakerOf : Type 0 where
  pub deaf : ℕ
  pub kept : List (Option KeptAnswer)
  pub requests : List (Option Held)

-- a node that asks, before its first request
abbrev pub asker_new : (own peer deaf : ℕ) → AskerOf
asker_new own peer deaf = record { deaf = deaf; caller = new_caller own peer; replies = none_held }

-- a node that answers, before its first answer
abbrev pub taker_new : (deaf : ℕ) → TakerOf
taker_new deaf = record { deaf = deaf; kept = none_kept; requests = none_held }

-- The state of a node that asks a peer: the network's transmission unit, its own endpoint and the
-- peer's, its requests, and the held packets of replies. The node itself counts for how long it is
-- deaf, once for all its peers.
pub record AskingOf : Type 0 where
  pub unit : «Unit»
  pub own : ℕ
  pub peer : ℕ
  pub caller : CallerState
  pub replies : List (Option Held)

-- The state of a node that answers a peer: the network's transmission unit, its own endpoint and
-- the peer's, its kept answers, and the held packets of requests.
pub record AnsweringOf : Type 0 where
  pub unit : «Unit»
  pub own : ℕ
  pub peer : ℕ
  pub kept : List (Option KeptAnswer)
  pub requests : List (Option Held)

-- the end of a node that is deaf for so long
abbrev pub asker_of : (deaf : ℕ) → AskingOf → AskerOf
asker_of deaf a = record { deaf = deaf; caller = a.caller; replies = a.replies }

abbrev pub taker_of : (deaf : ℕ) → AnsweringOf → TakerOf
taker_of deaf t = record { deaf = deaf; kept = t.kept; requests = t.requests }

-- before the first request, and before the first answer
abbrev pub asking_new : «Unit» → (own peer : ℕ) → AskingOf
asking_new u own peer = record { unit = u; own = own; peer = peer; caller = new_caller own peer; replies = none_held }

abbrev pub answering_new : «Unit» → (own peer : ℕ) → AnsweringOf
answering_new u own peer = record { unit = u; own = own; peer = peer; kept = none_kept; requests = none_held }

-- A tick: held packets grow older, and so do the requests.
abbrev pub asking_older : AskingOf → AskingOf
asking_older a = record a { caller = (caller_tick a.caller).0; replies = map held_tick a.replies }

-- A tick: held packets and kept answers grow older.
abbrev pub answering_older : AnsweringOf → AnsweringOf
answering_older t = record t { kept = answerer_tick t.kept; requests = map held_tick t.requests }
