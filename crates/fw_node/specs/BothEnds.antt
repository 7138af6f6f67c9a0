-- Both ends of a node for one peer, from the code's types.
use Rattle.mctp_wire.specs.declared.unit.Unit.{«Unit»}
use Rattle.pldm_exch.specs.Ends.{AnsweringOf, AskingOf, answering_new, answering_older, asking_new, asking_older}
use Rattle.pldm_exch.specs.Caller.{CallerState, last_tag}
use Rattle.std.specs.Prelude.{ℕ, ◌≡◌, IfSome, false, length}

-- the state of a node that asks a peer, and answers it
pub record EndsOf : Type 0 where
  pub asking : AskingOf
  pub answering : AnsweringOf

-- before the first request and the first answer
abbrev pub ends_new : «Unit» → (own peer : ℕ) → EndsOf
ends_new u own peer = record { asking = asking_new u own peer; answering = answering_new u own peer }

-- after a tick
abbrev pub ends_older : EndsOf → EndsOf
ends_older e = record { asking = asking_older e.asking; answering = answering_older e.answering }

-- There is a rest for each of the eight tags. An open request is unanswered and has the last tag.
-- Requests go to the peer.
pub record IsAsking (peer : ℕ) (c : CallerState) : Type 0 where
  pub rests : length c.rests ≡ 8
  pub tag : IfSome c.asked (λ o. o.tag ≡ last_tag c)
  pub unanswered : IfSome c.asked (λ o. c.answered ≡ false)
  pub asks : c.peer ≡ peer
  pub message : IfSome c.asked (λ o. o.message.dest ≡ peer)
