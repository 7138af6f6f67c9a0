-- What the receiving end does with a packet.
use Rattle.std.specs.Prelude.{ℕ, if◌then◌else◌, List, Option}
use Rattle.mctp_wire.specs.declared.unit.Unit.{«Unit»}
use Rattle.mctp_reasm.specs.Held.{Held}
use Rattle.mctp_reasm.specs.Inboxes.{feed_outcome_at, held_with, none_held}
use Rattle.mctp_reasm.specs.Pieces.{PacketOf}
use Rattle.mctp_reasm.specs.declared.outcomes.Fed.{Fed}

-- the content of one end's assemblies: one for each tag, of requests and of replies
pub record Assemblies : Type 0 where
  pub requests : List (Option Held)
  pub replies : List (Option Held)

-- an end, its peer, and the content of its assemblies
pub record HearingOf : Type 0 where
  pub unit : «Unit»
  pub own : ℕ
  pub peer : ℕ
  pub held : Assemblies

-- every assembly is empty
abbrev pub no_assemblies : Assemblies
no_assemblies = record { requests = none_held; replies = none_held }

-- the outcome of a packet at its destination: a request has TO set
abbrev pub fed_in : «Unit» → Assemblies → PacketOf → Fed
fed_in u a p = if p.head.to then feed_outcome_at u a.requests p else feed_outcome_at u a.replies p

-- the content of that end's assemblies afterwards
abbrev pub held_in : «Unit» → Assemblies → PacketOf → Assemblies
held_in u a p =
    if p.head.to then record a { requests = held_with u a.requests p } else record a { replies = held_with u a.replies p }
