-- An agent that is resumed from what an earlier life of it kept.
use Rattle.std.specs.Prelude.{ℕ, ◌≡◌, List, map}
use Rattle.std.specs.List.{AllByRecursion}
use Rattle.fw_package.specs.Package.{PackageText}
use Rattle.mctp_ctl.specs.declared.answers.Endpoint.{Endpoint}
use Rattle.mctp_wire.specs.declared.unit.Unit.{«Unit»}
use Rattle.sel_core.specs.Log.{LogOf}
use Rattle.sel_core.specs.Resumed.{resumed_log, settings_of}
use Rattle.ua_core.specs.Calls.{resumed_session}
use Rattle.ua_core.specs.Session.{TimedOf}
use Rattle.ua_core.specs.declared.planned.Recorded.{Recorded}
use Rattle.fw_node.specs.Agents.{AgentOf, agent_restarts}
use Rattle.fw_node.specs.BothEnds.{ends_new}
use Rattle.fw_node.specs.Halves.{HalfOf}
use Rattle.fw_node.specs.Nodes.{half_of}
use Rattle.fw_node.specs.declared.resuming.KeptSession.{KeptSession}

-- what the session with a device keeps over a restart: the number of the package that it was last
-- started with, and its records
pub record KeptSessionOf : Type 0 where
  pub device : ℕ
  pub number : ℕ
  pub records : List Recorded

-- the value of a kept session
abbrev pub session_kept : KeptSession → KeptSessionOf
session_kept k = record { device = k.device; number = k.«package»; records = k.records.items }

-- what the session of a half keeps
abbrev pub session_of_half : HalfOf TimedOf → KeptSessionOf
session_of_half h = record { device = h.peer; number = h.core.session.number; records = h.core.session.records }

-- a half with a kept session, in which no update is in progress
abbrev pub resumed_half : «Unit» → (own : ℕ) → KeptSessionOf → HalfOf TimedOf
resumed_half u own k = half_of 0 (resumed_session u k.number k.records) (ends_new u own k.device)

-- an agent with these sessions, in this order, and this log, in a network with this transmission
-- unit
abbrev pub resumed_agent : «Unit» → Endpoint → List KeptSessionOf → LogOf → AgentOf
resumed_agent u endpoint sessions log =
    record { endpoint = endpoint; tid = 0; deaf = 0; halves = map (resumed_half u endpoint.eid) sessions; log = log }

-- the half is of a node with this endpoint identifier, in a network with this transmission unit
pub record IsHalfIn (u : «Unit») (eid : ℕ) (h : HalfOf TimedOf) : Type 0 where
  pub unit : h.unit ≡ u
  pub own : h.own ≡ eid
  pub session : h.core.session.unit ≡ u

-- The agent that is resumed from what an agent keeps: its sessions, its log's settings and its
-- log's records.
abbrev pub agent_resumed_from : «Unit» → AgentOf → AgentOf
agent_resumed_from u n = resumed_agent u n.endpoint (map session_of_half n.halves) (resumed_log (settings_of n.log) n.log.records)

-- A restart keeps no more than that: the resumed agent restarts as the agent itself does.
abbrev pub RestartsKeepNoMore : Type 0
RestartsKeepNoMore =
    (packages : List PackageText) (u : «Unit») (n : AgentOf) → AllByRecursion (IsHalfIn u n.endpoint.eid) n.halves
    → agent_restarts packages (agent_resumed_from u n) ≡ agent_restarts packages n
