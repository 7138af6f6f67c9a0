-- The agent as a process with a keeper of what it keeps over a restart (`specs/Kept` of
-- `agent_store`). In a deed the agent is called, then the keeper keeps what it keeps, and only then
-- the packets of the deed are sent.
use Rattle.std.specs.Prelude.{ℕ, ◌≡◌, ◌⊎◌, List, Option}
use Rattle.agent_store.specs.Kept.{kept_lines}
use Rattle.agent_store.specs.declared.keeper.KeepFault.{KeepFault}
use Rattle.exch_lane.specs.Lanes.{Sent}
use Rattle.fw_node.specs.Agents.{AgentOf}
use Rattle.fw_process.specs.Processes.{Deed, DoesAll, LineCall, LineOf, line_with}
use Rattle.fw_serve.specs.Agents.{ServedAgentOf}
use Rattle.fw_serve.specs.Processes.{AgentDoes}
use Rattle.fw_store.specs.declared.kept_line.KeptLine.{KeptLine}

-- The agent, its keeper, and why the keeper failed, if it did.
pub record KeepingAgentOf (K : Type 0) : Type 0 where
  pub agent : ServedAgentOf
  pub keeper : K
  pub fault : Option KeepFault

-- the unit that it is in
abbrev pub keeping_unit : {K : Type 0} → KeepingAgentOf K → ℕ
keeping_unit s = s.agent.now

-- what the agent keeps is kept: an agent that is started anew goes on with it
abbrev pub IsKept : {K : Type 0} → (keeps : K → List KeptLine → Type 0) → KeepingAgentOf K → Type 0
IsKept keeps s = keeps s.keeper (kept_lines s.agent.agent)

-- After a deed that calls the agent it is kept. A process that misses units calls no keeper, since
-- a restart changes nothing of what the agent keeps.
abbrev pub IsKeptAfter : {K : Type 0} → (keeps : K → List KeptLine → Type 0) → Deed → KeepingAgentOf K → KeepingAgentOf K → Type 0
IsKeptAfter keeps (Deed.Misses units) s t = IsKept keeps s → IsKept keeps t
IsKeptAfter keeps deed s t = IsKept keeps t

-- A deed is that of the agent, and what the agent keeps is kept after it.
pub record DoesKept {K : Type 0} (keeps : K → List KeptLine → Type 0) (s : KeepingAgentOf K) (deed : Deed) (t : KeepingAgentOf K) (sent : List Sent) : Type 0 where
  pub does : AgentDoes s.agent deed t.agent sent
  pub kept : IsKeptAfter keeps deed s t
  pub fault : t.fault ≡ s.fault

-- the node is that after a deed of the agent
pub record IsNodeAfter (s : ServedAgentOf) (deed : Deed) (n : AgentOf) : Type 0 where
  pub after : ServedAgentOf
  pub sent : List Sent
  pub does : AgentDoes s deed after sent
  pub node : n ≡ after.agent

-- A deed fails. The node is that before the deed or that after it. The keeper keeps what it kept
-- before, or what the agent keeps now.
pub record FailsKept {K : Type 0} (keeps : K → List KeptLine → Type 0) (s : KeepingAgentOf K) (deed : Deed) (t : KeepingAgentOf K) : Type 0 where
  pub node : (t.agent.agent ≡ s.agent.agent) ⊎ IsNodeAfter s.agent deed t.agent.agent
  pub either : (ls : List KeptLine) → keeps s.keeper ls → keeps t.keeper ls ⊎ IsKept keeps t

-- All packets that were sent are those of deeds, one after another, after each of which it is kept
-- what the agent keeps. An end by a fault sends nothing more.
pub record ServesKept {K : Type 0} (keeps : K → List KeptLine → Type 0) (s : KeepingAgentOf K) (before after : LineOf) : Type 0 where
  pub calls : List LineCall
  pub deeds : List Deed
  pub last : KeepingAgentOf K
  pub sent : List Sent
  pub done : DoesAll (DoesKept keeps) s deeds last sent
  pub line : after ≡ line_with before calls sent
