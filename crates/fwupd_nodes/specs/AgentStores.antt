-- What the agent's process keeps in its folder of stores, and the node that it begins with.
use Rattle.std.specs.Prelude.{ℕ, ◌≡◌, true, false, IfSome, IsSomeAnd, List, None, Option, Some, map}
use Rattle.agent_store.specs.Keepers.{FolderKeeperOf}
use Rattle.agent_store.specs.Kept.{has_foreign, records_in, session_for, settings_in}
use Rattle.agent_store.specs.Packages.{claim_fault, packages_text}
use Rattle.agent_store.specs.declared.keeper.NoKeeper.{NoKeeper}
use Rattle.fw_node.specs.Agents.{AgentOf, new_agent}
use Rattle.fw_node.specs.Resumed.{resumed_agent}
use Rattle.fw_store.specs.AgentKeeping.{agent_lines_in}
use Rattle.fw_store.specs.Folders.{Files, active_name}
use Rattle.fw_store.specs.declared.kept_line.KeptLine.{KeptLine}
use Rattle.fwupd_nodes.specs.declared.agent_stores.AgentSetup.{AgentSetup}
use Rattle.mctp_ctl.specs.declared.answers.Endpoint.{Endpoint}
use Rattle.mctp_wire.specs.declared.unit.Unit.{«Unit»}
use Rattle.sel_core.specs.Resumed.{resumed_log}

-- THE KEEPERS

-- nothing is kept, or these lines are kept in a folder, if its content is known
abbrev pub keeps_nothing : NoKeeper → List KeptLine → Type 0
keeps_nothing k ls = Prim.Unit {0}

abbrev pub keeps_lines : FolderKeeperOf → List KeptLine → Type 0
keeps_lines k ls = k.is_known ≡ true → k.kept ≡ Some ls

-- THE NODE

-- the network of the agent, its devices, and the bytes of its packages
pub record AgentSetupOf : Type 0 where
  pub unit : «Unit»
  pub endpoint : Endpoint
  pub eids : List ℕ
  pub contents : List (List ℕ)

abbrev pub agent_setup_seen : AgentSetup → AgentSetupOf
agent_setup_seen s = record { unit = s.network.unit; endpoint = s.network.endpoint; eids = s.eids.now; contents = map (λ p. p.items) s.contents.now }

-- The agent goes on with lines: each session has the records of its device, and the log is that of
-- the lines, none of which is of another device.
pub record IsResumed (unit : «Unit») (endpoint : Endpoint) (devices : List ℕ) (ls : List KeptLine) (n : AgentOf) : Type 0 where
  pub ours : has_foreign devices ls ≡ false
  pub resumed : IsSomeAnd (settings_in ls) (λ s. n ≡ resumed_agent unit endpoint (map (session_for ls) devices) (resumed_log s (records_in ls)))

-- The agent goes on with the lines of `active`, and is a new one if there is no `active`.
abbrev pub IsNodeBy : Option (List ℕ) → Option (List KeptLine) → «Unit» → Endpoint → (devices : List ℕ) → AgentOf → Type 0
IsNodeBy active (Some ls) unit endpoint devices n = IsResumed unit endpoint devices ls n
IsNodeBy None None unit endpoint devices n = n ≡ new_agent unit endpoint devices
IsNodeBy (Some text) None unit endpoint devices n = ⊥

abbrev pub IsAgentNode : Files → «Unit» → Endpoint → (devices : List ℕ) → AgentOf → Type 0
IsAgentNode files unit endpoint devices n = IsNodeBy (files active_name) (agent_lines_in files) unit endpoint devices n

-- The folder isn't refused for the packages, and the agent goes on with what it keeps.
pub record BeginsWithStore (files : Files) (setup : AgentSetupOf) (n : AgentOf) : Type 0 where
  pub claimed : claim_fault files (packages_text setup.contents) ≡ None
  pub node : IsAgentNode files setup.unit setup.endpoint setup.eids n

-- WHY IT ISN'T OPENED

-- lines that a folder keeps are of another device
abbrev pub KeepsForeign : Files → (devices : List ℕ) → Type 0
KeepsForeign files devices = IsSomeAnd (agent_lines_in files) (λ ls. has_foreign devices ls ≡ true)

-- what a folder keeps isn't lines, or is lines of these devices
abbrev pub KeepsDamaged : Files → (devices : List ℕ) → Type 0
KeepsDamaged files devices = IfSome (agent_lines_in files) (λ ls. has_foreign devices ls ≡ false)
