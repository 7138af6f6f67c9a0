-- An agent whose process was stopped or killed after a deed, and that is started anew from what was
-- kept then (`specs/Keeping`). The law is `StartedAnewIsAbsence`: it is the agent that was absent.
-- So its lives before and after are one process of a trace (`specs/Traced`), and the headline holds
-- for it. Packets of the last deed that weren't sent any more are packets that were lost.
use Rattle.std.specs.Prelude.{ℕ, ◌≡◌, ◌≤◌, ◌+◌, ◌-◌, ◌^◌, List, Some, map}
use Rattle.std.specs.List.{AllByRecursion}
use Rattle.agent_store.specs.Kept.{HaveDevicesOnce, kept_lines, records_in, session_for, settings_in}
use Rattle.fw_node.specs.Agents.{AgentOf}
use Rattle.fw_node.specs.Resumed.{IsHalfIn, resumed_agent}
use Rattle.fw_package.specs.Package.{PackageText}
use Rattle.fw_steps.specs.Absences.{agent_absence}
use Rattle.fw_steps.specs.Plays.{AgentProcess}
use Rattle.fw_store.specs.declared.kept_line.KeptLine.{KeptLine}
use Rattle.mctp_ctl.specs.declared.answers.Endpoint.{Endpoint}
use Rattle.mctp_wire.specs.declared.unit.Unit.{«Unit»}
use Rattle.sel_core.specs.Resumed.{resumed_log}
use Rattle.sel_core.specs.declared.log.resuming.LogSettings.{LogSettings}
use Rattle.fw_serve.specs.Agents.{ServedAgentOf, served_agent_of}
use Rattle.fw_serve.specs.Processes.{agent_after_missing}
use Rattle.fw_serve.specs.Traced.{AgentMayDo, agent_process_after_acts, agent_process_of}

-- the node of these devices that lines resume, which keep these settings of its log
abbrev pub node_anew : «Unit» → Endpoint → (devices : List ℕ) → LogSettings → List KeptLine → AgentOf
node_anew u endpoint devices settings ls = resumed_agent u endpoint (map (session_for ls) devices) (resumed_log settings (records_in ls))

-- the agent with this node, in the unit that the clock shows when its process begins
abbrev pub agent_anew : AgentOf → List PackageText → (shown : ℕ) → ServedAgentOf
agent_anew n packages shown = agent_after_missing (served_agent_of n packages) shown

-- Absence leaves the agent that is started anew with node `n` after a number of units. It may be
-- absent while its clock counts.
pub record IsAbsence (packages : List PackageText) (p : AgentProcess) (units : ℕ) (n : AgentOf) : Type 0 where
  pub ends : agent_process_after_acts packages p (agent_absence units) ≡ agent_process_of (agent_anew n packages (p.unit + units)) p.sent
  pub may : p.unit + units ≤ 2 ^ 32 - 1 → AgentMayDo packages p (agent_absence units)

abbrev pub StartedAnewIsAbsence : Type 0
StartedAnewIsAbsence =
    (packages : List PackageText) (u : «Unit») (p : AgentProcess) (units : ℕ) (settings : LogSettings)
    → HaveDevicesOnce p.node.halves → AllByRecursion (IsHalfIn u p.node.endpoint.eid) p.node.halves
    → settings_in (kept_lines p.node) ≡ Some settings
    → IsAbsence packages p units (node_anew u p.node.endpoint (map (λ h. h.peer) p.node.halves) settings (kept_lines p.node))
