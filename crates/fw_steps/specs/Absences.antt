-- Absences: a process that is absent for some units, because it wasn't started yet, was stopped or
-- was killed. In a trace (`specs/Traces`) it restarts, and then ticks and restarts once for each
-- unit that it misses. The law is `AbsencesAreDeeds`: these acts may be done at any time, send
-- nothing, and leave a node that has just restarted. So a process that returns after an absence,
-- with a node that restarts, has done these acts, and the headline holds for it.
use Rattle.std.specs.Prelude.{ℕ, ◌≡◌, ◌≤◌, ◌+◌, ◌-◌, ◌^◌, ◌==◌, ◌∷◌, [], zero, suc, true, if◌then◌else◌, is_some, List, map}
use Rattle.std.specs.Option.{option_map}
use Rattle.fw_package.specs.Package.{PackageText}
use Rattle.fw_node.specs.Agents.{agent_restarts}
use Rattle.fw_node.specs.Nodes.{device_restarts}
use Rattle.fw_steps.specs.Plays.{AgentProcess, DeviceProcess}
use Rattle.fw_steps.specs.Traces.{Act, AgentAct, DeviceAct, EachMayAct, ProcessesOf, processes_after}

-- the acts of a process that misses this number of units
abbrev pub agent_absence : (units : ℕ) → List AgentAct
agent_absence zero = AgentAct.Restarts ∷ []
agent_absence (suc units) = AgentAct.Restarts ∷ AgentAct.Ticks ∷ agent_absence units

abbrev pub device_absence : (units : ℕ) → List DeviceAct
device_absence zero = DeviceAct.Restarts ∷ []
device_absence (suc units) = DeviceAct.Restarts ∷ DeviceAct.Ticks ∷ device_absence units

-- the process after them: that many units later, with a node that restarted, and with nothing more
-- sent
abbrev pub agent_after_absence : List PackageText → (units : ℕ) → AgentProcess → AgentProcess
agent_after_absence packages units p = record { unit = p.unit + units; node = agent_restarts packages p.node; sent = p.sent }

abbrev pub device_after_absence : (units : ℕ) → DeviceProcess → DeviceProcess
device_after_absence units q = record { unit = q.unit + units; node = device_restarts q.node; sent = q.sent }

-- From any processes, the agent's is absent. Its clock doesn't end within these units.
pub record AgentIsAbsent (packages : List PackageText) (ps : ProcessesOf) (units : ℕ) : Type 0 where
  pub ends : processes_after packages ps (map Act.OfAgent (agent_absence units)) ≡ record ps { agent = agent_after_absence packages units ps.agent }
  pub may : ps.agent.unit + units ≤ 2 ^ 32 - 1 → EachMayAct packages ps (map Act.OfAgent (agent_absence units))

-- From any processes, that of a device is absent.
pub record DeviceIsAbsent (packages : List PackageText) (ps : ProcessesOf) (device units : ℕ) : Type 0 where
  pub agent : (processes_after packages ps (map (Act.OfDevice device) (device_absence units))).agent ≡ ps.agent
  pub devices : (eid : ℕ) → (processes_after packages ps (map (Act.OfDevice device) (device_absence units))).device eid
      ≡ (if device == eid then option_map (device_after_absence units) (ps.device eid) else ps.device eid)
  pub may : is_some (ps.device device) ≡ true → EachMayAct packages ps (map (Act.OfDevice device) (device_absence units))

abbrev pub AbsencesAreDeeds : Type 0
AbsencesAreDeeds =
    ((packages : List PackageText) (ps : ProcessesOf) (units : ℕ) → AgentIsAbsent packages ps units)
    × ((packages : List PackageText) (ps : ProcessesOf) (device units : ℕ) → DeviceIsAbsent packages ps device units)
