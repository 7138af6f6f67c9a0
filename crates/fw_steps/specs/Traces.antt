-- Traces: the acts of separate processes in the order of real time, each by its own clock. A
-- process ticks at any time. It receives a packet after its peer sent it, with a stamp that isn't
-- later than its own unit, and at most 8 units earlier. Nothing is assumed of rates, phases or
-- stops. The laws, in order:
-- 1. `TracesArePlays`: a trace is a play. Its acts, sorted by their units, ticks first, are the
--    steps of a play.
-- 2. `TracesAreCut`: the acts up to a unit that all processes have reached are a trace by
--    themselves.
-- 3. `TracesAreSafe`: the processes are safe at the end of each such unit.
--
-- Read `specs/Alone` first, for the calls of a node, and `specs/Plays` for the processes and
-- `IsRun`.
use Rattle.std.specs.Prelude.{ℕ, ◌≡◌, ◌≤◌, ◌<◌, ◌+◌, ◌-◌, ◌^◌, ◌==◌, ◌++◌, ◌∷◌, [], Bool, true, if◌then◌else◌, nat_le, IfSome, IsSomeAnd, List, Option, Some, None}
use Rattle.std.specs.List.{Contains}
use Rattle.std.specs.Option.{option_map}
use Rattle.arrayvec.specs.declared.array_vec.ArrayVec.{ArrayVec}
use Rattle.exch_lane.specs.Lanes.{Sent}
use Rattle.exch_lane.specs.Steps.{sent_at}
use Rattle.fw_package.specs.Package.{PackageText}
use Rattle.fd_core.specs.declared.states.Verdict.{Verdict}
use Rattle.fw_message.specs.Headline.{IsSafeAndTied}
use Rattle.fw_message.specs.WorldLaws.{history_of}
use Rattle.fw_steps.specs.Alone.{AgentCall, DeviceCall, agent_after_call, agent_call_packets, device_after_call, device_call_packets, is_for, pair_of_nodes}
use Rattle.fw_message.specs.Laws.{shown_pair}
use Rattle.fw_steps.specs.Opening.{IsOpeningWorld}
use Rattle.fw_steps.specs.Plays.{AgentMayCall, AgentProcess, EachMayFollow, DeviceMayCall, DeviceProcess, PlayStep, IsRun, agent_process_after, device_process_after}
use Rattle.fw_steps.specs.Worlds.{SiteOf, WorldOf, pair_for, sent_now, site_for}

-- ACTS

-- An act of the agent's process, and of a device's process: one call of its node. A packet is
-- received with its stamp.
pub data AgentAct : Type 0 where
  Ticks : AgentAct
  Receives : (device stamp : ℕ) → (bytes : List ℕ) → AgentAct
  Starts : (device number : ℕ) → AgentAct
  Cancels : (device : ℕ) → AgentAct
  Activates : (device : ℕ) → AgentAct
  AsksLog : (bytes : ArrayVec ℕ 64 (Unit {0})) → AgentAct
  Restarts : AgentAct

pub data DeviceAct : Type 0 where
  Ticks : DeviceAct
  Receives : (works : Bool) → (faults stamp : ℕ) → (bytes : List ℕ) → DeviceAct
  Judges : (works : Bool) → (faults : ℕ) → (verdict : Verdict) → DeviceAct
  Restarts : DeviceAct

-- an act of one of the processes; a device's is named by its endpoint identifier
pub data Act : Type 0 where
  OfAgent : AgentAct → Act
  OfDevice : (device : ℕ) → DeviceAct → Act

-- the unit of a process after an act: a tick counts it
abbrev pub agent_unit_after : ℕ → AgentAct → ℕ
agent_unit_after unit AgentAct.Ticks = unit + 1
agent_unit_after unit act = unit

abbrev pub device_unit_after : ℕ → DeviceAct → ℕ
device_unit_after unit DeviceAct.Ticks = unit + 1
device_unit_after unit act = unit

-- the call of the node that an act is
abbrev pub agent_act_call : ℕ → AgentAct → AgentCall
agent_act_call unit AgentAct.Ticks = AgentCall.Ticks (unit + 1)
agent_act_call unit (AgentAct.Receives device stamp bytes) = AgentCall.Receives unit bytes
agent_act_call unit (AgentAct.Starts device number) = AgentCall.Starts unit device number
agent_act_call unit (AgentAct.Cancels device) = AgentCall.Cancels unit device
agent_act_call unit (AgentAct.Activates device) = AgentCall.Activates unit device
agent_act_call unit (AgentAct.AsksLog bytes) = AgentCall.AsksLog unit bytes.items
agent_act_call unit AgentAct.Restarts = AgentCall.Restarts

abbrev pub device_act_call : DeviceAct → DeviceCall
device_act_call DeviceAct.Ticks = DeviceCall.Ticks
device_act_call (DeviceAct.Receives works faults stamp bytes) = DeviceCall.Receives works faults bytes
device_act_call (DeviceAct.Judges works faults verdict) = DeviceCall.Judges works faults verdict
device_act_call DeviceAct.Restarts = DeviceCall.Restarts

-- a process after an act: the packets that it sends are stamped with the unit after the act
abbrev pub agent_process_after_act : List PackageText → AgentProcess → AgentAct → AgentProcess
agent_process_after_act packages p d =
    record {
      unit = agent_unit_after p.unit d;
      node = agent_after_call packages p.node (agent_act_call p.unit d);
      sent = p.sent ++ sent_now (agent_unit_after p.unit d) (agent_call_packets packages p.node (agent_act_call p.unit d));
    }

abbrev pub device_process_after_act : DeviceAct → DeviceProcess → DeviceProcess
device_process_after_act d q =
    record {
      unit = device_unit_after q.unit d;
      node = device_after_call q.node (device_act_call d);
      sent = q.sent ++ sent_now (device_unit_after q.unit d) (device_call_packets q.node (device_act_call d));
    }

-- ALL PROCESSES

-- the agent's process, and those of the devices by their endpoint identifiers
pub record ProcessesOf : Type 0 where
  pub agent : AgentProcess
  pub device : ℕ → Option DeviceProcess

-- the processes after an act: only one of them changes
abbrev pub processes_after_act : List PackageText → ProcessesOf → Act → ProcessesOf
processes_after_act packages ps (Act.OfAgent d) = record ps { agent = agent_process_after_act packages ps.agent d }
processes_after_act packages ps (Act.OfDevice device d) = record ps { device = λ eid. if device == eid then option_map (device_process_after_act d) (ps.device eid) else ps.device eid }

-- the processes after acts
abbrev pub processes_after : List PackageText → ProcessesOf → List Act → ProcessesOf
processes_after packages ps [] = ps
processes_after packages ps (a ∷ xs) = processes_after packages (processes_after_act packages ps a) xs

-- A device's new process, and all new processes, with the nodes of an opening world.
abbrev pub new_process : SiteOf → DeviceProcess
new_process x = record { unit = 0; node = x.node; sent = [] }

abbrev pub processes_of : WorldOf → ProcessesOf
processes_of opening =
    record { agent = record { unit = 0; node = opening.agent; sent = [] }; device = λ eid. option_map new_process (site_for opening.sites eid) }

-- THE ACTS THAT MAY FOLLOW

-- A packet is received in the unit of its stamp or in one of the 8 units after it, as the receiver
-- counts them.
pub record IsTimely (stamp unit : ℕ) : Type 0 where
  pub no_later : stamp ≤ unit
  pub living : unit ≤ stamp + 8

-- A packet is received after its peer sent it with this stamp. The agent's clock counts up to
-- 2^32 - 1.
abbrev pub AgentMayAct : ProcessesOf → AgentAct → Type 0
AgentMayAct ps AgentAct.Ticks = ps.agent.unit < 2 ^ 32 - 1
AgentMayAct ps (AgentAct.Receives device stamp bytes) = IsTimely stamp ps.agent.unit × IsSomeAnd (ps.device device) (λ q. Contains q.sent (sent_at stamp bytes))
AgentMayAct ps d = Unit {0}

abbrev pub DeviceMayAct : (sent : List Sent) → (device unit : ℕ) → DeviceAct → Type 0
DeviceMayAct sent device unit (DeviceAct.Receives works faults stamp bytes) = IsTimely stamp unit × Contains sent (sent_at stamp bytes) × (is_for device bytes ≡ true)
DeviceMayAct sent device unit d = Unit {0}

-- The act may follow, and its node takes the call.
abbrev pub MayAct : List PackageText → ProcessesOf → Act → Type 0
MayAct packages ps (Act.OfAgent d) = AgentMayAct ps d × AgentMayCall packages ps.agent.node (agent_act_call ps.agent.unit d)
MayAct packages ps (Act.OfDevice device d) = IsSomeAnd (ps.device device) (λ q. DeviceMayAct ps.agent.sent device q.unit d × DeviceMayCall q.node (device_act_call d))

-- each act of a trace may follow those before it
abbrev pub EachMayAct : List PackageText → ProcessesOf → List Act → Type 0
EachMayAct packages ps [] = Unit {0}
EachMayAct packages ps (a ∷ xs) = MayAct packages ps a × EachMayAct packages (processes_after_act packages ps a) xs

-- all processes are in this unit
pub record AreAtUnit (unit : ℕ) (ps : ProcessesOf) : Type 0 where
  pub agent : ps.agent.unit ≡ unit
  pub devices : (eid : ℕ) → IfSome (ps.device eid) (λ q. q.unit ≡ unit)

-- TRACES ARE PLAYS

-- A play in which each step may follow those before it, and after which the processes are equal to
-- `ps`.
pub record IsPlay (opening : WorldOf) (ps : ProcessesOf) : Type 0 where
  pub play : List PlayStep
  pub may : EachMayFollow opening [] play
  pub agent : agent_process_after opening play ≡ ps.agent
  pub devices : (eid : ℕ) → IfSome (site_for opening.sites eid) (λ x. ps.device eid ≡ Some (device_process_after eid x.node play))

-- Every trace after which all processes are in the same unit is a play.
abbrev pub TracesArePlays : Type 0
TracesArePlays = (opening : WorldOf) (trace : List Act) (unit : ℕ) → EachMayAct opening.packages (processes_of opening) trace
    → AreAtUnit unit (processes_after opening.packages (processes_of opening) trace) → IsPlay opening (processes_after opening.packages (processes_of opening) trace)

-- UP TO A UNIT

-- the unit, after an act, of the process whose act it is
abbrev pub site_unit_after : Option DeviceProcess → DeviceAct → ℕ
site_unit_after None d = 0
site_unit_after (Some q) d = device_unit_after q.unit d

abbrev pub unit_after_act : ProcessesOf → Act → ℕ
unit_after_act ps (Act.OfAgent d) = agent_unit_after ps.agent.unit d
unit_after_act ps (Act.OfDevice device d) = site_unit_after (ps.device device) d

-- the acts of a trace up to the end of a unit, in their order
abbrev pub acts_until : List PackageText → (unit : ℕ) → ProcessesOf → List Act → List Act
acts_until packages unit ps [] = []
acts_until packages unit ps (a ∷ xs) = if nat_le (unit_after_act ps a) unit then a ∷ acts_until packages unit (processes_after_act packages ps a) xs else acts_until packages unit (processes_after_act packages ps a) xs

-- all processes have reached this unit
pub record HaveReachedUnit (unit : ℕ) (ps : ProcessesOf) : Type 0 where
  pub agent : unit ≤ ps.agent.unit
  pub devices : (eid : ℕ) → IfSome (ps.device eid) (λ q. unit ≤ q.unit)

-- These acts are a trace, after which all processes are in this unit.
pub record IsTraceTo (packages : List PackageText) (unit : ℕ) (ps : ProcessesOf) (trace : List Act) : Type 0 where
  pub may : EachMayAct packages ps trace
  pub ends : AreAtUnit unit (processes_after packages ps trace)

-- The acts up to a unit that all processes have reached are a trace by themselves, with any acts
-- after them.
abbrev pub TracesAreCut : Type 0
TracesAreCut =
    (opening : WorldOf) (trace : List Act) (unit : ℕ) → EachMayAct opening.packages (processes_of opening) trace
    → HaveReachedUnit unit (processes_after opening.packages (processes_of opening) trace)
    → IsTraceTo opening.packages unit (processes_of opening) (acts_until opening.packages unit (processes_of opening) trace)

-- THE HEADLINE OF PROCESSES

-- the processes at the end of a unit
abbrev pub processes_at : (opening : WorldOf) → (trace : List Act) → (unit : ℕ) → ProcessesOf
processes_at opening trace unit = processes_after opening.packages (processes_of opening) (acts_until opening.packages unit (processes_of opening) trace)

-- These processes are those at the end of a play (`play`), which is a run of a world (`run`). The
-- agent's session for each device and the device are safe, and tied with the history of the device
-- in that world (`safe`), which is the list of entries that the two processes noted of it (`noted`
-- of `IsRun`).
pub record AreSafeProcesses (opening : WorldOf) (ps : ProcessesOf) : Type 0 where
  pub play : IsPlay opening ps
  pub run : IsRun opening play.play
  pub safe : (eid : ℕ) → IfSome (pair_for opening eid) (λ m. IfSome (ps.device eid)
      (λ q. IsSomeAnd (pair_of_nodes ps.agent.node eid q.node) (λ n. IsSafeAndTied opening.packages (shown_pair m []) (shown_pair n (history_of eid run.world.history)))))

-- The headline of separate processes: for any acts of them, each by its own clock, they are safe at
-- the end of each unit that all of them have reached.
abbrev pub TracesAreSafe : Type 0
TracesAreSafe =
    (opening : WorldOf) (trace : List Act) (unit : ℕ) → IsOpeningWorld opening → EachMayAct opening.packages (processes_of opening) trace
    → HaveReachedUnit unit (processes_after opening.packages (processes_of opening) trace) → AreSafeProcesses opening (processes_at opening trace unit)
