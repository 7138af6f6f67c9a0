-- The deeds of served processes (`specs/Processes`) as acts of a trace (`specs/Traces` of
-- `fw_steps`), so that the headline holds for these processes. The laws, in order:
-- 1. `RoundsAreTimely`: a process receives only timely packets.
-- 2. `DevicesAct`, `AgentsAct`: the deeds of a process are acts, and it may do each, as far as it
--    knows.
-- 3. `ServicesAct`: so are the rounds that a process serves. `ServedProcessesEnd`: a trace of these
--    acts leaves each process as its rounds do.
-- 4. `ServedProcessesAreSafe`: if each packet is received after it was sent, the processes are
--    safe at the end of each unit that all have reached.
--
-- A process knows the stamp and the bytes of a packet that it receives, but not whether its peer
-- sent the packet. That is the only premise of the fourth law about the network.
use Rattle.std.specs.Prelude.{ℕ, ◌≡◌, ◌≤◌, ◌<◌, ◌-◌, ◌^◌, ◌==◌, ◌++◌, ◌∷◌, [], true, if◌then◌else◌, is_some, IsSomeAnd, List, Option, Some, None}
use Rattle.std.specs.List.{Contains, filter}
use Rattle.exch_lane.specs.Lanes.{Sent}
use Rattle.exch_lane.specs.Steps.{sent_at}
use Rattle.fw_package.specs.Package.{PackageText}
use Rattle.fw_node.specs.Agents.{any_packet}
use Rattle.fw_process.specs.Processes.{AroundOf, Deed, DoesAll, RoundOf, ServesRounds, rounds_deeds, unit_after_deed}
use Rattle.fw_steps.specs.Alone.{is_for}
use Rattle.fw_steps.specs.Opening.{IsOpeningWorld}
use Rattle.fw_steps.specs.Plays.{AgentMayCall, AgentProcess, DeviceMayCall, DeviceProcess}
use Rattle.fw_steps.specs.Traces.{Act, AgentAct, AreSafeProcesses, DeviceAct, HaveReachedUnit, IsTimely, ProcessesOf, agent_act_call, agent_process_after_act, device_act_call, device_process_after_act, processes_after, processes_after_act, processes_at, processes_of}
use Rattle.fw_steps.specs.Worlds.{WorldOf, sender_of}
use Rattle.fw_serve.specs.Agents.{ServedAgentOf}
use Rattle.fw_serve.specs.Processes.{AgentDoes, DeviceDoes, DeviceProcessOf}

-- DEEDS

-- the packets that deeds receive
abbrev pub received_by_deed : Deed → List Sent
received_by_deed (Deed.Receives p) = p ∷ []
received_by_deed d = []

abbrev pub received_in : List Deed → List Sent
received_in [] = []
received_in (d ∷ ds) = received_by_deed d ++ received_in ds

-- Each packet is received in the unit of its stamp or in one of the 8 units after it.
abbrev pub IsTimelyDeed : (unit : ℕ) → Deed → Type 0
IsTimelyDeed unit (Deed.Receives p) = IsTimely p.date unit
IsTimelyDeed unit d = Unit {0}

abbrev pub AreTimely : (unit : ℕ) → List Deed → Type 0
AreTimely unit [] = Unit {0}
AreTimely unit (d ∷ ds) = IsTimelyDeed unit d × AreTimely (unit_after_deed unit d) ds

abbrev pub RoundsAreTimely : Type 0
RoundsAreTimely = (unit : ℕ) (rounds : List RoundOf) → AreTimely unit (rounds_deeds unit rounds)

-- A DEVICE

-- As far as a device knows, it may do this act: a packet that it receives is timely, and is for it.
abbrev pub DeviceKnows : (device unit : ℕ) → DeviceAct → Type 0
DeviceKnows device unit (DeviceAct.Receives works faults stamp bytes) = IsTimely stamp unit × (is_for device bytes ≡ true)
DeviceKnows device unit d = Unit {0}

-- It may do these acts, one after another: its node takes the call of each.
abbrev pub DeviceMayDo : (device : ℕ) → DeviceProcess → List DeviceAct → Type 0
DeviceMayDo device q [] = Unit {0}
DeviceMayDo device q (d ∷ ds) = (DeviceKnows device q.unit d × DeviceMayCall q.node (device_act_call d)) × DeviceMayDo device (device_process_after_act d q) ds

-- the process after acts
abbrev pub device_process_after_acts : DeviceProcess → List DeviceAct → DeviceProcess
device_process_after_acts q [] = q
device_process_after_acts q (d ∷ ds) = device_process_after_acts (device_process_after_act d q) ds

-- the packets that acts receive
abbrev pub received_by_device : List DeviceAct → List Sent
received_by_device [] = []
received_by_device (DeviceAct.Receives works faults stamp bytes ∷ ds) = sent_at stamp bytes ∷ received_by_device ds
received_by_device (d ∷ ds) = received_by_device ds

-- a served device as the process of a trace, with all packets that it sent
abbrev pub device_process_of : DeviceProcessOf → (sent : List Sent) → DeviceProcess
device_process_of s sent = record { unit = s.unit; node = s.device.node; sent = sent }

-- A device is in state `s` and has sent the packets `before`. It may do these acts. Then it is in
-- state `t` and has also sent the packets `sent`. The acts receive those packets of `came` that are
-- for the device, in order.
pub record AreDeviceActs (before : List Sent) (s : DeviceProcessOf) (came : List Sent) (t : DeviceProcessOf) (sent : List Sent) (acts : List DeviceAct) : Type 0 where
  pub may : DeviceMayDo s.device.node.endpoint.eid (device_process_of s before) acts
  pub ends : device_process_after_acts (device_process_of s before) acts ≡ device_process_of t (before ++ sent)
  pub received : received_by_device acts ≡ filter (λ p. is_for s.device.node.endpoint.eid p.bytes) came

-- The deeds of a device are such acts. They receive the packets of the deeds.
abbrev pub DevicesAct : Type 0
DevicesAct =
    (s t : DeviceProcessOf) (ds : List Deed) (before sent : List Sent) → DoesAll DeviceDoes s ds t sent → AreTimely s.unit ds
    → (acts : List DeviceAct) × AreDeviceActs before s (received_in ds) t sent acts

-- THE AGENT

-- As far as the agent knows, it may do this act: a packet that it receives is timely, and names the
-- device as its sender. The clock counts up to 2^32 - 1.
abbrev pub AgentKnows : (unit : ℕ) → AgentAct → Type 0
AgentKnows unit AgentAct.Ticks = unit < 2 ^ 32 - 1
AgentKnows unit (AgentAct.Receives device stamp bytes) = IsTimely stamp unit × (sender_of (any_packet bytes) ≡ Some device)
AgentKnows unit d = Unit {0}

abbrev pub AgentMayDo : List PackageText → AgentProcess → List AgentAct → Type 0
AgentMayDo packages p [] = Unit {0}
AgentMayDo packages p (d ∷ ds) = (AgentKnows p.unit d × AgentMayCall packages p.node (agent_act_call p.unit d)) × AgentMayDo packages (agent_process_after_act packages p d) ds

abbrev pub agent_process_after_acts : List PackageText → AgentProcess → List AgentAct → AgentProcess
agent_process_after_acts packages p [] = p
agent_process_after_acts packages p (d ∷ ds) = agent_process_after_acts packages (agent_process_after_act packages p d) ds

abbrev pub received_by_agent : List AgentAct → List Sent
received_by_agent [] = []
received_by_agent (AgentAct.Receives device stamp bytes ∷ ds) = sent_at stamp bytes ∷ received_by_agent ds
received_by_agent (d ∷ ds) = received_by_agent ds

abbrev pub agent_process_of : ServedAgentOf → (sent : List Sent) → AgentProcess
agent_process_of s sent = record { unit = s.now; node = s.agent; sent = sent }

-- The agent is in state `s` and has sent the packets `before`. It may do these acts. Then it is in
-- state `t` and has also sent the packets `sent`. The acts receive those packets of `came` that
-- name a sender, in order; the agent ignores the others.
pub record AreAgentActs (before : List Sent) (s : ServedAgentOf) (came : List Sent) (t : ServedAgentOf) (sent : List Sent) (acts : List AgentAct) : Type 0 where
  pub packages : t.packages ≡ s.packages
  pub may : AgentMayDo s.packages (agent_process_of s before) acts
  pub ends : agent_process_after_acts s.packages (agent_process_of s before) acts ≡ agent_process_of t (before ++ sent)
  pub received : received_by_agent acts ≡ filter (λ p. is_some (sender_of (any_packet p.bytes))) came

-- The deeds of the agent, up to the last unit of its clock, are such acts.
abbrev pub AgentsAct : Type 0
AgentsAct =
    (s t : ServedAgentOf) (ds : List Deed) (before sent : List Sent) → DoesAll AgentDoes s ds t sent → AreTimely s.now ds → t.now ≤ 2 ^ 32 - 1
    → (acts : List AgentAct) × AreAgentActs before s (received_in ds) t sent acts

-- ALL PROCESSES

-- the acts of the agent, and of a device, in a trace
abbrev pub acts_of_agent : List Act → List AgentAct
acts_of_agent [] = []
acts_of_agent (Act.OfAgent d ∷ trace) = d ∷ acts_of_agent trace
acts_of_agent (Act.OfDevice device d ∷ trace) = acts_of_agent trace

abbrev pub acts_of_device : (eid : ℕ) → List Act → List DeviceAct
acts_of_device eid [] = []
acts_of_device eid (Act.OfAgent d ∷ trace) = acts_of_device eid trace
acts_of_device eid (Act.OfDevice device d ∷ trace) = if device == eid then d ∷ acts_of_device eid trace else acts_of_device eid trace

-- The service of a process. It did the acts `earlier`, each of which it may do, such as starts of
-- sessions and absences. Then it was in state `first` and had sent the packets `before`. From there
-- it served rounds over its line, and is in state `last`.
pub record DeviceService (q : DeviceProcess) : Type 0 where
  pub earlier : List DeviceAct
  pub may : DeviceMayDo q.node.endpoint.eid q earlier
  pub first : DeviceProcessOf
  pub before : List Sent
  pub begins : device_process_after_acts q earlier ≡ device_process_of first before
  pub last : DeviceProcessOf
  pub around : AroundOf
  pub around_after : AroundOf
  pub serves : ServesRounds DeviceDoes (λ s. s.unit) first around last around_after

pub record AgentService (packages : List PackageText) (p : AgentProcess) : Type 0 where
  pub earlier : List AgentAct
  pub may : AgentMayDo packages p earlier
  pub first : ServedAgentOf
  pub before : List Sent
  pub begins : agent_process_after_acts packages p earlier ≡ agent_process_of first before
  pub packaged : first.packages ≡ packages
  pub last : ServedAgentOf
  pub around : AroundOf
  pub around_after : AroundOf
  pub serves : ServesRounds AgentDoes (λ s. s.now) first around last around_after
  pub clock : last.now ≤ 2 ^ 32 - 1

-- These are the acts of a process that is served: the earlier ones, and then acts of the rounds.
pub record DeviceServes (q : DeviceProcess) (acts : List DeviceAct) : Type 0 where
  pub service : DeviceService q
  pub served : List DeviceAct
  pub are : AreDeviceActs service.before service.first (received_in (rounds_deeds service.first.unit service.serves.rounds)) service.last service.serves.serves.sent served
  pub all : acts ≡ service.earlier ++ served

pub record AgentServes (packages : List PackageText) (p : AgentProcess) (acts : List AgentAct) : Type 0 where
  pub service : AgentService packages p
  pub served : List AgentAct
  pub are : AreAgentActs service.before service.first (received_in (rounds_deeds service.first.now service.serves.rounds)) service.last service.serves.serves.sent served
  pub all : acts ≡ service.earlier ++ served

-- Each service has such acts.
pub record DeviceServiceActs (q : DeviceProcess) (service : DeviceService q) : Type 0 where
  pub acts : List DeviceAct
  pub serves : DeviceServes q acts
  pub same : serves.service ≡ service

pub record AgentServiceActs (packages : List PackageText) (p : AgentProcess) (service : AgentService packages p) : Type 0 where
  pub acts : List AgentAct
  pub serves : AgentServes packages p acts
  pub same : serves.service ≡ service

abbrev pub ServicesAct : Type 0
ServicesAct =
    ((q : DeviceProcess) (service : DeviceService q) → DeviceServiceActs q service)
    × ((packages : List PackageText) (p : AgentProcess) (service : AgentService packages p) → AgentServiceActs packages p service)

-- If there is no process, there are no acts.
abbrev pub DeviceServesIf : Option DeviceProcess → List DeviceAct → Type 0
DeviceServesIf None acts = acts ≡ []
DeviceServesIf (Some q) acts = DeviceServes q acts

-- In this trace each process does the acts of its service.
pub record AreServed (packages : List PackageText) (ps : ProcessesOf) (trace : List Act) : Type 0 where
  pub agent : AgentServes packages ps.agent (acts_of_agent trace)
  pub devices : (eid : ℕ) → DeviceServesIf (ps.device eid) (acts_of_device eid trace)

-- After the trace each process is in the state in which its service left it, and has sent the
-- packets of its service.
abbrev pub DeviceEndsAsServed : (q : Option DeviceProcess) → (acts : List DeviceAct) → DeviceServesIf q acts → (after : Option DeviceProcess) → Type 0
DeviceEndsAsServed None acts served after = after ≡ None
DeviceEndsAsServed (Some q) acts served after = after ≡ Some (device_process_of served.service.last (served.service.before ++ served.service.serves.serves.sent))

pub record EndAsServed (packages : List PackageText) (ps : ProcessesOf) (trace : List Act) (served : AreServed packages ps trace) : Type 0 where
  pub agent : (processes_after packages ps trace).agent ≡ agent_process_of served.agent.service.last (served.agent.service.before ++ served.agent.service.serves.serves.sent)
  pub devices : (eid : ℕ) → DeviceEndsAsServed (ps.device eid) (acts_of_device eid trace) (served.devices eid) ((processes_after packages ps trace).device eid)

abbrev pub ServedProcessesEnd : Type 0
ServedProcessesEnd = (packages : List PackageText) (ps : ProcessesOf) (trace : List Act) (served : AreServed packages ps trace) → EndAsServed packages ps trace served

-- Each packet is received after its peer sent it with this stamp.
abbrev pub IsAfterSending : ProcessesOf → Act → Type 0
IsAfterSending ps (Act.OfAgent (AgentAct.Receives device stamp bytes)) = IsSomeAnd (ps.device device) (λ q. Contains q.sent (sent_at stamp bytes))
IsAfterSending ps (Act.OfDevice device (DeviceAct.Receives works faults stamp bytes)) = Contains ps.agent.sent (sent_at stamp bytes)
IsAfterSending ps act = Unit {0}

abbrev pub EachIsAfterSending : List PackageText → ProcessesOf → List Act → Type 0
EachIsAfterSending packages ps [] = Unit {0}
EachIsAfterSending packages ps (a ∷ trace) = IsAfterSending ps a × EachIsAfterSending packages (processes_after_act packages ps a) trace

-- The headline of served processes: if each packet is received after it was sent, they are safe at
-- the end of each unit that all of them have reached.
abbrev pub ServedProcessesAreSafe : Type 0
ServedProcessesAreSafe =
    (opening : WorldOf) (trace : List Act) (unit : ℕ) → IsOpeningWorld opening → AreServed opening.packages (processes_of opening) trace
    → EachIsAfterSending opening.packages (processes_of opening) trace → HaveReachedUnit unit (processes_after opening.packages (processes_of opening) trace)
    → AreSafeProcesses opening (processes_at opening trace unit)
