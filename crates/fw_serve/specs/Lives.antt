-- The lives of processes. A life of the agent's process, or of a device's, begins with a node, in
-- the unit that the clock shows then. It does deeds (`specs/Processes`), and ends after any of
-- them: by itself, or because it is stopped for good or killed. Then the process may be started
-- anew, with a node made of what was kept; if it isn't, it may be counted as absent from then on.
-- The laws:
-- 1. `LivesAct`: lives are acts of a trace (`specs/Traces` of `fw_steps`), each of which the
--    process may do, as far as it knows.
-- 2. `LivesEnd`: a trace of the acts of lives leaves each process as its last life did.
-- 3. `LivesAreSafe`: if each packet is received after it was sent, the processes are safe at the
--    end of each unit that all have reached.
--
-- A kill within a deed counts as one before the deed or after it. Of the agent, what it keeps is
-- kept before the packets of a deed are sent (`specs/Keeping`); of a device, its bank keeps an
-- activation entirely or not at all. Packets of the last deed that weren't sent any more are
-- packets that were lost.
use Rattle.std.specs.Prelude.{ℕ, ◌≡◌, ◌≤◌, ◌+◌, ◌-◌, ◌^◌, ◌++◌, ◌∷◌, ◌⊎◌, [], IfSome, List, Option, Some, None}
use Rattle.agent_store.specs.Kept.{kept_lines, settings_in}
use Rattle.exch_lane.specs.Lanes.{Sent}
use Rattle.fd_core.specs.Images.{rows_after_drop}
use Rattle.fd_core.specs.States.{new_device}
use Rattle.fw_node.specs.Agents.{AgentOf, new_agent}
use Rattle.fw_node.specs.Nodes.{DeviceNodeOf, new_device_node}
use Rattle.fw_package.specs.Package.{PackageText}
use Rattle.fw_process.specs.Processes.{Deed, DoesAll}
use Rattle.fw_steps.specs.Absences.{agent_absence, agent_after_absence, device_absence, device_after_absence}
use Rattle.fw_steps.specs.Opening.{IsOpeningWorld}
use Rattle.fw_steps.specs.Plays.{AgentProcess, DeviceProcess}
use Rattle.fw_steps.specs.Traces.{Act, AgentAct, AreSafeProcesses, DeviceAct, HaveReachedUnit, processes_after, processes_at, processes_of}
use Rattle.fw_steps.specs.Worlds.{WorldOf}
use Rattle.fw_store.specs.declared.kept_line.KeptLine.{KeptLine}
use Rattle.mctp_ctl.specs.declared.answers.Endpoint.{Endpoint}
use Rattle.mctp_wire.specs.declared.unit.Unit.{«Unit»}
use Rattle.sel_core.specs.declared.log.resuming.LogSettings.{LogSettings}
use Rattle.fw_serve.specs.Agents.{ServedAgentOf}
use Rattle.fw_serve.specs.Anew.{agent_anew, node_anew}
use Rattle.fw_serve.specs.Processes.{AgentDoes, DeviceDoes, DeviceProcessOf}
use Rattle.fw_serve.specs.Traced.{AgentMayDo, AreAgentActs, AreDeviceActs, AreTimely, EachIsAfterSending, acts_of_agent, acts_of_device, agent_process_after_acts, agent_process_of, device_process_of, received_in}

-- THE AGENT

-- The agent of a configuration: its network's transmission unit, its endpoint, and its devices.
pub record AgentSetupOf : Type 0 where
  pub unit : «Unit»
  pub endpoint : Endpoint
  pub devices : List ℕ

abbrev pub agent_of_setup : AgentSetupOf → AgentOf
agent_of_setup c = new_agent c.unit c.endpoint c.devices

-- the node of the agent that goes on with the lines that were kept
pub record GoesOnWith (c : AgentSetupOf) (ls : List KeptLine) (n : AgentOf) : Type 0 where
  pub settings : LogSettings
  pub found : settings_in ls ≡ Some settings
  pub node : n ≡ node_anew c.unit c.endpoint c.devices settings ls

-- A life of the agent's process: the node that it begins with, and the unit that the clock shows
-- then; calls of the operator, after which it is `first` and has sent the packets `before`, in this
-- life and in those before it; its deeds; and then it is `last` and has also sent the packets
-- `sent`.
pub record AgentLifeOf : Type 0 where
  pub node : AgentOf
  pub shown : ℕ
  pub calls : List AgentAct
  pub first : ServedAgentOf
  pub before : List Sent
  pub deeds : List Deed
  pub last : ServedAgentOf
  pub sent : List Sent

-- the process when a life begins, after earlier lives that sent packets, and when it ends
abbrev pub agent_begun : List PackageText → (sent : List Sent) → AgentLifeOf → AgentProcess
agent_begun packages sent l = agent_process_of (agent_anew l.node packages l.shown) sent

abbrev pub agent_left : AgentLifeOf → AgentProcess
agent_left l = agent_process_of l.last (l.before ++ l.sent)

-- A life of the agent's process, which was left as `p`. Its node goes on with what was kept; or, as
-- the first life has nothing kept, it is the node as it was left. The clock hasn't gone back.
pub record IsAgentLife (c : AgentSetupOf) (packages : List PackageText) (p : AgentProcess) (l : AgentLifeOf) : Type 0 where
  pub goes_on : (l.node ≡ p.node) ⊎ GoesOnWith c (kept_lines p.node) l.node
  pub later : p.unit ≤ l.shown
  pub may : AgentMayDo packages (agent_begun packages p.sent l) l.calls
  pub called : agent_process_after_acts packages (agent_begun packages p.sent l) l.calls ≡ agent_process_of l.first l.before
  pub packaged : l.first.packages ≡ packages
  pub done : DoesAll AgentDoes l.first l.deeds l.last l.sent
  pub timely : AreTimely l.first.now l.deeds
  pub clock : l.last.now ≤ 2 ^ 32 - 1

-- lives, one after another, and the process after them
abbrev pub AreAgentLives : AgentSetupOf → List PackageText → AgentProcess → List AgentLifeOf → Type 0
AreAgentLives c packages p [] = Prim.Unit {0}
AreAgentLives c packages p (l ∷ ls) = IsAgentLife c packages p l × AreAgentLives c packages (agent_left l) ls

abbrev pub agent_after_lives : AgentProcess → List AgentLifeOf → AgentProcess
agent_after_lives p [] = p
agent_after_lives p (l ∷ ls) = agent_after_lives (agent_left l) ls

-- The acts of a life: the absence before it, the calls of the operator, and acts of its deeds.
pub record AreActsOfAgentLife (p : AgentProcess) (l : AgentLifeOf) (acts : List AgentAct) : Type 0 where
  pub served : List AgentAct
  pub are : AreAgentActs l.before l.first (received_in l.deeds) l.last l.sent served
  pub all : acts ≡ agent_absence (l.shown - p.unit) ++ (l.calls ++ served)

abbrev pub AreActsOfAgentLives : AgentProcess → List AgentLifeOf → List AgentAct → Type 0
AreActsOfAgentLives p [] acts = acts ≡ []
AreActsOfAgentLives p (l ∷ ls) acts =
    (one : List AgentAct) × (more : List AgentAct) × AreActsOfAgentLife p l one × AreActsOfAgentLives (agent_left l) ls more × (acts ≡ one ++ more)

-- The acts of a process that is gone for good and counted as absent for these units, if it is.
abbrev pub agent_gone : Option ℕ → List AgentAct
agent_gone None = []
agent_gone (Some units) = agent_absence units

abbrev pub agent_after_gone : List PackageText → Option ℕ → AgentProcess → AgentProcess
agent_after_gone packages None p = p
agent_after_gone packages (Some units) p = agent_after_absence packages units p

-- The agent's process has lives, and may then be gone. These are its acts.
pub record AgentLives (c : AgentSetupOf) (packages : List PackageText) (p : AgentProcess) (acts : List AgentAct) : Type 0 where
  pub lives : List AgentLifeOf
  pub are : AreAgentLives c packages p lives
  pub gone : Option ℕ
  pub clock : IfSome gone (λ units. (agent_after_lives p lives).unit + units ≤ 2 ^ 32 - 1)
  pub acted : List AgentAct
  pub acts_are : AreActsOfAgentLives p lives acted
  pub all : acts ≡ acted ++ agent_gone gone

-- A DEVICE

-- the node of a device that is started anew with the images that its bank keeps, those that are
-- active; a new bank has counted no failure
abbrev pub device_anew : DeviceNodeOf → DeviceNodeOf
device_anew n =
    new_device_node n.endpoint n.half.peer (record {
      device = new_device n.half.unit n.half.core.device.descriptors n.half.core.device.components (rows_after_drop n.half.core.device.rows);
      idle = 0;
      faults = 0;
    })

-- A life of a device's process: the node that it begins with, and the unit that the clock shows
-- then; its state `first` after that; its deeds; and then it is `last` and has sent packets.
pub record DeviceLifeOf : Type 0 where
  pub node : DeviceNodeOf
  pub shown : ℕ
  pub first : DeviceProcessOf
  pub deeds : List Deed
  pub last : DeviceProcessOf
  pub sent : List Sent

-- a device's new process with a node
abbrev pub device_begun : DeviceNodeOf → DeviceProcessOf
device_begun n = record { unit = 0; device = record { node = n; history = [] } }

-- the process after a life, with the packets that it sent before
abbrev pub device_left : (sent : List Sent) → DeviceLifeOf → DeviceProcess
device_left sent l = device_process_of l.last (sent ++ l.sent)

-- A life of a device's process, which was left as `q`. Its node is made anew of the images that
-- ran; or, as the first life has the configured images, it is the node as it was left. It begins
-- with a restart, and the clock hasn't gone back.
pub record IsDeviceLife (q : DeviceProcess) (l : DeviceLifeOf) : Type 0 where
  pub goes_on : (l.node ≡ q.node) ⊎ (l.node ≡ device_anew q.node)
  pub later : q.unit ≤ l.shown
  pub begins : DeviceDoes (device_begun l.node) (Deed.Misses l.shown) l.first []
  pub done : DoesAll DeviceDoes l.first l.deeds l.last l.sent
  pub timely : AreTimely l.first.unit l.deeds

abbrev pub AreDeviceLives : DeviceProcess → List DeviceLifeOf → Type 0
AreDeviceLives q [] = Prim.Unit {0}
AreDeviceLives q (l ∷ ls) = IsDeviceLife q l × AreDeviceLives (device_left q.sent l) ls

abbrev pub device_after_lives : DeviceProcess → List DeviceLifeOf → DeviceProcess
device_after_lives q [] = q
device_after_lives q (l ∷ ls) = device_after_lives (device_left q.sent l) ls

-- In a trace a device has one bank, which counts the failures of all lives. So there its node is
-- that of the process with another count, on which nothing that it does or sends depends.
abbrev pub recounted : (faults : ℕ) → DeviceNodeOf → DeviceNodeOf
recounted faults n = record n { faults = faults }

abbrev pub process_recounted : (faults : ℕ) → DeviceProcess → DeviceProcess
process_recounted faults q = record q { node = recounted faults q.node }

abbrev pub served_recounted : (faults : ℕ) → DeviceProcessOf → DeviceProcessOf
served_recounted faults s = record s { device = record s.device { node = recounted faults s.device.node } }

-- The acts of a life, with the bank's count at its beginning and at its end: the absence before it,
-- and acts of its deeds.
pub record AreActsOfDeviceLife (q : DeviceProcess) (l : DeviceLifeOf) (before after : ℕ) (acts : List DeviceAct) : Type 0 where
  pub served : List DeviceAct
  pub are : AreDeviceActs q.sent (served_recounted before l.first) (received_in l.deeds) (served_recounted after l.last) l.sent served
  pub all : acts ≡ device_absence (l.shown - q.unit) ++ served

abbrev pub AreActsOfDeviceLives : DeviceProcess → List DeviceLifeOf → (before after : ℕ) → List DeviceAct → Type 0
AreActsOfDeviceLives q [] before after acts = (acts ≡ []) × (after ≡ before)
AreActsOfDeviceLives q (l ∷ ls) before after acts =
    (mid : ℕ) × (one : List DeviceAct) × (more : List DeviceAct) × AreActsOfDeviceLife q l before mid one
    × AreActsOfDeviceLives (device_left q.sent l) ls mid after more × (acts ≡ one ++ more)

-- The acts of a process that is gone for good and counted as absent for these units, if it is.
abbrev pub device_gone : Option ℕ → List DeviceAct
device_gone None = []
device_gone (Some units) = device_absence units

abbrev pub device_after_gone : Option ℕ → DeviceProcess → DeviceProcess
device_after_gone None q = q
device_after_gone (Some units) q = device_after_absence units q

-- A device's process has lives, and may then be gone. These are its acts.
pub record DeviceLives (q : DeviceProcess) (acts : List DeviceAct) : Type 0 where
  pub lives : List DeviceLifeOf
  pub are : AreDeviceLives q lives
  pub gone : Option ℕ
  pub faults : ℕ
  pub acted : List DeviceAct
  pub acts_are : AreActsOfDeviceLives q lives q.node.faults faults acted
  pub all : acts ≡ acted ++ device_gone gone

-- If there is no process, there are no acts.
abbrev pub DeviceLivesIf : Option DeviceProcess → List DeviceAct → Type 0
DeviceLivesIf None acts = acts ≡ []
DeviceLivesIf (Some q) acts = DeviceLives q acts

-- THE LAWS

-- In this trace each process does the acts of its lives, from an opening world with the agent of a
-- configuration.
pub record AreLived (opening : WorldOf) (c : AgentSetupOf) (trace : List Act) : Type 0 where
  pub opens : IsOpeningWorld opening
  pub setup : opening.agent ≡ agent_of_setup c
  pub agent : AgentLives c opening.packages (processes_of opening).agent (acts_of_agent trace)
  pub devices : (eid : ℕ) → DeviceLivesIf ((processes_of opening).device eid) (acts_of_device eid trace)

-- Any lives have acts.
pub record LivesAct : Type 0 where
  pub agent : (c : AgentSetupOf) (packages : List PackageText) (p : AgentProcess) (ls : List AgentLifeOf) → AreAgentLives c packages p ls
      → (acts : List AgentAct) × AreActsOfAgentLives p ls acts
  pub device : (q : DeviceProcess) (ls : List DeviceLifeOf) (before : ℕ) → AreDeviceLives q ls
      → (after : ℕ) × (acts : List DeviceAct) × AreActsOfDeviceLives q ls before after acts

-- After the trace each process is in the state in which its last life left it, absent since then if
-- it is gone, and has sent the packets of its lives.
abbrev pub DeviceEndsAsLived : (q : Option DeviceProcess) → (acts : List DeviceAct) → DeviceLivesIf q acts → (after : Option DeviceProcess) → Type 0
DeviceEndsAsLived None acts lived after = after ≡ None
DeviceEndsAsLived (Some q) acts lived after = after ≡ Some (process_recounted lived.faults (device_after_gone lived.gone (device_after_lives q lived.lives)))

pub record EndAsLived (opening : WorldOf) (c : AgentSetupOf) (trace : List Act) (lived : AreLived opening c trace) : Type 0 where
  pub agent : (processes_after opening.packages (processes_of opening) trace).agent
      ≡ agent_after_gone opening.packages lived.agent.gone (agent_after_lives (processes_of opening).agent lived.agent.lives)
  pub devices : (eid : ℕ) → DeviceEndsAsLived ((processes_of opening).device eid) (acts_of_device eid trace) (lived.devices eid)
      ((processes_after opening.packages (processes_of opening) trace).device eid)

abbrev pub LivesEnd : Type 0
LivesEnd = (opening : WorldOf) (c : AgentSetupOf) (trace : List Act) (lived : AreLived opening c trace) → EndAsLived opening c trace lived

-- The headline of processes that are killed and started anew: if each packet is received after it
-- was sent, they are safe at the end of each unit that all of them have reached.
abbrev pub LivesAreSafe : Type 0
LivesAreSafe =
    (opening : WorldOf) (c : AgentSetupOf) (trace : List Act) (unit : ℕ) → AreLived opening c trace
    → EachIsAfterSending opening.packages (processes_of opening) trace → HaveReachedUnit unit (processes_after opening.packages (processes_of opening) trace)
    → AreSafeProcesses opening (processes_at opening trace unit)
