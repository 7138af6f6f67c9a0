-- Plays: the calls of separate processes, each with its own node, in the order of real time and
-- unit by unit. There is no world. The law is `PlaysAreRuns`: every play in which packets are
-- received after they were sent is a run of a world, and that world has the nodes of the processes
-- at its end. Read `specs/Alone` first, for the calls of a node. In a play all processes tick at
-- once; `specs/Traces` doesn't need that.
use Rattle.std.specs.Prelude.{ℕ, ◌≡◌, ◌≤◌, ◌<◌, ◌+◌, ◌-◌, ◌^◌, ◌==◌, ◌++◌, ◌∷◌, [], Bool, true, false, if◌then◌else◌, is_some, IfSome, IsSomeAnd, List, None}
use Rattle.std.specs.List.{AllByRecursion, Contains}
use Rattle.arrayvec.specs.declared.array_vec.ArrayVec.{ArrayVec}
use Rattle.exch_lane.specs.Lanes.{Sent}
use Rattle.exch_lane.specs.Steps.{sent_at}
use Rattle.fw_package.specs.Package.{PackageText}
use Rattle.fd_core.specs.BankCalls.{verdict_calls_bank}
use Rattle.fd_core.specs.Banks.{CountsFailure}
use Rattle.fd_core.specs.Steps.{device_verdict}
use Rattle.fd_core.specs.declared.states.Verdict.{Verdict}
use Rattle.fw_message.specs.Headline.{EntryOf, IsSafeAndTied}
use Rattle.fw_message.specs.Worlds.{NotedOf}
use Rattle.fw_message.specs.WorldLaws.{history_of}
use Rattle.fw_node.specs.Agents.{AgentOf, agent_on_packet, any_packet, free_for, half_for, ready_for}
use Rattle.fw_node.specs.BankCalls.{packet_calls_bank}
use Rattle.fw_node.specs.Cores.{device_core}
use Rattle.fw_node.specs.Nodes.{DeviceNodeOf}
use Rattle.fw_steps.specs.Alone.{AgentCall, AreRunCalls, DeviceCall, agent_after_calls, agent_step_packets, device_after_calls, device_step_packets, device_call_entries, is_for, pair_of_nodes}
use Rattle.fw_message.specs.Laws.{shown_pair}
use Rattle.fw_steps.specs.Opening.{IsOpeningWorld}
use Rattle.fw_steps.specs.Steps.{Run, is_device, is_package, ready_fault, start_fault}
use Rattle.fw_steps.specs.Worlds.{WorldOf, pair_for, recorded_from, sender_of, sent_now, site_for}
use Rattle.fw_steps.specs.declared.step.Step.{Step}

-- STEPS

-- A step of a play. Either a unit of time passes and all processes tick, or one process has a call.
-- A packet is received with its stamp, which is the unit in which it was sent. A device is named by
-- its endpoint identifier.
pub data PlayStep : Type 0 where
  UnitPasses : PlayStep
  AgentReceives : (device stamp : ℕ) → (bytes : List ℕ) → PlayStep
  DeviceReceives : (device : ℕ) → (works : Bool) → (faults stamp : ℕ) → (bytes : List ℕ) → PlayStep
  Starts : (device number : ℕ) → PlayStep
  Cancels : (device : ℕ) → PlayStep
  Activates : (device : ℕ) → PlayStep
  AsksLog : (bytes : ArrayVec ℕ 64 (Unit {0})) → PlayStep
  AgentRestarts : PlayStep
  Judges : (device : ℕ) → (works : Bool) → (faults : ℕ) → (verdict : Verdict) → PlayStep
  DeviceRestarts : (device : ℕ) → PlayStep

-- the unit after a step
abbrev pub unit_after_step : (unit : ℕ) → PlayStep → ℕ
unit_after_step unit PlayStep.UnitPasses = unit + 1
unit_after_step unit h = unit

-- the calls of the agent and of a device in a step: one, or none
abbrev pub agent_calls_of : (unit : ℕ) → PlayStep → List AgentCall
agent_calls_of unit PlayStep.UnitPasses = AgentCall.Ticks (unit + 1) ∷ []
agent_calls_of unit (PlayStep.AgentReceives device stamp bytes) = AgentCall.Receives unit bytes ∷ []
agent_calls_of unit (PlayStep.Starts device number) = AgentCall.Starts unit device number ∷ []
agent_calls_of unit (PlayStep.Cancels device) = AgentCall.Cancels unit device ∷ []
agent_calls_of unit (PlayStep.Activates device) = AgentCall.Activates unit device ∷ []
agent_calls_of unit (PlayStep.AsksLog bytes) = AgentCall.AsksLog unit bytes.items ∷ []
agent_calls_of unit PlayStep.AgentRestarts = AgentCall.Restarts ∷ []
agent_calls_of unit h = []

abbrev pub device_calls_of : (eid : ℕ) → PlayStep → List DeviceCall
device_calls_of eid PlayStep.UnitPasses = DeviceCall.Ticks ∷ []
device_calls_of eid (PlayStep.DeviceReceives device works faults stamp bytes) = if device == eid then DeviceCall.Receives works faults bytes ∷ [] else []
device_calls_of eid (PlayStep.Judges device works faults verdict) = if device == eid then DeviceCall.Judges works faults verdict ∷ [] else []
device_calls_of eid (PlayStep.DeviceRestarts device) = if device == eid then DeviceCall.Restarts ∷ [] else []
device_calls_of eid h = []

-- PROCESSES

-- A process: its unit, its node, and all packets that it sent, each with the unit of the call that
-- sent it.
pub record AgentProcess : Type 0 where
  pub unit : ℕ
  pub node : AgentOf
  pub sent : List Sent

pub record DeviceProcess : Type 0 where
  pub unit : ℕ
  pub node : DeviceNodeOf
  pub sent : List Sent

-- A process after a step: its node has handled its calls of the step, and the packets that it sent
-- in them are stamped with the unit of the step.
abbrev pub agent_process_after_step : List PackageText → AgentProcess → PlayStep → AgentProcess
agent_process_after_step packages p h =
    record {
      unit = unit_after_step p.unit h;
      node = agent_after_calls packages p.node (agent_calls_of p.unit h);
      sent = p.sent ++ sent_now (unit_after_step p.unit h) (agent_step_packets packages p.node (agent_calls_of p.unit h));
    }

abbrev pub device_process_after_step : (eid : ℕ) → DeviceProcess → PlayStep → DeviceProcess
device_process_after_step eid p h =
    record {
      unit = unit_after_step p.unit h;
      node = device_after_calls p.node (device_calls_of eid h);
      sent = p.sent ++ sent_now (unit_after_step p.unit h) (device_step_packets p.node (device_calls_of eid h));
    }

-- a process after steps
abbrev pub agent_process_after_steps : List PackageText → AgentProcess → List PlayStep → AgentProcess
agent_process_after_steps packages p [] = p
agent_process_after_steps packages p (h ∷ hs) = agent_process_after_steps packages (agent_process_after_step packages p h) hs

abbrev pub device_process_after_steps : (eid : ℕ) → DeviceProcess → List PlayStep → DeviceProcess
device_process_after_steps eid p [] = p
device_process_after_steps eid p (h ∷ hs) = device_process_after_steps eid (device_process_after_step eid p h) hs

-- the calls of the agent's process and of a device's process in a play
abbrev pub agent_play_calls : (unit : ℕ) → List PlayStep → List AgentCall
agent_play_calls unit [] = []
agent_play_calls unit (h ∷ hs) = agent_calls_of unit h ++ agent_play_calls (unit_after_step unit h) hs

abbrev pub device_play_calls : (eid : ℕ) → List PlayStep → List DeviceCall
device_play_calls eid [] = []
device_play_calls eid (h ∷ hs) = device_calls_of eid h ++ device_play_calls eid hs

-- the records that the agent makes in a call, with the device of each
abbrev pub agent_call_notes : List PackageText → AgentOf → AgentCall → List NotedOf
agent_call_notes packages n (AgentCall.Receives now bytes) = recorded_from n (agent_on_packet packages n bytes now).agent (sender_of (any_packet bytes))
agent_call_notes packages n call = []

abbrev pub agent_step_notes : List PackageText → AgentOf → List AgentCall → List NotedOf
agent_step_notes packages n [] = []
agent_step_notes packages n (c ∷ cs) = agent_call_notes packages n c

abbrev pub device_step_entries : DeviceNodeOf → List DeviceCall → List EntryOf
device_step_entries n [] = []
device_step_entries n (c ∷ cs) = device_call_entries n c

-- The entries that a step and a play add to the history of a device: the agent's records of it, and
-- the entries of its own calls.
abbrev pub pair_step_entries : (eid : ℕ) → List PackageText → AgentOf → (unit : ℕ) → DeviceNodeOf → PlayStep → List EntryOf
pair_step_entries eid packages agent unit node h = history_of eid (agent_step_notes packages agent (agent_calls_of unit h)) ++ device_step_entries node (device_calls_of eid h)

abbrev pub pair_play_entries : (eid : ℕ) → List PackageText → AgentProcess → DeviceProcess → List PlayStep → List EntryOf
pair_play_entries eid packages p q [] = []
pair_play_entries eid packages p q (h ∷ hs) = pair_step_entries eid packages p.node p.unit q.node h ++ pair_play_entries eid packages (agent_process_after_step packages p h) (device_process_after_step eid q h) hs

-- The processes after a play. Each begins in unit 0 with its node of the opening world, and has
-- sent nothing.
abbrev pub agent_process_after : WorldOf → List PlayStep → AgentProcess
agent_process_after opening play = agent_process_after_steps opening.packages (record { unit = 0; node = opening.agent; sent = [] }) play

abbrev pub device_process_after : (eid : ℕ) → DeviceNodeOf → List PlayStep → DeviceProcess
device_process_after eid node play = device_process_after_steps eid (record { unit = 0; node = node; sent = [] }) play

-- THE STEPS THAT MAY FOLLOW

-- The node takes the call: a call of the operator isn't refused, a verdict is one for which the
-- device waits, and the bank's count of failures is as the call of the bank left it.
abbrev pub AgentMayCall : List PackageText → AgentOf → AgentCall → Type 0
AgentMayCall packages n (AgentCall.Starts now device number) = start_fault (is_package packages number) (free_for n device) ≡ None
AgentMayCall packages n (AgentCall.Cancels now device) = is_some (half_for n device) ≡ true
AgentMayCall packages n (AgentCall.Activates now device) = (is_some (half_for n device) ≡ true) × (ready_fault (ready_for n device) ≡ None)
AgentMayCall packages n call = Unit {0}

-- A call of a bank that works leaves its count of failures as it is. One that fails raises it, and
-- only a call of the node that calls the bank has one that fails.
pub record CallsBank (calls : Bool) (before : ℕ) (works : Bool) (faults : ℕ) : Type 0 where
  pub worked : works ≡ true → faults ≡ before
  pub failed : works ≡ false → CountsFailure before faults
  pub called : works ≡ false → calls ≡ true

abbrev pub DeviceMayCall : DeviceNodeOf → DeviceCall → Type 0
DeviceMayCall n (DeviceCall.Receives works faults bytes) =
    CallsBank (packet_calls_bank device_core n.half bytes) n.faults works faults
DeviceMayCall n (DeviceCall.Judges works faults verdict) =
    CallsBank (verdict_calls_bank n.half.core.device verdict) n.faults works faults
    × (is_some (device_verdict n.half.core.device verdict works) ≡ true)
DeviceMayCall n call = Unit {0}

-- A packet is received after its peer sent it with this stamp, and no later than 8 units after the
-- stamp. A device receives only packets that are for it. The clock counts up to 2^32 - 1. A verdict
-- and a restart are of a device of the world.
abbrev pub IsCarried : WorldOf → List PlayStep → PlayStep → Type 0
IsCarried opening before PlayStep.UnitPasses = (agent_process_after opening before).unit < 2 ^ 32 - 1
IsCarried opening before (PlayStep.AgentReceives device stamp bytes) =
    IsSomeAnd (site_for opening.sites device) (λ x. Contains (device_process_after device x.node before).sent (sent_at stamp bytes))
    × ((agent_process_after opening before).unit ≤ stamp + 8)
IsCarried opening before (PlayStep.DeviceReceives device works faults stamp bytes) =
    IsSomeAnd (site_for opening.sites device) (λ x. (device_process_after device x.node before).unit ≤ stamp + 8)
    × Contains (agent_process_after opening before).sent (sent_at stamp bytes) × (is_for device bytes ≡ true)
IsCarried opening before (PlayStep.Judges device works faults verdict) = is_device opening device ≡ true
IsCarried opening before (PlayStep.DeviceRestarts device) = is_device opening device ≡ true
IsCarried opening before h = Unit {0}

-- A step may follow these steps: the packet that it delivers was sent, and each node takes its
-- call.
pub record MayFollow (opening : WorldOf) (before : List PlayStep) (h : PlayStep) : Type 0 where
  pub carried : IsCarried opening before h
  pub agent : AllByRecursion (AgentMayCall opening.packages (agent_process_after opening before).node) (agent_calls_of (agent_process_after opening before).unit h)
  pub devices : (eid : ℕ) → IfSome (site_for opening.sites eid) (λ x. AllByRecursion (DeviceMayCall (device_process_after eid x.node before).node) (device_calls_of eid h))

-- each step of a play may follow those before it
abbrev pub EachMayFollow : WorldOf → (before play : List PlayStep) → Type 0
EachMayFollow opening before [] = Unit {0}
EachMayFollow opening before (h ∷ hs) = MayFollow opening before h × EachMayFollow opening (before ++ h ∷ []) hs

-- PLAYS ARE RUNS

-- A play is a run: steps from the opening world give a world with the nodes of the processes
-- (`agent`, `devices`). The history of each device in that world is the list of entries that the
-- two processes noted of it (`noted`). The calls of the processes are those of the run (`parts`).
pub record IsRun (opening : WorldOf) (play : List PlayStep) : Type 0 where
  pub steps : List Step
  pub world : WorldOf
  pub run : Run opening steps world
  pub agent : world.agent ≡ (agent_process_after opening play).node
  pub devices : (eid : ℕ) → IfSome (site_for opening.sites eid) (λ x. IsSomeAnd (site_for world.sites eid) (λ y. y.node ≡ (device_process_after eid x.node play).node))
  pub noted : (eid : ℕ) → IfSome (site_for opening.sites eid)
      (λ x. history_of eid world.history ≡ pair_play_entries eid opening.packages (agent_process_after opening []) (device_process_after eid x.node []) play)
  pub parts : (eid : ℕ) → is_device opening eid ≡ true → AreRunCalls opening world steps run eid (agent_play_calls 0 play) (device_play_calls eid play)

-- Every play in which each step may follow those before it is a run.
abbrev pub PlaysAreRuns : Type 0
PlaysAreRuns = (opening : WorldOf) (play : List PlayStep) → IsOpeningWorld opening → EachMayFollow opening [] play → IsRun opening play

-- The agent's session for each device and the device, from their processes after the play, are
-- safe, and tied with the history of the device in this world.
abbrev pub EndsSafely : (opening : WorldOf) → (play : List PlayStep) → (world : WorldOf) → Type 0
EndsSafely opening play world =
    (eid : ℕ) → IfSome (pair_for opening eid) (λ m. IfSome (site_for opening.sites eid)
    (λ x. IsSomeAnd (pair_of_nodes (agent_process_after opening play).node eid (device_process_after eid x.node play).node)
    (λ n. IsSafeAndTied opening.packages (shown_pair m []) (shown_pair n (history_of eid world.history)))))

-- So the headline holds for the processes of a play.
abbrev pub PlaysAreSafe : Type 0
PlaysAreSafe =
    (opening : WorldOf) (play : List PlayStep) → IsOpeningWorld opening → EachMayFollow opening [] play
    → (r : IsRun opening play) × EndsSafely opening play r.world
