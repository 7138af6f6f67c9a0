-- A node alone: its calls, and its state after them, without a world. A run of a world gives each
-- of its nodes a list of calls. Three laws say that a node depends on nothing but its list:
-- 1. `AgentIsAlone`, `DevicesAreAlone`: at the end of a run each node is as its own calls leave it.
-- 2. `PacketsAreTheirs`: the packets of a device are those that the agent and the device sent in
--    their own calls, dated, in order.
-- 3. `ProcessesAreSafe`: the headline holds for the nodes of separate processes, if their calls are
--    those of one run. `specs/Plays` and `specs/Traces` say when the calls of separate processes
--    are those of one run.
use Rattle.std.specs.Prelude.{ℕ, ◌≡◌, ◌+◌, ◌==◌, ◌&&◌, ◌++◌, ◌∷◌, [], Bool, true, false, not, if◌then◌else◌, IfSome, IsSomeAnd, List, map, Option, Some, None}
use Rattle.std.specs.List.{filter}
use Rattle.exch_lane.specs.Lanes.{Sent, item_numbered}
use Rattle.fw_package.specs.Package.{PackageText}
use Rattle.fd_core.specs.Steps.{applied_by}
use Rattle.fd_core.specs.declared.states.Verdict.{Verdict}
use Rattle.sel_core.specs.Log.{sel_after}
use Rattle.ua_core.specs.Session.{SessionOf}
use Rattle.fw_message.specs.Headline.{EntryOf, IsSafeAndTied}
use Rattle.fw_node.specs.Agents.{AgentOf, half_after_activate, agent_becomes, agent_on_packet, agent_restarts, agent_tick_sends, agent_ticks, half_after_cancel, half_for, ready_for, half_after_start}
use Rattle.fw_node.specs.Cores.{device_core}
use Rattle.fw_node.specs.Halves.{half_ticks}
use Rattle.fw_node.specs.Nodes.{DeviceNodeOf, device_on_packet, device_on_verdict, device_restarts}
use Rattle.fw_node.specs.Packets.{all_packets}
use Rattle.fw_message.specs.Pairs.{PairOf}
use Rattle.fw_message.specs.WorldLaws.{history_of}
use Rattle.fw_message.specs.Laws.{shown_pair}
use Rattle.fw_steps.specs.Opening.{IsOpeningWorld}
use Rattle.fw_steps.specs.Steps.{Run}
use Rattle.fw_steps.specs.Worlds.{SiteOf, WorldOf, activated_at, counts, node_becomes, packets_of, pair_for, pair_with, sent_now, site_for}
use Rattle.fw_steps.specs.declared.step.Step.{Step}
use Rattle.fw_steps.specs.declared.step.Step.TheVariants as steps

-- THE AGENT

-- A call of the agent's node. `now` is the unit of the call.
pub data AgentCall : Type 0 where
  Receives : (now : ℕ) → (bytes : List ℕ) → AgentCall
  Ticks : (now : ℕ) → AgentCall
  Starts : (now device number : ℕ) → AgentCall
  Cancels : (now device : ℕ) → AgentCall
  Activates : (now device : ℕ) → AgentCall
  Restarts : AgentCall
  AsksLog : (now : ℕ) → (bytes : List ℕ) → AgentCall

-- the agent after its session for a device has the device activate, if the session is ready
abbrev pub agent_after_activation : List PackageText → (now device : ℕ) → AgentOf → Option SessionOf → AgentOf
agent_after_activation packages now device n None = n
agent_after_activation packages now device n (Some s) = agent_becomes n now device (λ h. half_after_activate packages h s)

-- the agent after a request to its event log
abbrev pub agent_after_log_request : (now : ℕ) → List ℕ → AgentOf → AgentOf
agent_after_log_request now [] n = n
agent_after_log_request now (command ∷ bytes) n = record n { log = sel_after n.log command bytes now }

-- the agent after a call
abbrev pub agent_after_call : List PackageText → AgentOf → AgentCall → AgentOf
agent_after_call packages n (AgentCall.Receives now bytes) = (agent_on_packet packages n bytes now).agent
agent_after_call packages n (AgentCall.Ticks now) = agent_ticks packages now n
agent_after_call packages n (AgentCall.Starts now device number) = agent_becomes n now device (λ h. half_after_start packages h number)
agent_after_call packages n (AgentCall.Cancels now device) = agent_becomes n now device (half_after_cancel packages)
agent_after_call packages n (AgentCall.Activates now device) = agent_after_activation packages now device n (ready_for n device)
agent_after_call packages n AgentCall.Restarts = agent_restarts packages n
agent_after_call packages n (AgentCall.AsksLog now bytes) = agent_after_log_request now bytes n

-- the packets that the agent sends in a call
abbrev pub agent_call_packets : List PackageText → AgentOf → AgentCall → List (List ℕ)
agent_call_packets packages n (AgentCall.Receives now bytes) = (agent_on_packet packages n bytes now).sent
agent_call_packets packages n (AgentCall.Ticks now) = agent_tick_sends packages n
agent_call_packets packages n call = []

-- the agent after calls
abbrev pub agent_after_calls : List PackageText → AgentOf → List AgentCall → AgentOf
agent_after_calls packages n [] = n
agent_after_calls packages n (c ∷ cs) = agent_after_calls packages (agent_after_call packages n c) cs

-- the agent's call when a packet is delivered to a node: none if there is no packet, or the node
-- isn't the agent's
abbrev pub agent_receipt : (mine : Bool) → (now : ℕ) → Option Sent → List AgentCall
agent_receipt true now (Some p) = AgentCall.Receives now p.bytes ∷ []
agent_receipt mine now p = []

-- The agent's call in a step of a world: one, or none.
abbrev pub agent_step_calls : WorldOf → Step → List AgentCall
agent_step_calls w (steps.Deliver device number node) = agent_receipt (node == w.agent.endpoint.eid) w.now (item_numbered (packets_of w device) number)
agent_step_calls w (steps.Tick missed) = if counts missed.items w.agent.endpoint.eid then AgentCall.Ticks (w.now + 1) ∷ [] else []
agent_step_calls w (steps.Start device number) = AgentCall.Starts w.now device number ∷ []
agent_step_calls w (steps.Cancel device) = AgentCall.Cancels w.now device ∷ []
agent_step_calls w (steps.Activate device) = AgentCall.Activates w.now device ∷ []
agent_step_calls w (steps.Verdict device verdict) = []
agent_step_calls w (steps.Restart node) = if node == w.agent.endpoint.eid then AgentCall.Restarts ∷ [] else []
agent_step_calls w (steps.Sel bytes) = AgentCall.AsksLog w.now bytes.items ∷ []

-- the agent's calls in a run
abbrev pub agent_run_calls : (w : WorldOf) → (ss : List Step) → (v : WorldOf) → Run w ss v → List AgentCall
agent_run_calls w [] v run = []
agent_run_calls w (s ∷ ss) v run = agent_step_calls w s ++ agent_run_calls run.0 ss v run.2

-- At the end of every run the agent is as its own calls leave it.
abbrev pub AgentIsAlone : Type 0
AgentIsAlone = (w v : WorldOf) (ss : List Step) (run : Run w ss v) → v.agent ≡ agent_after_calls w.packages w.agent (agent_run_calls w ss v run)

-- A DEVICE

-- A call of a device's node. `works` says whether the call of its bank succeeds; it makes at most
-- one. `faults` is the bank's count of failures after it.
pub data DeviceCall : Type 0 where
  Receives : (works : Bool) → (faults : ℕ) → (bytes : List ℕ) → DeviceCall
  Ticks : DeviceCall
  Judges : (works : Bool) → (faults : ℕ) → (verdict : Verdict) → DeviceCall
  Restarts : DeviceCall

-- the device's node after a call
abbrev pub device_after_call : DeviceNodeOf → DeviceCall → DeviceNodeOf
device_after_call n (DeviceCall.Receives works faults bytes) = node_becomes n faults (device_on_packet works n bytes).tid (device_on_packet works n bytes).half
device_after_call n DeviceCall.Ticks = record n { half = (half_ticks device_core true n.half).half }
device_after_call n (DeviceCall.Judges works faults verdict) = node_becomes n faults n.tid (device_on_verdict works n verdict)
device_after_call n DeviceCall.Restarts = device_restarts n

-- the packets that the device sends in a call
abbrev pub device_call_packets : DeviceNodeOf → DeviceCall → List (List ℕ)
device_call_packets n (DeviceCall.Receives works faults bytes) = all_packets n.half.unit (device_on_packet works n bytes).sent
device_call_packets n DeviceCall.Ticks = all_packets n.half.unit (half_ticks device_core true n.half).sent
device_call_packets n call = []

-- the entries that a call adds to the history of the device: the images that it activates or
-- applies
abbrev pub device_call_entries : DeviceNodeOf → DeviceCall → List EntryOf
device_call_entries n (DeviceCall.Receives works faults bytes) = map EntryOf.Activated (activated_at works n bytes)
device_call_entries n (DeviceCall.Judges works faults verdict) = map EntryOf.Applied (applied_by n.half.core.device verdict works)
device_call_entries n call = []

-- the device's node after calls
abbrev pub device_after_calls : DeviceNodeOf → List DeviceCall → DeviceNodeOf
device_after_calls n [] = n
device_after_calls n (c ∷ cs) = device_after_calls (device_after_call n c) cs

-- the device's call when a packet is delivered to a node: none if there is no packet, or the node
-- isn't this device's
abbrev pub device_receipt : (mine : Bool) → (works : Bool) → (faults : ℕ) → Option Sent → List DeviceCall
device_receipt true works faults (Some p) = DeviceCall.Receives works faults p.bytes ∷ []
device_receipt mine works faults p = []

-- The device's call in a step of a world: one, or none.
abbrev pub device_step_calls : (device : ℕ) → (works : Bool) → (faults : ℕ) → WorldOf → Step → List DeviceCall
device_step_calls eid works faults w (steps.Deliver device number node) =
    device_receipt (not (node == w.agent.endpoint.eid) && (node == eid)) works faults (item_numbered (packets_of w device) number)
device_step_calls eid works faults w (steps.Tick missed) = if counts missed.items eid then DeviceCall.Ticks ∷ [] else []
device_step_calls eid works faults w (steps.Verdict device verdict) = if device == eid then DeviceCall.Judges works faults verdict ∷ [] else []
device_step_calls eid works faults w (steps.Restart node) = if not (node == w.agent.endpoint.eid) && (node == eid) then DeviceCall.Restarts ∷ [] else []
device_step_calls eid works faults w s = []

-- the device's calls in a run
abbrev pub device_run_calls : (device : ℕ) → (w : WorldOf) → (ss : List Step) → (v : WorldOf) → Run w ss v → List DeviceCall
device_run_calls eid w [] v run = []
device_run_calls eid w (s ∷ ss) v run = device_step_calls eid run.1.works run.1.faults w s ++ device_run_calls eid run.0 ss v run.2

-- At the end of every run a device's node is as its own calls leave it.
abbrev pub DevicesAreAlone : Type 0
DevicesAreAlone =
    (eid : ℕ) (w v : WorldOf) (ss : List Step) (run : Run w ss v) → IfSome (site_for w.sites eid)
    (λ x. IsSomeAnd (site_for v.sites eid) (λ y. y.node ≡ device_after_calls x.node (device_run_calls eid w ss v run)))

-- PROCESSES

-- A device's node and the agent's half for it, as a pair, so that the laws of a pair apply to two
-- nodes.
abbrev pub pair_of_nodes : AgentOf → (eid : ℕ) → DeviceNodeOf → Option PairOf
pair_of_nodes agent eid n = pair_with (half_for agent eid) (Some (record { node = n; since_miss = 8; packets = [] }))

-- The calls of the agent's process and of a device's process are those of one run.
pub record AreRunCalls (opening v : WorldOf) (ss : List Step) (run : Run opening ss v) (eid : ℕ) (of_agent : List AgentCall) (of_device : List DeviceCall) : Type 0 where
  pub agent : of_agent ≡ agent_run_calls opening ss v run
  pub device : of_device ≡ device_run_calls eid opening ss v run

-- If the calls of separate processes are those of one run, the agent's session and the device are
-- safe, and tied with the history of the device. Each process has its node from the opening world,
-- and no other part of that world.
abbrev pub ProcessesAreSafe : Type 0
ProcessesAreSafe =
    (opening v : WorldOf) (ss : List Step) (run : Run opening ss v) (eid : ℕ) (of_agent : List AgentCall) (of_device : List DeviceCall)
    → IsOpeningWorld opening → AreRunCalls opening v ss run eid of_agent of_device
    → IfSome (pair_for opening eid) (λ m. IfSome (site_for opening.sites eid)
    (λ x. IsSomeAnd (pair_of_nodes (agent_after_calls opening.packages opening.agent of_agent) eid (device_after_calls x.node of_device))
    (λ n. IsSafeAndTied opening.packages (shown_pair m []) (shown_pair n (history_of eid v.history)))))

-- PACKETS

-- whether a packet is for this endpoint, from its second byte (DSP0236)
abbrev pub is_for : ℕ → List ℕ → Bool
is_for eid (version ∷ dest ∷ rest) = dest == eid
is_for eid bytes = false

-- the date of the packets that are sent in a step
abbrev pub step_date : ℕ → Step → ℕ
step_date now (steps.Tick missed) = now + 1
step_date now s = now

-- The packets that a node sends in a step. It has one call in a step, or none.
abbrev pub agent_step_packets : List PackageText → AgentOf → List AgentCall → List (List ℕ)
agent_step_packets packages n [] = []
agent_step_packets packages n (c ∷ cs) = agent_call_packets packages n c

abbrev pub device_step_packets : DeviceNodeOf → List DeviceCall → List (List ℕ)
device_step_packets n [] = []
device_step_packets n (c ∷ cs) = device_call_packets n c

abbrev pub site_step_packets : Option SiteOf → List DeviceCall → List (List ℕ)
site_step_packets None cs = []
site_step_packets (Some x) cs = device_step_packets x.node cs

-- the packets that the agent and a device send to each other in a step, dated, the agent's first
abbrev pub pair_step_packets : (device : ℕ) → (works : Bool) → (faults : ℕ) → WorldOf → Step → List Sent
pair_step_packets eid works faults w s =
    sent_now (step_date w.now s) (filter (is_for eid) (agent_step_packets w.packages w.agent (agent_step_calls w s)))
    ++ sent_now (step_date w.now s) (site_step_packets (site_for w.sites eid) (device_step_calls eid works faults w s))

-- the packets that they send to each other in a run
abbrev pub pair_run_packets : (device : ℕ) → (w : WorldOf) → (ss : List Step) → (v : WorldOf) → Run w ss v → List Sent
pair_run_packets eid w [] v run = []
pair_run_packets eid w (s ∷ ss) v run = pair_step_packets eid run.1.works run.1.faults w s ++ pair_run_packets eid run.0 ss v run.2

-- The packets between the agent and a device are those from before the run, and then those that the
-- two sent in their own calls.
abbrev pub PacketsAreTheirs : Type 0
PacketsAreTheirs =
    (eid : ℕ) (w v : WorldOf) (ss : List Step) (run : Run w ss v) → IfSome (site_for w.sites eid)
    (λ x. IsSomeAnd (site_for v.sites eid) (λ y. y.packets ≡ x.packets ++ pair_run_packets eid w ss v run))
