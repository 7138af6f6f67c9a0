-- The parts of a schedule: the lines that a run of a world gives to each of its nodes, a line a
-- call, and what the node by itself prints for them. Three laws say that it prints what it sends in
-- that world (`AgentPrintsItsPart`, `DevicePrintsItsPart`, `DevicePrintsNothingElse`).
use Rattle.std.specs.Prelude.{ℕ, ◌≡◌, ◌<◌, ◌-◌, ◌^◌, ◌==◌, ◌&&◌, ◌++◌, ◌∷◌, [], Bool, true, false, not, if◌then◌else◌, IfSome, IsSomeAnd, List, Option, Some, None}
use Rattle.exch_lane.specs.Lanes.{Sent, item_numbered}
use Rattle.fw_package.specs.Package.{PackageText}
use Rattle.fw_node.specs.Agents.{AgentOf}
use Rattle.fw_node.specs.Nodes.{DeviceNodeOf}
use Rattle.fw_steps.specs.Alone.{AgentCall, DeviceCall, agent_call_packets, agent_step_calls, device_call_packets, device_step_calls}
use Rattle.fw_steps.specs.Steps.{Run}
use Rattle.fw_steps.specs.Worlds.{SiteOf, WorldOf, counts, packets_of, site_for}
use Rattle.fw_steps.specs.declared.step.Step.{Step}
use Rattle.fw_steps.specs.declared.step.Step.TheVariants as steps
use Rattle.fw_serve.specs.Agents.{ServedAgentOf, agent_read_served, log_answer}
use Rattle.fw_serve.specs.Lines.{AgentLineOf, DeviceLineOf}
use Rattle.fw_serve.specs.Serving.{ServedDeviceOf, ServesRead}
use Rattle.fw_serve.specs.Texts.{answer_line, packets_line}

-- THE AGENT

-- the line of a packet that is delivered to a node: none if there is no packet, or the node isn't
-- the agent's
abbrev pub agent_packet_line : (mine : Bool) → Option Sent → List AgentLineOf
agent_packet_line true (Some p) = AgentLineOf.Packet p.bytes ∷ []
agent_packet_line mine p = []

-- the line of the agent's call in a step: one, or none
abbrev pub agent_step_lines : WorldOf → Step → List AgentLineOf
agent_step_lines w (steps.Deliver device number node) = agent_packet_line (node == w.agent.endpoint.eid) (item_numbered (packets_of w device) number)
agent_step_lines w (steps.Tick missed) = if counts missed.items w.agent.endpoint.eid then AgentLineOf.Ticks 1 ∷ [] else []
agent_step_lines w (steps.Verdict device verdict) = []
agent_step_lines w (steps.Restart node) = if node == w.agent.endpoint.eid then AgentLineOf.Restarts ∷ [] else []
agent_step_lines w s = AgentLineOf.Calls s ∷ []

abbrev pub agent_run_lines : (w : WorldOf) → (ss : List Step) → (v : WorldOf) → Run w ss v → List AgentLineOf
agent_run_lines w [] v run = []
agent_run_lines w (s ∷ ss) v run = agent_step_lines w s ++ agent_run_lines run.0 ss v run.2

-- what a call of the agent prints: the answer of the event log, or the packets that it sends
abbrev pub agent_call_prints : List PackageText → AgentOf → AgentCall → List ℕ
agent_call_prints packages n (AgentCall.AsksLog now bytes) = answer_line (log_answer n.log now bytes)
agent_call_prints packages n call = packets_line (agent_call_packets packages n call)

-- what it prints in a step, in which it has one call, or none
abbrev pub agent_step_prints : List PackageText → AgentOf → List AgentCall → List ℕ
agent_step_prints packages n [] = []
agent_step_prints packages n (c ∷ cs) = agent_call_prints packages n c

abbrev pub agent_run_prints : (w : WorldOf) → (ss : List Step) → (v : WorldOf) → Run w ss v → List ℕ
agent_run_prints w [] v run = []
agent_run_prints w (s ∷ ss) v run = agent_step_prints w.packages w.agent (agent_step_calls w s) ++ agent_run_prints run.0 ss v run.2

-- the agent by itself after lines, in order, and what they print; no activations are given
abbrev pub agent_after_lines : ServedAgentOf → List AgentLineOf → ServedAgentOf
agent_after_lines s [] = s
agent_after_lines s (line ∷ lines) = agent_after_lines (agent_read_served false s line).agent lines

abbrev pub agent_lines_print : ServedAgentOf → List AgentLineOf → List ℕ
agent_lines_print s [] = []
agent_lines_print s (line ∷ lines) = (agent_read_served false s line).text ++ agent_lines_print (agent_read_served false s line).agent lines

-- the agent by itself is that of a world, at its time
pub record IsAgentIn (w : WorldOf) (s : ServedAgentOf) : Type 0 where
  pub packages : s.packages ≡ w.packages
  pub now : s.now ≡ w.now
  pub agent : s.agent ≡ w.agent

-- the agent counts each tick of a run, as it does by itself
abbrev pub CountsTick : (agent : ℕ) → Step → Type 0
CountsTick agent (steps.Tick missed) = counts missed.items agent ≡ true
CountsTick agent s = Prim.Unit {0}

abbrev pub CountsTicks : (w : WorldOf) → (ss : List Step) → (v : WorldOf) → Run w ss v → Type 0
CountsTicks w [] v run = Prim.Unit {0}
CountsTicks w (s ∷ ss) v run = CountsTick w.agent.endpoint.eid s × CountsTicks run.0 ss v run.2

-- The agent by itself prints for its part of a run what the agent sends in that run, and is at the
-- end the agent of its last world.
pub record PrintsAgentPart (w v : WorldOf) (ss : List Step) (run : Run w ss v) (s : ServedAgentOf) : Type 0 where
  pub printed : agent_lines_print s (agent_run_lines w ss v run) ≡ agent_run_prints w ss v run
  pub is : IsAgentIn v (agent_after_lines s (agent_run_lines w ss v run))

abbrev pub AgentPrintsItsPart : Type 0
AgentPrintsItsPart = (w v : WorldOf) (ss : List Step) (run : Run w ss v) (s : ServedAgentOf) → IsAgentIn w s → CountsTicks w ss v run → PrintsAgentPart w v ss run s

-- A DEVICE

abbrev pub device_packet_line : (mine : Bool) → Option Sent → List DeviceLineOf
device_packet_line true (Some p) = DeviceLineOf.Packet p.bytes ∷ []
device_packet_line mine p = []

-- the line of a device's call in a step: one, or none
abbrev pub device_step_lines : (device : ℕ) → WorldOf → Step → List DeviceLineOf
device_step_lines eid w (steps.Deliver device number node) =
    device_packet_line (not (node == w.agent.endpoint.eid) && (node == eid)) (item_numbered (packets_of w device) number)
device_step_lines eid w (steps.Tick missed) = if counts missed.items eid then DeviceLineOf.Ticks 1 ∷ [] else []
device_step_lines eid w (steps.Verdict device verdict) = if device == eid then DeviceLineOf.Judges verdict ∷ [] else []
device_step_lines eid w (steps.Restart node) = if not (node == w.agent.endpoint.eid) && (node == eid) then DeviceLineOf.Restarts ∷ [] else []
device_step_lines eid w s = []

abbrev pub device_run_lines : (device : ℕ) → (w : WorldOf) → (ss : List Step) → (v : WorldOf) → Run w ss v → List DeviceLineOf
device_run_lines eid w [] v run = []
device_run_lines eid w (s ∷ ss) v run = device_step_lines eid w s ++ device_run_lines eid run.0 ss v run.2

-- what it prints in a step: the packets that it sends
abbrev pub device_calls_print : DeviceNodeOf → List DeviceCall → List ℕ
device_calls_print n [] = []
device_calls_print n (c ∷ cs) = packets_line (device_call_packets n c)

abbrev pub device_step_prints : Option SiteOf → List DeviceCall → List ℕ
device_step_prints None calls = []
device_step_prints (Some x) calls = device_calls_print x.node calls

abbrev pub device_run_prints : (device : ℕ) → (w : WorldOf) → (ss : List Step) → (v : WorldOf) → Run w ss v → List ℕ
device_run_prints eid w [] v run = []
device_run_prints eid w (s ∷ ss) v run =
    device_step_prints (site_for w.sites eid) (device_step_calls eid run.1.works run.1.faults w s) ++ device_run_prints eid run.0 ss v run.2

-- A device by itself serves lines, in order; no verdicts are given. Which calls of its bank fail,
-- the lines don't say.
abbrev pub ServesLines : ServedDeviceOf → List DeviceLineOf → ServedDeviceOf → (text : List ℕ) → Type 0
ServesLines s [] t text = (t ≡ s) × (text ≡ [])
ServesLines s (line ∷ lines) t text =
    (mid : ServedDeviceOf) × (first : List ℕ) × (rest : List ℕ) × ServesRead false s line mid first × ServesLines mid lines t rest × (text ≡ first ++ rest)

-- A device by itself whose bank fails where that of the run does prints for its part of a run what
-- the device sends in that run, and is at the end the device of its last world.
pub record PrintsDevicePart (eid : ℕ) (w v : WorldOf) (ss : List Step) (run : Run w ss v) (s : ServedDeviceOf) : Type 0 where
  pub last : ServedDeviceOf
  pub serves : ServesLines s (device_run_lines eid w ss v run) last (device_run_prints eid w ss v run)
  pub is : IsSomeAnd (site_for v.sites eid) (λ y. last.node ≡ y.node)

abbrev pub DevicePrintsItsPart : Type 0
DevicePrintsItsPart =
    (eid : ℕ) (w v : WorldOf) (ss : List Step) (run : Run w ss v) (s : ServedDeviceOf) → IfSome (site_for w.sites eid)
    (λ x. s.node ≡ x.node → PrintsDevicePart eid w v ss run s)

-- no call of a bank fails in a run
abbrev pub NoneFails : (w : WorldOf) → (ss : List Step) → (v : WorldOf) → Run w ss v → Type 0
NoneFails w [] v run = Prim.Unit {0}
NoneFails w (s ∷ ss) v run = (run.1.works ≡ true) × NoneFails run.0 ss v run.2

-- the device's bank counts no failure while it serves lines
pub record CountsNone (s t : ServedDeviceOf) : Type 0 where
  pub same : t.node.faults ≡ s.node.faults
  pub counts : s.node.faults < 2 ^ 64 - 1

-- this text is what the device sends in a run, and it is at the end the device of its last world
pub record IsDevicePart (eid : ℕ) (w v : WorldOf) (ss : List Step) (run : Run w ss v) (t : ServedDeviceOf) (text : List ℕ) : Type 0 where
  pub printed : text ≡ device_run_prints eid w ss v run
  pub is : IsSomeAnd (site_for v.sites eid) (λ y. t.node ≡ y.node)

-- Where no call of a bank fails, neither in the run nor while it serves the lines, a device by
-- itself prints nothing else.
abbrev pub DevicePrintsNothingElse : Type 0
DevicePrintsNothingElse =
    (eid : ℕ) (w v : WorldOf) (ss : List Step) (run : Run w ss v) (s t : ServedDeviceOf) (text : List ℕ) → ServesLines s (device_run_lines eid w ss v run) t text
    → NoneFails w ss v run → CountsNone s t → IfSome (site_for w.sites eid) (λ x. s.node ≡ x.node → IsDevicePart eid w v ss run t text)
