-- The packet world: an agent, its devices, every packet that was ever sent between them, and the
-- history. A step changes the world only by the calls of its nodes. A packet stays after it was
-- delivered, so that it may be delivered again, later, or never.
use Rattle.std.specs.Prelude.{ℕ, ◌+◌, ◌==◌, ◌∷◌, ◌++◌, [], Bool, true, false, not, if◌then◌else◌, List, length, map, option_to_list, slice_get, slice_set, Option, Some, None, Result, Ok, Err}
use Rattle.std.specs.List.{list_any}
use Rattle.mctp_wire.specs.declared.fault.WireFault.{WireFault}
use Rattle.mctp_wire.specs.declared.layout.Head.{Head}
use Rattle.exch_lane.specs.Clocks.{since_after}
use Rattle.exch_lane.specs.Lanes.{Sent}
use Rattle.exch_lane.specs.Steps.{sent_at}
use Rattle.fw_package.specs.Package.{PackageText}
use Rattle.fd_core.specs.Commands.{device_take}
use Rattle.fd_core.specs.Images.{KeyedImage}
use Rattle.fd_core.specs.States.{DeviceState}
use Rattle.fd_core.specs.Steps.{applied_by}
use Rattle.fd_core.specs.declared.states.Verdict.{Verdict}
use Rattle.pldm_exch.specs.Caller.{is_quiet}
use Rattle.sel_core.specs.Log.{sel_after, sel_reply}
use Rattle.ua_core.specs.Session.{SessionOf, TimedOf}
use Rattle.ua_core.specs.declared.planned.Recorded.{Recorded}
use Rattle.fw_message.specs.Headline.{EntryOf}
use Rattle.fw_message.specs.Pairs.{PairOf}
use Rattle.fw_message.specs.Worlds.{NotedOf, noted_of}
use Rattle.fw_node.specs.Agents.{AgentOf, half_after_activate, agent_becomes, agent_on_packet, agent_restarts, any_packet, agent_tick_sends, agent_ticks, half_for}
use Rattle.fw_node.specs.Cores.{TimedDevice, device_core}
use Rattle.fw_node.specs.Halves.{HalfOutcome, HalfOf, half_on_packet, half_ticks}
use Rattle.fw_node.specs.Nodes.{DeviceNodeOf, device_on_packet, device_on_verdict, device_restarts}
use Rattle.fw_node.specs.Packets.{all_packets}
use Rattle.fw_steps.specs.declared.step.Step.{Step}
use Rattle.fw_steps.specs.declared.step.Step.TheVariants as steps

-- a device's node, the ticks that it counted since it last missed one, and every packet that was
-- sent between it and the agent, dated, in the order of sending
pub record SiteOf : Type 0 where
  pub node : DeviceNodeOf
  pub since_miss : ℕ
  pub packets : List Sent

-- The world: the packages, the units of time that have passed, the nodes, the ticks that the agent
-- counted since it last missed one, the last answer of the event log, and the history.
pub record WorldOf : Type 0 where
  pub packages : List PackageText
  pub now : ℕ
  pub agent : AgentOf
  pub since_miss : ℕ
  pub sites : List SiteOf
  pub answer : Option (List ℕ)
  pub history : List NotedOf

-- the place of the device with this identifier, with places counted from `n`
abbrev pub place_from : ℕ → List SiteOf → ℕ → Option ℕ
place_from n [] eid = None
place_from n (x ∷ xs) eid = if x.node.endpoint.eid == eid then Some n else place_from (n + 1) xs eid

abbrev pub place_of : List SiteOf → ℕ → Option ℕ
place_of xs eid = place_from 0 xs eid

-- the site at a place
abbrev pub site_at : List SiteOf → Option ℕ → Option SiteOf
site_at xs None = None
site_at xs (Some place) = slice_get xs place

abbrev pub site_for : List SiteOf → ℕ → Option SiteOf
site_for xs eid = site_at xs (place_of xs eid)

-- packets that are sent at this time
abbrev pub sent_now : ℕ → List (List ℕ) → List Sent
sent_now now packets = map (sent_at now) packets

-- A packet of the agent is appended to those of the device that it is for, from its second byte
-- (DSP0236).
abbrev pub place_for : List SiteOf → List ℕ → Option ℕ
place_for xs (version ∷ dest ∷ rest) = place_of xs dest
place_for xs bytes = None

abbrev pub post_at : ℕ → List SiteOf → List ℕ → Option ℕ → Option SiteOf → List SiteOf
post_at now xs packet (Some place) (Some x) = slice_set xs place (record x { packets = x.packets ++ sent_at now packet ∷ [] })
post_at now xs packet place x = xs

abbrev pub post : ℕ → List SiteOf → List ℕ → List SiteOf
post now xs packet = post_at now xs packet (place_for xs packet) (site_at xs (place_for xs packet))

abbrev pub posts : ℕ → List SiteOf → List (List ℕ) → List SiteOf
posts now xs [] = xs
posts now xs (packet ∷ packets) = posts now (post now xs packet) packets

-- the number of records of a session, and the record after the first `made`
abbrev pub record_count_of : Option (HalfOf TimedOf) → ℕ
record_count_of None = 0
record_count_of (Some h) = length h.core.session.records

abbrev pub record_after : ℕ → Option (HalfOf TimedOf) → Option Recorded
record_after made None = None
record_after made (Some h) = slice_get h.core.session.records made

-- the sender of a packet
abbrev pub sender_of : Result (Head × List ℕ) WireFault → Option ℕ
sender_of (Ok p) = Some p.0.source
sender_of (Err fault) = None

-- the record that the agent makes in a call: the one after those of before
abbrev pub recorded_from : AgentOf → AgentOf → Option ℕ → List NotedOf
recorded_from before after None = []
recorded_from before after (Some device) =
    map (λ r. noted_of device (EntryOf.Recording r)) (option_to_list (record_after (record_count_of (half_for before device)) (half_for after device)))

-- The agent handles these bytes.
abbrev pub at_agent : WorldOf → List ℕ → WorldOf
at_agent w bytes =
    record w {
      agent = (agent_on_packet w.packages w.agent bytes w.now).agent;
      sites = posts w.now w.sites (agent_on_packet w.packages w.agent bytes w.now).sent;
      history = w.history
          ++ recorded_from w.agent (agent_on_packet w.packages w.agent bytes w.now).agent (sender_of (any_packet bytes));
    }

-- the images that a device activates at an outcome of its half: those of a command that it takes
abbrev pub activated_when : DeviceState → (quiet works : Bool) → HalfOutcome TimedDevice → List KeyedImage
activated_when v quiet works (HalfOutcome.Took half sent command answer) = (device_take v command quiet works).activated
activated_when v quiet works heard = []

abbrev pub activated_at : Bool → DeviceNodeOf → List ℕ → List KeyedImage
activated_at works n bytes =
    activated_when n.half.core.device (is_quiet n.half.asker.caller) works (half_on_packet device_core works n.half bytes)

-- a device's node after a call that left its bank's count of failures at this value
abbrev pub node_becomes : DeviceNodeOf → (faults tid : ℕ) → HalfOf TimedDevice → DeviceNodeOf
node_becomes n faults tid half = record n { half = half; tid = tid; faults = faults }

abbrev pub at_device : Bool → (faults : ℕ) → WorldOf → List ℕ → Option ℕ → Option SiteOf → WorldOf
at_device works faults w bytes (Some place) (Some x) =
    record w {
      sites = slice_set w.sites place (record x {
        node = node_becomes x.node faults (device_on_packet works x.node bytes).tid (device_on_packet works x.node bytes).half;
        packets = x.packets ++ sent_now w.now (all_packets x.node.half.unit (device_on_packet works x.node bytes).sent);
      });
      history = w.history
          ++ map (λ p. noted_of x.node.endpoint.eid (EntryOf.Activated p)) (activated_at works x.node bytes);
    }
at_device works faults w bytes place x = w

-- A packet is delivered to a node. A node that it isn't for drops it.
abbrev pub world_after_packet : Bool → (faults : ℕ) → WorldOf → (node : ℕ) → List ℕ → WorldOf
world_after_packet works faults w node bytes =
    if node == w.agent.endpoint.eid then at_agent w bytes
    else at_device works faults w bytes (place_of w.sites node) (site_for w.sites node)

abbrev pub world_after_deliver : Bool → (faults : ℕ) → WorldOf → (node : ℕ) → Option Sent → WorldOf
world_after_deliver works faults w node None = w
world_after_deliver works faults w node (Some p) = world_after_packet works faults w node p.bytes

-- the packets of a device
abbrev pub packets_at : Option SiteOf → List Sent
packets_at None = []
packets_at (Some x) = x.packets

abbrev pub packets_of : WorldOf → ℕ → List Sent
packets_of w device = packets_at (site_for w.sites device)

-- a tick that every node counts
abbrev pub full_tick : Step
full_tick = steps.Tick (record { items = [] })

-- A node counts a tick, unless it is one of `missed`.
abbrev pub counts : (missed : List ℕ) → (eid : ℕ) → Bool
counts missed eid = not (list_any (λ m. m == eid) missed)

-- A node that counts a tick does its parts, and the packets that it sends are dated with the new
-- time. A node that misses it does nothing.
abbrev pub site_ticks : (now : ℕ) → SiteOf → SiteOf
site_ticks now x =
    record {
      node = record x.node { half = (half_ticks device_core true x.node.half).half };
      since_miss = since_after true x.since_miss;
      packets = x.packets ++ sent_now now (all_packets x.node.half.unit (half_ticks device_core true x.node.half).sent);
    }

abbrev pub site_passes : (counts : Bool) → (now : ℕ) → SiteOf → SiteOf
site_passes true now x = site_ticks now x
site_passes false now x = record x { since_miss = since_after false x.since_miss }

abbrev pub site_after_tick : (missed : List ℕ) → (now : ℕ) → SiteOf → SiteOf
site_after_tick missed now x = site_passes (counts missed x.node.endpoint.eid) now x

abbrev pub agent_passes : (counts : Bool) → List PackageText → (now : ℕ) → AgentOf → AgentOf
agent_passes true packages now n = agent_ticks packages now n
agent_passes false packages now n = n

abbrev pub agent_pass_sends : (counts : Bool) → List PackageText → AgentOf → List (List ℕ)
agent_pass_sends true packages n = agent_tick_sends packages n
agent_pass_sends false packages n = []

-- A tick: the time rises by a unit, then the nodes that count it tick: the agent, and then the
-- devices in their order.
abbrev pub ticks_by : (agent : Bool) → (missed : List ℕ) → WorldOf → WorldOf
ticks_by agent missed w =
    record w {
      now = w.now + 1;
      agent = agent_passes agent w.packages (w.now + 1) w.agent;
      since_miss = since_after agent w.since_miss;
      sites = map (site_after_tick missed (w.now + 1)) (posts (w.now + 1) w.sites (agent_pass_sends agent w.packages w.agent));
    }

abbrev pub world_after_tick : (missed : List ℕ) → WorldOf → WorldOf
world_after_tick missed w = ticks_by (counts missed w.agent.endpoint.eid) missed w

-- The operator calls the agent.
abbrev pub world_after_call : WorldOf → (device : ℕ) → (HalfOf TimedOf → HalfOf TimedOf) → WorldOf
world_after_call w device call = record w { agent = agent_becomes w.agent w.now device call }

-- the operator has a session activate, if it is ready
abbrev pub activates_on : WorldOf → (device : ℕ) → Option SessionOf → WorldOf
activates_on w device None = w
activates_on w device (Some s) = world_after_call w device (λ h. half_after_activate w.packages h s)

-- A verdict on the image that a device has written.
abbrev pub world_after_verdict : Bool → (faults : ℕ) → WorldOf → Verdict → Option ℕ → Option SiteOf → WorldOf
world_after_verdict works faults w verdict (Some place) (Some x) =
    record w {
      sites = slice_set w.sites place (record x {
        node = node_becomes x.node faults x.node.tid (device_on_verdict works x.node verdict);
      });
      history = w.history
          ++ map (λ p. noted_of x.node.endpoint.eid (EntryOf.Applied p)) (applied_by x.node.half.core.device verdict works);
    }
world_after_verdict works faults w verdict place x = w

-- A node restarts.
abbrev pub site_restarts : List SiteOf → Option ℕ → Option SiteOf → List SiteOf
site_restarts xs (Some place) (Some x) = slice_set xs place (record x { node = device_restarts x.node })
site_restarts xs place x = xs

abbrev pub world_after_restart : WorldOf → (node : ℕ) → WorldOf
world_after_restart w node =
    if node == w.agent.endpoint.eid then record w { agent = agent_restarts w.packages w.agent }
    else record w { sites = site_restarts w.sites (place_of w.sites node) (site_for w.sites node) }

-- A request to the event log. A request without a byte has a wrong length (IPMI 2.0: completion
-- code C7).
abbrev pub world_after_log_request : WorldOf → List ℕ → WorldOf
world_after_log_request w [] = record w { answer = Some (0xC7 ∷ []) }
world_after_log_request w (command ∷ bytes) =
    record w {
      agent = record w.agent { log = sel_after w.agent.log command bytes w.now };
      answer = Some (sel_reply w.agent.log command bytes w.now);
    }

-- the endpoint identifiers of the devices, in configured order
abbrev pub eids_of : List SiteOf → List ℕ
eids_of xs = map (λ x. x.node.endpoint.eid) xs

-- a device and the agent's session for it
abbrev pub pair_with : Option (HalfOf TimedOf) → Option SiteOf → Option PairOf
pair_with None x = None
pair_with (Some h) None = None
pair_with (Some h) (Some x) = Some (record { device = x.node.half.core.device; session = h.core.session; down = None; up = None })

abbrev pub pair_for : WorldOf → ℕ → Option PairOf
pair_for w eid = pair_with (half_for w.agent eid) (site_for w.sites eid)
