-- Isolation: the state between the agent and one device depends on no other device.
use Rattle.std.specs.Prelude.{ℕ, ◌≡◌, ◌≢◌, ◌≤◌, ◌-◌, ◌^◌, ◌==◌, ◌&&◌, ◌||◌, Bool, true, false, List, map, Option, Some, None}
use Rattle.std.specs.List.{filter}
use Rattle.exch_lane.specs.Lanes.{Sent}
use Rattle.ua_core.specs.Session.{TimedOf}
use Rattle.fw_message.specs.Headline.{EntryOf}
use Rattle.fw_message.specs.WorldLaws.{history_of}
use Rattle.fw_node.specs.Agents.{half_for}
use Rattle.fw_node.specs.Halves.{HalfOf}
use Rattle.fw_node.specs.Nodes.{DeviceNodeOf}
use Rattle.fw_steps.specs.Promises.{IsReached}
use Rattle.fw_steps.specs.Steps.{Run, faults_of}
use Rattle.fw_steps.specs.Worlds.{SiteOf, WorldOf, counts, site_for}
use Rattle.fw_steps.specs.declared.step.Step.{Step}
use Rattle.fw_steps.specs.declared.step.Step.TheVariants as steps

-- The state between the agent and one device. That is the device's node, without its bank's count
-- of failures; the agent's half for the device: the session with the ticks for which it has waited,
-- its open request, its held packets and its kept answers; the ticks for which the agent is still
-- deaf; each packet between the two, dated; and the history of the device. The agent's other
-- halves, its event log and its terminus identifier are no part of it.
pub record SharedOf : Type 0 where
  pub node : DeviceNodeOf
  pub half : HalfOf TimedOf
  pub deaf : ℕ
  pub agent_since_miss : ℕ
  pub device_since_miss : ℕ
  pub packets : List Sent
  pub history : List EntryOf

-- the node with no failure of its bank counted
abbrev pub node_without_faults : DeviceNodeOf → DeviceNodeOf
node_without_faults n = record n { faults = 0 }

-- the shared state of the device with this identifier, if the world has it
abbrev pub shared_by : WorldOf → (device : ℕ) → Option (HalfOf TimedOf) → Option SiteOf → Option SharedOf
shared_by w device None x = None
shared_by w device (Some h) None = None
shared_by w device (Some h) (Some x) =
    Some (record {
      node = node_without_faults x.node;
      half = h;
      deaf = w.agent.deaf;
      agent_since_miss = w.since_miss;
      device_since_miss = x.since_miss;
      packets = x.packets;
      history = history_of device w.history;
    })

abbrev pub shared_with : WorldOf → (device : ℕ) → Option SharedOf
shared_with w device = shared_by w device (half_for w.agent device) (site_for w.sites device)

-- Two worlds agree in a device: they have the same packages and the same time, and the same state
-- between the agent and this device. All else may differ, also the other devices and their number.
pub record AgreeIn (device : ℕ) (w v : WorldOf) : Type 0 where
  pub packages : v.packages ≡ w.packages
  pub now : v.now ≡ w.now
  pub shared : shared_with v device ≡ shared_with w device

-- A step concerns a device: a packet between the agent and the device is delivered to one of the
-- two; a tick; the operator's calls for this device; a verdict on its image; and a restart of it or
-- of the agent.
abbrev pub concerns_device : (agent device : ℕ) → Step → Bool
concerns_device agent device (steps.Deliver d number node) = (d == device) && ((node == agent) || (node == device))
concerns_device agent device (steps.Tick missed) = true
concerns_device agent device (steps.Start d number) = d == device
concerns_device agent device (steps.Cancel d) = d == device
concerns_device agent device (steps.Activate d) = d == device
concerns_device agent device (steps.Verdict d verdict) = d == device
concerns_device agent device (steps.Restart node) = (node == agent) || (node == device)
concerns_device agent device (steps.Sel bytes) = false

-- The part of a step that matters to the device: whether the agent and the device count a tick, or
-- the whole of any other step.
pub data ConcernOf : Type 0 where
  Passes : (agent device : Bool) → ConcernOf
  Takes : (step : Step) → ConcernOf

abbrev pub concern_of : (agent device : ℕ) → Step → ConcernOf
concern_of agent device (steps.Tick missed) = ConcernOf.Passes (counts missed.items agent) (counts missed.items device)
concern_of agent device s = ConcernOf.Takes s

-- the parts of the steps of a schedule that concern the device, in order
abbrev pub steps_of : WorldOf → (device : ℕ) → List Step → List ConcernOf
steps_of w device ss = map (concern_of w.agent.endpoint.eid device) (filter (concerns_device w.agent.endpoint.eid device) ss)

-- the count of failures of a device's bank
abbrev pub faults_at : WorldOf → (device : ℕ) → ℕ
faults_at w device = faults_of (site_for w.sites device)

-- No call of the device's bank failed between two moments: its count of failures didn't rise, and
-- isn't at its last value, which rises no more.
pub record IsUnfailed (device : ℕ) (old new : WorldOf) : Type 0 where
  pub unrisen : faults_at new device ≤ faults_at old device
  pub counted : faults_at new device ≢ 2 ^ 64 - 1

-- Two runs from any reached worlds that agree in a device: if the parts of their steps that matter
-- to it are the same, and no call of its bank failed, then they end in worlds that agree in it.
abbrev pub DevicesAreIsolated : Type 0
DevicesAreIsolated =
    (device : ℕ) (w v first second : WorldOf) (ss ts : List Step) → IsReached w → IsReached v
    → Run w ss first → Run v ts second
    → AgreeIn device w v → steps_of w device ss ≡ steps_of v device ts
    → IsUnfailed device w first → IsUnfailed device v second
    → AgreeIn device first second
