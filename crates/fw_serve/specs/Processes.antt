-- A device and the update agent as processes of their own: what they do in a deed of a process, and
-- what they send, each packet with the unit after the deed. Verdicts and activations are given, as
-- they are for a run.
use Rattle.std.specs.Prelude.{ℕ, ◌≡◌, ◌+◌, [], Bool, true, false, List, Option, Some}
use Rattle.std.specs.List.{list_all}
use Rattle.exch_lane.specs.Lanes.{Sent}
use Rattle.ua_core.specs.declared.state.SessionState.{SessionState}
use Rattle.ua_core.specs.declared.state.SessionState.TheVariants as sessions
use Rattle.fw_node.specs.Agents.{AgentOf}
use Rattle.fw_script.specs.Reports.{session_of}
use Rattle.fw_script.specs.declared.reports.SentCount.{SentCount}
use Rattle.fw_process.specs.Processes.{Deed}
use Rattle.fw_steps.specs.Alone.{AgentCall, is_for}
use Rattle.fw_steps.specs.Worlds.{sent_now}
use Rattle.fw_serve.specs.Agents.{ServedAgentOf, agent_served, served_packets, turn_packets, turn_taken}
use Rattle.fw_serve.specs.Serving.{IsReceipt, IsRestart, ServedDeviceOf, TakesSuch, TakesTurn}

-- A DEVICE

-- a device, and the unit that it is in
pub record DeviceProcessOf : Type 0 where
  pub unit : ℕ
  pub device : ServedDeviceOf

-- It is in a unit after calls, and sends their packets.
pub record Sends (takes : ServedDeviceOf → List (List ℕ) → Type 0) (unit : ℕ) (t : DeviceProcessOf) (sent : List Sent) : Type 0 where
  pub counted : t.unit ≡ unit
  pub packets : List (List ℕ)
  pub taken : takes t.device packets
  pub stamped : sent ≡ sent_now unit packets

-- a packet that is for the device is handled, and another is ignored
abbrev pub ReceivesIf : (mine : Bool) → DeviceProcessOf → List ℕ → DeviceProcessOf → List Sent → Type 0
ReceivesIf true s bytes t sent = Sends (TakesSuch s.device (IsReceipt bytes)) s.unit t sent
ReceivesIf false s bytes t sent = (t ≡ s) × (sent ≡ [])

abbrev pub DeviceDoes : DeviceProcessOf → Deed → DeviceProcessOf → List Sent → Type 0
DeviceDoes s (Deed.Receives p) t sent = ReceivesIf (is_for s.device.node.endpoint.eid p.bytes) s p.bytes t sent
DeviceDoes s Deed.Turns t sent = Sends (TakesTurn true s.device) (s.unit + 1) t sent
DeviceDoes s (Deed.Misses units) t sent = (t.unit ≡ s.unit + units) × TakesSuch s.device IsRestart t.device [] × (sent ≡ [])
DeviceDoes s (Deed.Drops p) t sent = (t ≡ s) × (sent ≡ [])

-- THE AGENT

-- whether the session with a device is done or failed, and whether all are
abbrev pub is_over : Option SessionState → Bool
is_over (Some sessions.Done) = true
is_over (Some (sessions.Failed cause)) = true
is_over state = false

abbrev pub are_over : AgentOf → List SentCount → Bool
are_over n counts = list_all (λ c. is_over (session_of n c.device)) counts

-- the agent after units that it misses: it restarts, and goes on after them
abbrev pub agent_after_missing : ServedAgentOf → (units : ℕ) → ServedAgentOf
agent_after_missing s units = record (agent_served s AgentCall.Restarts) { now = s.now + units }

abbrev pub AgentDoes : ServedAgentOf → Deed → ServedAgentOf → List Sent → Type 0
AgentDoes s (Deed.Receives p) t sent =
    (t ≡ agent_served s (AgentCall.Receives s.now p.bytes)) × (sent ≡ sent_now s.now (served_packets s (AgentCall.Receives s.now p.bytes)))
AgentDoes s Deed.Turns t sent = (t ≡ turn_taken true s) × (sent ≡ sent_now (s.now + 1) (turn_packets true s))
AgentDoes s (Deed.Misses units) t sent = (t ≡ agent_after_missing s units) × (sent ≡ [])
AgentDoes s (Deed.Drops p) t sent = (t ≡ s) × (sent ≡ [])
