-- The values that the line `report` of a node alone writes: a device with its active images, or the
-- agent with its sessions and event log, and the history. Keys are only ever added.
use Rattle.std.specs.Prelude.{ℕ, ◌==◌, List, [], ◌∷◌, codes, length, Option, option_and_then, option_map}
use Rattle.json.specs.Json.{Json, array, boolean, string}
use Rattle.fd_core.specs.States.{state_of}
use Rattle.ua_core.specs.declared.state.SessionState.{SessionState}
use Rattle.fw_message.specs.Worlds.{NotedOf}
use Rattle.fw_node.specs.Agents.{AgentOf}
use Rattle.fw_node.specs.Nodes.{DeviceNodeOf}
use Rattle.fw_script.specs.Reports.{cause_name, session_of, state_name}
use Rattle.fw_script.specs.declared.reports.SentCount.{SentCount}
use Rattle.fw_json.specs.Reports.{agent_value, cause_of, event_value, log_value, running_items, session_word}
use Rattle.fw_json.specs.Values.{number_value, items, object_of, optional_value}

-- a device's node; it is up, unless it is deaf for a while after it restarted
unfoldable pub node_value : DeviceNodeOf → Json
node_value n =
    object_of
    ((codes "eid", number_value n.endpoint.eid) ∷ (codes "up", boolean (n.half.asker.deaf == 0))
    ∷ (codes "state", string (state_name (state_of n.half.core.device.phase))) ∷ (codes "active", array (running_items n.half.core.device)) ∷ [])

-- a device and its history
abbrev pub device_alone_value : DeviceNodeOf → List NotedOf → Json
device_alone_value n history =
    object_of
    ((codes "format", string (codes "fwupd-device/1")) ∷ (codes "device", node_value n) ∷ (codes "history", array (items event_value history)) ∷ [])

-- the state of the session with a device, and the number of packets that the agent sent to it
unfoldable pub session_value : (device : ℕ) → Option SessionState → (sent : ℕ) → Json
session_value device session sent =
    object_of
    ((codes "eid", number_value device) ∷ (codes "session", optional_value string (option_map session_word session))
    ∷ (codes "cause", optional_value string (option_map cause_name (option_and_then cause_of session))) ∷ (codes "sent", number_value sent) ∷ [])

abbrev pub counted_value : AgentOf → SentCount → Json
counted_value a c = session_value c.device (session_of a c.device) c.count

-- the agent: its time, its node, its sessions, its event log with the last answer, and its history
abbrev pub agent_alone_value : (now : ℕ) → AgentOf → List SentCount → (answer : Option (List ℕ)) → List NotedOf → Json
agent_alone_value now a counts answer history =
    object_of
    ((codes "format", string (codes "fwupd-agent/1")) ∷ (codes "now", number_value now) ∷ (codes "agent", agent_value a)
    ∷ (codes "sessions", array (items (counted_value a) counts))
    ∷ (codes "log", log_value (length a.log.records) answer) ∷ (codes "history", array (items event_value history)) ∷ [])
