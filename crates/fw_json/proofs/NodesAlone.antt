-- The value of a node alone nests few levels deep.
use Rattle.std.proofs.Common.{◌≤◌, ℕ, List, Option, arith, length, option_and_then, option_map}
use Rattle.json.specs.Json.{max_depth, string}
use Rattle.json.specs.Tree.{depth, items_depth}
use Rattle.fw_message.specs.Worlds.{NotedOf}
use Rattle.fw_node.specs.Agents.{AgentOf}
use Rattle.fw_node.specs.Nodes.{DeviceNodeOf}
use Rattle.fw_script.specs.Reports.{cause_name, rising_keys, session_of}
use Rattle.fw_script.specs.declared.reports.SentCount.{SentCount}
use Rattle.ua_core.specs.declared.state.SessionState.{SessionState}
use Rattle.fw_json.specs.Alone.{agent_alone_value, counted_value, device_alone_value, node_value, session_value}
use Rattle.fw_json.specs.Reports.{cause_of, event_value, running_items, session_word}
use Rattle.fw_json.proofs.Reading.{items_shallow}
use Rattle.fw_json.proofs.Reported.{active_shallow, agent_shallow, event_shallow, log_shallow, optional_flat}

node_shallow : (n : DeviceNodeOf) → depth (node_value n) ≤ 3
unfolding node_value
node_shallow n =
    let active : items_depth (running_items n.half.core.device) ≤ 1 = active_shallow n.half.core.device.rows (rising_keys n.half.core.device.components) in
    omega (arith, active)

session_shallow : (device : ℕ) (session : Option SessionState) (sent : ℕ) → depth (session_value device session sent) ≤ 1
unfolding session_value
session_shallow device session sent =
    let word = optional_flat string (option_map session_word session) (λ t. omega arith) in
    let cause = optional_flat string (option_map cause_name (option_and_then cause_of session)) (λ t. omega arith) in
    omega (arith, word, cause)

counted_shallow : (a : AgentOf) (c : SentCount) → depth (counted_value a c) ≤ 1
counted_shallow a c = session_shallow c.device (session_of a c.device) c.count

pub device_alone_shallow : (n : DeviceNodeOf) (history : List NotedOf) → depth (device_alone_value n history) ≤ max_depth
device_alone_shallow n history =
    let node = node_shallow n in
    let entries = items_shallow event_value 1 event_shallow history in
    omega (arith, node, entries)

pub agent_alone_shallow : (now : ℕ) (a : AgentOf) (counts : List SentCount) (answer : Option (List ℕ)) (history : List NotedOf) → depth (agent_alone_value now a counts answer history) ≤ max_depth
agent_alone_shallow now a counts answer history =
    let agent = agent_shallow a in
    let sessions = items_shallow (counted_value a) 1 (counted_shallow a) counts in
    let log = log_shallow (length a.log.records) answer in
    let entries = items_shallow event_value 1 event_shallow history in
    omega (arith, agent, sessions, log, entries)
