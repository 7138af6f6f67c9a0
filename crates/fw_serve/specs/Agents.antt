-- The update agent by itself, as a server of lines: the calls of its node that a line makes, and
-- what is printed. The calls, and the node after them, are those of `Alone`.
use Rattle.std.specs.Prelude.{ℕ, suc, zero, ◌≡◌, ◌+◌, ◌-◌, ◌^◌, ◌++◌, ◌∷◌, [], Bool, true, false, if◌then◌else◌, is_some, nat_le, List, length, map, min, Option, Some, None, Result, Ok, Err}
use Rattle.fw_package.specs.Package.{PackageText}
use Rattle.mctp_ctl.specs.declared.answers.Endpoint.{Endpoint}
use Rattle.mctp_wire.specs.declared.unit.Unit.{«Unit»}
use Rattle.sel_core.specs.Log.{LogOf, sel_reply}
use Rattle.fw_message.specs.Worlds.{NotedOf}
use Rattle.ua_core.specs.Session.{TimedOf}
use Rattle.fw_node.specs.Halves.{HalfOf}
use Rattle.fw_node.specs.Agents.{AgentOf, agent_on_packet, any_packet, free_for, half_for, new_agent, ready_for}
use Rattle.fw_json.specs.Alone.{agent_alone_value}
use Rattle.fw_json.specs.Values.{line_of}
use Rattle.fw_script.specs.Reports.{agent_line, history_text, log_line, sessions_text}
use Rattle.fw_script.specs.declared.faults.ScriptCause.{ScriptCause}
use Rattle.fw_script.specs.declared.reports.SentCount.{SentCount}
use Rattle.fw_steps.specs.Alone.{AgentCall, agent_after_call, agent_call_packets, is_for}
use Rattle.fw_steps.specs.Steps.{is_package}
use Rattle.fw_steps.specs.Worlds.{recorded_from, sender_of}
use Rattle.fw_steps.specs.declared.step.Step.{Step}
use Rattle.fw_steps.specs.declared.step.Step.TheVariants as steps
use Rattle.fw_serve.specs.Fronts.{answer_in_front}
use Rattle.fw_serve.specs.declared.fronts.FilterOptions.{FilterOptions}
use Rattle.fw_serve.specs.declared.fronts.Front.{Front}
use Rattle.fw_serve.specs.Lines.{AgentLineOf, agent_line_of}
use Rattle.fw_serve.specs.Texts.{answer_line, fault_line, packets_line, refused_line}
use Rattle.fw_serve.specs.declared.texts.LineRefusal.{LineRefusal}
use Rattle.fw_serve.specs.declared.texts.LineRefusal.TheVariants as refusals

-- The agent: its packages, the units of time that have passed, its node, the number of packets that
-- it sent to each of its devices, the last answer of the event log, and the history of its records.
pub record ServedAgentOf : Type 0 where
  pub packages : List PackageText
  pub now : ℕ
  pub agent : AgentOf
  pub counts : List SentCount
  pub answer : Option (List ℕ)
  pub history : List NotedOf

-- a new agent, in a network with this transmission unit
abbrev pub new_counts : (devices : List ℕ) → List SentCount
new_counts devices = map (λ device. record { device = device; count = 0 }) devices

abbrev pub new_served_agent : «Unit» → Endpoint → (devices : List ℕ) → List PackageText → ServedAgentOf
new_served_agent u endpoint devices packages =
    record { packages = packages; now = 0; agent = new_agent u endpoint devices; counts = new_counts devices; answer = None; history = [] }

-- the agent with a node, at time 0, that has sent nothing
abbrev pub served_agent_of : AgentOf → List PackageText → ServedAgentOf
served_agent_of n packages =
    record { packages = packages; now = 0; agent = n; counts = new_counts (map (λ h. h.peer) n.halves); answer = None; history = [] }

-- the count of the device at a place
abbrev pub count_of_half : Option (HalfOf TimedOf) → List SentCount
count_of_half None = []
count_of_half (Some h) = record { device = h.peer; count = 0 } ∷ []

-- A packet that is sent is counted for its device. A count stops at its last value, 2^64 - 1.
abbrev pub count_with : List ℕ → SentCount → SentCount
count_with packet c = if is_for c.device packet then record c { count = min (2 ^ 64 - 1) (c.count + 1) } else c

abbrev pub counts_with : List SentCount → List ℕ → List SentCount
counts_with counts packet = map (count_with packet) counts

abbrev pub counts_after : List SentCount → List (List ℕ) → List SentCount
counts_after counts [] = counts
counts_after counts (packet ∷ packets) = counts_after (counts_with counts packet) packets

-- the history after a call: a component that the agent records is noted
abbrev pub history_after : List PackageText → AgentOf → List NotedOf → AgentCall → List NotedOf
history_after packages n history (AgentCall.Receives now bytes) =
    history ++ recorded_from n (agent_on_packet packages n bytes now).agent (sender_of (any_packet bytes))
history_after packages n history call = history

-- The answer to a request of the event log. A request without a byte has a wrong length (IPMI 2.0:
-- completion code C7).
abbrev pub log_answer : LogOf → (now : ℕ) → List ℕ → List ℕ
log_answer log now [] = 0xC7 ∷ []
log_answer log now (command ∷ bytes) = sel_reply log command bytes now

-- the units of time that have passed, and the last answer, after a call
abbrev pub now_after : ℕ → AgentCall → ℕ
now_after now (AgentCall.Ticks unit) = unit
now_after now call = now

abbrev pub answer_after : LogOf → Option (List ℕ) → AgentCall → Option (List ℕ)
answer_after log answer (AgentCall.AsksLog now bytes) = Some (log_answer log now bytes)
answer_after log answer call = answer

-- the packets that a call sends
abbrev pub served_packets : ServedAgentOf → AgentCall → List (List ℕ)
served_packets s call = agent_call_packets s.packages s.agent call

-- the agent after a call
abbrev pub agent_served : ServedAgentOf → AgentCall → ServedAgentOf
agent_served s call =
    record {
      packages = s.packages;
      now = now_after s.now call;
      agent = agent_after_call s.packages s.agent call;
      counts = counts_after s.counts (served_packets s call);
      answer = answer_after s.agent.log s.answer call;
      history = history_after s.packages s.agent s.history call;
    }

-- what is due at the end of a turn: each session that is ready has its device activate, in the
-- order of the devices, if activations are given
abbrev pub activated_if_ready : ServedAgentOf → (device : ℕ) → ServedAgentOf
activated_if_ready s device = if is_some (ready_for s.agent device) then agent_served s (AgentCall.Activates s.now device) else s

abbrev pub all_activated : ServedAgentOf → List SentCount → ServedAgentOf
all_activated s [] = s
all_activated s (c ∷ cs) = all_activated (activated_if_ready s c.device) cs

abbrev pub turn_ended : (auto : Bool) → ServedAgentOf → ServedAgentOf
turn_ended true s = all_activated s s.counts
turn_ended false s = s

-- the call of a tick: the unit after those that have passed
abbrev pub tick_call : ServedAgentOf → AgentCall
tick_call s = AgentCall.Ticks (s.now + 1)

-- what is due at the end of the turn before, and then a tick; and the packets of the tick
abbrev pub turn_taken : (auto : Bool) → ServedAgentOf → ServedAgentOf
turn_taken auto s = agent_served (turn_ended auto s) (tick_call (turn_ended auto s))

abbrev pub turn_packets : (auto : Bool) → ServedAgentOf → List (List ℕ)
turn_packets auto s = served_packets (turn_ended auto s) (tick_call (turn_ended auto s))

-- the agent after turns, and the packets of all
abbrev pub turns_taken : (auto : Bool) → (count : ℕ) → ServedAgentOf → ServedAgentOf
turns_taken auto zero s = s
turns_taken auto (suc count) s = turn_taken auto (turns_taken auto count s)

abbrev pub turns_packets : (auto : Bool) → (count : ℕ) → ServedAgentOf → List (List ℕ)
turns_packets auto zero s = []
turns_packets auto (suc count) s = turns_packets auto count s ++ turn_packets auto (turns_taken auto count s)

-- what a line makes of the agent, and prints
pub record AgentServedOf : Type 0 where
  pub agent : ServedAgentOf
  pub text : List ℕ

abbrev pub agent_unserved : ServedAgentOf → List ℕ → AgentServedOf
agent_unserved s text = record { agent = s; text = text }

abbrev pub agent_called : ServedAgentOf → AgentCall → AgentServedOf
agent_called s call = record { agent = agent_served s call; text = packets_line (served_packets s call) }

-- a call of the operator that isn't taken, and why
abbrev pub start_refusal : (has_package : Bool) → Option Bool → Option LineRefusal
start_refusal has_package None = Some refusals.NoSuchNode
start_refusal false (Some free) = Some refusals.NoSuchPackage
start_refusal true (Some false) = Some refusals.Busy
start_refusal true (Some true) = None

abbrev pub known_refusal : (known : Bool) → Option LineRefusal → Option LineRefusal
known_refusal true refusal = refusal
known_refusal false refusal = Some refusals.NoSuchNode

abbrev pub ready_refusal : (ready : Bool) → Option LineRefusal
ready_refusal true = None
ready_refusal false = Some refusals.NotReady

abbrev pub call_or_refusal : ServedAgentOf → AgentCall → Option LineRefusal → AgentServedOf
call_or_refusal s call None = agent_called s call
call_or_refusal s call (Some refusal) = agent_unserved s (refused_line refusal)

-- what such a call prints
abbrev pub call_text : Result (Prim.Unit {0}) LineRefusal → List ℕ
call_text (Ok taken) = packets_line []
call_text (Err refusal) = refused_line refusal

-- a request to the event log prints its answer
abbrev pub log_asked : ServedAgentOf → List ℕ → AgentServedOf
log_asked s request = record { agent = agent_served s (AgentCall.AsksLog s.now request); text = answer_line (log_answer s.agent.log s.now request) }

abbrev pub agent_step_served : ServedAgentOf → Step → AgentServedOf
agent_step_served s (steps.Start device number) =
    call_or_refusal s (AgentCall.Starts s.now device number) (start_refusal (is_package s.packages number) (free_for s.agent device))
agent_step_served s (steps.Cancel device) =
    call_or_refusal s (AgentCall.Cancels s.now device) (known_refusal (is_some (half_for s.agent device)) None)
agent_step_served s (steps.Activate device) =
    call_or_refusal s (AgentCall.Activates s.now device) (known_refusal (is_some (half_for s.agent device)) (ready_refusal (is_some (ready_for s.agent device))))
agent_step_served s (steps.Sel bytes) = log_asked s bytes.items
agent_step_served s step = agent_unserved s []

-- Ticks are refused together if the clock, which ends at 2^32 - 1, would pass its last unit.
abbrev pub agent_ticks_served : (auto : Bool) → (count : ℕ) → ServedAgentOf → AgentServedOf
agent_ticks_served auto count s =
    if nat_le (s.now + count) (2 ^ 32 - 1) then record { agent = turns_taken auto count s; text = packets_line (turns_packets auto count s) }
    else agent_unserved s (refused_line refusals.ClockEnd)

-- a line that was read
abbrev pub agent_read_served : (auto : Bool) → ServedAgentOf → AgentLineOf → AgentServedOf
agent_read_served auto s (AgentLineOf.Packet bytes) = agent_called s (AgentCall.Receives s.now bytes)
agent_read_served auto s (AgentLineOf.Ticks count) = agent_ticks_served auto count s
agent_read_served auto s (AgentLineOf.Calls step) = agent_step_served s step
agent_read_served auto s AgentLineOf.Restarts = agent_called s AgentCall.Restarts
agent_read_served auto s AgentLineOf.Reports = agent_unserved s (line_of (agent_alone_value s.now s.agent s.counts s.answer s.history))

-- A skipped line prints nothing.
abbrev pub agent_line_served : (auto : Bool) → ServedAgentOf → Result (Option AgentLineOf) ScriptCause → AgentServedOf
agent_line_served auto s (Ok None) = agent_unserved s []
agent_line_served auto s (Ok (Some line)) = agent_read_served auto s line
agent_line_served auto s (Err cause) = agent_unserved s (fault_line cause)

-- the answer in front of the agent to a line that is a packet
abbrev pub agent_line_front : Option Front → Result (Option AgentLineOf) ScriptCause → Option (List ℕ)
agent_line_front front (Ok (Some (AgentLineOf.Packet bytes))) = answer_in_front front bytes
agent_line_front front line = None

-- The front answers a line, and the agent doesn't see it; or it has no answer, and the agent serves
-- the line.
abbrev pub agent_served_behind : Option (List ℕ) → (auto : Bool) → ServedAgentOf → Result (Option AgentLineOf) ScriptCause → AgentServedOf
agent_served_behind (Some answer) auto s line = agent_unserved s (packets_line (answer ∷ []))
agent_served_behind None auto s line = agent_line_served auto s line

-- the report of the agent: its node, its sessions, its event log, and the history
abbrev pub agent_report : ServedAgentOf → List ℕ
agent_report s =
    agent_line s.agent ++ sessions_text s.agent s.counts ++ log_line (length s.agent.log.records) s.answer ++ history_text s.history

-- the agent as a server of lines: its options, and the agent
pub record AgentFilterOf : Type 0 where
  pub options : FilterOptions
  pub agent : ServedAgentOf

-- The agent serves a line.
pub record ServesAgentLine (s : AgentFilterOf) (line : List ℕ) (t : AgentFilterOf) (text : List ℕ) : Type 0 where
  pub options : t.options ≡ s.options
  pub agent : t.agent ≡ (agent_served_behind (agent_line_front s.options.front (agent_line_of line)) s.options.auto s.agent (agent_line_of line)).agent
  pub printed : text ≡ (agent_served_behind (agent_line_front s.options.front (agent_line_of line)) s.options.auto s.agent (agent_line_of line)).text
