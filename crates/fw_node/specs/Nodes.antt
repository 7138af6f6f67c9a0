-- The nodes: the requests that a node answers itself, and the device node. A node answers control
-- and base requests for all its halves. `Halves` defines a half after packets and ticks.
use Rattle.std.specs.Prelude.{ℕ, ◌≡◌, ◌≤◌, ◌==◌, Bool, false, true, if◌then◌else◌, List, [], ◌∷◌, is_some, length, Option, Some, None}
use Rattle.mctp_ctl.specs.Control.{answer_of}
use Rattle.mctp_ctl.specs.declared.answers.Endpoint.{Endpoint}
use Rattle.mctp_wire.specs.declared.unit.Unit.{«Unit»}
use Rattle.mctp_reasm.specs.Pieces.{MessageOf}
use Rattle.pldm_base.specs.Base.{base_reply, tid_after}
use Rattle.pldm_base.specs.Codes.{invalid_pldm_type}
use Rattle.pldm_base.specs.Limits.{reply_limit}
use Rattle.pldm_base.specs.declared.header.PldmHead.{PldmHead}
use Rattle.pldm_base.specs.declared.terminus.Role.{Role}
use Rattle.pldm_base.specs.declared.terminus.Role.TheVariants as roles
use Rattle.pldm_exch.specs.Ends.{asker_of, taker_of}
use Rattle.pldm_exch.specs.Kept.{kept_with}
use Rattle.pldm_exch.specs.Requests.{reply_message}
use Rattle.fwup_wire.specs.Answers.{answer_bytes, answer_in}
use Rattle.fwup_wire.specs.Commands.{command_code}
use Rattle.fwup_wire.specs.Values.{AnswerOf, CommandOf}
use Rattle.fd_core.specs.BankCalls.{verdict_calls_bank}
use Rattle.fd_core.specs.Banks.{CountsFailure}
use Rattle.fd_core.specs.States.{DeviceOf}
use Rattle.fd_core.specs.Steps.{device_verdict, verdict_after}
use Rattle.fd_core.specs.declared.states.Verdict.{Verdict}
use Rattle.fw_node.specs.BankCalls.{packet_calls_bank}
use Rattle.fw_node.specs.BothEnds.{EndsOf, ends_new}
use Rattle.fw_node.specs.Cores.{TimedDevice, device_core, timed_device}
use Rattle.fw_node.specs.Packets.{all_packets}
use Rattle.fw_node.specs.Halves.{HalfOutcome, HalfOf, half_on_packet, half_restarts, half_with_core}

-- a half of a node that is deaf for `deaf` ticks
abbrev pub half_of : {C : Type 0} → (deaf : ℕ) → C → EndsOf → HalfOf C
half_of deaf core e =
    record { unit = e.asking.unit; own = e.asking.own; peer = e.asking.peer; core = core; asker = asker_of deaf e.asking; taker = taker_of deaf e.answering }

-- a half after a packet, the node's terminus identifier, and the messages that are sent
pub record NodeOutcome (C : Type 0) : Type 0 where
  pub half : HalfOf C
  pub tid : ℕ
  pub sent : List MessageOf

-- The reply to a PLDM request of another type than firmware update: that of a base command, or a
-- refusal of the type.
abbrev pub other_reply : Role → ℕ → PldmHead → List ℕ → List ℕ
other_reply role tid head body =
    if head.pldm_type == 0 then base_reply role tid head.command body else invalid_pldm_type ∷ []

-- the terminus identifier after that request
abbrev pub other_tid : ℕ → PldmHead → List ℕ → ℕ
other_tid tid head body = if head.pldm_type == 0 then tid_after tid head.command body else tid

-- that request is answered, and the answer is kept
abbrev pub half_after_reply : {C : Type 0} → HalfOf C → MessageOf → HalfOf C
half_after_reply h answer = record h { taker = record h.taker { kept = kept_with h.taker.kept answer } }

-- The answer to a control message, which is sent back and not kept.
abbrev pub control_message : MessageOf → List ℕ → MessageOf
control_message m bytes = record { dest = m.source; source = m.dest; to = false; tag = m.tag; bytes = bytes }

abbrev pub control_sent : MessageOf → Option (List ℕ) → List MessageOf
control_sent m None = []
control_sent m (Some []) = []
control_sent m (Some (byte ∷ bytes)) = control_message m (byte ∷ bytes) ∷ []

-- The outcome for the node, from the outcome for its half.
abbrev pub node_outcome_of : {C : Type 0} → Role → Endpoint → (tid : ℕ) → HalfOutcome C → NodeOutcome C
node_outcome_of role endpoint tid (HalfOutcome.Went half sent) = record { half = half; tid = tid; sent = sent }
node_outcome_of role endpoint tid (HalfOutcome.Took half sent command answer) = record { half = half; tid = tid; sent = sent }
node_outcome_of role endpoint tid (HalfOutcome.Asks half m head body) =
    record {
      half = half_after_reply half (reply_message m head (other_reply role tid head body));
      tid = other_tid tid head body;
      sent = reply_message m head (other_reply role tid head body) ∷ [];
    }
node_outcome_of role endpoint tid (HalfOutcome.Strayed half m) =
    record { half = half; tid = tid; sent = control_sent m (answer_of endpoint m.bytes) }

-- an answer to a command decodes to itself, and fits a message of this transmission unit
pub record AnswerRoundTrips (u : «Unit») (command : CommandOf) (answer : AnswerOf) : Type 0 where
  pub reads : answer_in (command_code command) (answer_bytes answer) ≡ Some answer
  pub fits : length (answer_bytes answer) ≤ reply_limit u

-- The answer of a core that took a command round-trips.
abbrev pub TakenAnswerRoundTrips : {C : Type 0} → «Unit» → HalfOutcome C → Type 0
TakenAnswerRoundTrips u (HalfOutcome.Took half sent command answer) = AnswerRoundTrips u command answer
TakenAnswerRoundTrips u heard = Prim.Unit {0}

-- A device node: its endpoint, its terminus identifier, its half for the agent, and its bank's
-- count of failures.
pub record DeviceNodeOf : Type 0 where
  pub endpoint : Endpoint
  pub tid : ℕ
  pub half : HalfOf TimedDevice
  pub faults : ℕ

-- the outcome of a packet for a device node
abbrev pub device_on_packet : (works : Bool) → DeviceNodeOf → List ℕ → NodeOutcome TimedDevice
device_on_packet works n bytes = node_outcome_of roles.Device n.endpoint n.tid (half_on_packet device_core works n.half bytes)

-- a device node after a verdict that it waits for
abbrev pub device_on_verdict : (works : Bool) → DeviceNodeOf → Verdict → HalfOf TimedDevice
device_on_verdict works n verdict =
    half_with_core device_core n.half (record { device = verdict_after n.half.core.device verdict works; idle = 0 })

-- a device node after a restart
abbrev pub device_restarts : DeviceNodeOf → DeviceNodeOf
device_restarts n = record n { tid = 0; half = half_restarts device_core n.half }

-- a new device node
abbrev pub new_device_node : Endpoint → (agent : ℕ) → DeviceOf → DeviceNodeOf
new_device_node endpoint agent d =
    record { endpoint = endpoint; tid = 0; half = half_of 0 (timed_device d) (ends_new d.device.unit endpoint.eid agent); faults = d.faults }

-- A device node handles a packet, and sends `sent`: `works` says whether its bank's one call
-- succeeded. A call fails only if the packet has the node call its bank, and only if the bank
-- counts the failure.
pub record HandlesPacket (old : DeviceNodeOf) (bytes : List ℕ) (new : DeviceNodeOf) (sent : List (List ℕ)) : Type 0 where
  pub works : Bool
  pub half : new.half ≡ (device_on_packet works old bytes).half
  pub tid : new.tid ≡ (device_on_packet works old bytes).tid
  pub packets : sent ≡ all_packets old.half.unit (device_on_packet works old bytes).sent
  pub worked : works ≡ true → new.faults ≡ old.faults
  pub failed : works ≡ false → CountsFailure old.faults new.faults
  pub called : works ≡ false → packet_calls_bank device_core old.half bytes ≡ true

-- A device node handles a verdict that it waits for. Only ApplyOk calls the bank.
pub record HandlesVerdict (old : DeviceNodeOf) (verdict : Verdict) (new : DeviceNodeOf) : Type 0 where
  pub works : Bool
  pub counts : is_some (device_verdict old.half.core.device verdict works) ≡ true
  pub half : new.half ≡ device_on_verdict works old verdict
  pub worked : works ≡ true → new.faults ≡ old.faults
  pub failed : works ≡ false → CountsFailure old.faults new.faults
  pub called : works ≡ false → verdict_calls_bank old.half.core.device verdict ≡ true
