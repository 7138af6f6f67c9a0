-- No call of a device's node changes the components that the device and its bank have.
use Rattle.std.proofs.Common.{◌+◌, ◌==◌, ℕ, Bool, true, false, nat_lt, if◌then◌else◌, List, [], ◌∷◌, Option, Some, None, Result, Ok, Err}
use Rattle.mctp_reasm.specs.Held.{Held}
use Rattle.mctp_reasm.specs.Pieces.{MessageOf}
use Rattle.mctp_ctl.specs.declared.answers.Endpoint.{Endpoint}
use Rattle.pldm_base.specs.declared.header.PldmHead.{PldmHead}
use Rattle.pldm_base.specs.declared.terminus.Role.{Role}
use Rattle.pldm_exch.specs.Caller.{is_quiet, may_begin}
use Rattle.pldm_exch.specs.Sides.{AskerRow, AskerTick, TakerRow, asker_counts, asker_row, taker_counts, taker_row}
use Rattle.fwup_wire.specs.Answers.{answer_read}
use Rattle.fwup_wire.specs.Values.{CommandOf}
use Rattle.fd_core.specs.Components.{HasComponents}
use Rattle.fd_core.specs.States.{DeviceState, Phase}
use Rattle.fd_core.specs.Steps.{device_timeout, tick_at}
use Rattle.fd_core.specs.declared.states.Verdict.{Verdict}
use Rattle.fd_core.proofs.Components.{judge_components, learn_components, restart_components, take_components, timeout_components}
use Rattle.fw_node.specs.Cores.{TimedDevice, answer_or, device_core}
use Rattle.fw_node.specs.Halves.{HalfOutcome, HalfOf, begins_if, begins_wish, half_tick_by_row, half_on_packet, half_on_rows, half_takes, half_ticks, tick_if, read_by, takes_if, takes_read, unwished_abandoned, with_caller}
use Rattle.fw_node.specs.Nodes.{DeviceNodeOf, device_on_packet, device_on_verdict, node_outcome_of}
use Rattle.pldm_base.specs.declared.terminus.Role.TheVariants as roles

-- a half whose device has its components
abbrev pub HasAll : HalfOf TimedDevice → Type 0
HasAll h = HasComponents h.core.device

-- the device's own tick
waits_on : (more : Bool) (v : DeviceState) (idle : ℕ) → HasComponents v → HasComponents (if◌then◌else◌ {A = DeviceState × ℕ} more (v, idle + 1) (device_timeout v, 0)).0
waits_on true v idle h = h
waits_on false v idle h = timeout_components v h

tick_components : (p : Phase) (v : DeviceState) (idle : ℕ) → HasComponents v → HasComponents (tick_at p v idle).0
tick_components Phase.Idle v idle h = h
tick_components Phase.Activated v idle h = timeout_components v h
tick_components p v idle h = waits_on (nat_lt (idle + 1) 240) v idle h

-- a half after a tick
begun : (may : Bool) (h : HalfOf TimedDevice) (c : CommandOf) (sent : List MessageOf) → HasAll h → HasAll (begins_if may h c sent).half
begun true h c sent k = k
begun false h c sent k = k

wished : (wish : Option CommandOf) (h : HalfOf TimedDevice) (sent : List MessageOf) → HasAll h → HasAll (begins_wish wish h sent).half
wished None h sent k = k
wished (Some c) h sent k = begun (may_begin h.asker.caller) h c sent k

hearing : (hears : Bool) (h : HalfOf TimedDevice) (sent : List MessageOf) → HasAll h → HasAll (tick_if hears device_core h sent).half
hearing true h sent k =
    wished
    (device_core.wish (device_core.ticked h.core))
    (with_caller (record h { core = device_core.ticked h.core }) (unwished_abandoned (device_core.wish (device_core.ticked h.core)) h.asker.caller))
    sent
    (tick_components h.core.device.phase h.core.device h.core.idle k)
hearing false h sent k = k

after_call : (h : HalfOf TimedDevice) (row : AskerTick) → HasAll h → HasAll (half_tick_by_row device_core h row).half
after_call h (AskerTick.Waits a) k = hearing (a.deaf == 0) (record h { asker = a }) [] k
after_call h (AskerTick.Resends a m) k = hearing (a.deaf == 0) (record h { asker = a }) (m ∷ []) k
after_call h (AskerTick.GivesUp a) k = hearing (a.deaf == 0) (record h { asker = a }) [] k

pub ticked_components : (h : HalfOf TimedDevice) → HasAll h → HasAll (half_ticks device_core true h).half
ticked_components h k = after_call (record h { taker = taker_counts h.taker }) (asker_counts h.asker) k

-- a half after a packet
abbrev pub HasHeard : HalfOutcome TimedDevice → Type 0
HasHeard (HalfOutcome.Went half sent) = HasAll half
HasHeard (HalfOutcome.Took half sent command answer) = HasAll half
HasHeard (HalfOutcome.Asks half m head body) = HasAll half
HasHeard (HalfOutcome.Strayed half m) = HasAll half

read : (quiet works : Bool) (h : HalfOf TimedDevice) (requests : List (Option Held)) (m : MessageOf) (head : PldmHead) (c : Result CommandOf ℕ) → HasAll h
    → HasHeard (takes_read device_core quiet works h requests m head c)
read quiet works h requests m head (Ok c) k = take_components h.core.device c quiet works k
read quiet works h requests m head (Err code) k = k

taken : (is_update : Bool) (works : Bool) (h : HalfOf TimedDevice) (requests : List (Option Held)) (m : MessageOf) (head : PldmHead) (body : List ℕ) → HasAll h
    → HasHeard (takes_if is_update device_core works h requests m head body)
taken true works h requests m head body k = read (is_quiet h.asker.caller) works h requests m head (read_by device_core head.command body) k
taken false works h requests m head body k = k

served : (works : Bool) (h : HalfOf TimedDevice) (row : TakerRow) → HasAll h → HasHeard (half_takes device_core works h row)
served works h (TakerRow.Silent requests) k = k
served works h (TakerRow.Repeats requests answer) k = k
served works h (TakerRow.TakesUp requests m head body) k = taken (head.pldm_type == 5) works h requests m head body k
served works h (TakerRow.Strays requests m) k = k

by_rows : (works : Bool) (h : HalfOf TimedDevice) (asked : AskerRow) (asks : TakerRow) → HasAll h → HasHeard (half_on_rows device_core works h asked asks)
by_rows works h (AskerRow.Ignores replies) asks k = served works (record h { asker = record h.asker { replies = replies } }) asks k
by_rows works h (AskerRow.Learns replies caller heard) asks k =
    learn_components h.core.device (answer_or (answer_read heard.command heard.reply)) works k

ends : (role : Role) (endpoint : Endpoint) (tid : ℕ) (heard : HalfOutcome TimedDevice) → HasHeard heard → HasAll (node_outcome_of role endpoint tid heard).half
ends role endpoint tid (HalfOutcome.Went half sent) k = k
ends role endpoint tid (HalfOutcome.Took half sent command answer) k = k
ends role endpoint tid (HalfOutcome.Asks half m head body) k = k
ends role endpoint tid (HalfOutcome.Strayed half m) k = k

pub heard_components : (works : Bool) (n : DeviceNodeOf) (bytes : List ℕ) → HasAll n.half → HasAll (device_on_packet works n bytes).half
heard_components works n bytes k =
    ends roles.Device n.endpoint n.tid (half_on_packet device_core works n.half bytes)
    (by_rows works n.half (asker_row n.half.unit n.half.own n.half.peer n.half.asker bytes) (taker_row n.half.unit n.half.own n.half.peer n.half.taker bytes) k)

-- after a verdict, and after a restart
pub judged_components : (works : Bool) (n : DeviceNodeOf) (verdict : Verdict) → HasAll n.half → HasAll (device_on_verdict works n verdict)
judged_components works n verdict k = judge_components n.half.core.device verdict works k

pub ruleset components = (ticked_components, heard_components, judged_components, restart_components)
