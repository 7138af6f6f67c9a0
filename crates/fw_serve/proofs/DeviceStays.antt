-- What no call changes of a device: the nodes that its half is between, and its transmission unit.
-- So a device that is started anew with the images that ran is, after a restart, the device itself.
use Rattle.std.proofs.Common.{◌≡◌, ◌∙◌, ◌+◌, ◌==◌, ℕ, Bool, true, false, nat_lt, if◌then◌else◌, List, [], ◌∷◌, length, Option, ap, refl, sym}
use Rattle.fd_core.specs.Codes.{patience}
use Rattle.fd_core.specs.Commands.{CancelRow, OfferRow, RequestRow, ReturnRow, SwitchRow, TableRow, cancel_by, cancel_row, device_take, offer_by, offer_row, request_by, request_row, return_by, return_row, switch_by, switch_row, table_by, table_row, with_entry}
use Rattle.fd_core.specs.Images.{RowOf, row_without_applied, rows_after_drop}
use Rattle.fd_core.specs.States.{DeviceState, Phase, UpdateOf, WorkOf}
use Rattle.fd_core.specs.Steps.{device_timeout, judged_or, tick_at, verdict_at}
use Rattle.fd_core.specs.Wishes.{DeviceLearnRow, applied_row, apply_by, asked_length, download_by, download_row, learn_at, report_row, verified_row, verify_by}
use Rattle.fd_core.specs.declared.states.Progress.TheVariants as progress
use Rattle.fd_core.specs.declared.states.Verdict.{Verdict}
use Rattle.fd_core.specs.declared.states.Verdict.TheVariants as verdicts
use Rattle.fw_node.specs.Cores.{TimedDevice, answer_or, device_core}
use Rattle.fw_node.specs.Halves.{HalfOf, HalfOutcome, half_on_packet}
use Rattle.fw_node.specs.Nodes.{DeviceNodeOf, device_on_packet, device_restarts, node_outcome_of}
use Rattle.fw_steps.specs.Alone.{DeviceCall, device_after_call}
use Rattle.fw_steps.specs.Plays.{DeviceProcess}
use Rattle.fw_steps.specs.Traces.{DeviceAct, device_act_call, device_process_after_act}
use Rattle.fw_steps.proofs.LinksAreLanes.Hears.{half_in}
use Rattle.fw_steps.proofs.LinksAreLanes.Ticks.{same_ticks}
use Rattle.fwup_wire.specs.Values.{AnswerOf, CommandOf, OfferOf, TableEntryOf, UpdateRequestOf}
use Rattle.mctp_ctl.specs.declared.answers.Endpoint.{Endpoint}
use Rattle.mctp_wire.specs.declared.unit.Unit.{«Unit»}
use Rattle.pldm_base.specs.declared.terminus.Role.TheVariants as roles
use Rattle.fw_serve.specs.Lives.{device_anew, recounted}
use Rattle.fw_serve.specs.Traced.{device_process_after_acts}
use Rattle.fw_serve.proofs.HalvesStay.{KeepsFact, packet_between, packet_keeps, tick_keeps}

-- THE DEVICE'S TRANSMISSION UNIT

unit_if : (b : Bool) (v x y : DeviceState) → x.unit ≡ v.unit → y.unit ≡ v.unit → (if b then x else y).unit ≡ v.unit
unit_if true v x y one other = one
unit_if false v x y one other = other

requested : (v : DeviceState) (r : UpdateRequestOf) (row : RequestRow) → (request_by v r row).after.unit ≡ v.unit
requested v r (RequestRow.RefuseRequest code) = refl
requested v r RequestRow.BeginUpdate = refl

entered : (v : DeviceState) (e : TableEntryOf) (row : TableRow) → (table_by v e row).after.unit ≡ v.unit
entered v e (TableRow.RefuseEntry code) = refl
entered v e (TableRow.AddEntry u code) =
    let w = with_entry u e.key code in unit_if (length w.table == w.components) v _ _ refl refl

offered : (v : DeviceState) (o : OfferOf) (row : OfferRow) → (offer_by v o row).after.unit ≡ v.unit
offered v o (OfferRow.RefuseOffer code) = refl
offered v o (OfferRow.DeclineOffer code) = refl
offered v o (OfferRow.BeginWork u) = refl

returned : (v : DeviceState) (row : ReturnRow) → (return_by v row).after.unit ≡ v.unit
returned v (ReturnRow.RefuseReturn code) = refl
returned v (ReturnRow.ReturnReady u) = refl

switched : (v : DeviceState) (row : SwitchRow) → (switch_by v row).after.unit ≡ v.unit
switched v (SwitchRow.RefuseSwitch code) = refl
switched v SwitchRow.Switch = refl

cancelled : (v : DeviceState) (row : CancelRow) → (cancel_by v row).after.unit ≡ v.unit
cancelled v (CancelRow.RefuseCancel code) = refl
cancelled v CancelRow.Reset = refl

takes_unit : (v : DeviceState) (c : CommandOf) (quiet works : Bool) → (device_take v c quiet works).after.unit ≡ v.unit
takes_unit v (CommandOf.RequestUpdate r) quiet works = requested v r (request_row v.phase r quiet)
takes_unit v (CommandOf.PassComponentTable e) quiet works = entered v e (table_row v.rows v.phase e)
takes_unit v (CommandOf.UpdateComponent o) quiet works = offered v o (offer_row v.rows v.phase o quiet works)
takes_unit v CommandOf.CancelUpdateComponent quiet works = returned v (return_row v.phase)
takes_unit v (CommandOf.ActivateFirmware s) quiet works = switched v (switch_row v.components v.rows v.phase works)
takes_unit v CommandOf.CancelUpdate quiet works = cancelled v (cancel_row v.phase)
takes_unit v c quiet works = refl

downloaded : (v : DeviceState) (u : UpdateOf) (w : WorkOf) (row : DeviceLearnRow) → (download_by v u w row).after.unit ≡ v.unit
downloaded v u w DeviceLearnRow.Stay = refl
downloaded v u w (DeviceLearnRow.PutPiece bytes) = refl
downloaded v u w DeviceLearnRow.PutFails = refl
downloaded v u w DeviceLearnRow.NextState = refl
downloaded v u w DeviceLearnRow.Reported = refl

verified : (v : DeviceState) (u : UpdateOf) (w : WorkOf) (row : DeviceLearnRow) → (verify_by v u w row).after.unit ≡ v.unit
verified v u w DeviceLearnRow.NextState = refl
verified v u w DeviceLearnRow.Reported = refl
verified v u w row = refl

applied : (v : DeviceState) (u : UpdateOf) (w : WorkOf) (row : DeviceLearnRow) → (apply_by v u w row).after.unit ≡ v.unit
applied v u w DeviceLearnRow.NextState = refl
applied v u w DeviceLearnRow.Reported = refl
applied v u w row = refl

learns_at : (v : DeviceState) (p : Phase) (a : Option AnswerOf) (works : Bool) → (learn_at v p a works).after.unit ≡ v.unit
learns_at v (Phase.Download u w p) a works = downloaded v u w (download_row p (asked_length v.unit u w (length v.stage)) a works)
learns_at v (Phase.Verify u w p) a works = verified v u w (report_row p (verified_row a))
learns_at v (Phase.Apply u w p) a works = applied v u w (report_row p (applied_row a))
learns_at v p a works = refl

judged_at : (v : DeviceState) (p : Phase) (verdict : Verdict) (works : Bool) → (judged_or v (verdict_at v p verdict works)).unit ≡ v.unit
judged_at v (Phase.Verify u w progress.InProgress) verdicts.VerifyOk works = refl
judged_at v (Phase.Verify u w progress.InProgress) verdicts.VerifyFail works = refl
judged_at v (Phase.Apply u w progress.InProgress) verdicts.ApplyOk true = refl
judged_at v (Phase.Apply u w progress.InProgress) verdicts.ApplyOk false = refl
judged_at v (Phase.Apply u w progress.InProgress) verdicts.ApplyFail works = refl
judged_at v p verdict works = refl

waits : (more : Bool) (v : DeviceState) (idle : ℕ) → (if◌then◌else◌ {A = DeviceState × ℕ} more (v, idle + 1) (device_timeout v, 0)).0.unit ≡ v.unit
waits true v idle = refl
waits false v idle = refl

ticked_at : (p : Phase) (v : DeviceState) (idle : ℕ) → (tick_at p v idle).0.unit ≡ v.unit
ticked_at Phase.Idle v idle = refl
ticked_at Phase.Activated v idle = refl
ticked_at p v idle = waits (nat_lt (idle + 1) patience) v idle

-- the transmission unit of a device
abbrev unit_of_device : TimedDevice → «Unit»
unit_of_device d = d.device.unit

core_keeps : KeepsFact device_core unit_of_device
core_keeps = record {
  take = λ x c quiet works. takes_unit x.device c quiet works;
  learn = λ x a works. learns_at x.device x.device.phase (answer_or a) works;
  silent = λ x. refl;
  ticked = λ x. ticked_at x.device.phase x.device x.idle;
}

-- CALLS

-- one node after another: of the same endpoint, between the same nodes, with the same unit
pub record IsSameDevice (n m : DeviceNodeOf) : Type 0 where
  pub endpoint : m.endpoint ≡ n.endpoint
  pub unit : m.half.unit ≡ n.half.unit
  pub own : m.half.own ≡ n.half.own
  pub device : m.half.core.device.unit ≡ n.half.core.device.unit

-- the same of halves
record IsSameSite (h g : HalfOf TimedDevice) : Type 0 where
  unit : g.unit ≡ h.unit
  own : g.own ≡ h.own
  device : g.core.device.unit ≡ h.core.device.unit

outcome_same : (h : HalfOf TimedDevice) (endpoint : Endpoint) (tid : ℕ) (heard : HalfOutcome TimedDevice) → IsSameSite h (half_in heard)
    → IsSameSite h (node_outcome_of roles.Device endpoint tid heard).half
outcome_same h endpoint tid (HalfOutcome.Went half sent) same = same
outcome_same h endpoint tid (HalfOutcome.Took half sent command answer) same = same
outcome_same h endpoint tid (HalfOutcome.Asks half m head body) same = record { unit = same.unit; own = same.own; device = same.device }
outcome_same h endpoint tid (HalfOutcome.Strayed half m) same = same

packet_same : (works : Bool) (n : DeviceNodeOf) (bytes : List ℕ) → IsSameSite n.half (device_on_packet works n bytes).half
packet_same works n bytes =
    let b = packet_between device_core works n.half bytes in
    outcome_same n.half n.endpoint n.tid (half_on_packet device_core works n.half bytes)
    (record { unit = b.unit; own = b.own; device = packet_keeps device_core unit_of_device core_keeps works n.half bytes })

call_same : (n : DeviceNodeOf) (c : DeviceCall) → IsSameDevice n (device_after_call n c)
call_same n (DeviceCall.Receives works faults bytes) =
    let same = packet_same works n bytes in record { endpoint = refl; unit = same.unit; own = same.own; device = same.device }
call_same n DeviceCall.Ticks =
    let b = same_ticks device_core true n.half in record { endpoint = refl; unit = b.0; own = b.1; device = tick_keeps device_core unit_of_device core_keeps n.half }
call_same n (DeviceCall.Judges works faults verdict) =
    record { endpoint = refl; unit = refl; own = refl; device = judged_at n.half.core.device n.half.core.device.phase verdict works }
call_same n DeviceCall.Restarts = record { endpoint = refl; unit = refl; own = refl; device = refl }

pub acts_same : (q : DeviceProcess) (acts : List DeviceAct) → IsSameDevice q.node (device_process_after_acts q acts).node
acts_same q [] = record { endpoint = refl; unit = refl; own = refl; device = refl }
acts_same q (d ∷ acts) =
    let one = call_same q.node (device_act_call d) in
    let more = acts_same (device_process_after_act d q) acts in
    record { endpoint = more.endpoint ∙ one.endpoint; unit = more.unit ∙ one.unit; own = more.own ∙ one.own; device = more.device ∙ one.device }

-- STARTED ANEW

-- a node of a device in its network
pub record IsDeviceNode (n : DeviceNodeOf) : Type 0 where
  pub own : n.half.own ≡ n.endpoint.eid
  pub unit : n.half.core.device.unit ≡ n.half.unit

pub stays_device : (n m : DeviceNodeOf) → IsSameDevice n m → IsDeviceNode n → IsDeviceNode m
stays_device n m same is = record {
  own = same.own ∙ is.own ∙ sym (ap (λ (e : Endpoint). e.eid) same.endpoint);
  unit = same.device ∙ is.unit ∙ sym same.unit;
}

dropped_twice : (rows : List RowOf) → rows_after_drop (rows_after_drop rows) ≡ rows_after_drop rows
dropped_twice [] = refl
dropped_twice (r ∷ rs) = ap (λ (xs : List RowOf). row_without_applied r ∷ xs) (dropped_twice rs)

-- A restart of the device that is started anew leaves that of the device, with another count.
pub anew_restarts : (n : DeviceNodeOf) (faults : ℕ) → IsDeviceNode n → recounted faults (device_restarts (device_anew n)) ≡ recounted faults (device_restarts n)
anew_restarts n faults is = rw (dropped_twice n.half.core.device.rows, sym is.own, is.unit) refl
