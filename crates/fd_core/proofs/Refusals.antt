-- A command that is answered by a refusal is refused, case by case.
use Rattle.std.proofs.Common.{◌≡◌, Bool, ap, refl, true}
use Rattle.fwup_wire.specs.Values.{CommandOf, TableEntryOf, OfferOf, UpdateRequestOf}
use Rattle.fd_core.specs.Commands.{CancelRow, OfferRow, RequestRow, ReturnRow, SwitchRow, TableRow, CommandEffect, cancel_by, cancel_row, device_take, offer_by, offer_row, request_by, request_row, return_by, return_row, switch_by, switch_row, table_by, table_row, effect_of_answer}
use Rattle.fd_core.specs.Laws.{RefusalsActivateNothing, RefusalsKeepTheDevice, RefusalsKeepDeviceIdle, is_refusal}
use Rattle.fd_core.specs.States.{DeviceState, idle_count_if}

-- a refusal has no other effect
abbrev IsRefusal : DeviceState → CommandEffect → Type 0
IsRefusal v t = is_refusal t.answer ≡ true → t ≡ effect_of_answer v t.answer

requests : (v : DeviceState) (r : UpdateRequestOf) (row : RequestRow) → IsRefusal v (request_by v r row)
requests v r (RequestRow.RefuseRequest code) e = refl
requests v r RequestRow.BeginUpdate e = absurd (cc)

entries : (v : DeviceState) (e : TableEntryOf) (row : TableRow) → IsRefusal v (table_by v e row)
entries v e (TableRow.RefuseEntry code) same = refl
entries v e (TableRow.AddEntry u code) same = absurd (cc)

offers : (v : DeviceState) (o : OfferOf) (row : OfferRow) → IsRefusal v (offer_by v o row)
offers v o (OfferRow.RefuseOffer code) e = refl
offers v o (OfferRow.DeclineOffer code) e = refl
offers v o (OfferRow.BeginWork u) e = absurd (cc)

returns : (v : DeviceState) (row : ReturnRow) → IsRefusal v (return_by v row)
returns v (ReturnRow.RefuseReturn code) e = refl
returns v (ReturnRow.ReturnReady u) e = absurd (cc)

switches : (v : DeviceState) (row : SwitchRow) → IsRefusal v (switch_by v row)
switches v (SwitchRow.RefuseSwitch code) e = refl
switches v SwitchRow.Switch e = absurd (cc)

cancels : (v : DeviceState) (row : CancelRow) → IsRefusal v (cancel_by v row)
cancels v (CancelRow.RefuseCancel code) e = refl
cancels v CancelRow.Reset e = absurd (cc)

refusals : (v : DeviceState) (c : CommandOf) (quiet works : Bool) → IsRefusal v (device_take v c quiet works)
refusals v (CommandOf.RequestUpdate r) quiet works = requests v r (request_row v.phase r quiet)
refusals v (CommandOf.PassComponentTable e) quiet works = entries v e (table_row v.rows v.phase e)
refusals v (CommandOf.UpdateComponent o) quiet works = offers v o (offer_row v.rows v.phase o quiet works)
refusals v CommandOf.CancelUpdateComponent quiet works = returns v (return_row v.phase)
refusals v (CommandOf.ActivateFirmware s) quiet works = switches v (switch_row v.components v.rows v.phase works)
refusals v CommandOf.CancelUpdate quiet works = cancels v (cancel_row v.phase)
refusals v c quiet works = λ e. refl

pub refusals_keep : RefusalsKeepTheDevice
refusals_keep v c quiet works e = ap (λ t. t.after) (refusals v c quiet works e)

pub refusals_activate : RefusalsActivateNothing
refusals_activate v c quiet works e = ap (λ t. t.activated) (refusals v c quiet works e)

pub refusals_stir : RefusalsKeepDeviceIdle
refusals_stir idle v c quiet works e = ap (λ t. idle_count_if idle t.stirs) (refusals v c quiet works e)
