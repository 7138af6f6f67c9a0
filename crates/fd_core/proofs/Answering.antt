-- The reply to each command is an answer to it.
use Rattle.std.proofs.Common.{◌≡◌, Bool, true, refl}
use Rattle.fwup_wire.specs.Answers.{answers_command}
use Rattle.fwup_wire.specs.Commands.{command_code}
use Rattle.fwup_wire.specs.Values.{CommandOf, TableEntryOf, OfferOf, UpdateRequestOf}
use Rattle.fd_core.specs.Commands.{CancelRow, OfferRow, RequestRow, ReturnRow, SwitchRow, TableRow, cancel_by, cancel_row, device_answer, offer_by, offer_row, request_by, request_row, return_by, return_row, switch_by, switch_row, table_by, table_row}
use Rattle.fd_core.specs.States.{DeviceState}

requests : (v : DeviceState) (r : UpdateRequestOf) (row : RequestRow) → answers_command 0x10 (request_by v r row).answer ≡ true
requests v r (RequestRow.RefuseRequest code) = refl
requests v r RequestRow.BeginUpdate = refl

entries : (v : DeviceState) (e : TableEntryOf) (row : TableRow) → answers_command 0x13 (table_by v e row).answer ≡ true
entries v e (TableRow.RefuseEntry code) = refl
entries v e (TableRow.AddEntry u code) = refl

offers : (v : DeviceState) (o : OfferOf) (row : OfferRow) → answers_command 0x14 (offer_by v o row).answer ≡ true
offers v o (OfferRow.RefuseOffer code) = refl
offers v o (OfferRow.DeclineOffer code) = refl
offers v o (OfferRow.BeginWork u) = refl

returns : (v : DeviceState) (row : ReturnRow) → answers_command 0x1C (return_by v row).answer ≡ true
returns v (ReturnRow.RefuseReturn code) = refl
returns v (ReturnRow.ReturnReady u) = refl

switches : (v : DeviceState) (row : SwitchRow) → answers_command 0x1A (switch_by v row).answer ≡ true
switches v (SwitchRow.RefuseSwitch code) = refl
switches v SwitchRow.Switch = refl

cancels : (v : DeviceState) (row : CancelRow) → answers_command 0x1D (cancel_by v row).answer ≡ true
cancels v (CancelRow.RefuseCancel code) = refl
cancels v CancelRow.Reset = refl

pub answers_its_command : (v : DeviceState) (c : CommandOf) (quiet works : Bool) → answers_command (command_code c) (device_answer v c quiet works) ≡ true
answers_its_command v (CommandOf.RequestUpdate r) quiet works = requests v r (request_row v.phase r quiet)
answers_its_command v (CommandOf.PassComponentTable e) quiet works = entries v e (table_row v.rows v.phase e)
answers_its_command v (CommandOf.UpdateComponent o) quiet works = offers v o (offer_row v.rows v.phase o quiet works)
answers_its_command v CommandOf.CancelUpdateComponent quiet works = returns v (return_row v.phase)
answers_its_command v (CommandOf.ActivateFirmware s) quiet works = switches v (switch_row v.components v.rows v.phase works)
answers_its_command v CommandOf.CancelUpdate quiet works = cancels v (cancel_row v.phase)
answers_its_command v c quiet works = refl
