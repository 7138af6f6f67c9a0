-- No event changes the components of a device and its bank.
use Rattle.std.proofs.Common.{◌≡◌, ◌==◌, is_some, nat_lt, List, Bool, true, false, Option, Some, None, map, length, if◌then◌else◌, ap, refl, ◌∙◌}
use Rattle.fd_core.specs.Banks.{has_key}
use Rattle.pldm_base.specs.Codes.{invalid_data}
use Rattle.fd_core.specs.Codes.{longest_image, not_supported}
use Rattle.fd_core.specs.Commands.{CancelRow, OfferRow, RequestRow, ReturnRow, SwitchRow, TableRow, cancel_by, cancel_row, device_after, in_table, device_with_table, offer_by, offer_row, offer_rule, offer_under, request_by, request_row, return_by, return_row, switch_by, switch_row, table_by, table_row, with_entry}
use Rattle.fd_core.specs.Images.{RowOf, rows_after_drop, key_of, row_of}
use Rattle.fd_core.specs.States.{DeviceState, Phase, UpdateOf, WorkOf}
use Rattle.fd_core.specs.Steps.{device_restart, device_timeout, judged_or, verdict_after, verdict_at}
use Rattle.fd_core.specs.Wishes.{DeviceLearnRow, apply_by, asked_length, device_learn, download_by, download_row, learn_at, report_row, applied_row, verified_row, verify_by}
use Rattle.fd_core.specs.declared.states.Progress.TheVariants as progress
use Rattle.fd_core.specs.declared.states.Verdict.{Verdict}
use Rattle.fd_core.specs.declared.states.Verdict.TheVariants as verdicts
use Rattle.fwup_wire.specs.Values.{AnswerOf, CommandOf, TableEntryOf, OfferOf, UpdateRequestOf}
use Rattle.fd_core.proofs.Rows.{has_row, keys_dropped, keys_sealed, keys_switched}
use Rattle.fd_core.specs.Components.{HasComponents, IsOneOf}

-- a device with the same components, whose bank has the same keys
with_keys : (v w : DeviceState) → map key_of w.rows ≡ map key_of v.rows → w.components ≡ v.components → IsOneOf (map key_of v.rows) w.phase → HasComponents v → HasComponents w
with_keys v w keys components known h = record { keys = rw (keys, components) h.keys; apart = rw keys h.apart; known = rw keys known }

reset_components : (v w : DeviceState) → w.rows ≡ rows_after_drop v.rows → w.components ≡ v.components → IsOneOf (map key_of v.rows) w.phase → HasComponents v → HasComponents w
reset_components v w rows components known h = with_keys v w (ap (map key_of) rows ∙ keys_dropped v.rows) components known h

-- an accepted offer is of a component that the device has
ruled : (row : Option RowOf) (o : OfferOf) (u v : UpdateOf) (works : Bool) → offer_under u (offer_rule row o) works ≡ OfferRow.BeginWork v → is_some row ≡ true
ruled None o u v works e = absurd (cc)
ruled (Some row) o u v works e = refl

restricted : (listed : Bool) (row : Option RowOf) (o : OfferOf) (u v : UpdateOf) (works : Bool) → offer_under u (if listed then offer_rule row o else not_supported) works ≡ OfferRow.BeginWork v → is_some row ≡ true
restricted true row o u v works e = ruled row o u v works e
restricted false row o u v works e = absurd (cc)

sized : (large : Bool) (row : OfferRow) (v : UpdateOf) → (if large then OfferRow.RefuseOffer invalid_data else row) ≡ OfferRow.BeginWork v → row ≡ OfferRow.BeginWork v
sized true row v e = absurd (cc)
sized false row v e = e

offer_known : (rows : List RowOf) (p : Phase) (o : OfferOf) (quiet works : Bool) (v : UpdateOf) → offer_row rows p o quiet works ≡ OfferRow.BeginWork v → has_key (map key_of rows) o.key ≡ true
offer_known rows (Phase.Ready u) o true works v e =
    has_row rows o.key ∙ restricted (in_table u.table o.key) (row_of rows o.key) o u v works (sized (nat_lt longest_image o.size) _ v e)
offer_known rows (Phase.Ready u) o false works v e = absurd (cc)
offer_known rows Phase.Idle o quiet works v e = absurd (cc)
offer_known rows p o quiet works v e = absurd (cc)

-- a restart, a time-out
pub restart_components : (v : DeviceState) → HasComponents v → HasComponents (device_restart v)
restart_components v h = reset_components v (device_restart v) refl refl tt h

pub timeout_components : (v : DeviceState) → HasComponents v → HasComponents (device_timeout v)
timeout_components v h = reset_components v (device_timeout v) refl refl tt h

-- a command
requested : (v : DeviceState) (r : UpdateRequestOf) (row : RequestRow) → HasComponents v → HasComponents (request_by v r row).after
requested v r (RequestRow.RefuseRequest code) h = h
requested v r RequestRow.BeginUpdate h = reset_components v (request_by v r RequestRow.BeginUpdate).after refl refl tt h

listed_or : (v : DeviceState) (u : UpdateOf) (b : Bool) → length u.table == u.components ≡ b → HasComponents v → HasComponents (device_with_table v u)
listed_or v u true e h = rw e (with_keys v _ refl refl tt h)
listed_or v u false e h = rw e (with_keys v _ refl refl tt h)

entered : (v : DeviceState) (e : TableEntryOf) (row : TableRow) → HasComponents v → HasComponents (table_by v e row).after
entered v e (TableRow.RefuseEntry code) h = h
entered v e (TableRow.AddEntry u code) h = listed_or v (with_entry u e.key code) _ refl h

offered : (v : DeviceState) (o : OfferOf) (quiet works : Bool) (row : OfferRow) → offer_row v.rows v.phase o quiet works ≡ row → HasComponents v → HasComponents (offer_by v o row).after
offered v o quiet works (OfferRow.RefuseOffer code) e h = h
offered v o quiet works (OfferRow.DeclineOffer code) e h = h
offered v o quiet works (OfferRow.BeginWork u) e h =
    with_keys v (offer_by v o (OfferRow.BeginWork u)).after refl refl (offer_known v.rows v.phase o quiet works u e) h

returned : (v : DeviceState) (row : ReturnRow) → HasComponents v → HasComponents (return_by v row).after
returned v (ReturnRow.RefuseReturn code) h = h
returned v (ReturnRow.ReturnReady u) h = with_keys v (return_by v (ReturnRow.ReturnReady u)).after refl refl tt h

switches : (v : DeviceState) (row : SwitchRow) → HasComponents v → HasComponents (switch_by v row).after
switches v (SwitchRow.RefuseSwitch code) h = h
switches v SwitchRow.Switch h = with_keys v (switch_by v SwitchRow.Switch).after (keys_switched v.rows) refl tt h

cancelled : (v : DeviceState) (row : CancelRow) → HasComponents v → HasComponents (cancel_by v row).after
cancelled v (CancelRow.RefuseCancel code) h = h
cancelled v CancelRow.Reset h = reset_components v (cancel_by v CancelRow.Reset).after refl refl tt h

pub take_components : (v : DeviceState) (c : CommandOf) (quiet works : Bool) → HasComponents v → HasComponents (device_after v c quiet works)
take_components v (CommandOf.RequestUpdate r) quiet works h = requested v r (request_row v.phase r quiet) h
take_components v (CommandOf.PassComponentTable e) quiet works h = entered v e (table_row v.rows v.phase e) h
take_components v (CommandOf.UpdateComponent o) quiet works h = offered v o quiet works (offer_row v.rows v.phase o quiet works) refl h
take_components v CommandOf.CancelUpdateComponent quiet works h = returned v (return_row v.phase) h
take_components v (CommandOf.ActivateFirmware s) quiet works h = switches v (switch_row v.components v.rows v.phase works) h
take_components v CommandOf.CancelUpdate quiet works h = cancelled v (cancel_row v.phase) h
take_components v c quiet works h = h

-- an answer
downloaded : (v : DeviceState) (u : UpdateOf) (w : WorkOf) (row : DeviceLearnRow) → has_key (map key_of v.rows) w.key ≡ true → HasComponents v → HasComponents (download_by v u w row).after
downloaded v u w DeviceLearnRow.Stay known h = h
downloaded v u w (DeviceLearnRow.PutPiece bytes) known h = with_keys v (download_by v u w (DeviceLearnRow.PutPiece bytes)).after refl refl known h
downloaded v u w DeviceLearnRow.PutFails known h = with_keys v (download_by v u w DeviceLearnRow.PutFails).after refl refl known h
downloaded v u w DeviceLearnRow.NextState known h = with_keys v (download_by v u w DeviceLearnRow.NextState).after refl refl known h
downloaded v u w DeviceLearnRow.Reported known h = with_keys v (download_by v u w DeviceLearnRow.Reported).after refl refl known h

verified : (v : DeviceState) (u : UpdateOf) (w : WorkOf) (row : DeviceLearnRow) → has_key (map key_of v.rows) w.key ≡ true → HasComponents v → HasComponents (verify_by v u w row).after
verified v u w DeviceLearnRow.NextState known h = with_keys v (verify_by v u w DeviceLearnRow.NextState).after refl refl known h
verified v u w DeviceLearnRow.Reported known h = with_keys v (verify_by v u w DeviceLearnRow.Reported).after refl refl known h
verified v u w row known h = h

applied : (v : DeviceState) (u : UpdateOf) (w : WorkOf) (row : DeviceLearnRow) → has_key (map key_of v.rows) w.key ≡ true → HasComponents v → HasComponents (apply_by v u w row).after
applied v u w DeviceLearnRow.NextState known h = with_keys v (apply_by v u w DeviceLearnRow.NextState).after refl refl tt h
applied v u w DeviceLearnRow.Reported known h = with_keys v (apply_by v u w DeviceLearnRow.Reported).after refl refl known h
applied v u w row known h = h

learnt_at : (v : DeviceState) (p : Phase) (a : Option AnswerOf) (works : Bool) → IsOneOf (map key_of v.rows) p → HasComponents v → HasComponents (learn_at v p a works).after
learnt_at v (Phase.Download u w p) a works known h = downloaded v u w (download_row p (asked_length v.unit u w (length v.stage)) a works) known h
learnt_at v (Phase.Verify u w p) a works known h = verified v u w (report_row p (verified_row a)) known h
learnt_at v (Phase.Apply u w p) a works known h = applied v u w (report_row p (applied_row a)) known h
learnt_at v p a works known h = h

pub learn_components : (v : DeviceState) (a : Option AnswerOf) (works : Bool) → HasComponents v → HasComponents (device_learn v a works)
learn_components v a works h = learnt_at v v.phase a works h.known h

-- a verdict
judged_at : (v : DeviceState) (p : Phase) (verdict : Verdict) (works : Bool) → IsOneOf (map key_of v.rows) p → HasComponents v → HasComponents (judged_or v (verdict_at v p verdict works))
judged_at v (Phase.Verify u w progress.InProgress) verdicts.VerifyOk works known h = with_keys v _ refl refl known h
judged_at v (Phase.Verify u w progress.InProgress) verdicts.VerifyFail works known h = with_keys v _ refl refl known h
judged_at v (Phase.Apply u w progress.InProgress) verdicts.ApplyOk true known h = with_keys v _ (keys_sealed v.rows w.key _) refl known h
judged_at v (Phase.Apply u w progress.InProgress) verdicts.ApplyOk false known h = with_keys v _ refl refl known h
judged_at v (Phase.Apply u w progress.InProgress) verdicts.ApplyFail works known h = with_keys v _ refl refl known h
judged_at v p verdict works known h = h

pub judge_components : (v : DeviceState) (verdict : Verdict) (works : Bool) → HasComponents v → HasComponents (verdict_after v verdict works)
judge_components v verdict works h = judged_at v v.phase verdict works h.known h
