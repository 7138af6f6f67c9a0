-- A device whose values fit the fields of messages still does after each step.
use Rattle.std.proofs.Common.{◌≡◌, ◌<◌, ◌≤◌, ◌^◌, ◌-◌, ◌==◌, ℕ, Bool, true, false, if◌then◌else◌, nat_lt, List, [], ◌∷◌, length, take, Option, Some, None, IfSome, refl, arith}
use Rattle.std.specs.List.{AllByRecursion}
use Rattle.std.proofs.lemmas.List.{length-append, length-take}
use Rattle.std.proofs.lemmas.Bool.{ltb-false}
use Rattle.pldm_base.specs.Codes.{invalid_data}
use Rattle.fwup_wire.specs.Commands.{HasCommandWidths}
use Rattle.fwup_wire.specs.Values.{AnswerOf, CommandOf, TableEntryOf, OfferOf, UpdateRequestOf, VersionOf}
use Rattle.fwup_wire.specs.declared.values.Key.{Key}
use Rattle.fd_core.specs.Codes.{longest_image}
use Rattle.fd_core.specs.Commands.{CancelRow, OfferRow, RequestRow, ReturnRow, SwitchRow, TableRow, cancel_by, cancel_row, device_after, device_with_table, offer_by, offer_restriction, offer_row, offer_under, request_by, request_row, return_by, return_row, switch_by, switch_row, table_by, table_row, with_entry}
use Rattle.fd_core.specs.Images.{ImageOf, RowOf, rows_after_drop, label_of, same_key, rows_after_seal, sealed_if, rows_after_switch, row_after_switch_to}
use Rattle.fd_core.specs.States.{DeviceState, Phase, UpdateOf, WorkOf}
use Rattle.fd_core.specs.Steps.{device_restart, device_timeout, judged_or, verdict_after, verdict_at, written_image}
use Rattle.fd_core.specs.Wishes.{DeviceLearnRow, apply_by, asked_length, device_learn, download_by, download_row, learn_at, report_row, applied_row, stage_with, verified_row, verify_by}
use Rattle.fd_core.specs.declared.states.Progress.TheVariants as progress
use Rattle.fd_core.specs.declared.states.Verdict.{Verdict}
use Rattle.fd_core.specs.declared.states.Verdict.TheVariants as verdicts
use Rattle.fw_steps.specs.Widths.{HasDeviceWidths, HasImageWidths, HasLabelWidths, HasPhaseWidths, HasRowWidths}

-- ROWS

rows_dropped : (rows : List RowOf) → AllByRecursion HasRowWidths rows → AllByRecursion HasRowWidths (rows_after_drop rows)
rows_dropped [] h = tt
rows_dropped (row ∷ rows) h = (record { active = h.0.active; applied = tt }, rows_dropped rows h.1)

row_turned : (row : RowOf) (o : Option ImageOf) → HasRowWidths row → IfSome o HasImageWidths → HasRowWidths (row_after_switch_to row o)
row_turned row None h k = h
row_turned row (Some image) h k = record { active = k; applied = tt }

rows_switched : (rows : List RowOf) → AllByRecursion HasRowWidths rows → AllByRecursion HasRowWidths (rows_after_switch rows)
rows_switched [] h = tt
rows_switched (row ∷ rows) h = (row_turned row row.applied h.0 h.0.applied, rows_switched rows h.1)

row_sealed : (same : Bool) (row : RowOf) (image : ImageOf) → HasRowWidths row → HasImageWidths image → HasRowWidths (sealed_if same row image)
row_sealed true row image h k = record { active = h.active; applied = k }
row_sealed false row image h k = h

rows_sealed : (rows : List RowOf) (key : Key) (image : ImageOf) → AllByRecursion HasRowWidths rows → HasImageWidths image → AllByRecursion HasRowWidths (rows_after_seal rows key image)
rows_sealed [] key image h k = tt
rows_sealed (row ∷ rows) key image h k = (row_sealed (same_key row.key key) row image h.0 k, rows_sealed rows key image h.1 k)

-- A DEVICE

-- a device with the same descriptors and components, with these rows and in this phase
with_rows : (v w : DeviceState) → w.descriptors ≡ v.descriptors → w.components ≡ v.components → AllByRecursion HasRowWidths w.rows → HasPhaseWidths w.phase (length w.stage) → HasDeviceWidths v → HasDeviceWidths w
with_rows v w ds cs rows phase h = record {
  told = record {
    descriptors = rw ds h.told.descriptors;
    components = rw cs h.told.components;
    few = rw cs h.told.few;
  };
  rows = rows;
  phase = phase;
}

pub restart_speaks : (v : DeviceState) → HasDeviceWidths v → HasDeviceWidths (device_restart v)
restart_speaks v h = with_rows v (device_restart v) refl refl (rows_dropped v.rows h.rows) tt h

pub timeout_speaks : (v : DeviceState) → HasDeviceWidths v → HasDeviceWidths (device_timeout v)
timeout_speaks v h = with_rows v (device_timeout v) refl refl (rows_dropped v.rows h.rows) tt h

-- a command
requested : (v : DeviceState) (r : UpdateRequestOf) (row : RequestRow) → HasDeviceWidths v → HasDeviceWidths (request_by v r row).after
requested v r (RequestRow.RefuseRequest code) h = h
requested v r RequestRow.BeginUpdate h = with_rows v (request_by v r RequestRow.BeginUpdate).after refl refl (rows_dropped v.rows h.rows) tt h

listed_or : (v : DeviceState) (u : UpdateOf) (b : Bool) → length u.table == u.components ≡ b → HasDeviceWidths v → HasDeviceWidths (device_with_table v u)
listed_or v u true e h = rw e (with_rows v _ refl refl h.rows tt h)
listed_or v u false e h = rw e (with_rows v _ refl refl h.rows tt h)

entered : (v : DeviceState) (e : TableEntryOf) (row : TableRow) → HasDeviceWidths v → HasDeviceWidths (table_by v e row).after
entered v e (TableRow.RefuseEntry code) h = h
entered v e (TableRow.AddEntry u code) h = listed_or v (with_entry u e.key code) _ refl h

-- the label that is kept of a version fits
label_tells : (version : VersionOf) → version.stamp < 256 ^ 4 → HasLabelWidths (label_of version)
label_tells version h = record { stamp = h; text = rw (length-take 12 version.text.bytes) (omega arith) }

-- an offer that is taken up isn't too large
sized : (large : Bool) (row : OfferRow) (u : UpdateOf) → (if large then OfferRow.RefuseOffer invalid_data else row) ≡ OfferRow.BeginWork u → large ≡ false
sized true row u e = absurd (cc)
sized false row u e = refl

size_fits : (rows : List RowOf) (p : Phase) (o : OfferOf) (quiet works : Bool) (u : UpdateOf) → offer_row rows p o quiet works ≡ OfferRow.BeginWork u → o.size < 256 ^ 4
size_fits rows (Phase.Ready t) o true works u e =
    omega (arith, ltb-false longest_image o.size (sized (nat_lt longest_image o.size) (offer_under t (offer_restriction rows t.table o) works) u e))
size_fits rows (Phase.Ready t) o false works u e = absurd (cc)
size_fits rows Phase.Idle o quiet works u e = absurd (cc)
size_fits rows p o quiet works u e = absurd (cc)

offered : (v : DeviceState) (o : OfferOf) (quiet works : Bool) (row : OfferRow) → offer_row v.rows v.phase o quiet works ≡ row → o.version.stamp < 256 ^ 4 → HasDeviceWidths v → HasDeviceWidths (offer_by v o row).after
offered v o quiet works (OfferRow.RefuseOffer code) e stamp h = h
offered v o quiet works (OfferRow.DeclineOffer code) e stamp h = h
offered v o quiet works (OfferRow.BeginWork u) e stamp h =
    with_rows v (offer_by v o (OfferRow.BeginWork u)).after refl refl h.rows (label_tells o.version stamp, omega arith, size_fits v.rows v.phase o quiet works u e) h

returned : (v : DeviceState) (row : ReturnRow) → HasDeviceWidths v → HasDeviceWidths (return_by v row).after
returned v (ReturnRow.RefuseReturn code) h = h
returned v (ReturnRow.ReturnReady u) h = with_rows v (return_by v (ReturnRow.ReturnReady u)).after refl refl h.rows tt h

switches : (v : DeviceState) (row : SwitchRow) → HasDeviceWidths v → HasDeviceWidths (switch_by v row).after
switches v (SwitchRow.RefuseSwitch code) h = h
switches v SwitchRow.Switch h = with_rows v (switch_by v SwitchRow.Switch).after refl refl (rows_switched v.rows h.rows) tt h

cancelled : (v : DeviceState) (row : CancelRow) → HasDeviceWidths v → HasDeviceWidths (cancel_by v row).after
cancelled v (CancelRow.RefuseCancel code) h = h
cancelled v CancelRow.Reset h = with_rows v (cancel_by v CancelRow.Reset).after refl refl (rows_dropped v.rows h.rows) tt h

pub take_speaks : (v : DeviceState) (c : CommandOf) (quiet works : Bool) → HasCommandWidths c → HasDeviceWidths v → HasDeviceWidths (device_after v c quiet works)
take_speaks v (CommandOf.RequestUpdate r) quiet works k h = requested v r (request_row v.phase r quiet) h
take_speaks v (CommandOf.PassComponentTable e) quiet works k h = entered v e (table_row v.rows v.phase e) h
take_speaks v (CommandOf.UpdateComponent o) quiet works k h = offered v o quiet works (offer_row v.rows v.phase o quiet works) refl k.0.2 h
take_speaks v CommandOf.CancelUpdateComponent quiet works k h = returned v (return_row v.phase) h
take_speaks v (CommandOf.ActivateFirmware s) quiet works k h = switches v (switch_row v.components v.rows v.phase works) h
take_speaks v CommandOf.CancelUpdate quiet works k h = cancelled v (cancel_row v.phase) h
take_speaks v c quiet works k h = h

-- an answer
stored : (v : DeviceState) (w : WorkOf) (bytes : List ℕ) → length v.stage ≤ w.size → length (stage_with v w bytes) ≤ w.size
stored v w bytes h =
    rw (length-append v.stage (take (w.size - length v.stage) bytes), length-take (w.size - length v.stage) bytes) (omega (arith, h))

downloaded : (v : DeviceState) (u : UpdateOf) (w : WorkOf) (row : DeviceLearnRow) → HasPhaseWidths (Phase.Download u w progress.InProgress) (length v.stage) → HasDeviceWidths v → HasDeviceWidths (download_by v u w row).after
downloaded v u w DeviceLearnRow.Stay k h = h
downloaded v u w (DeviceLearnRow.PutPiece bytes) k h =
    with_rows v (download_by v u w (DeviceLearnRow.PutPiece bytes)).after refl refl h.rows (k.0, stored v w bytes k.1, k.2) h
downloaded v u w DeviceLearnRow.PutFails k h = with_rows v (download_by v u w DeviceLearnRow.PutFails).after refl refl h.rows k h
downloaded v u w DeviceLearnRow.NextState k h = with_rows v (download_by v u w DeviceLearnRow.NextState).after refl refl h.rows k.0 h
downloaded v u w DeviceLearnRow.Reported k h = with_rows v (download_by v u w DeviceLearnRow.Reported).after refl refl h.rows k h

verified : (v : DeviceState) (u : UpdateOf) (w : WorkOf) (row : DeviceLearnRow) → HasLabelWidths w.label → HasDeviceWidths v → HasDeviceWidths (verify_by v u w row).after
verified v u w DeviceLearnRow.NextState k h = with_rows v (verify_by v u w DeviceLearnRow.NextState).after refl refl h.rows k h
verified v u w DeviceLearnRow.Reported k h = with_rows v (verify_by v u w DeviceLearnRow.Reported).after refl refl h.rows k h
verified v u w row k h = h

applied : (v : DeviceState) (u : UpdateOf) (w : WorkOf) (row : DeviceLearnRow) → HasLabelWidths w.label → HasDeviceWidths v → HasDeviceWidths (apply_by v u w row).after
applied v u w DeviceLearnRow.NextState k h = with_rows v (apply_by v u w DeviceLearnRow.NextState).after refl refl h.rows tt h
applied v u w DeviceLearnRow.Reported k h = with_rows v (apply_by v u w DeviceLearnRow.Reported).after refl refl h.rows k h
applied v u w row k h = h

learnt_at : (v : DeviceState) (p : Phase) (a : Option AnswerOf) (works : Bool) → HasPhaseWidths p (length v.stage) → HasDeviceWidths v → HasDeviceWidths (learn_at v p a works).after
learnt_at v (Phase.Download u w p) a works k h = downloaded v u w (download_row p (asked_length v.unit u w (length v.stage)) a works) k h
learnt_at v (Phase.Verify u w p) a works k h = verified v u w (report_row p (verified_row a)) k h
learnt_at v (Phase.Apply u w p) a works k h = applied v u w (report_row p (applied_row a)) k h
learnt_at v p a works k h = h

pub learn_speaks : (v : DeviceState) (a : Option AnswerOf) (works : Bool) → HasDeviceWidths v → HasDeviceWidths (device_learn v a works)
learn_speaks v a works h = learnt_at v v.phase a works h.phase h

-- a verdict
judged_at : (v : DeviceState) (p : Phase) (verdict : Verdict) (works : Bool) → HasPhaseWidths p (length v.stage) → HasDeviceWidths v → HasDeviceWidths (judged_or v (verdict_at v p verdict works))
judged_at v (Phase.Verify u w progress.InProgress) verdicts.VerifyOk works k h = with_rows v _ refl refl h.rows k h
judged_at v (Phase.Verify u w progress.InProgress) verdicts.VerifyFail works k h = with_rows v _ refl refl h.rows k h
judged_at v (Phase.Apply u w progress.InProgress) verdicts.ApplyOk true k h = with_rows v _ refl refl (rows_sealed v.rows w.key (written_image v w) h.rows k) k h
judged_at v (Phase.Apply u w progress.InProgress) verdicts.ApplyOk false k h = with_rows v _ refl refl h.rows k h
judged_at v (Phase.Apply u w progress.InProgress) verdicts.ApplyFail works k h = with_rows v _ refl refl h.rows k h
judged_at v p verdict works k h = h

pub judge_speaks : (v : DeviceState) (verdict : Verdict) (works : Bool) → HasDeviceWidths v → HasDeviceWidths (verdict_after v verdict works)
judge_speaks v verdict works h = judged_at v v.phase verdict works h.phase h
