-- A device's handling of commands (DSP0267 1.0): for each command, the cases of refusal and
-- acceptance, and the effect of each case. The tests of a case are in their order. `quiet` is true
-- if no request of the device is in progress. `works` is true if the case's one call of the bank
-- succeeds.
use Rattle.std.specs.Prelude.{[], ◌&&◌, ◌≡◌, ◌+◌, ◌++◌, ◌==◌, ◌||◌, ◌∷◌, ◌≤◌, Bool, List, None, Option, Some, false, if◌then◌else◌, is_some, length, map, nat_lt, not, true, ℕ}
use Rattle.mctp_wire.specs.declared.unit.Unit.TheVariants.{U64}
use Rattle.pldm_base.specs.Limits.{reply_limit}
use Rattle.fd_core.specs.Codes.{activation_not_required, already_in_update_mode, application_failed, can_be_updated, cannot_be_updated, incomplete_update, invalid_state_for_command, longest_image, most_components, no_restriction, no_stamp, not_in_update_mode, not_supported, progress_unsupported, stamp_identical, stamp_lower, transfer_failed, verification_failed}
use Rattle.fd_core.specs.Images.{KeyedImage, RowOf, applied_of, active_of, rows_after_drop, label_of, applied_keyed_images, row_of, same_key, rows_after_switch, version_at}
use Rattle.fd_core.specs.States.{DeviceState, DeviceOf, Phase, UpdateOf, WorkOf, device_in_phase, device_after_reset, idle_count_if, state_of}
use Rattle.fd_core.specs.declared.parts.BankComponent.{BankComponent}
use Rattle.fd_core.specs.declared.parts.Listed.{Listed}
use Rattle.fd_core.specs.declared.states.Progress.{Progress}
use Rattle.fd_core.specs.declared.states.Progress.TheVariants as progress
use Rattle.fd_core.specs.declared.states.Reason.{Reason}
use Rattle.fd_core.specs.declared.states.Reason.TheVariants as reasons
use Rattle.fd_core.specs.declared.states.State.{State}
use Rattle.fd_core.specs.declared.states.State.TheVariants as states
use Rattle.fwup_wire.specs.Answers.{answer_bytes}
use Rattle.fwup_wire.specs.Fields.{flag_byte}
use Rattle.fwup_wire.specs.Values.{AnswerOf, CommandOf, TableEntryOf, OfferOf, ParametersOf, UpdateRequestOf}
use Rattle.fwup_wire.specs.declared.answer.OfferResponse.{OfferResponse}
use Rattle.fwup_wire.specs.declared.answer.Status.{Status}
use Rattle.fwup_wire.specs.declared.answer.TableResponse.{TableResponse}
use Rattle.fwup_wire.specs.declared.values.Key.{Key}
use Rattle.fwup_wire.specs.declared.values.TransferFlag.{TransferFlag}
use Rattle.fwup_wire.specs.declared.values.TransferFlag.TheVariants as flags
use Rattle.fwup_wire.specs.declared.transfers.TheConstants.{MIN_TRANSFER}
use Rattle.pldm_base.specs.Codes.{error, invalid_data, not_ready, unsupported_command}

-- The effect of a command: the device after it, the answer, the images that it activates, and
-- whether the count of ticks without a change restarts.
pub record CommandEffect : Type 0 where
  pub after : DeviceState
  pub answer : AnswerOf
  pub activated : List KeyedImage
  pub stirs : Bool

-- the device is unchanged, and refuses or reports
abbrev pub effect_of_answer : DeviceState → AnswerOf → CommandEffect
effect_of_answer v a = record { after = v; answer = a; activated = []; stirs = false }

abbrev pub refused : DeviceState → ℕ → CommandEffect
refused v code = effect_of_answer v (AnswerOf.Refused code)

-- the device changes, and activates nothing
abbrev pub effect_of_success : DeviceState → AnswerOf → CommandEffect
effect_of_success v a = record { after = v; answer = a; activated = []; stirs = true }

-- RequestUpdate

pub data RequestRow : Type 0 where
  RefuseRequest : (code : ℕ) → RequestRow
  BeginUpdate : RequestRow

-- whether the request is invalid for any update: too few bytes at once, no component or too many
abbrev pub is_odd_request : UpdateRequestOf → Bool
is_odd_request r = nat_lt r.transfer_size MIN_TRANSFER || ((r.components == 0) || nat_lt most_components r.components)

abbrev pub request_row : Phase → UpdateRequestOf → Bool → RequestRow
request_row Phase.Idle r false = RequestRow.RefuseRequest not_ready
request_row Phase.Idle r true = if is_odd_request r then RequestRow.RefuseRequest invalid_data else RequestRow.BeginUpdate
request_row p r quiet = RequestRow.RefuseRequest already_in_update_mode

abbrev pub update_begun : UpdateRequestOf → UpdateOf
update_begun r = record { transfer_size = r.transfer_size; components = r.components; table = [] }

abbrev pub request_by : DeviceState → UpdateRequestOf → RequestRow → CommandEffect
request_by v r (RequestRow.RefuseRequest code) = refused v code
request_by v r RequestRow.BeginUpdate =
    effect_of_success (device_in_phase (record v { rows = rows_after_drop v.rows }) (Phase.Learn (update_begun r))) AnswerOf.RequestUpdate

abbrev pub request_take : DeviceState → UpdateRequestOf → Bool → CommandEffect
request_take v r quiet = request_by v r (request_row v.phase r quiet)

-- PassComponentTable

pub data TableRow : Type 0 where
  RefuseEntry : (code : ℕ) → TableRow
  AddEntry : (u : UpdateOf) (code : ℕ) → TableRow

-- the restriction of a comparison stamp, compared with that of the active image
abbrev pub stamp_rule : ℕ → ℕ → ℕ
stamp_rule stamp active =
    if (stamp == no_stamp) || (active == no_stamp) then no_restriction
    else if stamp == active then stamp_identical
    else if nat_lt stamp active then stamp_lower
    else no_restriction

-- the same for a component that may be the device's
abbrev pub restriction_at : Option RowOf → ℕ → ℕ
restriction_at None stamp = not_supported
restriction_at (Some row) stamp = stamp_rule stamp row.active.label.stamp

abbrev pub restriction : List RowOf → Key → ℕ → ℕ
restriction rows key stamp = restriction_at (row_of rows key) stamp

abbrev pub in_table : List Listed → Key → Bool
in_table [] key = false
in_table (e ∷ es) key = same_key e.key key || in_table es key

-- the flag of an entry, by the number of entries before it and the number of all
abbrev pub flag_at : ℕ → ℕ → TransferFlag
flag_at before count =
    if count == 1 then flags.StartAndEnd
    else if before == 0 then flags.Start
    else if before + 1 == count then flags.End
    else flags.Middle

abbrev pub is_flag : TransferFlag → TransferFlag → Bool
is_flag a b = flag_byte a == flag_byte b

abbrev pub table_row : List RowOf → Phase → TableEntryOf → TableRow
table_row rows Phase.Idle e = TableRow.RefuseEntry not_in_update_mode
table_row rows (Phase.Learn u) e =
    if not (is_flag e.flag (flag_at (length u.table) u.components)) || in_table u.table e.key
    then TableRow.RefuseEntry invalid_data
    else TableRow.AddEntry u (restriction rows e.key e.version.stamp)
table_row rows p e = TableRow.RefuseEntry invalid_state_for_command

abbrev pub with_entry : UpdateOf → Key → ℕ → UpdateOf
with_entry u key code = record u { table = u.table ++ record { key = key; code = code } ∷ [] }

-- a device with one more component in its table, and in READY XFER once the table is complete
abbrev pub device_with_table : DeviceState → UpdateOf → DeviceState
device_with_table v u = if length u.table == u.components then device_in_phase v (Phase.Ready u) else record v { phase = Phase.Learn u }

-- the response to a component of the table, by its restriction
abbrev pub table_response : ℕ → TableResponse
table_response code = record { response = if code == no_restriction then can_be_updated else cannot_be_updated; code = code }

abbrev pub table_by : DeviceState → TableEntryOf → TableRow → CommandEffect
table_by v e (TableRow.RefuseEntry code) = refused v code
table_by v e (TableRow.AddEntry u code) =
    effect_of_success (device_with_table v (with_entry u e.key code)) (AnswerOf.PassComponentTable (table_response code))

abbrev pub table_take : DeviceState → TableEntryOf → CommandEffect
table_take v e = table_by v e (table_row v.rows v.phase e)

-- UpdateComponent

pub data OfferRow : Type 0 where
  RefuseOffer : (code : ℕ) → OfferRow
  DeclineOffer : (code : ℕ) → OfferRow
  BeginWork : (u : UpdateOf) → OfferRow

-- the restriction of the offered component: the stamp of a forced one isn't compared
abbrev pub offer_rule : Option RowOf → OfferOf → ℕ
offer_rule None o = not_supported
offer_rule (Some row) o = if o.force then no_restriction else stamp_rule o.version.stamp row.active.label.stamp

abbrev pub offer_restriction : List RowOf → List Listed → OfferOf → ℕ
offer_restriction rows table o = if in_table table o.key then offer_rule (row_of rows o.key) o else not_supported

abbrev pub offer_under : UpdateOf → ℕ → Bool → OfferRow
offer_under u code works =
    if not (code == no_restriction) then OfferRow.DeclineOffer code
    else if works then OfferRow.BeginWork u
    else OfferRow.RefuseOffer error

abbrev pub offer_row : List RowOf → Phase → OfferOf → Bool → Bool → OfferRow
offer_row rows Phase.Idle o quiet works = OfferRow.RefuseOffer not_in_update_mode
offer_row rows (Phase.Ready u) o false works = OfferRow.RefuseOffer not_ready
offer_row rows (Phase.Ready u) o true works =
    if nat_lt longest_image o.size then OfferRow.RefuseOffer invalid_data
    else offer_under u (offer_restriction rows u.table o) works
offer_row rows p o quiet works = OfferRow.RefuseOffer invalid_state_for_command

abbrev pub work_begun : OfferOf → WorkOf
work_begun o = record { key = o.key; size = o.size; label = label_of o.version; force = o.force }

-- the progress of a download with `received` bytes
abbrev pub download_progress : ℕ → ℕ → Progress
download_progress have size = if nat_lt have size then progress.InProgress else progress.Succeeded

abbrev pub declined : ℕ → OfferResponse
declined code = record { compatibility = cannot_be_updated; code = code; force = false; time = 0 }

abbrev pub taken_up : Bool → OfferResponse
taken_up force = record { compatibility = can_be_updated; code = no_restriction; force = force; time = 0 }

abbrev pub offer_by : DeviceState → OfferOf → OfferRow → CommandEffect
offer_by v o (OfferRow.RefuseOffer code) = refused v code
offer_by v o (OfferRow.DeclineOffer code) = effect_of_answer v (AnswerOf.UpdateComponent (declined code))
offer_by v o (OfferRow.BeginWork u) =
    effect_of_success (device_in_phase (record v { stage = [] }) (Phase.Download u (work_begun o) (download_progress 0 o.size)))
    (AnswerOf.UpdateComponent (taken_up o.force))

abbrev pub offer_take : DeviceState → OfferOf → Bool → Bool → CommandEffect
offer_take v o quiet works = offer_by v o (offer_row v.rows v.phase o quiet works)

-- CancelUpdateComponent

pub data ReturnRow : Type 0 where
  RefuseReturn : (code : ℕ) → ReturnRow
  ReturnReady : (u : UpdateOf) → ReturnRow

abbrev pub return_row : Phase → ReturnRow
return_row Phase.Idle = ReturnRow.RefuseReturn not_in_update_mode
return_row (Phase.Download u w p) = ReturnRow.ReturnReady u
return_row (Phase.Verify u w p) = ReturnRow.ReturnReady u
return_row (Phase.Apply u w p) = ReturnRow.ReturnReady u
return_row p = ReturnRow.RefuseReturn invalid_state_for_command

abbrev pub return_by : DeviceState → ReturnRow → CommandEffect
return_by v (ReturnRow.RefuseReturn code) = refused v code
return_by v (ReturnRow.ReturnReady u) =
    effect_of_success (device_in_phase (record v { stage = [] }) (Phase.Ready u)) AnswerOf.CancelUpdateComponent

abbrev pub return_take : DeviceState → CommandEffect
return_take v = return_by v (return_row v.phase)

-- ActivateFirmware

pub data SwitchRow : Type 0 where
  RefuseSwitch : (code : ℕ) → SwitchRow
  Switch : SwitchRow

abbrev pub is_applied : List RowOf → Key → Bool
is_applied rows key = is_some (applied_of (row_of rows key))

-- whether a component of the table without a restriction isn't applied
abbrev pub lacks_listed : List RowOf → List Listed → Bool
lacks_listed rows [] = false
lacks_listed rows (e ∷ es) = ((e.code == no_restriction) && not (is_applied rows e.key)) || lacks_listed rows es

-- whether at least one of the device's components is applied
abbrev pub has_applied : List RowOf → List BankComponent → Bool
has_applied rows [] = false
has_applied rows (c ∷ cs) = is_applied rows c.key || has_applied rows cs

abbrev pub switch_row : List BankComponent → List RowOf → Phase → Bool → SwitchRow
switch_row components rows Phase.Idle works = SwitchRow.RefuseSwitch not_in_update_mode
switch_row components rows (Phase.Ready u) works =
    if lacks_listed rows u.table then SwitchRow.RefuseSwitch incomplete_update
    else if not (has_applied rows components) then SwitchRow.RefuseSwitch activation_not_required
    else if works then SwitchRow.Switch
    else SwitchRow.RefuseSwitch error
switch_row components rows p works = SwitchRow.RefuseSwitch invalid_state_for_command

abbrev pub switch_by : DeviceState → SwitchRow → CommandEffect
switch_by v (SwitchRow.RefuseSwitch code) = refused v code
switch_by v SwitchRow.Switch =
    record {
      after = device_in_phase (record v { rows = rows_after_switch v.rows; stage = [] }) Phase.Activated;
      answer = AnswerOf.ActivateFirmware 0;
      activated = applied_keyed_images v.rows;
      stirs = true;
    }

abbrev pub switch_take : DeviceState → Bool → CommandEffect
switch_take v works = switch_by v (switch_row v.components v.rows v.phase works)

-- whether ActivateFirmware activates now, if the bank's call works
abbrev pub is_switch : SwitchRow → Bool
is_switch (SwitchRow.RefuseSwitch code) = false
is_switch SwitchRow.Switch = true

abbrev pub may_activate : DeviceState → Bool
may_activate v = is_switch (switch_row v.components v.rows v.phase true)

-- CancelUpdate

pub data CancelRow : Type 0 where
  RefuseCancel : (code : ℕ) → CancelRow
  Reset : CancelRow

abbrev pub cancel_row : Phase → CancelRow
cancel_row Phase.Idle = CancelRow.RefuseCancel not_in_update_mode
cancel_row Phase.Activated = CancelRow.RefuseCancel invalid_state_for_command
cancel_row p = CancelRow.Reset

abbrev pub cancel_by : DeviceState → CancelRow → CommandEffect
cancel_by v (CancelRow.RefuseCancel code) = refused v code
cancel_by v CancelRow.Reset = effect_of_success (device_after_reset v reasons.Cancelled) AnswerOf.CancelUpdate

abbrev pub cancel_take : DeviceState → CommandEffect
cancel_take v = cancel_by v (cancel_row v.phase)

-- GetFirmwareParameters: the device's components in configured order, and the active and applied
-- image of each

abbrev pub parameters_by : List RowOf → BankComponent → ParametersOf
parameters_by rows c =
    record {
      key = c.key;
      index = c.index;
      active = version_at (active_of (row_of rows c.key));
      pending = version_at (applied_of (row_of rows c.key));
    }

abbrev pub all_parameters : List RowOf → List BankComponent → List ParametersOf
all_parameters rows components = map (parameters_by rows) components

-- GetStatus

abbrev pub state_number : State → ℕ
state_number states.Idle = 0
state_number states.Learn = 1
state_number states.Ready = 2
state_number states.Download = 3
state_number states.Verify = 4
state_number states.Apply = 5
state_number states.Activate = 6

abbrev pub reason_number : Reason → ℕ
reason_number reasons.Initialization = 0
reason_number reasons.Activation = 1
reason_number reasons.Cancelled = 2
reason_number reasons.TimeOutInLearn = 3
reason_number reasons.TimeOutInReady = 4
reason_number reasons.TimeOutInDownload = 5
reason_number reasons.TimeOutInVerify = 6
reason_number reasons.TimeOutInApply = 7

abbrev pub progress_number : Progress → ℕ
progress_number progress.InProgress = 0
progress_number progress.Succeeded = 1
progress_number (progress.Failed _) = 2

-- the state's progress, 3 if the state has none
abbrev pub aux_of : Phase → ℕ
aux_of (Phase.Download u w p) = progress_number p
aux_of (Phase.Verify u w p) = progress_number p
aux_of (Phase.Apply u w p) = progress_number p
aux_of p = 3

-- the result of a failure, 0 if there is none
abbrev pub failure_or_none : Progress → ℕ → ℕ
failure_or_none (progress.Failed _) failure = failure
failure_or_none p failure = 0

abbrev pub aux_status_of : Phase → ℕ
aux_status_of (Phase.Download u w p) = failure_or_none p transfer_failed
aux_status_of (Phase.Verify u w p) = failure_or_none p verification_failed
aux_status_of (Phase.Apply u w p) = failure_or_none p application_failed
aux_status_of p = 0

abbrev pub force_of : Phase → Bool
force_of (Phase.Download u w p) = w.force
force_of (Phase.Verify u w p) = w.force
force_of (Phase.Apply u w p) = w.force
force_of p = false

abbrev pub status_of : DeviceState → Status
status_of v =
    record {
      state = state_number (state_of v.phase);
      previous = state_number v.previous;
      aux = aux_of v.phase;
      aux_status = aux_status_of v.phase;
      progress = progress_unsupported;
      reason = reason_number v.reason;
      force = force_of v.phase;
    }

-- The device takes a command. It doesn't support the commands that a device sends.
abbrev pub device_take : DeviceState → CommandOf → Bool → Bool → CommandEffect
device_take v CommandOf.QueryDeviceIdentifiers quiet works = effect_of_answer v (AnswerOf.QueryDeviceIdentifiers v.descriptors)
device_take v CommandOf.GetFirmwareParameters quiet works =
    effect_of_answer v (AnswerOf.GetFirmwareParameters (all_parameters v.rows v.components))
device_take v CommandOf.GetStatus quiet works = effect_of_answer v (AnswerOf.GetStatus (status_of v))
device_take v (CommandOf.RequestUpdate r) quiet works = request_take v r quiet
device_take v (CommandOf.PassComponentTable e) quiet works = table_take v e
device_take v (CommandOf.UpdateComponent o) quiet works = offer_take v o quiet works
device_take v CommandOf.CancelUpdateComponent quiet works = return_take v
device_take v (CommandOf.ActivateFirmware self_contained) quiet works = switch_take v works
device_take v CommandOf.CancelUpdate quiet works = cancel_take v
device_take v c quiet works = refused v unsupported_command

-- the device after it, its answer, and the images that it activates, by rising key
abbrev pub device_after : DeviceState → CommandOf → Bool → Bool → DeviceState
device_after v c quiet works = (device_take v c quiet works).after

abbrev pub device_answer : DeviceState → CommandOf → Bool → Bool → AnswerOf
device_answer v c quiet works = (device_take v c quiet works).answer

abbrev pub activated_by : DeviceState → CommandOf → Bool → Bool → List KeyedImage
activated_by v c quiet works = (device_take v c quiet works).activated

-- the ticks without a change after it
abbrev pub idle_after : ℕ → DeviceState → CommandOf → Bool → Bool → ℕ
idle_after idle v c quiet works = idle_count_if idle (device_take v c quiet works).stirs

-- an answer that fits a message at the smallest unit, and therefore at each
abbrev pub IsShort : AnswerOf → Type 0
IsShort a = length (answer_bytes a) ≤ reply_limit U64

-- a device after the effect of a command, and its answer
abbrev pub IsTaken : DeviceOf → DeviceOf → AnswerOf → CommandEffect → Type 0
IsTaken old new answer t = (answer ≡ t.answer) × (new.device ≡ t.after) × (new.idle ≡ idle_count_if old.idle t.stirs)

-- whether the bank's call worked, by the answer: only a failing call gives this code
abbrev pub answer_works : AnswerOf → Bool
answer_works (AnswerOf.Refused code) = not (code == error)
answer_works a = true

abbrev pub bytes_work : List ℕ → Bool
bytes_work [] = true
bytes_work (code ∷ fields) = not (code == error)
