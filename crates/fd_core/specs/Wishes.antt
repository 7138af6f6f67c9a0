-- A device's pending commands to the agent, and its handling of the answers (DSP0267 1.0).
use Rattle.std.specs.Prelude.{[], ◌++◌, ◌-◌, ◌==◌, Bool, List, None, Option, Some, false, if◌then◌else◌, length, max, min, take, true, ℕ}
use Rattle.mctp_wire.specs.declared.unit.Unit.{«Unit»}
use Rattle.fd_core.specs.Codes.{application_failed, result_success, transfer_failed, verification_failed}
use Rattle.fd_core.specs.Commands.{download_progress}
use Rattle.fd_core.specs.States.{DeviceState, Phase, UpdateOf, WorkOf, device_in_phase, idle_count_if}
use Rattle.fd_core.specs.declared.states.Progress.{Progress}
use Rattle.fd_core.specs.declared.states.Progress.TheVariants as progress
use Rattle.fwup_wire.specs.Values.{AnswerOf, CommandOf}
use Rattle.fwup_wire.specs.Transfers.{transfer_size}
use Rattle.fwup_wire.specs.declared.transfers.TheConstants.{MIN_TRANSFER}

-- The number of bytes requested at once: the missing bytes, limited to the agent's transfer size
-- and to a message, and never fewer than the least length. Bytes past the missing ones are padding.
abbrev pub asked_length : «Unit» → UpdateOf → WorkOf → ℕ → ℕ
asked_length unit u w have = max MIN_TRANSFER (min (transfer_size unit) (min u.transfer_size (w.size - have)))

-- the result that has to be reported: success, or the state's own failure until it is reported
abbrev pub report_of : Progress → ℕ → Option ℕ
report_of progress.InProgress failure = None
report_of progress.Succeeded failure = Some result_success
report_of (progress.Failed true) failure = None
report_of (progress.Failed false) failure = Some failure

abbrev pub report_if : (ℕ → CommandOf) → Option ℕ → Option CommandOf
report_if command None = None
report_if command (Some result) = Some (command result)

abbrev pub download_wish : «Unit» → UpdateOf → WorkOf → Progress → ℕ → Option CommandOf
download_wish unit u w progress.InProgress have = Some (CommandOf.RequestFirmwareData have (asked_length unit u w have))
download_wish unit u w p have = report_if CommandOf.TransferComplete (report_of p transfer_failed)

abbrev pub apply_report : ℕ → CommandOf
apply_report result = CommandOf.ApplyComplete result 0

-- the pending command in a phase, with the given number of the image's bytes
abbrev pub wish_at : «Unit» → Phase → ℕ → Option CommandOf
wish_at unit (Phase.Download u w p) have = download_wish unit u w p have
wish_at unit (Phase.Verify u w p) have = report_if CommandOf.VerifyComplete (report_of p verification_failed)
wish_at unit (Phase.Apply u w p) have = report_if apply_report (report_of p application_failed)
wish_at unit p have = None

abbrev pub device_wish : DeviceState → Option CommandOf
device_wish v = wish_at v.unit v.phase (length v.stage)

-- The case of an answer. A malformed answer is None.
pub data DeviceLearnRow : Type 0 where
  Stay : DeviceLearnRow
  PutPiece : (bytes : List ℕ) → DeviceLearnRow
  PutFails : DeviceLearnRow
  NextState : DeviceLearnRow
  Reported : DeviceLearnRow

-- a download that misses bytes: those of an answer of exactly the requested length are put
abbrev pub piece_row : ℕ → Option AnswerOf → Bool → DeviceLearnRow
piece_row asked (Some (AnswerOf.RequestFirmwareData bytes)) works =
    if length bytes == asked then (if works then DeviceLearnRow.PutPiece bytes else DeviceLearnRow.PutFails) else DeviceLearnRow.Stay
piece_row asked a works = DeviceLearnRow.Stay

-- success that has to be reported: the answer to the report moves the device to the next state
abbrev pub transferred_row : Option AnswerOf → DeviceLearnRow
transferred_row (Some AnswerOf.TransferComplete) = DeviceLearnRow.NextState
transferred_row a = DeviceLearnRow.Stay

abbrev pub verified_row : Option AnswerOf → DeviceLearnRow
verified_row (Some AnswerOf.VerifyComplete) = DeviceLearnRow.NextState
verified_row a = DeviceLearnRow.Stay

abbrev pub applied_row : Option AnswerOf → DeviceLearnRow
applied_row (Some AnswerOf.ApplyComplete) = DeviceLearnRow.NextState
applied_row a = DeviceLearnRow.Stay

-- a report of a failure: any answer counts
abbrev pub report_row : Progress → DeviceLearnRow → DeviceLearnRow
report_row progress.InProgress row = DeviceLearnRow.Stay
report_row progress.Succeeded row = row
report_row (progress.Failed reported) row = DeviceLearnRow.Reported

abbrev pub download_row : Progress → ℕ → Option AnswerOf → Bool → DeviceLearnRow
download_row progress.InProgress asked a works = piece_row asked a works
download_row p asked a works = report_row p (transferred_row a)

-- The effect of an answer: the device after it, and whether the count of ticks without a change
-- restarts.
pub record AnswerEffect : Type 0 where
  pub after : DeviceState
  pub stirs : Bool

abbrev pub effect_without_progress : DeviceState → AnswerEffect
effect_without_progress v = record { after = v; stirs = false }

abbrev pub effect_with_progress : DeviceState → AnswerEffect
effect_with_progress v = record { after = v; stirs = true }

-- the bytes within the size are stored
abbrev pub stage_with : DeviceState → WorkOf → List ℕ → List ℕ
stage_with v w bytes = v.stage ++ take (w.size - length v.stage) bytes

abbrev pub piece_put : DeviceState → UpdateOf → WorkOf → List ℕ → DeviceState
piece_put v u w stage = record v { stage = stage; phase = Phase.Download u w (download_progress (length stage) w.size) }

abbrev pub download_by : DeviceState → UpdateOf → WorkOf → DeviceLearnRow → AnswerEffect
download_by v u w DeviceLearnRow.Stay = effect_without_progress v
download_by v u w (DeviceLearnRow.PutPiece bytes) = effect_with_progress (piece_put v u w (stage_with v w bytes))
download_by v u w DeviceLearnRow.PutFails = effect_without_progress (record v { phase = Phase.Download u w (progress.Failed false) })
download_by v u w DeviceLearnRow.NextState = effect_with_progress (device_in_phase v (Phase.Verify u w progress.InProgress))
download_by v u w DeviceLearnRow.Reported = effect_without_progress (record v { phase = Phase.Download u w (progress.Failed true) })

abbrev pub verify_by : DeviceState → UpdateOf → WorkOf → DeviceLearnRow → AnswerEffect
verify_by v u w DeviceLearnRow.NextState = effect_with_progress (device_in_phase v (Phase.Apply u w progress.InProgress))
verify_by v u w DeviceLearnRow.Reported = effect_without_progress (record v { phase = Phase.Verify u w (progress.Failed true) })
verify_by v u w row = effect_without_progress v

abbrev pub apply_by : DeviceState → UpdateOf → WorkOf → DeviceLearnRow → AnswerEffect
apply_by v u w DeviceLearnRow.NextState = effect_with_progress (device_in_phase (record v { stage = [] }) (Phase.Ready u))
apply_by v u w DeviceLearnRow.Reported = effect_without_progress (record v { phase = Phase.Apply u w (progress.Failed true) })
apply_by v u w row = effect_without_progress v

abbrev pub learn_at : DeviceState → Phase → Option AnswerOf → Bool → AnswerEffect
learn_at v (Phase.Download u w p) a works = download_by v u w (download_row p (asked_length v.unit u w (length v.stage)) a works)
learn_at v (Phase.Verify u w p) a works = verify_by v u w (report_row p (verified_row a))
learn_at v (Phase.Apply u w p) a works = apply_by v u w (report_row p (applied_row a))
learn_at v p a works = effect_without_progress v

abbrev pub device_learn : DeviceState → Option AnswerOf → Bool → DeviceState
device_learn v a works = (learn_at v v.phase a works).after

abbrev pub idle_learnt : ℕ → DeviceState → Option AnswerOf → Bool → ℕ
idle_learnt idle v a works = idle_count_if idle (learn_at v v.phase a works).stirs

-- whether the state's work failed
abbrev pub is_failure : Progress → Bool
is_failure (progress.Failed reported) = true
is_failure p = false

abbrev pub has_failed : Phase → Bool
has_failed (Phase.Download u w p) = is_failure p
has_failed (Phase.Verify u w p) = is_failure p
has_failed (Phase.Apply u w p) = is_failure p
has_failed p = false
