-- The device's commands to the agent (DSP0267 1.0): the case of each command, and its effect.
use Rattle.std.specs.Prelude.{Bool, List, [], if◌then◌else◌, nat_lt, ◌&&◌, ◌||◌, ◌+◌, ◌++◌, ◌==◌, ◌∷◌, ◌-◌, drop, length, replicate, take, ℕ}
use Rattle.fw_package.specs.Choice.{component_at}
use Rattle.fw_package.specs.Package.{PackageText}
use Rattle.fwup_wire.specs.Transfers.{transfer_size}
use Rattle.fwup_wire.specs.Values.{AnswerOf, CommandOf}
use Rattle.fwup_wire.specs.declared.transfers.TheConstants.{MIN_TRANSFER}
use Rattle.mctp_wire.specs.declared.unit.Unit.{«Unit»}
use Rattle.ua_core.specs.Session.{SessionOf, Stage, TaskOf, at_stage}
use Rattle.ua_core.specs.declared.planned.Planned.{Planned}
use Rattle.ua_core.specs.declared.planned.Recorded.{Recorded}
use Rattle.ua_core.specs.declared.state.Cause.TheVariants as causes

-- bytes of an image from an offset on, with zeros past its end
abbrev pub window : List ℕ → ℕ → ℕ → List ℕ
window image offset size = take size (drop offset image) ++ replicate (size - length (take size (drop offset image))) 0

-- The effect of a command: an answer and nothing else; a piece of the image; another stage; or the
-- record of the component being updated, and the next component.
pub data ServeRow : Type 0 where
  Say : (a : AnswerOf) → ServeRow
  Give : (bytes : List ℕ) → ServeRow
  Move : (g : Stage) (a : AnswerOf) → ServeRow
  Record : (t : TaskOf) → ServeRow

-- a code alone, and nothing changes
abbrev pub refusal_row : ℕ → ServeRow
refusal_row code = ServeRow.Say (AnswerOf.Refused code)

-- the agent didn't expect the command: COMMAND_NOT_EXPECTED
abbrev pub unexpected_row : ServeRow
unexpected_row = refusal_row 0x88

-- a good result that was received before is answered again; another is unexpected
abbrev pub repeated_result_row : ℕ → AnswerOf → ServeRow
repeated_result_row result a = if result == 0 then ServeRow.Say a else unexpected_row

-- the length of a piece is too short or too long to be served
abbrev pub is_bad_length : «Unit» → ℕ → Bool
is_bad_length unit size = nat_lt size MIN_TRANSFER || nat_lt (transfer_size unit) size

-- the piece ends more than the smallest piece past the image's end
abbrev pub is_past_end : List ℕ → ℕ → ℕ → Bool
is_past_end image offset size = nat_lt (length image + MIN_TRANSFER) (offset + size)

-- RequestFirmwareData: a length that can be served (otherwise INVALID_TRANSFER_LENGTH), not past
-- the image's end (otherwise DATA_OUT_OF_RANGE)
abbrev pub data_of : «Unit» → List ℕ → ℕ → ℕ → ServeRow
data_of unit image offset size =
    if is_bad_length unit size then refusal_row 0x83
    else if is_past_end image offset size then refusal_row 0x82
    else ServeRow.Give (window image offset size)

-- while the session waits for the device's answer to UpdateComponent, data must be requested again:
-- RETRY_REQUEST_FW_DATA
abbrev pub data_row : «Unit» → PackageText → Stage → ℕ → ℕ → ServeRow
data_row unit p (Stage.Update _) offset size = refusal_row 0x89
data_row unit p (Stage.Download t) offset size = data_of unit (component_at p t.at_hand.component).image offset size
data_row unit p _ offset size = unexpected_row

abbrev pub transfer_row : Stage → ℕ → ServeRow
transfer_row (Stage.Download t) result =
    ServeRow.Move (if result == 0 then Stage.Verify t else Stage.Failed causes.Transfer) AnswerOf.TransferComplete
transfer_row (Stage.Verify _) result = repeated_result_row result AnswerOf.TransferComplete
transfer_row _ result = unexpected_row

abbrev pub verify_row : Stage → ℕ → ServeRow
verify_row (Stage.Verify t) result =
    ServeRow.Move (if result == 0 then Stage.Apply t else Stage.Failed causes.Verify) AnswerOf.VerifyComplete
verify_row (Stage.Apply _) result = repeated_result_row result AnswerOf.VerifyComplete
verify_row _ result = unexpected_row

abbrev pub apply_row : Stage → ℕ → ServeRow
apply_row (Stage.Update t) result =
    if (result == 0) && nat_lt 0 t.made then ServeRow.Say AnswerOf.ApplyComplete else unexpected_row
apply_row (Stage.Apply t) result =
    if result == 0 then ServeRow.Record t else ServeRow.Move (Stage.Failed causes.Apply) AnswerOf.ApplyComplete
apply_row (Stage.AllApplied _) result = repeated_result_row result AnswerOf.ApplyComplete
apply_row (Stage.Activate _) result = repeated_result_row result AnswerOf.ApplyComplete
apply_row _ result = unexpected_row

-- the case of each command. The agent doesn't support the other commands:
-- ERROR_UNSUPPORTED_PLDM_CMD
abbrev pub serve_row : «Unit» → PackageText → Stage → CommandOf → ServeRow
serve_row unit p g (CommandOf.RequestFirmwareData offset size) = data_row unit p g offset size
serve_row unit p g (CommandOf.TransferComplete result) = transfer_row g result
serve_row unit p g (CommandOf.VerifyComplete result) = verify_row g result
serve_row unit p g (CommandOf.ApplyComplete result _) = apply_row g result
serve_row unit p g _ = refusal_row 5

-- the next component, or none
abbrev pub task_after : TaskOf → List Planned → Stage
task_after t [] = Stage.AllApplied t.job
task_after t (i ∷ is) = Stage.Update (record { job = t.job; at_hand = i; todo = is; made = t.made + 1 })

-- the record of the component being updated
abbrev pub record_of : SessionOf → TaskOf → Recorded
record_of s t = record { «package» = s.number; component = t.at_hand.component }

-- the answer of a case
abbrev pub answer_by : ServeRow → AnswerOf
answer_by (ServeRow.Say a) = a
answer_by (ServeRow.Give bytes) = AnswerOf.RequestFirmwareData bytes
answer_by (ServeRow.Move _ a) = a
answer_by (ServeRow.Record _) = AnswerOf.ApplyComplete

-- the session after a case
abbrev pub after_by : SessionOf → ServeRow → SessionOf
after_by s (ServeRow.Move g _) = at_stage s g
after_by s (ServeRow.Record t) =
    record { unit = s.unit; stage = task_after t t.todo; number = s.number; records = s.records ++ record_of s t ∷ [] }
after_by s _ = s

-- the records after a case
abbrev pub recorded_with : SessionOf → ServeRow → List Recorded
recorded_with s (ServeRow.Record t) = record_of s t ∷ []
recorded_with s _ = []

-- the count of idle ticks after a case
abbrev pub idle_after : ℕ → ServeRow → ℕ
idle_after idle (ServeRow.Say _) = idle
idle_after idle _ = 0

abbrev pub agent_answer : PackageText → SessionOf → CommandOf → AnswerOf
agent_answer p s c = answer_by (serve_row s.unit p s.stage c)

abbrev pub agent_after : PackageText → SessionOf → CommandOf → SessionOf
agent_after p s c = after_by s (serve_row s.unit p s.stage c)

abbrev pub recorded_by : PackageText → SessionOf → CommandOf → List Recorded
recorded_by p s c = recorded_with s (serve_row s.unit p s.stage c)

abbrev pub agent_idle : PackageText → SessionOf → ℕ → CommandOf → ℕ
agent_idle p s idle c = idle_after idle (serve_row s.unit p s.stage c)
