-- A session's handling of an answer to its pending command. Each case changes the stage or keeps
-- it.
use Rattle.std.specs.Prelude.{Bool, Err, List, None, Ok, Option, Result, Some, [], if◌then◌else◌, map, ◌&&◌, ◌||◌, ◌++◌, ◌==◌, ◌∷◌, ℕ}
use Rattle.fw_package.specs.Choice.{component_at, plan_of, record_number}
use Rattle.fw_package.specs.Package.{ComponentOf, PackageText}
use Rattle.fw_package.specs.declared.fault.PlanFault.{PlanFault}
use Rattle.fwup_wire.specs.Values.{AnswerOf, DeviceDescriptorOf, ParametersOf}
use Rattle.fwup_wire.specs.declared.answer.Malformed.{Malformed}
use Rattle.fwup_wire.specs.declared.values.Key.{Key}
use Rattle.ua_core.specs.Lent.{is_forced, key_of, package_descriptor}
use Rattle.ua_core.specs.Session.{JobOf, SessionOf, Stage, TaskOf, at_stage}
use Rattle.ua_core.specs.declared.planned.Planned.{Planned}
use Rattle.ua_core.specs.declared.state.Cause.{Cause}
use Rattle.ua_core.specs.declared.state.Cause.TheVariants as causes

-- the effect of an answer: nothing, if the same command is sent again; or another stage, or another
-- component
pub data SessionLearnRow : Type 0 where
  Stay : SessionLearnRow
  Go : (g : Stage) → SessionLearnRow

abbrev pub failure_row : Cause → SessionLearnRow
failure_row cause = SessionLearnRow.Go (Stage.Failed cause)

-- a component of a plan, before the device's parameters are received
abbrev pub unlearnt : ℕ → Planned
unlearnt number = record { component = number; index = 0 }

-- Query: the first record for the device, and its plan; or the cause if there is nothing to send
abbrev pub planned : ℕ → Result (List ℕ) PlanFault → Result JobOf Cause
planned chosen (Err _) = Err causes.Plan
planned chosen (Ok []) = Err causes.NothingToUpdate
planned chosen (Ok (n ∷ ns)) = Ok (record { chosen = chosen; plan = map unlearnt (n ∷ ns) })

abbrev pub job_of : PackageText → Option ℕ → Result JobOf Cause
job_of p None = Err causes.NoRecord
job_of p (Some number) = planned number (plan_of p number)

abbrev pub job_for : PackageText → List DeviceDescriptorOf → Result JobOf Cause
job_for p ds = job_of p (record_number p (map package_descriptor ds))

abbrev pub first_stage : Result JobOf Cause → Stage
first_stage (Err cause) = Stage.Failed cause
first_stage (Ok j) = Stage.Params j

abbrev pub query_row : PackageText → Result AnswerOf Malformed → SessionLearnRow
query_row p (Ok (AnswerOf.QueryDeviceIdentifiers ds)) = SessionLearnRow.Go (first_stage (job_for p ds))
query_row p a = failure_row causes.Answer

-- Params: the index of each component in the device, 0 if the device doesn't name it
abbrev pub same_key : Key → Key → Bool
same_key a b = (a.classification == b.classification) && (a.identifier == b.identifier)

abbrev pub index_of : List ParametersOf → Key → ℕ
index_of [] key = 0
index_of (device ∷ devices) key = if same_key device.key key then device.index else index_of devices key

abbrev pub with_index : PackageText → List ParametersOf → Planned → Planned
with_index p devices i = record { component = i.component; index = index_of devices (key_of (component_at p i.component)) }

abbrev pub params_row : PackageText → JobOf → Result AnswerOf Malformed → SessionLearnRow
params_row p j (Ok (AnswerOf.GetFirmwareParameters devices)) =
    SessionLearnRow.Go (Stage.ClearOld (record { chosen = j.chosen; plan = map (with_index p devices) j.plan }))
params_row p j a = failure_row causes.Answer

-- ClearOld: there was an update to end, or none
abbrev pub clear_row : JobOf → Result AnswerOf Malformed → SessionLearnRow
clear_row j (Ok AnswerOf.CancelUpdate) = SessionLearnRow.Go (Stage.Request j)
clear_row j (Ok (AnswerOf.Refused code)) = if code == 0x80 then SessionLearnRow.Go (Stage.Request j) else failure_row causes.Answer
clear_row j a = failure_row causes.Answer

-- Request: the first component is next. If the device isn't ready, the command is sent again
abbrev pub first_pass : JobOf → List Planned → Stage
first_pass j [] = Stage.Failed causes.NothingToUpdate
first_pass j (i ∷ is) = Stage.Pass j i is []

abbrev pub request_row : JobOf → Result AnswerOf Malformed → SessionLearnRow
request_row j (Ok AnswerOf.RequestUpdate) = SessionLearnRow.Go (first_pass j j.plan)
request_row j (Ok (AnswerOf.Refused code)) = if code == 4 then SessionLearnRow.Stay else failure_row causes.Answer
request_row j a = failure_row causes.Answer

-- Pass: the next component; after the last, the update of the first component to do. A component is
-- to do if it can be updated, or if only its comparison stamp prevents it (codes 1 and 2) and its
-- update is forced.
abbrev pub is_to_do : ComponentOf → ℕ → Bool
is_to_do c code = (code == 0) || (((code == 1) || (code == 2)) && is_forced c)

abbrev pub first_task : JobOf → List Planned → Stage
first_task j [] = Stage.Failed causes.NothingToUpdate
first_task j (i ∷ is) = Stage.Update (record { job = j; at_hand = i; todo = is; made = 0 })

abbrev pub next_pass : JobOf → List Planned → List Planned → Stage
next_pass j [] todo = first_task j todo
next_pass j (i ∷ is) todo = Stage.Pass j i is todo

abbrev pub with_passed : ComponentOf → ℕ → Planned → List Planned → List Planned
with_passed c code i todo = if is_to_do c code then todo ++ i ∷ [] else todo

abbrev pub pass_row : PackageText → JobOf → Planned → List Planned → List Planned → Result AnswerOf Malformed → SessionLearnRow
pass_row p j i left todo (Ok (AnswerOf.PassComponentTable response)) =
    SessionLearnRow.Go (next_pass j left (with_passed (component_at p i.component) response.code i todo))
pass_row p j i left todo a = failure_row causes.Answer

-- Update: the device accepts the component or refuses it. If it isn't ready, or is still ending the
-- previous step, the command is sent again
abbrev pub update_row : TaskOf → Result AnswerOf Malformed → SessionLearnRow
update_row t (Ok (AnswerOf.UpdateComponent response)) =
    if response.compatibility == 0 then SessionLearnRow.Go (Stage.Download t) else failure_row causes.Refused
update_row t (Ok (AnswerOf.Refused code)) = if (code == 4) || (code == 0x84) then SessionLearnRow.Stay else failure_row causes.Answer
update_row t a = failure_row causes.Answer

-- Activate: if the device is still ending the previous step, the command is sent again
abbrev pub activate_row : Result AnswerOf Malformed → SessionLearnRow
activate_row (Ok (AnswerOf.ActivateFirmware _)) = SessionLearnRow.Go Stage.Done
activate_row (Ok (AnswerOf.Refused code)) = if code == 0x84 then SessionLearnRow.Stay else failure_row causes.Answer
activate_row a = failure_row causes.Answer

-- the case of each stage. Without a pending command, the answer is ignored
abbrev pub learn_row : PackageText → Stage → Result AnswerOf Malformed → SessionLearnRow
learn_row p Stage.Query a = query_row p a
learn_row p (Stage.Params j) a = params_row p j a
learn_row p (Stage.ClearOld j) a = clear_row j a
learn_row p (Stage.Request j) a = request_row j a
learn_row p (Stage.Pass j i left todo) a = pass_row p j i left todo a
learn_row p (Stage.Update t) a = update_row t a
learn_row p (Stage.Activate _) a = activate_row a
learn_row p Stage.Cancelling a = SessionLearnRow.Go Stage.Idle
learn_row p _ a = SessionLearnRow.Stay

-- the effect of a case
abbrev pub learn_by : SessionOf → SessionLearnRow → SessionOf
learn_by s SessionLearnRow.Stay = s
learn_by s (SessionLearnRow.Go g) = at_stage s g

abbrev pub agent_learn : PackageText → SessionOf → Result AnswerOf Malformed → SessionOf
agent_learn p s a = learn_by s (learn_row p s.stage a)

-- the count of idle ticks after a case
abbrev pub idle_by : ℕ → SessionLearnRow → ℕ
idle_by idle SessionLearnRow.Stay = idle
idle_by idle (SessionLearnRow.Go _) = 0

abbrev pub learn_idle : PackageText → SessionOf → ℕ → Result AnswerOf Malformed → ℕ
learn_idle p s idle a = idle_by idle (learn_row p s.stage a)
