-- A forecast is the session's own result: it follows the rows of the session's table with the
-- device's answers.
use Rattle.std.specs.Prelude.{ℕ, zero, suc, ◌≡◌, if◌then◌else◌, List, Option, None, Some, Result, Ok, Err, length, map}
use Rattle.fd_core.specs.Commands.{table_response}
use Rattle.fd_core.specs.Images.{RowOf}
use Rattle.fd_core.specs.States.{DeviceState}
use Rattle.fw_package.specs.Choice.{component_at, plan_of, record_number}
use Rattle.fw_package.specs.Package.{PackageText}
use Rattle.fw_package.specs.declared.fault.PlanFault.{PlanFault}
use Rattle.fwup_wire.specs.Values.{AnswerOf}
use Rattle.ua_core.specs.Learn.{SessionLearnRow, pass_row, query_row, request_row}
use Rattle.ua_core.specs.Lent.{package_descriptor}
use Rattle.ua_core.specs.Session.{Stage}
use Rattle.ua_core.specs.declared.state.Cause.{Cause}
use Rattle.ua_core.specs.declared.state.Cause.TheVariants as causes
use Rattle.fw_setup.specs.Forecasts.{is_any_updated, passed}

-- the forecast cause with which a session fails, if it fails
abbrev pub plan_cause : PackageText → List RowOf → Result (List ℕ) PlanFault → Option Cause
plan_cause p rows (Err fault) = Some causes.Plan
plan_cause p rows (Ok ns) = if is_any_updated p rows ns then None else Some causes.NothingToUpdate

abbrev pub found_cause : PackageText → List RowOf → Option ℕ → Option Cause
found_cause p rows None = Some causes.NoRecord
found_cause p rows (Some chosen) = plan_cause p rows (plan_of p chosen)

abbrev pub forecast_cause : PackageText → DeviceState → Option Cause
forecast_cause p v = found_cause p v.rows (record_number p (map package_descriptor v.descriptors))

-- the stage after a row of the session's table
abbrev pub led_to : Stage → SessionLearnRow → Stage
led_to g SessionLearnRow.Stay = g
led_to g (SessionLearnRow.Go h) = h

-- a session after one component is passed, with the device's answer
abbrev pub pass_one : PackageText → List RowOf → Stage → Stage
pass_one p rows (Stage.Pass j i left todo) =
    led_to (Stage.Pass j i left todo)
    (pass_row p j i left todo (Ok (AnswerOf.PassComponentTable (table_response (passed rows (component_at p i.component))))))
pass_one p rows g = g

-- a session after this number of components is passed
abbrev pub pass_all : PackageText → List RowOf → ℕ → Stage → Stage
pass_all p rows zero g = g
pass_all p rows (suc n) g = pass_all p rows n (pass_one p rows g)

-- a session from the job that the descriptors give: the device accepts the update, and is passed
-- each component
abbrev pub pass_planned : PackageText → List RowOf → Stage → Stage
pass_planned p rows (Stage.Params j) = pass_all p rows (length j.plan) (led_to (Stage.Request j) (request_row j (Ok AnswerOf.RequestUpdate)))
pass_planned p rows g = g

-- a session from the device's descriptors
abbrev pub session_led : PackageText → DeviceState → Stage
session_led p v = pass_planned p v.rows (led_to Stage.Query (query_row p (Ok (AnswerOf.QueryDeviceIdentifiers v.descriptors))))

-- the cause of a failure
abbrev pub failed_by : Stage → Option Cause
failed_by (Stage.Failed cause) = Some cause
failed_by g = None

-- A session with a device's answers fails with exactly the forecast cause. If none is forecast, it
-- doesn't fail.
abbrev pub ForecastsSessions : Type 0
ForecastsSessions = (p : PackageText) (v : DeviceState) → failed_by (session_led p v) ≡ forecast_cause p v
