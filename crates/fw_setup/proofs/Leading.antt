-- The stage of a session after it passed components, one by one.
use Rattle.std.proofs.Common.{◌≡◌, ◌∙◌, ◌++◌, ◌||◌, ℕ, suc, Bool, true, false, if◌then◌else◌, List, [], ◌∷◌, Some, None, Result, Ok, Err, length, map, refl}
use Rattle.std.specs.Prelude.{Option}
use Rattle.fd_core.specs.Images.{RowOf}
use Rattle.fw_package.specs.Choice.{component_at, plan_of, record_number}
use Rattle.fw_package.specs.Package.{PackageText}
use Rattle.fw_package.specs.declared.fault.PlanFault.{PlanFault}
use Rattle.ua_core.specs.Learn.{first_stage, first_task, job_of, planned, unlearnt}
use Rattle.ua_core.specs.Lent.{package_descriptor}
use Rattle.ua_core.specs.Session.{JobOf, Stage}
use Rattle.ua_core.specs.declared.planned.Planned.{Planned}
use Rattle.ua_core.specs.declared.state.Cause.{Cause}
use Rattle.ua_core.specs.declared.state.Cause.TheVariants as causes
use Rattle.fw_setup.specs.Forecasts.{is_any_updated, is_updated}
use Rattle.fw_setup.specs.ForecastLaws.{ForecastsSessions, failed_by, found_cause, pass_all, pass_planned, plan_cause}

-- it fails if no component is to be updated so far, nor later
abbrev cause_with : List Planned → Bool → Option Cause
cause_with [] b = if b then None else Some causes.NothingToUpdate
cause_with (t ∷ ts) b = None

last_passed : (j : JobOf) (i : Planned) (todo : List Planned) (b : Bool) → failed_by (first_task j (if b then todo ++ i ∷ [] else todo)) ≡ cause_with todo (b || false)
last_passed j i [] true = refl
last_passed j i [] false = refl
last_passed j i (t ∷ ts) true = refl
last_passed j i (t ∷ ts) false = refl

one_passed : (i : Planned) (todo : List Planned) (b rest : Bool) → cause_with (if b then todo ++ i ∷ [] else todo) rest ≡ cause_with todo (b || rest)
one_passed i [] true rest = refl
one_passed i [] false rest = refl
one_passed i (t ∷ ts) true rest = refl
one_passed i (t ∷ ts) false rest = refl

all_passed : (p : PackageText) (rows : List RowOf) (j : JobOf) (n : ℕ) (ns : List ℕ) (todo : List Planned)
    → failed_by (pass_all p rows (suc (length (map unlearnt ns))) (Stage.Pass j (unlearnt n) (map unlearnt ns) todo)) ≡ cause_with todo (is_any_updated p rows (n ∷ ns))
all_passed p rows j n [] todo = last_passed j (unlearnt n) todo (is_updated rows (component_at p n))
all_passed p rows j n (m ∷ ms) todo =
    all_passed p rows j m ms (if is_updated rows (component_at p n) then todo ++ unlearnt n ∷ [] else todo)
    ∙ one_passed (unlearnt n) todo (is_updated rows (component_at p n)) (is_any_updated p rows (m ∷ ms))

led_by_plan : (p : PackageText) (rows : List RowOf) (chosen : ℕ) (r : Result (List ℕ) PlanFault) → failed_by (pass_planned p rows (first_stage (planned chosen r))) ≡ plan_cause p rows r
led_by_plan p rows chosen (Err fault) = refl
led_by_plan p rows chosen (Ok []) = refl
led_by_plan p rows chosen (Ok (n ∷ ns)) = all_passed p rows (record { chosen = chosen; plan = map unlearnt (n ∷ ns) }) n ns []

led_by_number : (p : PackageText) (rows : List RowOf) (o : Option ℕ) → failed_by (pass_planned p rows (first_stage (job_of p o))) ≡ found_cause p rows o
led_by_number p rows None = refl
led_by_number p rows (Some chosen) = led_by_plan p rows chosen (plan_of p chosen)

pub foretells_sessions : ForecastsSessions
foretells_sessions p v = led_by_number p v.rows (record_number p (map package_descriptor v.descriptors))
