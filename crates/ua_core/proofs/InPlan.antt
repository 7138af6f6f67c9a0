-- A session stays in the plan of its package.
use Rattle.std.specs.Prelude.{All, Bool, Err, List, None, Ok, Option, Result, Some, [], false, if◌then◌else◌, map, nat_lt, true, ◌&&◌, ◌||◌, ◌++◌, ◌==◌, ◌∷◌, ◌≡◌, ℕ}
use Rattle.std.proofs.Common.{ap, refl, sym, ◌∙◌}
use Rattle.std.proofs.lemmas.List.Elements.{All-contains_itself, All-head, All-nil, All-push, All-tail}
use Rattle.mctp_wire.specs.declared.unit.Unit.{«Unit»}
use Rattle.fw_package.specs.Choice.{component_at, plan_of, record_number}
use Rattle.fw_package.specs.Package.{PackageText}
use Rattle.fw_package.specs.declared.fault.PlanFault.{PlanFault}
use Rattle.fwup_wire.specs.Values.{AnswerOf, CommandOf, DeviceDescriptorOf, ParametersOf}
use Rattle.fwup_wire.specs.declared.answer.Malformed.{Malformed}
use Rattle.ua_core.specs.Laws.{ChoosesRecord, HasChosen, IsOfPlan, IsPlanned, IsTask, LearnsInPlan, ServesInPlan, IsStageInPlan, number_of}
use Rattle.ua_core.specs.Learn.{SessionLearnRow, first_stage, first_pass, first_task, is_to_do, job_of, learn_by, learn_row, next_pass, planned, unlearnt, with_index, with_passed, failure_row}
use Rattle.ua_core.specs.Lent.{package_descriptor}
use Rattle.ua_core.specs.Serve.{ServeRow, after_by, data_of, is_bad_length, is_past_end, refusal_row, serve_row, task_after, unexpected_row, window}
use Rattle.ua_core.specs.Session.{JobOf, SessionOf, Stage, TaskOf}
use Rattle.ua_core.specs.declared.planned.Planned.{Planned}
use Rattle.ua_core.specs.declared.state.Cause.TheVariants as causes

-- the stage of a case is in the plan
abbrev RowInPlan : PackageText → ServeRow → Type 0
RowInPlan p (ServeRow.Move g a) = IsStageInPlan p g
RowInPlan p (ServeRow.Record t) = IsTask p t
RowInPlan p _ = Prim.Unit {0}

row_both : (p : PackageText) (b : Bool) (r q : ServeRow) → RowInPlan p r → RowInPlan p q → RowInPlan p (if b then r else q)
row_both p true r q x y = x
row_both p false r q x y = y

stage_both : (p : PackageText) (b : Bool) (g k : Stage) → IsStageInPlan p g → IsStageInPlan p k → IsStageInPlan p (if b then g else k)
stage_both p true g k x y = x
stage_both p false g k x y = y

data_in : (unit : «Unit») (p : PackageText) (image : List ℕ) (offset size : ℕ) → RowInPlan p (data_of unit image offset size)
data_in unit p image offset size =
    row_both p (is_bad_length unit size) (refusal_row 0x83)
    (if is_past_end image offset size then refusal_row 0x82 else ServeRow.Give (window image offset size)) tt
    (row_both p (is_past_end image offset size) (refusal_row 0x82) (ServeRow.Give (window image offset size)) tt tt)

serves_in : (unit : «Unit») (p : PackageText) (g : Stage) (c : CommandOf) → IsStageInPlan p g → RowInPlan p (serve_row unit p g c)
serves_in unit p (Stage.Download t) (CommandOf.RequestFirmwareData offset size) h =
    data_in unit p (component_at p t.at_hand.component).image offset size
serves_in unit p (Stage.Download t) (CommandOf.TransferComplete result) h =
    stage_both p (result == 0) (Stage.Verify t) (Stage.Failed causes.Transfer) h tt
serves_in unit p (Stage.Verify t) (CommandOf.TransferComplete result) h =
    row_both p (result == 0) (ServeRow.Say AnswerOf.TransferComplete) unexpected_row tt tt
serves_in unit p (Stage.Verify t) (CommandOf.VerifyComplete result) h =
    stage_both p (result == 0) (Stage.Apply t) (Stage.Failed causes.Verify) h tt
serves_in unit p (Stage.Apply t) (CommandOf.VerifyComplete result) h =
    row_both p (result == 0) (ServeRow.Say AnswerOf.VerifyComplete) unexpected_row tt tt
serves_in unit p (Stage.Apply t) (CommandOf.ApplyComplete result methods) h =
    row_both p (result == 0) (ServeRow.Record t) (ServeRow.Move (Stage.Failed causes.Apply) AnswerOf.ApplyComplete) h tt
serves_in unit p (Stage.Update t) (CommandOf.ApplyComplete result methods) h =
    row_both p ((result == 0) && nat_lt 0 t.made) (ServeRow.Say AnswerOf.ApplyComplete) unexpected_row tt tt
serves_in unit p (Stage.AllApplied j) (CommandOf.ApplyComplete result methods) h =
    row_both p (result == 0) (ServeRow.Say AnswerOf.ApplyComplete) unexpected_row tt tt
serves_in unit p (Stage.Activate j) (CommandOf.ApplyComplete result methods) h =
    row_both p (result == 0) (ServeRow.Say AnswerOf.ApplyComplete) unexpected_row tt tt
serves_in unit p g (CommandOf.RequestFirmwareData offset size) h = tt
serves_in unit p g (CommandOf.TransferComplete result) h = tt
serves_in unit p g (CommandOf.VerifyComplete result) h = tt
serves_in unit p g (CommandOf.ApplyComplete result methods) h = tt
serves_in unit p g c h = tt

task_in : (p : PackageText) (t : TaskOf) (todo : List Planned) → IsPlanned p t.job → All (IsOfPlan t.job) todo
    → IsStageInPlan p (task_after t todo)
task_in p t [] is all = is
task_in p t (i ∷ is) is_planned all =
    (is_planned, All-head (IsOfPlan t.job) i is all, All-tail (IsOfPlan t.job) i is all)

after_in : (p : PackageText) (s : SessionOf) (r : ServeRow) → IsStageInPlan p s.stage → RowInPlan p r → IsStageInPlan p (after_by s r).stage
after_in p s (ServeRow.Record t) h x = task_in p t t.todo x.0 x.2
after_in p s (ServeRow.Move g a) h x = x
after_in p s (ServeRow.Say a) h x = h
after_in p s (ServeRow.Give bytes) h x = h

pub serves_in_plan : ServesInPlan
serves_in_plan p s c h = after_in p s (serve_row s.unit p s.stage c) h (serves_in s.unit p s.stage c h)

-- the numbers of the components stay
numbers_unlearnt : (ns : List ℕ) → map number_of (map unlearnt ns) ≡ ns
numbers_unlearnt [] = refl
numbers_unlearnt (n ∷ ns) = ap (λ rest. n ∷ rest) (numbers_unlearnt ns)

numbers_indexed : (p : PackageText) (devices : List ParametersOf) (is : List Planned)
    → map number_of (map (with_index p devices) is) ≡ map number_of is
numbers_indexed p devices [] = refl
numbers_indexed p devices (i ∷ is) = ap (λ rest. i.component ∷ rest) (numbers_indexed p devices is)

-- the stage after an answer is in the plan
abbrev LearntInPlan : PackageText → SessionLearnRow → Type 0
LearntInPlan p SessionLearnRow.Stay = Prim.Unit {0}
LearntInPlan p (SessionLearnRow.Go g) = IsStageInPlan p g

learnt_both : (p : PackageText) (b : Bool) (r q : SessionLearnRow) → LearntInPlan p r → LearntInPlan p q → LearntInPlan p (if b then r else q)
learnt_both p true r q x y = x
learnt_both p false r q x y = y

planned_in : (p : PackageText) (number : ℕ) (r : Result (List ℕ) PlanFault) → plan_of p number ≡ r → IsStageInPlan p (first_stage (planned number r))
planned_in p number (Err fault) e = tt
planned_in p number (Ok []) e = tt
planned_in p number (Ok (n ∷ ns)) e = e ∙ ap (λ numbers. Ok numbers) (sym (numbers_unlearnt (n ∷ ns)))

job_in : (p : PackageText) (o : Option ℕ) → IsStageInPlan p (first_stage (job_of p o))
job_in p None = tt
job_in p (Some number) = planned_in p number (plan_of p number) refl

first_in : (p : PackageText) (j : JobOf) (is : List Planned) → IsPlanned p j → All (IsOfPlan j) is → IsStageInPlan p (first_pass j is)
first_in p j [] h all = tt
first_in p j (i ∷ is) h all = (h, All-head (IsOfPlan j) i is all, All-tail (IsOfPlan j) i is all, All-nil (IsOfPlan j))

update_in : (p : PackageText) (j : JobOf) (todo : List Planned) → IsPlanned p j → All (IsOfPlan j) todo → IsStageInPlan p (first_task j todo)
update_in p j [] h all = tt
update_in p j (i ∷ is) h all = (h, All-head (IsOfPlan j) i is all, All-tail (IsOfPlan j) i is all)

next_in : (p : PackageText) (j : JobOf) (left todo : List Planned) → IsPlanned p j → All (IsOfPlan j) left → All (IsOfPlan j) todo
    → IsStageInPlan p (next_pass j left todo)
next_in p j [] todo h all x = update_in p j todo h x
next_in p j (i ∷ is) todo h all x = (h, All-head (IsOfPlan j) i is all, All-tail (IsOfPlan j) i is all, x)

-- a component to do is added to those to do
passed_in : (j : JobOf) (i : Planned) (todo : List Planned) (b : Bool) → IsOfPlan j i → All (IsOfPlan j) todo
    → All (IsOfPlan j) (if b then todo ++ i ∷ [] else todo)
passed_in j i todo true h x = All-push (IsOfPlan j) todo i x h
passed_in j i todo false h x = x

learns_in : (p : PackageText) (g : Stage) (a : Result AnswerOf Malformed) → IsStageInPlan p g → LearntInPlan p (learn_row p g a)
learns_in p Stage.Query (Ok (AnswerOf.QueryDeviceIdentifiers ds)) h = job_in p (record_number p (map package_descriptor ds))
learns_in p (Stage.Params j) (Ok (AnswerOf.GetFirmwareParameters devices)) h =
    h ∙ ap (λ numbers. Ok numbers) (sym (numbers_indexed p devices j.plan))
learns_in p (Stage.ClearOld j) (Ok AnswerOf.CancelUpdate) h = h
learns_in p (Stage.ClearOld j) (Ok (AnswerOf.Refused code)) h =
    learnt_both p (code == 0x80) (SessionLearnRow.Go (Stage.Request j)) (failure_row causes.Answer) h tt
learns_in p (Stage.Request j) (Ok AnswerOf.RequestUpdate) h = first_in p j j.plan h (All-contains_itself j.plan)
learns_in p (Stage.Request j) (Ok (AnswerOf.Refused code)) h =
    learnt_both p (code == 4) SessionLearnRow.Stay (failure_row causes.Answer) tt tt
learns_in p (Stage.Pass j i left todo) (Ok (AnswerOf.PassComponentTable response)) h =
    next_in p j left (with_passed (component_at p i.component) response.code i todo) h.0 h.2
    (passed_in j i todo (is_to_do (component_at p i.component) response.code) h.1 h.3)
learns_in p (Stage.Update t) (Ok (AnswerOf.UpdateComponent response)) h =
    learnt_both p (response.compatibility == 0) (SessionLearnRow.Go (Stage.Download t)) (failure_row causes.Refused) h tt
learns_in p (Stage.Update t) (Ok (AnswerOf.Refused code)) h =
    learnt_both p ((code == 4) || (code == 0x84)) SessionLearnRow.Stay (failure_row causes.Answer) tt tt
learns_in p (Stage.Activate j) (Ok (AnswerOf.Refused code)) h =
    learnt_both p (code == 0x84) SessionLearnRow.Stay (failure_row causes.Answer) tt tt
learns_in p g a h = tt

learnt_in : (p : PackageText) (s : SessionOf) (r : SessionLearnRow) → IsStageInPlan p s.stage → LearntInPlan p r → IsStageInPlan p (learn_by s r).stage
learnt_in p s SessionLearnRow.Stay h x = h
learnt_in p s (SessionLearnRow.Go g) h x = x

pub learns_in_plan : LearnsInPlan
learns_in_plan p s a h = learnt_in p s (learn_row p s.stage a) h (learns_in p s.stage a h)

chosen_planned : (p : PackageText) (ds : List DeviceDescriptorOf) (number : ℕ) (r : Result (List ℕ) PlanFault)
    → record_number p (map package_descriptor ds) ≡ Some number → HasChosen p ds (first_stage (planned number r))
chosen_planned p ds number (Err fault) e = tt
chosen_planned p ds number (Ok []) e = tt
chosen_planned p ds number (Ok (n ∷ ns)) e = e

chosen_job : (p : PackageText) (ds : List DeviceDescriptorOf) (o : Option ℕ) → record_number p (map package_descriptor ds) ≡ o
    → HasChosen p ds (first_stage (job_of p o))
chosen_job p ds None e = tt
chosen_job p ds (Some number) e = chosen_planned p ds number (plan_of p number) e

chosen_at : (p : PackageText) (s : SessionOf) (ds : List DeviceDescriptorOf) (g : Stage) → g ≡ Stage.Query
    → HasChosen p ds (learn_by s (learn_row p g (Ok (AnswerOf.QueryDeviceIdentifiers ds)))).stage
chosen_at p s ds g e = rw e (chosen_job p ds (record_number p (map package_descriptor ds)) refl)

pub chooses_record : ChoosesRecord
chooses_record p s ds e = chosen_at p s ds s.stage e
