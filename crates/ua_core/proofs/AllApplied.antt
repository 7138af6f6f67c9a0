-- The cases in which a session gets into AllApplied.
use Rattle.std.specs.Prelude.{Bool, Err, List, Ok, Result, [], false, if◌then◌else◌, nat_lt, true, ◌&&◌, ◌||◌, ◌==◌, ◌∷◌, ◌≡◌, ℕ, map}
use Rattle.std.proofs.Common.{refl}
use Rattle.mctp_wire.specs.declared.unit.Unit.{«Unit»}
use Rattle.fw_package.specs.Choice.{component_at, record_number}
use Rattle.fw_package.specs.Package.{PackageText}
use Rattle.fwup_wire.specs.Values.{AnswerOf, CommandOf}
use Rattle.fwup_wire.specs.declared.answer.Malformed.{Malformed}
use Rattle.ua_core.specs.Laws.{AppliesAll, IsAllApplied, IsApplyingLast, LearnsAllAppliedNowhere}
use Rattle.ua_core.specs.Learn.{SessionLearnRow, first_stage, failure_row, first_pass, first_task, job_of, learn_by, learn_row, next_pass, with_passed}
use Rattle.ua_core.specs.Lent.{package_descriptor}
use Rattle.ua_core.specs.Serve.{ServeRow, after_by, data_of, is_bad_length, is_past_end, refusal_row, serve_row, task_after, unexpected_row, window}
use Rattle.ua_core.specs.Session.{JobOf, SessionOf, Stage, TaskOf}
use Rattle.ua_core.specs.declared.planned.Planned.{Planned}
use Rattle.ua_core.specs.declared.state.Cause.{Cause}
use Rattle.ua_core.specs.declared.state.Cause.TheVariants as causes

-- the case leads to AllApplied
abbrev LeadsToAll : ServeRow → Type 0
LeadsToAll (ServeRow.Move g a) = IsAllApplied g
LeadsToAll (ServeRow.Record t) = t.todo ≡ []
LeadsToAll _ = ⊥

-- after a record that leads there, nothing is left to do
nothing_left : (t : TaskOf) (todo : List Planned) → IsAllApplied (task_after t todo) → todo ≡ []
nothing_left t [] h = refl
nothing_left t (i ∷ is) h = absurd h

leads_by : (s : SessionOf) (r : ServeRow) → (IsAllApplied s.stage → ⊥) → IsAllApplied (after_by s r).stage → LeadsToAll r
leads_by s (ServeRow.Record t) out h = nothing_left t t.todo h
leads_by s (ServeRow.Move g a) out h = h
leads_by s (ServeRow.Say a) out h = out h
leads_by s (ServeRow.Give bytes) out h = out h

-- two cases that don't lead there
leads_both : (b : Bool) (r q : ServeRow) → (LeadsToAll r → ⊥) → (LeadsToAll q → ⊥) → LeadsToAll (if b then r else q) → ⊥
leads_both true r q x y h = x h
leads_both false r q x y h = y h

-- two such stages
stage_both : (b : Bool) (g f : Stage) → (IsAllApplied g → ⊥) → (IsAllApplied f → ⊥) → IsAllApplied (if b then g else f) → ⊥
stage_both true g f x y h = x h
stage_both false g f x y h = y h

-- the record of the last component leads there, a bad result doesn't
applied_leads : (t : TaskOf) (b : Bool)
    → LeadsToAll (if b then ServeRow.Record t else ServeRow.Move (Stage.Failed causes.Apply) AnswerOf.ApplyComplete) → t.todo ≡ []
applied_leads t true h = h
applied_leads t false h = absurd h

data_leads : (unit : «Unit») (image : List ℕ) (offset size : ℕ) → LeadsToAll (data_of unit image offset size) → ⊥
data_leads unit image offset size =
    leads_both (is_bad_length unit size) (refusal_row 0x83)
    (if is_past_end image offset size then refusal_row 0x82 else ServeRow.Give (window image offset size)) (λ h. h)
    (leads_both (is_past_end image offset size) (refusal_row 0x82) (ServeRow.Give (window image offset size)) (λ h. h) (λ h. h))

leads_in : (unit : «Unit») (p : PackageText) (g : Stage) (c : CommandOf) → LeadsToAll (serve_row unit p g c) → IsApplyingLast g
leads_in unit p (Stage.Apply t) (CommandOf.ApplyComplete result methods) h = applied_leads t (result == 0) h
leads_in unit p (Stage.Apply t) (CommandOf.VerifyComplete result) h =
    absurd (leads_both (result == 0) (ServeRow.Say AnswerOf.VerifyComplete) unexpected_row (λ x. x) (λ x. x) h)
leads_in unit p (Stage.Download t) (CommandOf.RequestFirmwareData offset size) h =
    absurd (data_leads unit (component_at p t.at_hand.component).image offset size h)
leads_in unit p (Stage.Download t) (CommandOf.TransferComplete result) h =
    absurd (stage_both (result == 0) (Stage.Verify t) (Stage.Failed causes.Transfer) (λ x. x) (λ x. x) h)
leads_in unit p (Stage.Verify t) (CommandOf.TransferComplete result) h =
    absurd (leads_both (result == 0) (ServeRow.Say AnswerOf.TransferComplete) unexpected_row (λ x. x) (λ x. x) h)
leads_in unit p (Stage.Verify t) (CommandOf.VerifyComplete result) h =
    absurd (stage_both (result == 0) (Stage.Apply t) (Stage.Failed causes.Verify) (λ x. x) (λ x. x) h)
leads_in unit p (Stage.Update t) (CommandOf.ApplyComplete result methods) h =
    absurd (leads_both ((result == 0) && nat_lt 0 t.made) (ServeRow.Say AnswerOf.ApplyComplete) unexpected_row (λ x. x) (λ x. x) h)
leads_in unit p (Stage.AllApplied j) (CommandOf.ApplyComplete result methods) h =
    absurd (leads_both (result == 0) (ServeRow.Say AnswerOf.ApplyComplete) unexpected_row (λ x. x) (λ x. x) h)
leads_in unit p (Stage.Activate j) (CommandOf.ApplyComplete result methods) h =
    absurd (leads_both (result == 0) (ServeRow.Say AnswerOf.ApplyComplete) unexpected_row (λ x. x) (λ x. x) h)
leads_in unit p g (CommandOf.RequestFirmwareData offset size) h = absurd h
leads_in unit p g (CommandOf.TransferComplete result) h = absurd h
leads_in unit p g (CommandOf.VerifyComplete result) h = absurd h
leads_in unit p g (CommandOf.ApplyComplete result methods) h = absurd h
leads_in unit p g c h = absurd h

pub applies_all : AppliesAll
applies_all p s c out h = leads_in s.unit p s.stage c (leads_by s (serve_row s.unit p s.stage c) out h)

-- another stage
abbrev IsElsewhere : Stage → Type 0
IsElsewhere (Stage.AllApplied _) = ⊥
IsElsewhere _ = Prim.Unit {0}

not_all_applied : (g : Stage) → IsElsewhere g → IsAllApplied g → ⊥
not_all_applied (Stage.AllApplied j) x h = x
not_all_applied g x h = h

-- an answer leads to another stage
abbrev LeadsElsewhere : SessionLearnRow → Type 0
LeadsElsewhere SessionLearnRow.Stay = Prim.Unit {0}
LeadsElsewhere (SessionLearnRow.Go g) = IsElsewhere g

learnt_both : (b : Bool) (r q : SessionLearnRow) → LeadsElsewhere r → LeadsElsewhere q → LeadsElsewhere (if b then r else q)
learnt_both true r q x y = x
learnt_both false r q x y = y

begun_elsewhere : (r : Result JobOf Cause) → IsElsewhere (first_stage r)
begun_elsewhere (Ok j) = tt
begun_elsewhere (Err cause) = tt

first_elsewhere : (j : JobOf) (is : List Planned) → IsElsewhere (first_pass j is)
first_elsewhere j [] = tt
first_elsewhere j (i ∷ is) = tt

task_elsewhere : (j : JobOf) (todo : List Planned) → IsElsewhere (first_task j todo)
task_elsewhere j [] = tt
task_elsewhere j (i ∷ is) = tt

next_elsewhere : (j : JobOf) (left todo : List Planned) → IsElsewhere (next_pass j left todo)
next_elsewhere j [] todo = task_elsewhere j todo
next_elsewhere j (i ∷ is) todo = tt

learns_elsewhere : (p : PackageText) (g : Stage) (a : Result AnswerOf Malformed) → LeadsElsewhere (learn_row p g a)
learns_elsewhere p Stage.Query (Ok (AnswerOf.QueryDeviceIdentifiers ds)) =
    begun_elsewhere (job_of p (record_number p (map package_descriptor ds)))
learns_elsewhere p (Stage.Params j) (Ok (AnswerOf.GetFirmwareParameters devices)) = tt
learns_elsewhere p (Stage.ClearOld j) (Ok (AnswerOf.Refused code)) =
    learnt_both (code == 0x80) (SessionLearnRow.Go (Stage.Request j)) (failure_row causes.Answer) tt tt
learns_elsewhere p (Stage.Request j) (Ok AnswerOf.RequestUpdate) = first_elsewhere j j.plan
learns_elsewhere p (Stage.Request j) (Ok (AnswerOf.Refused code)) =
    learnt_both (code == 4) SessionLearnRow.Stay (failure_row causes.Answer) tt tt
learns_elsewhere p (Stage.Pass j i left todo) (Ok (AnswerOf.PassComponentTable response)) =
    next_elsewhere j left (with_passed (component_at p i.component) response.code i todo)
learns_elsewhere p (Stage.Update t) (Ok (AnswerOf.UpdateComponent response)) =
    learnt_both (response.compatibility == 0) (SessionLearnRow.Go (Stage.Download t)) (failure_row causes.Refused) tt tt
learns_elsewhere p (Stage.Update t) (Ok (AnswerOf.Refused code)) =
    learnt_both ((code == 4) || (code == 0x84)) SessionLearnRow.Stay (failure_row causes.Answer) tt tt
learns_elsewhere p (Stage.Activate j) (Ok (AnswerOf.Refused code)) =
    learnt_both (code == 0x84) SessionLearnRow.Stay (failure_row causes.Answer) tt tt
learns_elsewhere p g a = tt

learnt_elsewhere : (s : SessionOf) (r : SessionLearnRow) → (IsAllApplied s.stage → ⊥) → LeadsElsewhere r → IsAllApplied (learn_by s r).stage → ⊥
learnt_elsewhere s SessionLearnRow.Stay out x h = out h
learnt_elsewhere s (SessionLearnRow.Go g) out x h = not_all_applied g x h

pub learns_nowhere : LearnsAllAppliedNowhere
learns_nowhere p s a out h = learnt_elsewhere s (learn_row p s.stage a) out (learns_elsewhere p s.stage a) h
