-- The laws of every session that the proof over a pair of agent and device needs.
use Rattle.std.specs.Prelude.{[], All, Contains, IsSome, List, Ok, Result, Some, length, map, take, ◌++◌, ◌∷◌, ◌≡◌, ◌+◌, ℕ}
use Rattle.fw_package.specs.Choice.{component_at, plan_of, record_number}
use Rattle.fw_package.specs.Package.{PackageText}
use Rattle.fwup_wire.specs.Values.{AnswerOf, CommandOf, DeviceDescriptorOf}
use Rattle.fwup_wire.specs.declared.answer.Malformed.{Malformed}
use Rattle.ua_core.specs.Learn.{agent_learn}
use Rattle.ua_core.specs.Lent.{key_of, package_descriptor}
use Rattle.ua_core.specs.Serve.{agent_after, agent_answer, agent_idle, record_of, recorded_by, window}
use Rattle.ua_core.specs.Session.{JobOf, SessionOf, Stage, TaskOf}
use Rattle.ua_core.specs.Wish.{agent_wish}
use Rattle.ua_core.specs.declared.planned.Planned.{Planned}

-- the number of a planned component
abbrev pub number_of : Planned → ℕ
number_of i = i.component

-- the job's components are those that the package plans for its record
abbrev pub IsPlanned : PackageText → JobOf → Type 0
IsPlanned p j = plan_of p j.chosen ≡ Ok (map number_of j.plan)

-- the component is one of the plan
abbrev pub IsOfPlan : JobOf → Planned → Type 0
IsOfPlan j i = Contains j.plan i

abbrev pub IsTask : PackageText → TaskOf → Type 0
IsTask p t = IsPlanned p t.job × IsOfPlan t.job t.at_hand × All (IsOfPlan t.job) t.todo

-- the invariant of each stage
abbrev pub IsStageInPlan : PackageText → Stage → Type 0
IsStageInPlan p (Stage.Params j) = IsPlanned p j
IsStageInPlan p (Stage.ClearOld j) = IsPlanned p j
IsStageInPlan p (Stage.Request j) = IsPlanned p j
IsStageInPlan p (Stage.Pass j i left todo) = IsPlanned p j × IsOfPlan j i × All (IsOfPlan j) left × All (IsOfPlan j) todo
IsStageInPlan p (Stage.Update t) = IsTask p t
IsStageInPlan p (Stage.Download t) = IsTask p t
IsStageInPlan p (Stage.Verify t) = IsTask p t
IsStageInPlan p (Stage.Apply t) = IsTask p t
IsStageInPlan p (Stage.AllApplied j) = IsPlanned p j
IsStageInPlan p (Stage.Activate j) = IsPlanned p j
IsStageInPlan p _ = Unit {0}

-- a device's command keeps the session in the plan
abbrev pub ServesInPlan : Type 0
ServesInPlan = (p : PackageText) (s : SessionOf) (c : CommandOf) → IsStageInPlan p s.stage → IsStageInPlan p (agent_after p s c).stage

-- an answer keeps the session in the plan
abbrev pub LearnsInPlan : Type 0
LearnsInPlan = (p : PackageText) (s : SessionOf) (a : Result AnswerOf Malformed) → IsStageInPlan p s.stage → IsStageInPlan p (agent_learn p s a).stage

-- the record that the device's descriptors choose is the job's
abbrev pub HasChosen : PackageText → List DeviceDescriptorOf → Stage → Type 0
HasChosen p ds (Stage.Params j) = record_number p (map package_descriptor ds) ≡ Some j.chosen
HasChosen p ds _ = Unit {0}

abbrev pub ChoosesRecord : Type 0
ChoosesRecord = (p : PackageText) (s : SessionOf) (ds : List DeviceDescriptorOf) → s.stage ≡ Stage.Query
    → HasChosen p ds (agent_learn p s (Ok (AnswerOf.QueryDeviceIdentifiers ds))).stage

-- two components of a plan with the same key are one
abbrev pub PlanHasKeysOnce : Type 0
PlanHasKeysOnce = (p : PackageText) (j : JobOf) (n m : ℕ) → IsPlanned p j → Contains (map number_of j.plan) n → Contains (map number_of j.plan) m
    → key_of (component_at p n) ≡ key_of (component_at p m) → n ≡ m

-- a stage in which a session has no plan: before the plan is made, or after an update
abbrev pub IsOutsideUpdate : Stage → Type 0
IsOutsideUpdate Stage.Idle = Unit {0}
IsOutsideUpdate Stage.Query = Unit {0}
IsOutsideUpdate Stage.Done = Unit {0}
IsOutsideUpdate Stage.Cancelling = Unit {0}
IsOutsideUpdate (Stage.Failed _) = Unit {0}
IsOutsideUpdate _ = ⊥

-- a command after which the session is in such a stage makes no record
abbrev pub OutsideUpdateRecordsNothing : Type 0
OutsideUpdateRecordsNothing = (p : PackageText) (s : SessionOf) (c : CommandOf) → IsOutsideUpdate (agent_after p s c).stage → (agent_after p s c).records ≡ s.records

-- the records grow by what is recorded
abbrev pub RecordsGrow : Type 0
RecordsGrow = (p : PackageText) (s : SessionOf) (c : CommandOf) → (agent_after p s c).records ≡ s.records ++ recorded_by p s c

-- the component being updated is being applied; only then does a command make a record
abbrev pub IsApplying : Stage → Type 0
IsApplying (Stage.Apply _) = Unit {0}
IsApplying _ = ⊥

abbrev pub RecordsInApply : Type 0
RecordsInApply = (p : PackageText) (s : SessionOf) (c : CommandOf) → (IsApplying s.stage → ⊥) → recorded_by p s c ≡ []

-- in that stage every good ApplyComplete makes a record of the component being updated
abbrev pub RecordsGoodApply : Type 0
RecordsGoodApply = (p : PackageText) (s : SessionOf) (t : TaskOf) (methods : ℕ) → s.stage ≡ Stage.Apply t
    → recorded_by p s (CommandOf.ApplyComplete 0 methods) ≡ record_of s t ∷ []

-- an answer records nothing
abbrev pub LearnsNoRecord : Type 0
LearnsNoRecord = (p : PackageText) (s : SessionOf) (a : Result AnswerOf Malformed) → (agent_learn p s a).records ≡ s.records

-- every component is applied
abbrev pub IsAllApplied : Stage → Type 0
IsAllApplied (Stage.AllApplied _) = Unit {0}
IsAllApplied _ = ⊥

-- the component being updated is being applied, and none is left to do
abbrev pub IsApplyingLast : Stage → Type 0
IsApplyingLast (Stage.Apply t) = t.todo ≡ []
IsApplyingLast _ = ⊥

-- a command takes the session to AllApplied only while the last component is being applied
abbrev pub AppliesAll : Type 0
AppliesAll = (p : PackageText) (s : SessionOf) (c : CommandOf) → (IsAllApplied s.stage → ⊥) → IsAllApplied (agent_after p s c).stage
    → IsApplyingLast s.stage

-- no answer takes the session there
abbrev pub LearnsAllAppliedNowhere : Type 0
LearnsAllAppliedNowhere = (p : PackageText) (s : SessionOf) (a : Result AnswerOf Malformed) → (IsAllApplied s.stage → ⊥)
    → IsAllApplied (agent_learn p s a).stage → ⊥

-- while the session has a pending command, the device's commands leave it as it is
abbrev pub WishStands : Type 0
WishStands = (p : PackageText) (s : SessionOf) (c : CommandOf) → IsSome (agent_wish p s) → agent_after p s c ≡ s

-- a command that is answered by a code alone, with which the session refuses it
abbrev pub IsRefusedByAgent : PackageText → SessionOf → CommandOf → ℕ → Type 0
IsRefusedByAgent p s c code = agent_answer p s c ≡ AnswerOf.Refused code

-- a command that is refused leaves the session as it is
abbrev pub RefusalsKeepTheSession : Type 0
RefusalsKeepTheSession = (p : PackageText) (s : SessionOf) (c : CommandOf) (code : ℕ) → IsRefusedByAgent p s c code → agent_after p s c ≡ s

-- it records nothing
abbrev pub RefusalsRecordNothing : Type 0
RefusalsRecordNothing = (p : PackageText) (s : SessionOf) (c : CommandOf) (code : ℕ) → IsRefusedByAgent p s c code → recorded_by p s c ≡ []

-- and the count of idle ticks continues
abbrev pub RefusalsKeepSessionIdle : Type 0
RefusalsKeepSessionIdle = (p : PackageText) (s : SessionOf) (idle : ℕ) (c : CommandOf) (code : ℕ) → IsRefusedByAgent p s c code
    → agent_idle p s idle c ≡ idle

-- consecutive pieces continue the image: bytes past its end are cut off
abbrev pub WindowContinues : Type 0
WindowContinues = (image : List ℕ) (offset size : ℕ)
    → take (length image) (take offset image ++ window image offset size) ≡ take (offset + size) image
