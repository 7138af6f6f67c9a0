-- The world after a replay, and the output of a replay.
use Rattle.std.specs.Prelude.{ℕ, ◌≡◌, ◌<◌, ◌+◌, ◌⊎◌, Bool, true, IfSome, List, ◌∷◌, Option, Some, None, length, slice_get, take}
use Rattle.fw_script.specs.Configs.{ConfigOf}
use Rattle.fw_script.specs.Schedules.{script_of}
use Rattle.fw_json.specs.Forms.{report_in}
use Rattle.fwupd_base.specs.declared.forms.Form.{Form}
use Rattle.fw_steps.specs.Clocks.{KeepsTime}
use Rattle.fw_steps.specs.Promises.{IsSafeWorld}
use Rattle.fw_steps.specs.Steps.{Run, is_node}
use Rattle.fw_steps.specs.Moments.{IsTiedBetween}
use Rattle.fw_steps.specs.Replays.{RefusesStep}
use Rattle.fw_steps.specs.Worlds.{WorldOf}
use Rattle.fw_steps.specs.declared.step.Step.{Step}
use Rattle.fw_steps.specs.declared.step.StepFault.{StepFault}
use Rattle.fwupd_watch.specs.Outputs.{FailsToWriteOutput, OutputOf, WritesOutput}
use Rattle.fwupd_jobs.specs.Promises.{IsPromisedRun}
use Rattle.fwupd_watch.specs.Apart.{IsApart, IsBarred}
use Rattle.fwupd_watch.specs.Running.{ShowOf, ObserverOf, shown_of, job_fault_of_observer}
use Rattle.fwupd_watch.specs.Files.{FileOf}
use Rattle.fwupd_watch.specs.Inputs.{inputs_of}
use Rattle.fwupd_nodes.specs.Setups.{IsConfigured, IsSetup, Says, SetupFails, SourceOf, StoresFail, TextFails}
use Rattle.fwupd_watch.specs.declared.running.ObserverFault.{ObserverFault}
use Rattle.fwupd_watch.specs.declared.faults.JobFault.{JobFault}
use Rattle.fwupd_watch.specs.declared.faults.JobFault.TheVariants as faults

-- all steps are taken; or those before the one that is refused, for this reason
abbrev pub LeavesWorld : WorldOf → List Step → Option (ℕ × StepFault) → WorldOf → Type 0
LeavesWorld w steps None v = Run w steps v
LeavesWorld w steps (Some f) v = (f.0 < length steps) × Run w (take f.0 steps) v × IfSome (slice_get steps f.0) (λ s. RefusesStep v s f.1)

-- the number of steps taken
abbrev pub taken_of : List Step → Option (ℕ × StepFault) → ℕ
taken_of steps None = length steps
taken_of steps (Some f) = f.0

-- The steps that were taken.
abbrev pub steps_taken : List Step → Option (ℕ × StepFault) → List Step
steps_taken steps fault = take (taken_of steps fault) steps

-- The report is of the last world, of which is promised what is of every run of the steps that were
-- taken. Any two moments of any run from the first world are tied, and each node keeps time between
-- them.
pub record IsReplayed (w : WorldOf) (steps : List Step) (fault : Option (ℕ × StepFault)) (form : Form) (text : List ℕ) : Type 0 where
  pub world : WorldOf
  pub left : LeavesWorld w steps fault world
  pub promised : IsPromisedRun w (steps_taken steps fault) world
  pub moments : (earlier later : WorldOf) (before between : List Step) → Run w before earlier → Run earlier between later
      → IsSafeWorld w later × IsTiedBetween earlier later
  pub time : (earlier later : WorldOf) (before between : List Step) → Run w before earlier → Run earlier between later
      → (eid : ℕ) → is_node earlier eid ≡ true → KeepsTime eid between
  pub report : text ≡ report_in form world

-- The report of the world after the steps in a schedule's file, from the world of a configuration's
-- file.
pub record IsReport (files : List ℕ → FileOf) (config : SourceOf) (schedule : List ℕ) (form : Form) (fault : Option (ℕ × StepFault)) (text : List ℕ) : Type 0 where
  pub world : WorldOf
  pub setup : IsSetup files config world
  pub steps : List Step
  pub says : Says script_of (files schedule) steps
  pub replayed : IsReplayed world steps fault form text

-- The report is written.
pub record Reports (files : List ℕ → FileOf) (config : SourceOf) (schedule : List ℕ) (form : Form) (fault : Option (ℕ × StepFault)) (before now : OutputOf) : Type 0 where
  pub text : List ℕ
  pub report : IsReport files config schedule form fault text
  pub written : WritesOutput before now text

-- The report is written, and a step, numbered from 1, is refused.
pub record ReportsStep (files : List ℕ → FileOf) (config : SourceOf) (schedule : List ℕ) (form : Form) (told : JobFault) (before now : OutputOf) : Type 0 where
  pub place : ℕ
  pub fault : StepFault
  pub is : told ≡ faults.Step (place + 1) fault
  pub reports : Reports files config schedule form (Some (place, fault)) before now

-- A beginning of the report is written.
pub record BreaksOff (files : List ℕ → FileOf) (config : SourceOf) (schedule : List ℕ) (form : Form) (told : JobFault) (before now : OutputOf) : Type 0 where
  pub is : told ≡ faults.Output
  pub fault : Option (ℕ × StepFault)
  pub text : List ℕ
  pub report : IsReport files config schedule form fault text
  pub begun : FailsToWriteOutput before now text

-- the world exists, and the schedule can't be read
pub record ScheduleFails (files : List ℕ → FileOf) (config : SourceOf) (schedule : List ℕ) (told : JobFault) : Type 0 where
  pub world : WorldOf
  pub setup : IsSetup files config world
  pub fails : TextFails script_of files schedule told

-- No output of the observer overwrites a file that the replay reads.
pub record IsReplayApart (files : List ℕ → FileOf) (config : SourceOf) (schedule : List ℕ) (show : ShowOf) : Type 0 where
  pub says : ConfigOf
  pub is : IsConfigured files config.config says
  pub apart : IsApart files show (schedule ∷ inputs_of config.config says.packages)

-- The report is written. The observer showed the requested outputs, had no fault, and has ended.
pub record ReportsReplay (files : List ℕ → FileOf) (config : SourceOf) (schedule : List ℕ) (show : ShowOf) (watched : ObserverOf) (before now : OutputOf) : Type 0 where
  pub reports : Reports files config schedule show.form None before now
  pub apart : IsReplayApart files config schedule show
  pub shown : watched.shows ≡ shown_of show
  pub seen : watched.fault ≡ None
  pub let_end : watched.has_ended ≡ true

-- The report of all steps is written. The observer had a fault, which is reported.
pub record ReportsUnseen (files : List ℕ → FileOf) (config : SourceOf) (schedule : List ℕ) (show : ShowOf) (told : JobFault) (watched : ObserverOf) (before now : OutputOf) : Type 0 where
  pub reports : Reports files config schedule show.form None before now
  pub fault : ObserverFault
  pub is : told ≡ job_fault_of_observer fault
  pub had : watched.fault ≡ Some fault
  pub let_end : watched.has_ended ≡ true

-- Nothing is replayed: the world and the steps exist, and an output may overwrite an input or
-- another output, is in a store, or is refused.
pub record LacksKept (files : List ℕ → FileOf) (config : SourceOf) (schedule : List ℕ) (show : ShowOf) (refuses : List ℕ → Bool) (told : JobFault) (watched : ObserverOf) : Type 0 where
  pub world : WorldOf
  pub setup : IsSetup files config world
  pub steps : List Step
  pub says : Says script_of (files schedule) steps
  pub barred : IsBarred files refuses show (schedule ∷ inputs_of config.config setup.config.packages) told watched

-- Nothing is replayed: memory was refused, or one of the inputs, the first in their order, is
-- faulty, or a device's store is.
abbrev pub StopsBefore : (files : List ℕ → FileOf) (config : SourceOf) (schedule : List ℕ) (told : JobFault) → Type 0
StopsBefore files config schedule told =
    (told ≡ faults.Memory) ⊎ (SetupFails files config.config told ⊎ (StoresFail files config told ⊎ ScheduleFails files config schedule told))

-- The result of a replay that failed. If nothing is replayed, nothing is written.
abbrev pub ReplayEnds : (files : List ℕ → FileOf) (config : SourceOf) (schedule : List ℕ) (show : ShowOf) (refuses : List ℕ → Bool) (told : JobFault) (watched : ObserverOf) (before now : OutputOf) → Type 0
ReplayEnds files config schedule show refuses told watched before now =
    ReportsStep files config schedule show.form told before now
    ⊎ (BreaksOff files config schedule show.form told before now
    ⊎ ((StopsBefore files config schedule told × (now ≡ before))
    ⊎ (ReportsUnseen files config schedule show told watched before now ⊎ (LacksKept files config schedule show refuses told watched × (now ≡ before)))))
