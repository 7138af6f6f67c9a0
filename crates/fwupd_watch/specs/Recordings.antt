-- The steps of a run as a schedule that a replay reads.
use Rattle.std.specs.Prelude.{ℕ, ◌≡◌, List, Ok, Option, None, Some, true}
use Rattle.std.specs.Io.KnownBytes.{Appends}
use Rattle.std.specs.List.{AllByRecursion}
use Rattle.fw_edge.specs.Drives.{is_driven}
use Rattle.fw_script.specs.ScheduleTexts.{StepsRoundTrip, StepRoundTrips, idle_at, schedule_text, text_of_steps, ticks_text}
use Rattle.fw_script.specs.Schedules.{script_of}
use Rattle.fw_steps.specs.Steps.{Run}
use Rattle.fw_steps.specs.Worlds.{WorldOf}
use Rattle.fw_steps.specs.declared.step.Step.{Step}
use Rattle.fw_steps.specs.declared.step.Step.TheVariants as steps

-- The bytes at the beginning of the recording and now, if they are known; and the number of
-- held-back ticks.
pub record RecordingOf : Type 0 where
  pub begun : Option (List ℕ)
  pub written : Option (List ℕ)
  pub idle : ℕ

abbrev pub recording_of : (begun written : Option (List ℕ)) (idle : ℕ) → RecordingOf
recording_of begun written idle = record { begun = begun; written = written; idle = idle }

-- A schedule can encode this step, and a run takes it: the start of an update, or a step that the
-- run takes by itself.
abbrev pub IsRecordable : Step → Type 0
IsRecordable (steps.Start device number) = StepRoundTrips (steps.Start device number)
IsRecordable s = (is_driven s ≡ true) × StepRoundTrips s

abbrev pub AreRecordable : List Step → Type 0
AreRecordable ss = AllByRecursion IsRecordable ss

-- nothing is written yet
pub record IsNewRecording (r : RecordingOf) : Type 0 where
  pub written : r.written ≡ r.begun
  pub idle : r.idle ≡ 0

-- These steps are appended, and a schedule can encode them.
pub record RecordsSteps (before now : RecordingOf) (steps : List Step) : Type 0 where
  pub begun : now.begun ≡ before.begun
  pub text : Appends before.written now.written (text_of_steps before.idle steps)
  pub idle : now.idle ≡ idle_at before.idle steps
  pub sayable : StepsRoundTrip steps

-- the same if steps are recorded at all
abbrev pub RecordsStepsIfAny : (before now : Option RecordingOf) → List Step → Type 0
RecordsStepsIfAny None now steps = now ≡ None
RecordsStepsIfAny (Some r) None steps = ⊥
RecordsStepsIfAny (Some r) (Some s) steps = RecordsSteps r s steps

-- The held-back ticks are written too.
pub record WritesHeldTicks (before now : RecordingOf) : Type 0 where
  pub begun : now.begun ≡ before.begun
  pub text : Appends before.written now.written (ticks_text before.idle)
  pub none_held : now.idle ≡ 0

abbrev pub WritesHeldTicksIfAny : (before now : Option RecordingOf) → Type 0
WritesHeldTicksIfAny None now = now ≡ None
WritesHeldTicksIfAny (Some r) None = ⊥
WritesHeldTicksIfAny (Some r) (Some s) = WritesHeldTicks r s

-- The steps from one world to another are recorded.
pub record RecordsRun (w v : WorldOf) (before now : Option RecordingOf) : Type 0 where
  pub steps : List Step
  pub run : Run w steps v
  pub noted : RecordsStepsIfAny before now steps

-- They are written as a whole, as a schedule that reads back as these steps.
pub record HasRecordedSteps (w v : WorldOf) (r : RecordingOf) : Type 0 where
  pub steps : List Step
  pub run : Run w steps v
  pub written : Appends r.begun r.written (schedule_text steps)
  pub reads : script_of (schedule_text steps) ≡ Ok steps
