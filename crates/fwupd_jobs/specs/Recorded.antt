-- The replay of a recorded run.
use Rattle.std.specs.Prelude.{◌≡◌, List, [], ◌∷◌, Ok, true}
use Rattle.fw_json.specs.Forms.{report_in}
use Rattle.fwupd_base.specs.declared.forms.Form.{Form}
use Rattle.fw_script.specs.ScheduleTexts.{schedule_text}
use Rattle.fw_script.specs.Schedules.{script_of}
use Rattle.fw_steps.specs.Steps.{Run}
use Rattle.fw_steps.specs.Worlds.{WorldOf}
use Rattle.fw_steps.specs.declared.step.Step.{Step}
use Rattle.fwupd_watch.specs.Recordings.{HasRecordedSteps, RecordingOf}

-- no call of a bank failed in a run
abbrev pub AllWork : (w : WorldOf) (ss : List Step) (v : WorldOf) → Run w ss v → Type 0
AllWork w [] v h = Prim.Unit {0}
AllWork w (s ∷ ss) v h = (h.1.works ≡ true) × AllWork h.0 ss v h.2

-- If no call of a bank failed in two runs of the same steps from one world, their last worlds are
-- equal. So the report of the replay of a recorded run is that of the run.
abbrev pub RecordsReplay : Type 0
RecordsReplay = (w v u : WorldOf) (r : RecordingOf) (form : Form) (h : HasRecordedSteps w v r) (steps : List Step) → script_of (schedule_text h.steps) ≡ Ok steps → (k : Run w steps u)
    → AllWork w h.steps v h.run → AllWork w steps u k → report_in form u ≡ report_in form v
