use Rattle.std.proofs.Common.{drop}
use Rattle.fw_script.specs.ScheduleTexts.{StepsRoundTrip}
use Rattle.fwupd_watch.specs.Recordings.{AreRecordable}
use Rattle.fwupd_watch.proofs.recording.are_said.Given as goal

-- if the steps after the index can be encoded, all can; if all can be recorded, the rest can
abbrev pub invariant-loop-step : goal.invariant-loop-step
invariant-loop-step l = record {
  said : StepsRoundTrip (drop l.step-index l.steps) → StepsRoundTrip l.steps;
  taken : AreRecordable l.steps → AreRecordable (drop l.step-index l.steps);
}
