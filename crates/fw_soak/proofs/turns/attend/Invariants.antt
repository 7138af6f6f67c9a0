use Rattle.fw_soak.specs.Courses.{ContinuesRun}
use Rattle.fw_soak.specs.Turns.{EachPlace, AttendsOne, drawn_run}
use Rattle.fw_soak.proofs.turns.attend.Given as goal

-- so far this was done at each place
abbrev pub invariant-loop-place : goal.invariant-loop-place
invariant-loop-place l = record {
  goes : ContinuesRun l.fn.course l.course;
  each : EachPlace AttendsOne l.place (drawn_run l.fn.course l.fn.chances) (drawn_run l.course l.chances);
}
