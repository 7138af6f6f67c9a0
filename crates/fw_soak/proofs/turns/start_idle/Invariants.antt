use Rattle.fw_soak.specs.Courses.{ContinuesRun}
use Rattle.fw_soak.specs.Turns.{EachPlace, StartsIdleOne, drawn_run}
use Rattle.fw_soak.proofs.turns.start_idle.Given as goal

-- so far this was done at each place
abbrev pub invariant-loop-place : goal.invariant-loop-place
invariant-loop-place l = record {
  goes : ContinuesRun l.fn.course l.course;
  each : EachPlace (StartsIdleOne l.packages) l.place (drawn_run l.fn.course l.fn.chances) (drawn_run l.course l.chances);
}
