use Rattle.fw_soak.specs.Courses.{ContinuesRun}
use Rattle.fw_soak.specs.Turns.{EachPlace, TurnsOn, upsetting}
use Rattle.fw_soak.proofs.turns.repeat_turns.Given as goal

-- `count` turns were taken
abbrev pub invariant-loop-count : goal.invariant-loop-count
invariant-loop-count l = record {
  goes : ContinuesRun l.fn.course l.course;
  on : EachPlace (λ i. TurnsOn l.packages) l.count (upsetting l.fn.upsets l.fn.course l.fn.traffic l.fn.chances) (upsetting l.upsets l.course l.traffic l.chances);
}
