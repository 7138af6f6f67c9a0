use Rattle.fw_edge.specs.Outcomes.{SentNone}
use Rattle.fw_edge.specs.Turns.{verdict_for}
use Rattle.fw_edge.proofs.Dues.{Due}
use Rattle.fw_edge.proofs.steps.judge_all.Given as goal

-- steps were taken, and nothing was sent
abbrev pub invariant-loop-place : goal.invariant-loop-place
invariant-loop-place g l = record {
  due : Due verdict_for l.place l.fn.world l.fn.steps.items l.world l.steps.items;
  quiet : SentNone l.fn.world l.fn.steps.items l.world l.steps.items;
}
