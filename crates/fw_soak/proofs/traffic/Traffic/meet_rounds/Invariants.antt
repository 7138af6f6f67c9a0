use Rattle.std.proofs.Common.{true}
use Rattle.fw_soak.specs.Courses.{ContinuesRun}
use Rattle.fw_soak.specs.Turns.{EachPlace, MeetsRound, soaking}
use Rattle.fw_soak.proofs.traffic.Traffic.meet_rounds.Given as goal

-- a packet was given its fate in each round before
abbrev pub invariant-loop-count : goal.invariant-loop-count
invariant-loop-count l = record {
  goes : ContinuesRun l.fn.course l.course;
  on : EachPlace (λ i x y. MeetsRound x y true) l.count (soaking l.fn.course l.fn.self l.fn.chances) (soaking l.course l.self l.chances);
}
