use Rattle.std.proofs.Common.{false}
use Rattle.fw_soak.specs.Courses.{ContinuesRun}
use Rattle.fw_soak.specs.Turns.{EachPlace, MeetsPlace, soaking}
use Rattle.fw_soak.proofs.traffic.Traffic.meet_round.Given as goal

-- the next packets of the pairs before the place have their fate
abbrev pub invariant-loop-place : goal.invariant-loop-place
invariant-loop-place l = record {
  goes : ContinuesRun l.fn.course l.course;
  each : EachPlace MeetsPlace l.place (record { any = false; soaking = soaking l.fn.course l.fn.self l.fn.chances }) (record { any = l.any; soaking = soaking l.course l.self l.chances });
}
