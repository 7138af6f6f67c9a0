use Rattle.std.proofs.Common.{take}
use Rattle.fw_soak.specs.Courses.{ContinuesRun}
use Rattle.fw_soak.specs.Turns.{EachIn, Sends, soaking}
use Rattle.fw_soak.specs.declared.chances.Chances.{Chances}
use Rattle.fw_soak.proofs.traffic.Traffic.send_each.Given as goal

-- the copies before the index are sent
abbrev pub invariant-loop-wait : goal.invariant-loop-wait
invariant-loop-wait l = record {
  goes : ContinuesRun l.fn.course l.course;
  sends : (g : Chances) → EachIn (Sends l.arrival) (take l.wait-index l.delays) (soaking l.fn.course l.fn.self g) (soaking l.course l.self g);
}
