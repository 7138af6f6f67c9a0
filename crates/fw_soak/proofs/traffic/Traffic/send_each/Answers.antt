use Rattle.std.proofs.Common.{ap, arith, refl}
use Rattle.fw_soak.specs.Turns.{Sends, soaking}
use Rattle.fw_soak.proofs.Coursing.{goes_none, goes_on}
use Rattle.fw_soak.proofs.Placing.{in_all, in_next}
use Rattle.fw_soak.proofs.traffic.Traffic.send_each.Goals as goal

pub loop-wait-init : goal.loop-wait-init
loop-wait-init c = record { goes = goes_none c.args.course.now; sends = λ g. refl }

pub loop-wait-preserved : goal.loop-wait-preserved
loop-wait-preserved c = record {
  goes = goes_on c.args.course.now c.loop-wait.course c.send.new.course c.loop-wait.invariant.goes c.send.ensures.goes;
  sends = λ g. in_next (Sends c.args.arrival) c.loop-wait.wait-index c.args.delays.now 0 (soaking c.args.course.now c.args.self.now g)
      (soaking c.loop-wait.course c.loop-wait.self g) (soaking c.send.new.course c.send.new.self g) (omega (arith, c.loop-wait-test.true)) (c.loop-wait.invariant.sends g)
      (record {
        at_once = c.in-Ok.ensures.at_once;
        later = c.in-Ok.ensures.later;
        roughness = c.send.ensures.roughness;
        met = ap (λ v. v.items) c.send.ensures.met;
        drawn = refl;
      });
}

pub returns-clause-sends : goal.returns-clause-sends
returns-clause-sends c = λ g. in_all (Sends c.args.arrival) c.loop-wait.wait-index c.args.delays.now (soaking c.args.course.now c.args.self.now g) (soaking c.loop-wait.course c.loop-wait.self g)
    (omega (arith, c.loop-wait-test.false)) (c.loop-wait.invariant.sends g)
