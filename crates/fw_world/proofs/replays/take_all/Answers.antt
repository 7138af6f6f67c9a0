use Rattle.std.proofs.Common.{subst, take}
use Rattle.fw_steps.specs.Steps.{StepsTo}
use Rattle.fw_world.proofs.Taken.{run_next}
use Rattle.fw_world.proofs.replays.take_all.Goals as goal

pub loop-i-preserved : goal.loop-i-preserved
loop-i-preserved g c =
    run_next c.args.world.now c.loop-i.world c.step.new.self c.args.steps.now c.loop-i.i c.index-steps-i.result c.loop-i-test.true c.loop-i.invariant
    (subst (λ s. StepsTo c.loop-i.world s c.step.new.self) c.index-steps-i.is c.in-Ok.ensures.taken)

pub returns-in-Err-clause-led : goal.returns-in-Err-clause-led
returns-in-Err-clause-led g c = rw c.in-Err.ensures.same (record { steps = take c.loop-i.i c.args.steps.now; run = c.loop-i.invariant })

pub returns-clause-led : goal.returns-clause-led
returns-clause-led g c = record { steps = take c.loop-i.i c.args.steps.now; run = c.loop-i.invariant }
