use Rattle.std.proofs.Common.{◌++◌, Ok, ap, take}
use Rattle.fw_message.proofs.Running.{run_append, run_next, run_safe}
use Rattle.fw_message.proofs.replay.message_replay.Goals as goal

pub returns-in-Err-clause-safe : goal.returns-in-Err-clause-safe
returns-in-Err-clause-safe g c =
    rw c.in-Err.ensures.same
    (λ opening before begins h. run_safe c.worlds_are_safe.ensures.law opening c.loop-i.world (before ++ take c.loop-i.i c.args.steps.now) begins
    (run_append opening c.args.world.now c.loop-i.world before (take c.loop-i.i c.args.steps.now) h c.loop-i.invariant))

pub loop-i-preserved : goal.loop-i-preserved
loop-i-preserved g c =
    run_next c.args.world.now c.loop-i.world c.step.new.self c.args.steps.now c.loop-i.i _ c.loop-i-test.true c.loop-i.invariant
    (record { works = c.in-Ok.field-0; after = c.in-Ok.ensures.step; worked = λ e. c.in-Ok.ensures.worked (ap Ok e); failed = λ e. c.in-Ok.ensures.failed (ap Ok e); called = λ e. c.in-Ok.ensures.called (ap Ok e) })

pub returns-clause-safe : goal.returns-clause-safe
returns-clause-safe g c =
    λ opening before begins h. run_safe c.worlds_are_safe.ensures.law opening c.loop-i.world (before ++ take c.loop-i.i c.args.steps.now) begins
    (run_append opening c.args.world.now c.loop-i.world before (take c.loop-i.i c.args.steps.now) h c.loop-i.invariant)

pub returns-in-Err-clause-grown : goal.returns-in-Err-clause-grown
returns-in-Err-clause-grown g c =
    rw c.in-Err.ensures.same (c.runs_stay_tied.ensures.grow c.args.world.now c.loop-i.world (take c.loop-i.i c.args.steps.now) c.loop-i.invariant)

pub returns-clause-grown : goal.returns-clause-grown
returns-clause-grown g c = c.runs_stay_tied.ensures.grow c.args.world.now c.loop-i.world (take c.loop-i.i c.args.steps.now) c.loop-i.invariant

pub returns-in-Err-clause-tied : goal.returns-in-Err-clause-tied
returns-in-Err-clause-tied g c =
    rw c.in-Err.ensures.same
    (λ opening before begins h. c.runs_stay_tied.ensures.tied opening c.args.world.now c.loop-i.world before (take c.loop-i.i c.args.steps.now) begins h c.loop-i.invariant)

pub returns-clause-tied : goal.returns-clause-tied
returns-clause-tied g c =
    λ opening before begins h. c.runs_stay_tied.ensures.tied opening c.args.world.now c.loop-i.world before (take c.loop-i.i c.args.steps.now) begins h c.loop-i.invariant
