use Rattle.std.proofs.Common.{◌∙◌, arith, refl}
use Rattle.fw_edge.proofs.Dues.{due_all, due_next, due_none, due_stops, verdicts_for_one}
use Rattle.fw_edge.proofs.Going.{goes_none, goes_on}
use Rattle.fw_edge.specs.Turns.{verdict_for}
use Rattle.fw_edge.proofs.steps.judge_all.Goals as goal

pub returns-in-Err-clause-stopped : goal.returns-in-Err-clause-stopped
returns-in-Err-clause-stopped g c =
    due_stops verdict_for c.loop-place.place c.in-Err.fault c.args.world.now c.loop-place.world c.judge.new.world c.args.steps.now.items c.loop-place.steps.items c.judge.new.steps.items
    c.loop-place.invariant.due c.loop-place.invariant.quiet.goes c.in-Err.ensures.one c.in-Err.ensures.refused

pub loop-place-init : goal.loop-place-init
loop-place-init g c = record {
  due = due_none verdict_for c.args.world.now c.args.steps.now.items;
  quiet = record { goes = goes_none c.args.world.now c.args.steps.now.items; sent = refl };
}

pub loop-place-preserved : goal.loop-place-preserved
loop-place-preserved g c = record {
  due =
      due_next verdict_for c.loop-place.place c.args.world.now c.loop-place.world c.judge.new.world c.args.steps.now.items c.loop-place.steps.items c.judge.new.steps.items
      verdicts_for_one c.is_promised.ensures.apart c.loop-place.invariant.due c.in-Ok.ensures.due;
  quiet = record {
    goes =
        goes_on c.args.world.now c.loop-place.world c.judge.new.world c.args.steps.now.items c.loop-place.steps.items c.judge.new.steps.items 0 0 0 0
        c.loop-place.invariant.quiet.goes c.in-Ok.ensures.quiet.goes;
    sent = c.in-Ok.ensures.quiet.sent ∙ c.loop-place.invariant.quiet.sent;
  };
}

pub returns-clause-due : goal.returns-clause-due
returns-clause-due g c =
    due_all verdict_for c.loop-place.place c.args.world.now c.loop-place.world c.args.steps.now.items c.loop-place.steps.items
    (omega (arith, c.loop-place-test.false, c.loop-place.auto.place-end, c.device_count-place-end.ensures.count)) c.loop-place.invariant.due
