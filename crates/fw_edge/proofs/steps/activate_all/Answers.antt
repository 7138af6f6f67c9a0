use Rattle.std.proofs.Common.{◌∙◌, arith, refl}
use Rattle.fw_edge.proofs.Dues.{due_all, due_next, due_none, due_stops, activations_for_one}
use Rattle.fw_edge.proofs.Going.{goes_none, goes_on}
use Rattle.fw_edge.specs.Turns.{activation_for}
use Rattle.fw_edge.proofs.steps.activate_all.Goals as goal

pub returns-in-Err-clause-stopped : goal.returns-in-Err-clause-stopped
returns-in-Err-clause-stopped g c =
    due_stops activation_for c.loop-place.place c.in-Err.fault c.args.world.now c.loop-place.world c.activate.new.world c.args.steps.now.items c.loop-place.steps.items c.activate.new.steps.items
    c.loop-place.invariant.due c.loop-place.invariant.quiet.goes c.in-Err.ensures.one c.in-Err.ensures.refused

pub loop-place-init : goal.loop-place-init
loop-place-init g c = record {
  due = due_none activation_for c.args.world.now c.args.steps.now.items;
  quiet = record { goes = goes_none c.args.world.now c.args.steps.now.items; sent = refl };
}

pub loop-place-preserved : goal.loop-place-preserved
loop-place-preserved g c = record {
  due =
      due_next activation_for c.loop-place.place c.args.world.now c.loop-place.world c.activate.new.world c.args.steps.now.items c.loop-place.steps.items c.activate.new.steps.items
      activations_for_one c.is_promised.ensures.apart c.loop-place.invariant.due c.in-Ok.ensures.due;
  quiet = record {
    goes =
        goes_on c.args.world.now c.loop-place.world c.activate.new.world c.args.steps.now.items c.loop-place.steps.items c.activate.new.steps.items 0 0 0 0
        c.loop-place.invariant.quiet.goes c.in-Ok.ensures.quiet.goes;
    sent = c.in-Ok.ensures.quiet.sent ∙ c.loop-place.invariant.quiet.sent;
  };
}

pub returns-clause-due : goal.returns-clause-due
returns-clause-due g c =
    due_all activation_for c.loop-place.place c.args.world.now c.loop-place.world c.args.steps.now.items c.loop-place.steps.items
    (omega (arith, c.loop-place-test.false, c.loop-place.auto.place-end, c.device_count-place-end.ensures.count)) c.loop-place.invariant.due
