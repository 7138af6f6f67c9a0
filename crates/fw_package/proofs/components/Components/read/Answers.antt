use Rattle.std.proofs.Common.{◌<◌, ◌∙◌, sym, arith}
use Rattle.fw_package.specs.Lent.{component_seen}
use Rattle.fw_package.proofs.Rows.{components_step}
use Rattle.fw_package.proofs.Walks.{components_there}
use Rattle.fw_package.proofs.components.Components.read.Goals as goal

pub read-requires : goal.read-requires
read-requires c =
    let before_end : c.loop-component._component < c.args.count = omega arith in
    (components_there c.args.count c.loop-component._component c.loop-component.rest.now c.loop-component.invariant.there before_end).first

pub others-rest-requires : goal.others-rest-requires
others-rest-requires c =
    let before_end : c.loop-component._component < c.args.count = omega arith in
    (components_there c.args.count c.loop-component._component c.loop-component.rest.now c.loop-component.invariant.there before_end).first

pub loop-component-preserved : goal.loop-component-preserved
loop-component-preserved c =
    let before_end : c.loop-component._component < c.args.count = omega arith in
    let walk = components_there c.args.count c.loop-component._component c.loop-component.rest.now c.loop-component.invariant.there before_end in
    record {
      there = rw c.others-rest.ensures walk.others;
      same = rw c.others-rest.ensures
          (sym (components_step c.args.file.now c.args.count c.loop-component._component c.loop-component.rest.now (component_seen c.in_ok-read.field-0) (sym c.in_ok-read.ensures) before_end) ∙ c.loop-component.invariant.same);
    }
