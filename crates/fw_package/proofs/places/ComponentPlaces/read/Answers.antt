use Rattle.std.proofs.Common.{◌<◌, ◌∙◌, sym, arith}
use Rattle.fw_package.specs.Lent.{place_seen}
use Rattle.fw_package.proofs.PlaceRows.{places_refused, places_step, places_stop}
use Rattle.fw_package.proofs.Walks.{components_there}
use Rattle.fw_package.proofs.places.ComponentPlaces.read.Goals as goal

pub read-requires : goal.read-requires
read-requires c =
    let before_end : c.loop-component._component < c.args.count = omega arith in
    (components_there c.args.count c.loop-component._component c.loop-component.rest.now c.loop-component.invariant.there before_end).first

pub others-rest-requires : goal.others-rest-requires
others-rest-requires c =
    let before_end : c.loop-component._component < c.args.count = omega arith in
    (components_there c.args.count c.loop-component._component c.loop-component.rest.now c.loop-component.invariant.there before_end).first

pub loop-component-preserved : goal.loop-component-preserved
loop-component-preserved c =
    let before_end : c.loop-component._component < c.args.count = omega arith in
    let walk = components_there c.args.count c.loop-component._component c.loop-component.rest.now c.loop-component.invariant.there before_end in
    record {
      there = rw c.others-rest.ensures walk.others;
      same = rw c.others-rest.ensures
          (sym (places_step c.args.file_length c.args.count c.loop-component._component c.loop-component.rest.now (place_seen c.in-Ok.field-0) (sym c.in-Ok.ensures) before_end) ∙ c.loop-component.invariant.same);
    }

pub returns-in-Err : goal.returns-in-Err
returns-in-Err c =
    let before_end : c.loop-component._component < c.args.count = omega arith in
    sym
    (places_refused c.args.file_length c.args.count c.args.bytes.now c.in-Err.fault
    (sym c.loop-component.invariant.same ∙ places_stop c.args.file_length c.args.count c.loop-component._component c.loop-component.rest.now c.in-Err.fault (sym c.in-Err.ensures) before_end))
