use Rattle.std.proofs.Common.{◌≡◌, ◌∙◌, ap, arith, length, refl}
use Rattle.fw_soak.specs.Turns.{AttendsOne, drawn_run}
use Rattle.fw_soak.proofs.Coursing.{goes_none, goes_on}
use Rattle.fw_soak.proofs.Placing.{each_all, each_more}
use Rattle.fw_soak.proofs.turns.attend.Goals as goal

pub loop-place-init : goal.loop-place-init
loop-place-init c = record { goes = goes_none c.args.course.now; each = refl }

pub loop-place-preserved : goal.loop-place-preserved
loop-place-preserved c = record {
  goes = goes_on c.args.course.now c.loop-place.course c.attend_one.new.course c.loop-place.invariant.goes c.attend_one.ensures.goes;
  each =
      each_more AttendsOne c.loop-place.place (drawn_run c.args.course.now c.args.chances.now) (drawn_run c.loop-place.course c.loop-place.chances)
      (drawn_run c.attend_one.new.course c.attend_one.new.chances) c.loop-place.invariant.each c.in-Ok.ensures.attends;
}

pub returns-clause-attends : goal.returns-clause-attends
returns-clause-attends c =
    each_all AttendsOne c.loop-place.place (length c.args.course.now.world.sites) (drawn_run c.args.course.now c.args.chances.now) (drawn_run c.loop-place.course c.loop-place.chances)
    (let count : c.device_count-place-end.result ≡ length c.args.course.now.world.sites = c.device_count-place-end.ensures.count ∙ ap (λ w. length w.sites) c.world.ensures in
    omega (arith, c.loop-place-test.false, c.loop-place.auto.place-end, count)) c.loop-place.invariant.each
