use Rattle.std.proofs.Common.{refl, subst}
use Rattle.fw_soak.specs.Turns.{GoesOnOver, drawn_run, soaking}
use Rattle.fw_soak.proofs.turns.next_turn.Goals as goal

pub returns-in-Ok-false-clause-next : goal.returns-in-Ok-false-clause-next
returns-in-Ok-false-clause-next c = record {
  ends = record {
    does =
        subst (λ on. GoesOnOver c.args.packages on (drawn_run c.args.course.now c.args.chances.now) (drawn_run c.go_on.new.course c.go_on.new.chances)) c.in-Ok-false.field-0-test
        c.in-Ok-false.ensures.on;
    roughness = refl;
    met = refl;
    late = refl;
  };
  upsets = refl;
}

pub returns-clause-next : goal.returns-clause-next
returns-clause-next c = record {
  restarted = soaking c.go_on.new.course c.args.traffic.now c.go_on.new.chances;
  restarts = record {
    does =
        subst (λ on. GoesOnOver c.args.packages on (drawn_run c.args.course.now c.args.chances.now) (drawn_run c.go_on.new.course c.go_on.new.chances)) c.in-Ok-true.field-0-test
        c.in-Ok-true.ensures.on;
    roughness = refl;
    met = refl;
    late = refl;
  };
  started = soaking c.start_idle.new.course c.args.traffic.now c.start_idle.new.chances;
  starts = record { does = c.in-Ok.ensures.starts; roughness = refl; met = refl; late = refl };
  turn = c.in-Ok-turn.ensures.turn;
}
