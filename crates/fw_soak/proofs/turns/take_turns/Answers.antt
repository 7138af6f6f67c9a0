use Rattle.std.proofs.Common.{refl, subst}
use Rattle.fw_soak.specs.Turns.{StartsSome, drawn_run, soaking}
use Rattle.fw_soak.proofs.turns.take_turns.Goals as goal

pub returns-clause-turns : goal.returns-clause-turns
returns-clause-turns c = record {
  without = λ e. absurd (c.if-packages-eq0.false e);
  some = λ other. record {
    started = soaking c.start_some.new.course c.args.traffic.now c.start_some.new.chances;
    starts = record {
      does =
          subst (λ d. StartsSome c.args.packages 1 (record { course = c.args.course.now; drawn = d }) (drawn_run c.start_some.new.course c.start_some.new.chances)) c.new-upsets.ensures.after
          c.in-Ok.ensures.starts;
      roughness = refl;
      met = refl;
      late = refl;
    };
    first = c.new-upsets.result;
    left = c.new-upsets.ensures.left;
    among = c.new-upsets.ensures.among;
    last = c.repeat_turns.new.upsets;
    turns = c.in-Ok-repeat_turns.ensures.turns;
  };
}
