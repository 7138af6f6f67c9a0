use Rattle.std.proofs.Common.{arith, refl, subst}
use Rattle.fw_soak.specs.Turns.{TurnsEnd, TurnsIf, TurnsOn, upsetting}
use Rattle.fw_soak.proofs.Coursing.{goes_none, goes_on}
use Rattle.fw_soak.proofs.Placing.{each_more, repeats_all, repeats_off}
use Rattle.fw_soak.proofs.turns.repeat_turns.Goals as goal

pub loop-count-init : goal.loop-count-init
loop-count-init c = record { goes = goes_none c.args.course.now; on = refl }

pub loop-count-preserved : goal.loop-count-preserved
loop-count-preserved c = record {
  goes = goes_on c.args.course.now c.loop-count.course c.next_turn.new.course c.loop-count.invariant.goes c.next_turn.ensures.goes;
  on =
      each_more (λ i. TurnsOn c.args.packages) c.loop-count.count (upsetting c.args.upsets.now c.args.course.now c.args.traffic.now c.args.chances.now) (upsetting c.loop-count.upsets c.loop-count.course c.loop-count.traffic c.loop-count.chances)
      (upsetting c.next_turn.new.upsets c.next_turn.new.course c.next_turn.new.traffic c.next_turn.new.chances) c.loop-count.invariant.on
      (subst (λ b. TurnsIf b c.args.packages (upsetting c.loop-count.upsets c.loop-count.course c.loop-count.traffic c.loop-count.chances) (upsetting c.next_turn.new.upsets c.next_turn.new.course c.next_turn.new.traffic c.next_turn.new.chances)) c.in-Ok-true.field-0-test c.in-Ok-true.ensures.next);
}

pub returns-in-Ok-false-clause-turns : goal.returns-in-Ok-false-clause-turns
returns-in-Ok-false-clause-turns c =
    repeats_off 80000 (TurnsOn c.args.packages) (TurnsEnd c.args.packages) c.loop-count.count (upsetting c.args.upsets.now c.args.course.now c.args.traffic.now c.args.chances.now) (upsetting c.loop-count.upsets c.loop-count.course c.loop-count.traffic c.loop-count.chances)
    (upsetting c.next_turn.new.upsets c.next_turn.new.course c.next_turn.new.traffic c.next_turn.new.chances) (omega (arith, c.loop-count-test.true)) c.loop-count.invariant.on
    (subst (λ b. TurnsIf b c.args.packages (upsetting c.loop-count.upsets c.loop-count.course c.loop-count.traffic c.loop-count.chances) (upsetting c.next_turn.new.upsets c.next_turn.new.course c.next_turn.new.traffic c.next_turn.new.chances)) c.in-Ok-false.field-0-test c.in-Ok-false.ensures.next)

pub returns-clause-turns : goal.returns-clause-turns
returns-clause-turns c =
    repeats_all 80000 (TurnsOn c.args.packages) (TurnsEnd c.args.packages) c.loop-count.count (upsetting c.args.upsets.now c.args.course.now c.args.traffic.now c.args.chances.now) (upsetting c.loop-count.upsets c.loop-count.course c.loop-count.traffic c.loop-count.chances)
    (omega (arith, c.loop-count-test.false, c.loop-count.auto.count-end)) c.loop-count.invariant.on
