use Rattle.std.proofs.Common.{arith, false, refl, subst, true}
use Rattle.fw_soak.specs.Turns.{MeetsRound, soaking}
use Rattle.fw_soak.proofs.Coursing.{goes_none, goes_on}
use Rattle.fw_soak.proofs.Placing.{each_more, repeats_all, repeats_off}
use Rattle.fw_soak.proofs.traffic.Traffic.meet_rounds.Goals as goal

pub loop-count-init : goal.loop-count-init
loop-count-init c = record { goes = goes_none c.args.course.now; on = refl }

pub loop-count-preserved : goal.loop-count-preserved
loop-count-preserved c = record {
  goes = goes_on c.args.course.now c.loop-count.course c.meet_round.new.course c.loop-count.invariant.goes c.meet_round.ensures.goes;
  on =
      each_more (λ i x y. MeetsRound x y true) c.loop-count.count (soaking c.args.course.now c.args.self.now c.args.chances.now)
      (soaking c.loop-count.course c.loop-count.self c.loop-count.chances) (soaking c.meet_round.new.course c.meet_round.new.self c.meet_round.new.chances) c.loop-count.invariant.on
      (subst (MeetsRound (soaking c.loop-count.course c.loop-count.self c.loop-count.chances) (soaking c.meet_round.new.course c.meet_round.new.self c.meet_round.new.chances)) c.in-Ok-true.field-0-test
      c.in-Ok-true.ensures.round);
}

pub returns-in-Ok-false-clause-rounds : goal.returns-in-Ok-false-clause-rounds
returns-in-Ok-false-clause-rounds c =
    repeats_off 1024 (λ x y. MeetsRound x y true) (λ x y. MeetsRound x y false) c.loop-count.count (soaking c.args.course.now c.args.self.now c.args.chances.now)
    (soaking c.loop-count.course c.loop-count.self c.loop-count.chances) (soaking c.meet_round.new.course c.meet_round.new.self c.meet_round.new.chances) (omega (arith, c.loop-count-test.true))
    c.loop-count.invariant.on
    (subst (MeetsRound (soaking c.loop-count.course c.loop-count.self c.loop-count.chances) (soaking c.meet_round.new.course c.meet_round.new.self c.meet_round.new.chances)) c.in-Ok-false.field-0-test
    c.in-Ok-false.ensures.round)

pub returns-clause-rounds : goal.returns-clause-rounds
returns-clause-rounds c =
    repeats_all 1024 (λ x y. MeetsRound x y true) (λ x y. MeetsRound x y false) c.loop-count.count (soaking c.args.course.now c.args.self.now c.args.chances.now)
    (soaking c.loop-count.course c.loop-count.self c.loop-count.chances) (omega (arith, c.loop-count-test.false, c.loop-count.auto.count-end)) c.loop-count.invariant.on
