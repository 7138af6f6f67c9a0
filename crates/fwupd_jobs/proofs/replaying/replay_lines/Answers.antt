use Rattle.std.proofs.Common.{◌≡◌, ◌∙◌, ◌∷◌, add-one, arith, drop, subst}
use Rattle.fw_script.specs.ScheduleLines.{all_steps, step_of_next}
use Rattle.fw_steps.specs.Steps.{StepsTo, Run}
use Rattle.fw_steps.specs.Replays.{RefusesStep}
use Rattle.fwupd_jobs.proofs.Seen.{next_step, none_left, rises_to, stepped_on, stopped_at}
use Rattle.fwupd_jobs.proofs.replaying.replay_lines.Goals as goal

pub returns-in-Err-clause-stopped : goal.returns-in-Err-clause-stopped
returns-in-Err-clause-stopped g c =
    rw c.in-Err.ensures.kept
    (stopped_at c.args.world.now c.loop-next.world (all_steps c.args.lines.now) c.loop-next.taken (step_of_next c.in-Some.next) c.next.new.self c.in-Err.fault c.loop-next.invariant.run
    (c.loop-next.invariant.left ∙ c.in-Some.ensures.some)
    (subst (λ s. RefusesStep c.loop-next.world s c.in-Err.fault) c.lent.ensures c.in-Err.ensures.refused))

pub loop-next-preserved : goal.loop-next-preserved
loop-next-preserved g c =
    let first : drop c.loop-next.taken (all_steps c.args.lines.now) ≡ step_of_next c.in-Some.next ∷ c.next.new.self = c.loop-next.invariant.left ∙ c.in-Some.ensures.some in
    let next = next_step (all_steps c.args.lines.now) c.loop-next.taken (step_of_next c.in-Some.next) c.next.new.self first in
    record {
      run =
          stepped_on c.args.world.now c.loop-next.world c.take_observed.new.world (all_steps c.args.lines.now) c.loop-next.taken (step_of_next c.in-Some.next) c.next.new.self c.loop-next.invariant.run first
          (subst (λ s. StepsTo c.loop-next.world s c.take_observed.new.world) c.lent.ensures c.in-Ok.ensures.taken);
      left = rw add-one next.left;
      few = omega (arith, next.within);
      same = c.in-Ok.ensures.same ∙ c.loop-next.invariant.same;
      seen = λ traced none.
          rises_to (g.V.Observer.watched c.loop-next.watch).seen (g.V.Observer.watched c.take_observed.new.watch).seen c.loop-next.taken (c.loop-next.invariant.seen traced none)
          (omega (arith, next.within, c.requires.countable)) (c.in-Ok.ensures.seen traced);
    }

pub returns-clause-ok : goal.returns-clause-ok
returns-clause-ok g c =
    subst (λ steps. Run c.args.world.now steps c.loop-next.world)
    (none_left (all_steps c.args.lines.now) c.loop-next.taken (c.loop-next.invariant.left ∙ c.in_default.ensures.none) c.loop-next.invariant.few).0 c.loop-next.invariant.run

pub returns-clause-seen : goal.returns-clause-seen
returns-clause-seen g c =
    λ traced none.
    c.loop-next.invariant.seen traced none
    ∙ (none_left (all_steps c.args.lines.now) c.loop-next.taken (c.loop-next.invariant.left ∙ c.in_default.ensures.none) c.loop-next.invariant.few).1
