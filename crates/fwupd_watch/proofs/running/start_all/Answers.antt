use Rattle.std.proofs.Common.{◌≡◌, ◌++◌, ◌∷◌, [], arith, inr, rules, subst, sym}
use Rattle.fw_steps.specs.Steps.{Run}
use Rattle.fw_steps.specs.Replays.{RefusesStep}
use Rattle.fw_steps.specs.declared.step.Step.TheVariants as steps
use Rattle.fw_steps.specs.declared.step.StepFault.TheVariants as stops
use Rattle.fwupd_base.specs.PackageChoices.{number_for}
use Rattle.fwupd_watch.specs.Running.{MayStart, RunsSteps, RunsStepsSeen}
use Rattle.fwupd_watch.proofs.Started.{allowed_at, begun_by, begun_listed, begun_none, begun_reached, begun_seen, listed_by}
use Rattle.fwupd_watch.proofs.running.start_all.Goals as goal

pub loop-place-preserved : goal.loop-place-preserved
loop-place-preserved g c = record {
  begun =
      begun_by (number_for c.args.packages.now) c.args.world.now c.loop-place.world c.step.new.self c.loop-place.place c.eid-device.result c.in-Some.node.now c.loop-place.invariant.begun
      (sym (rw c.in-Some.is at c.device_at.ensures)) c.eid-device.ensures.eid (rw c.number_for.ensures at c.in-Ok-step.ensures.taken);
  listed =
      listed_by (number_for c.args.packages.now) c.args.world.now c.loop-place.world c.loop-place.place c.eid-device.result c.in-Some.node.now c.loop-place.steps.items c.push.new.self.items c.loop-place.invariant.begun
      (sym (rw c.in-Some.is at c.device_at.ensures)) c.eid-device.ensures.eid c.loop-place.invariant.listed
      (let pushed : c.push.new.self.items ≡ c.loop-place.steps.items ++ steps.Start c.eid-device.result c.number_for.result ∷ [] = search rules in rw c.number_for.ensures at pushed);
  room = omega (arith, c.loop-place.invariant.room, c.push.ensures.upper_bound, c.push.ensures.capacity, c.loop-place-test.true, c.device_count.ensures);
}

pub returns-in_default-clause-unseen_steps : goal.returns-in_default-clause-unseen_steps
returns-in_default-clause-unseen_steps g c = begun_seen (number_for c.args.packages.now) c.args.world.now c.args.world.now 0 (begun_none (number_for c.args.packages.now) c.args.world.now)

pub returns-in-Err-Memory-clause-unseen_steps : goal.returns-in-Err-Memory-clause-unseen_steps
returns-in-Err-Memory-clause-unseen_steps g c =
    subst (λ x. RunsStepsSeen (number_for c.args.packages.now) c.args.world.now x 0) (sym c.in-Err-Memory.ensures.same)
    (begun_seen (number_for c.args.packages.now) c.args.world.now c.loop-place.world c.loop-place.place c.loop-place.invariant.begun)

pub returns-in-Err-clause-unseen_steps : goal.returns-in-Err-clause-unseen_steps
returns-in-Err-clause-unseen_steps g c =
    subst (λ x. RunsStepsSeen (number_for c.args.packages.now) c.args.world.now x 0) (sym c.in-Err.ensures.same)
    (begun_seen (number_for c.args.packages.now) c.args.world.now c.loop-place.world c.loop-place.place c.loop-place.invariant.begun)

pub returns-clause-unseen_steps : goal.returns-clause-unseen_steps
returns-clause-unseen_steps g c = begun_seen (number_for c.args.packages.now) c.args.world.now c.loop-place.world c.loop-place.place c.loop-place.invariant.begun

pub returns-in-Err-Memory-clause-reached : goal.returns-in-Err-Memory-clause-reached
returns-in-Err-Memory-clause-reached g c =
    subst (RunsSteps (number_for c.args.packages.now) c.args.world.now) (sym c.in-Err-Memory.ensures.same)
    (begun_reached (number_for c.args.packages.now) c.args.world.now c.loop-place.world c.loop-place.place c.loop-place.invariant.begun)

pub returns-in-Err-Memory-clause-memory : goal.returns-in-Err-Memory-clause-memory
returns-in-Err-Memory-clause-memory g c e =
    let is : c.in-Err-Memory.field-0 ≡ stops.Memory = search rules in
    inr (subst (MayStart (number_for c.args.packages.now) c.args.world.now) (sym c.in-Err-Memory.ensures.same)
    (allowed_at (number_for c.args.packages.now) c.args.world.now c.loop-place.world c.loop-place.place c.eid-device.result c.in-Some.node.now c.loop-place.invariant.begun (sym (rw c.in-Some.is at c.device_at.ensures)) c.eid-device.ensures.eid
    (subst (RefusesStep c.loop-place.world (steps.Start c.eid-device.result (number_for c.args.packages.now c.eid-device.result))) is (rw c.number_for.ensures at c.in-Err-Memory.ensures.refused))))

pub returns-in-Err-Memory-clause-run : goal.returns-in-Err-Memory-clause-run
returns-in-Err-Memory-clause-run g c =
    subst (Run c.args.world.now c.loop-place.steps.items) (sym c.in-Err-Memory.ensures.same)
    (begun_listed (number_for c.args.packages.now) c.args.world.now c.loop-place.world c.loop-place.place c.loop-place.steps.items c.loop-place.invariant.begun c.loop-place.invariant.listed)

pub returns-in-Err-clause-run : goal.returns-in-Err-clause-run
returns-in-Err-clause-run g c =
    subst (Run c.args.world.now c.loop-place.steps.items) (sym c.in-Err.ensures.same)
    (begun_listed (number_for c.args.packages.now) c.args.world.now c.loop-place.world c.loop-place.place c.loop-place.steps.items c.loop-place.invariant.begun c.loop-place.invariant.listed)

pub returns-clause-run : goal.returns-clause-run
returns-clause-run g c =
    begun_listed (number_for c.args.packages.now) c.args.world.now c.loop-place.world c.loop-place.place c.loop-place.steps.items c.loop-place.invariant.begun c.loop-place.invariant.listed
