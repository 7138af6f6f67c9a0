use Rattle.std.proofs.Common.{inl, inr, subst, sym, ◌∙◌}
use Rattle.std.specs.Prelude.{IfSome}
use Rattle.fwupd_base.specs.PackageChoices.{number_for}
use Rattle.fwupd_watch.specs.Histories.{MayHaveHistoryLines}
use Rattle.fwupd_watch.specs.Recordings.{HasRecordedSteps}
use Rattle.fwupd_watch.specs.Running.{RunsStepsSeen}
use Rattle.fwupd_jobs.proofs.Linked.{caused_still, lost_told}
use Rattle.fwupd_jobs.proofs.updating.update_reporting.Goals as goal

pub returns-in-Err-clause-lost : goal.returns-in-Err-clause-lost
returns-in-Err-clause-lost g c e =
    lost_told (λ k. k.tally.failures) c.update_observed.new.world c.args.links.now c.update_observed.new.links (g.V.Observer.watched c.lose_failed.new.watch).lost
    c.in-Err.ensures.devices (c.in-Err.ensures.failed.0 e) c.lose_failed.ensures.lost

pub returns-in-Err-clause-fault : goal.returns-in-Err-clause-fault
returns-in-Err-clause-fault g c = elim c.in-Err.ensures.fault [
  | inl e ↦ inl e
  | inr h ↦ inr (caused_still (number_for c.args.order.packages) c.args.world.now c.update_observed.new.world c.in-Err.fault (g.V.Observer.watched c.update_observed.new.watch) (g.V.Observer.watched c.lose_failed.new.watch) c.lose_failed.ensures.fault c.lose_failed.ensures.ended h)
]

pub returns-in-Err-clause-sees : goal.returns-in-Err-clause-sees
returns-in-Err-clause-sees g c none =
    subst (RunsStepsSeen (number_for c.args.order.packages) c.args.world.now c.update_observed.new.world) (sym c.lose_failed.ensures.seen) (c.update_observed.ensures.sees none)

pub returns-in-Err-clause-history_still : goal.returns-in-Err-clause-history_still
returns-in-Err-clause-history_still g c kept =
    subst (λ r. MayHaveHistoryLines r c.update_observed.new.world.history) (sym c.lose_failed.ensures.history) (c.update_observed.ensures.history_still kept)

pub returns-in-Err-clause-recorded_still : goal.returns-in-Err-clause-recorded_still
returns-in-Err-clause-recorded_still g c none new =
    subst (λ r. IfSome r (HasRecordedSteps c.args.world.now c.update_observed.new.world)) (sym c.lose_failed.ensures.recording)
    (c.in-Err.ensures.recorded_still (sym c.lose_failed.ensures.fault ∙ none) new)
