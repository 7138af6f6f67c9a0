use Rattle.std.proofs.Common.{inl, inr, subst, sym}
use Rattle.fwupd_base.specs.PackageChoices.{number_for}
use Rattle.fwupd_watch.specs.Running.{RunsStepsSeen}
use Rattle.fwupd_watch.proofs.Started.{begun_none, begun_seen, caused_unwritten}
use Rattle.fwupd_jobs.proofs.updating.update_over.Goals as goal

pub returns-in-Err-clause-sees : goal.returns-in-Err-clause-sees
returns-in-Err-clause-sees g c none =
    subst (RunsStepsSeen (number_for c.args.job.order.packages) c.args.world.now c.args.world.now) (sym none) (begun_seen (number_for c.args.job.order.packages) c.args.world.now c.args.world.now 0 (begun_none (number_for c.args.job.order.packages) c.args.world.now))

pub returns-in-Err-clause-reached : goal.returns-in-Err-clause-reached
returns-in-Err-clause-reached g c = (begun_seen (number_for c.args.job.order.packages) c.args.world.now c.args.world.now 0 (begun_none (number_for c.args.job.order.packages) c.args.world.now)).lead

pub returns-in-Err-update_reporting-clause-unwritten : goal.returns-in-Err-update_reporting-clause-unwritten
returns-in-Err-update_reporting-clause-unwritten g c =
    caused_unwritten (number_for c.args.job.order.packages) c.args.world.now c.update_reporting.new.world c.in-Err-update_reporting.fault (g.H.Watch.Observer.watched c.update_reporting.new.watch) c.in-Err-update_reporting.ensures.fault

pub returns-in-Err-write_report-clause-fault : goal.returns-in-Err-write_report-clause-fault
returns-in-Err-write_report-clause-fault g c = elim c.in-Err-write_report.ensures.fault [
  | inl h ↦ inr (inr (inl h.0, h.1))
  | inr h ↦ inr (inl h)
]

pub returns-in-Err-write_report-clause-same : goal.returns-in-Err-write_report-clause-same
returns-in-Err-write_report-clause-same g c = c.update_reporting.ensures.same

pub returns-in-Err-write_report-clause-reached : goal.returns-in-Err-write_report-clause-reached
returns-in-Err-write_report-clause-reached g c = c.update_reporting.ensures.reached

pub returns-in-Err-write_report-clause-sees : goal.returns-in-Err-write_report-clause-sees
returns-in-Err-write_report-clause-sees g c = c.update_reporting.ensures.sees
