use Rattle.std.proofs.Common.{refl, subst, sym, ◌∙◌}
use Rattle.fwupd_base.specs.PackageChoices.{number_for}
use Rattle.fwupd_watch.specs.Histories.{MayHaveHistoryLines}
use Rattle.fwupd_watch.specs.Running.{RunsStepsSeen}
use Rattle.fw_edge.specs.declared.driving.EdgeFault.TheVariants as edges
use Rattle.fwupd_watch.proofs.Happened.{kept_same}
use Rattle.fwupd_watch.proofs.Noted.{none_before, recorded_whole, well_ended}
use Rattle.fwupd_watch.proofs.Started.{unwritten_by, unwritten_still, update_caused, watched_apart}
use Rattle.fwupd_watch.proofs.running.update_observed.Goals as goal

pub returns-in-Err-clause-fault : goal.returns-in-Err-clause-fault
returns-in-Err-clause-fault g c =
    update_caused (number_for c.args.packages.now) _ _ _ _ c.in-Err.ensures.fault c.in-Err.ensures.step
    (unwritten_still c.end-watched.result _ _ c.in-Err.fault c.in-Err.ensures.unwritten c.end-watched.ensures.first c.end-watched.ensures.err) c.in-Err.ensures.begun c.end-watched.ensures.ended

pub returns-in-Err-watched-clause-fault : goal.returns-in-Err-watched-clause-fault
returns-in-Err-watched-clause-fault g c =
    update_caused (number_for c.args.packages.now) _ _ _ _ c.observer_fault.ensures.ends (λ e. absurd (watched_apart c.in-Err-watched.fault edges.Step (sym c.observer_fault.ensures.told ∙ e)))
    (unwritten_by c.in-Err-watched.fault _ _ c.observer_fault.ensures.told c.in-Err-watched.ensures.err)
    (λ seen. (c.in-Ok.ensures.updated.ticks, c.in-Ok.ensures.updated.updates)) c.end-watched.ensures.ended

pub returns-in-Err-clause-sees : goal.returns-in-Err-clause-sees
returns-in-Err-clause-sees g c none = subst (RunsStepsSeen (number_for c.args.packages.now) c.args.world.now c.update_all-end.new.world) (sym c.end-watched.ensures.seen) (c.update_all-end.ensures.sees none)

pub returns-in-Err-watched-clause-sees : goal.returns-in-Err-watched-clause-sees
returns-in-Err-watched-clause-sees g c none = subst (RunsStepsSeen (number_for c.args.packages.now) c.args.world.now c.update_all-end.new.world) (sym c.end-watched.ensures.seen) (c.update_all-end.ensures.sees none)

pub returns-in-Ok-watched-clause-sees : goal.returns-in-Ok-watched-clause-sees
returns-in-Ok-watched-clause-sees g c none = subst (RunsStepsSeen (number_for c.args.packages.now) c.args.world.now c.update_all-end.new.world) (sym c.end-watched.ensures.seen) (c.update_all-end.ensures.sees none)

pub returns-in-Ok-watched-clause-recorded : goal.returns-in-Ok-watched-clause-recorded
returns-in-Ok-watched-clause-recorded g c new =
    recorded_whole c.schedules_read_back.ensures.read c.args.world.now c.update_all-end.new.world (g.V.Observer.watched c.args.watch.now).recording (g.V.Observer.watched c.update_all-end.new.watch).recording
    (g.V.Observer.watched c.end-watched.new.self).recording c.in-Ok.ensures.noted c.in-Ok-watched.ensures.closed new

pub returns-in-Ok-watched-clause-history : goal.returns-in-Ok-watched-clause-history
returns-in-Ok-watched-clause-history g c h =
    kept_same (g.V.Observer.watched c.update_all-end.new.watch).history (g.V.Observer.watched c.end-watched.new.self).history c.update_all-end.new.world.history c.update_all-end.new.world.history c.end-watched.ensures.history refl
    (c.in-Ok.ensures.history h)

pub returns-in-Err-clause-history_still : goal.returns-in-Err-clause-history_still
returns-in-Err-clause-history_still g c kept =
    subst (λ r. MayHaveHistoryLines r c.update_all-end.new.world.history) (sym c.end-watched.ensures.history) (c.update_all-end.ensures.history_still kept)

pub returns-in-Err-watched-clause-history_still : goal.returns-in-Err-watched-clause-history_still
returns-in-Err-watched-clause-history_still g c kept =
    subst (λ r. MayHaveHistoryLines r c.update_all-end.new.world.history) (sym c.end-watched.ensures.history) (c.update_all-end.ensures.history_still kept)

pub returns-in-Ok-watched-clause-history_still : goal.returns-in-Ok-watched-clause-history_still
returns-in-Ok-watched-clause-history_still g c kept =
    subst (λ r. MayHaveHistoryLines r c.update_all-end.new.world.history) (sym c.end-watched.ensures.history) (c.update_all-end.ensures.history_still kept)

pub returns-in-Err-clause-recorded_still : goal.returns-in-Err-clause-recorded_still
returns-in-Err-clause-recorded_still g c none new =
    recorded_whole c.schedules_read_back.ensures.read c.args.world.now c.update_all-end.new.world (g.V.Observer.watched c.args.watch.now).recording (g.V.Observer.watched c.update_all-end.new.watch).recording
    (g.V.Observer.watched c.end-watched.new.self).recording
    (c.in-Err.ensures.noted_still (none_before c.end-watched.result (g.V.Observer.watched c.update_all-end.new.watch).fault (g.V.Observer.watched c.end-watched.new.self).fault c.end-watched.ensures.first c.end-watched.ensures.err none))
    (well_ended c.end-watched.result (g.V.Observer.watched c.end-watched.new.self).fault _ c.end-watched.ensures.err none c.end-watched.ensures.closed)
    new
