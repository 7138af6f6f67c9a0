use Rattle.std.proofs.Common.{◌≡◌, ◌⊎◌, ◌∙◌, ap, map, subst}
use Rattle.std.specs.Prelude.{string_bytes}
use Rattle.fwupd_base.specs.ImageFiles.{config_source}
use Rattle.fwupd_base.specs.PackageChoices.{number_for}
use Rattle.fwupd_watch.specs.Apart.{IsApart, IsBarred}
use Rattle.fwupd_watch.specs.Inputs.{inputs_of}
use Rattle.fwupd_watch.proofs.Happened.{kept_fresh}
use Rattle.fwupd_jobs.proofs.Numbered.{barred_by, watched_by}
use Rattle.fwupd_jobs.proofs.Told.{barred_of_none, driven_of_none, safe_reached, unbegun, update_ends}
use Rattle.fwupd_watch.specs.Running.{show_of}
use Rattle.fwupd_watch.specs.declared.faults.JobFault.TheVariants as faults
use Rattle.fwupd_jobs.proofs.updating.update_new.Goals as goal

pub returns-in-Err-clause-fault : goal.returns-in-Err-clause-fault
returns-in-Err-clause-fault g c source named path same =
    unbegun (g.H.Files.Files.holds c.args.host.now.files) source (number_for c.args.job.order.packages) (show_of c.args.job.show) (g.H.Watch.Observer.refuses c.args.host.now.watch) (g.H.Wires.Wires.lacks c.args.host.now.wires c.args.job.folder.now) c.in-Err.fault
    (g.H.Watch.Observer.watched c.begin_apart.new.watch) c.args.host.now.output
    (barred_by (g.H.Files.Files.holds c.args.host.now.files) source (number_for c.args.job.order.packages) (show_of c.args.job.show) (g.H.Watch.Observer.refuses c.args.host.now.watch) c.in-Err.fault (g.H.Watch.Observer.watched c.begin_apart.new.watch) c.args.world.now
    named (config_source c.args.job.config) (map (λ p. string_bytes p) c.args.packages.now) path same (subst (λ paths. (c.in-Err.fault ≡ faults.Memory) ⊎ IsBarred (g.H.Files.Files.holds c.args.host.now.files) (g.H.Watch.Observer.refuses c.args.host.now.watch) (show_of c.args.job.show) paths c.in-Err.fault (g.H.Watch.Observer.watched c.begin_apart.new.watch)) c.new-inputs.ensures
    c.in-Err.ensures.fault))

pub returns-in-Err-clause-stores : goal.returns-in-Err-clause-stores
returns-in-Err-clause-stores g c =
    barred_of_none (g.H.Files.Files.holds c.args.host.now.files) (g.H.Watch.Observer.refuses c.args.host.now.watch) (show_of c.args.job.show) (inputs_of (config_source c.args.job.config) (map (λ p. string_bytes p) c.args.packages.now)) c.in-Err.fault (g.H.Watch.Observer.watched c.begin_apart.new.watch)
    (subst (λ paths. (c.in-Err.fault ≡ faults.Memory) ⊎ IsBarred (g.H.Files.Files.holds c.args.host.now.files) (g.H.Watch.Observer.refuses c.args.host.now.watch) (show_of c.args.job.show) paths c.in-Err.fault (g.H.Watch.Observer.watched c.begin_apart.new.watch)) c.new-inputs.ensures
    c.in-Err.ensures.fault)

pub returns-in-Ok-update_over-clause-ok : goal.returns-in-Ok-update_over-clause-ok
returns-in-Ok-update_over-clause-ok g c source named path same = record {
  world = c.args.world.now;
  begins =
      watched_by (g.H.Files.Files.holds c.args.host.now.files) source (number_for c.args.job.order.packages) (show_of c.args.job.show) c.args.world.now named (config_source c.args.job.config) (map (λ p. string_bytes p) c.args.packages.now) path same
      (subst (IsApart (g.H.Files.Files.holds c.args.host.now.files) (show_of c.args.job.show)) c.new-inputs.ensures c.in-Ok.ensures.apart);
  shown = c.update_over.ensures.same ∙ c.in-Ok.ensures.shows;
  left = c.update_over.new.world;
  updated = c.in-Ok-update_over.ensures.updated;
  promised = safe_reached (number_for c.args.job.order.packages) c.args.world.now c.update_over.new.world c.runs_are_promised.ensures.law c.requires c.update_over.ensures.reached;
  seen = c.in-Ok-update_over.ensures.seen;
  turns = c.in-Ok-update_over.ensures.turns c.in-Ok.ensures.anew.0;
  none_lost = c.in-Ok-update_over.ensures.none_lost ∙ c.in-Ok.ensures.anew.1;
  recorded = c.in-Ok-update_over.ensures.recorded c.in-Ok.ensures.recording;
  kept_up =
      c.in-Ok-update_over.ensures.history
      (kept_fresh (g.H.Watch.Observer.watched c.begin_apart.new.watch).history c.args.world.now.history c.in-Ok.ensures.history (ap (λ w. w.history) named.setup.world));
  let_end = c.in-Ok-update_over.ensures.let_end;
  undone_is = c.in-Ok-update_over.ensures.undone;
  written = c.in-Ok-update_over.ensures.written;
}

pub returns-in-Err-update_over-clause-fault : goal.returns-in-Err-update_over-clause-fault
returns-in-Err-update_over-clause-fault g c source named path same =
    update_ends (g.H.Files.Files.holds c.args.host.now.files) source (number_for c.args.job.order.packages) (show_of c.args.job.show) (g.H.Watch.Observer.refuses c.args.host.now.watch) (g.H.Wires.Wires.lacks c.args.host.now.wires c.args.job.folder.now) c.args.world.now
    c.update_over.new.world c.in-Err-update_over.fault (g.H.Watch.Observer.watched c.update_over.new.host.watch) c.args.host.now.output c.update_over.new.host.output
    (watched_by (g.H.Files.Files.holds c.args.host.now.files) source (number_for c.args.job.order.packages) (show_of c.args.job.show) c.args.world.now named (config_source c.args.job.config) (map (λ p. string_bytes p) c.args.packages.now) path same
    (subst (IsApart (g.H.Files.Files.holds c.args.host.now.files) (show_of c.args.job.show)) c.new-inputs.ensures c.in-Ok.ensures.apart))
    (c.update_over.ensures.same ∙ c.in-Ok.ensures.shows)
    (safe_reached (number_for c.args.job.order.packages) c.args.world.now c.update_over.new.world c.runs_are_promised.ensures.law c.requires c.update_over.ensures.reached)
    (c.update_over.ensures.sees c.in-Ok.ensures.anew.0)
    c.in-Err-update_over.ensures.lost
    (λ broken none. c.in-Err-update_over.ensures.recorded_still broken none c.in-Ok.ensures.recording)
    (λ broken.
    c.in-Err-update_over.ensures.history_still broken
    (kept_fresh (g.H.Watch.Observer.watched c.begin_apart.new.watch).history c.args.world.now.history c.in-Ok.ensures.history (ap (λ w. w.history) named.setup.world)))
    c.in-Err-update_over.ensures.fault

pub returns-in-Err-update_over-clause-stores : goal.returns-in-Err-update_over-clause-stores
returns-in-Err-update_over-clause-stores g c =
    driven_of_none (number_for c.args.job.order.packages) c.args.job.show.form (g.H.Wires.Wires.lacks c.args.host.now.wires c.args.job.folder.now) c.args.world.now c.update_over.new.world c.in-Err-update_over.fault (g.H.Watch.Observer.watched c.update_over.new.host.watch)
    c.args.host.now.output c.update_over.new.host.output c.in-Err-update_over.ensures.fault
