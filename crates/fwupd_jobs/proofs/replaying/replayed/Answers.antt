use Rattle.std.proofs.Common.{◌≡◌, ◌∙◌, map, subst, sym}
use Rattle.fw_script.specs.ScheduleLines.{all_steps}
use Rattle.fw_script.specs.Seen.{device_of}
use Rattle.fw_steps.specs.Opening.{new_world}
use Rattle.fw_setup.specs.Nodes.{nodes_made}
use Rattle.fwupd_jobs.specs.Replayed.{LeavesWorld, taken_of}
use Rattle.fwupd_jobs.proofs.Told.{replayed_by}
use Rattle.fwupd_jobs.proofs.replaying.replayed.Goals.{in-Err, in-Ok}
use Rattle.fwupd_jobs.proofs.replaying.replayed.Goals as goal

pub returns-clause-replayed : goal.returns-clause-replayed
returns-clause-replayed g c =
    replayed_by (new_world c.args.agent (nodes_made c.args.unit c.args.agent.eid (map device_of c.args.devices.items)) c.args.packages.now) c.in_ok-world.world c.replay_lines.new.world (all_steps c.args.lines.now)
    c.match-replay_lines.fault c.args.show.form c.in_ok-report.report.items c.in_ok-world.ensures.made c.in_ok-world.ensures.opens
    (record { promised = c.runs_are_promised.ensures.law; tied = c.moments_are_tied.ensures.tied; time = c.clocks_keep_time.ensures.law })
    (elim c.match-replay_lines.branch [
      | in-Ok h ↦ subst (λ f. LeavesWorld c.in_ok-world.world (all_steps c.args.lines.now) f c.replay_lines.new.world) (sym h.fault-is) h.in-Ok.ensures.ok
      | in-Err h ↦ subst (λ f. LeavesWorld c.in_ok-world.world (all_steps c.args.lines.now) f c.replay_lines.new.world) (sym h.fault-is) h.in-Err.ensures.stopped
    ])
    c.in_ok-report.ensures

pub returns-clause-each : goal.returns-clause-each
returns-clause-each g c traced none =
    c.end-watched.ensures.seen
    ∙ (elim c.match-replay_lines.branch [
      | in-Ok h ↦ subst (λ f. (g.V.Observer.watched c.replay_lines.new.watch).seen ≡ taken_of (all_steps c.args.lines.now) f) (sym h.fault-is) (h.in-Ok.ensures.seen (c.is_some.ensures ∙ traced) none)
      | in-Err h ↦ subst (λ f. (g.V.Observer.watched c.replay_lines.new.watch).seen ≡ taken_of (all_steps c.args.lines.now) f) (sym h.fault-is) (h.in-Err.ensures.seen_before (c.is_some.ensures ∙ traced) none)
    ])
