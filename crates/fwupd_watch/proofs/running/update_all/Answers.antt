use Rattle.std.proofs.Common.{◌∙◌, ◌+◌, arith, ap, inl, length, map, refl, subst, sym}
use Rattle.fwupd_base.specs.PackageChoices.{number_for}
use Rattle.fwupd_watch.specs.Running.{RunsStepsSeen, UpdatesDevices, starts_of}
use Rattle.fw_edge.specs.Ledgers.{AllSent, packet_counts}
use Rattle.fw_steps.specs.Moments.{entries_between}
use Rattle.fw_edge.proofs.Sending.{sent_none, sent_on}
use Rattle.fwupd_watch.proofs.Happened.{kept_on, kept_on_still, kept_same, kept_still}
use Rattle.fwupd_watch.proofs.Noted.{none_driven, run_begun, run_broken, run_noted, run_still}
use Rattle.fwupd_watch.proofs.Started.{counted_alike, may_end, none_begun, none_unwritten, seen_next, told_links, turned_apart, turned_unseen, unwritten_by, updates_more, updates_none, updates_off, updates_reached, updates_seen, updates_seen_off, watched_apart}
use Rattle.fw_edge.specs.declared.driving.EdgeFault.TheVariants as edges
use Rattle.fwupd_watch.proofs.running.update_all.Goals as goal

pub loop-init : goal.loop-init
loop-init g c = record {
  updates = updates_none (number_for c.args.packages.now) c.args.world.now c.start_all-started.new.world c.in-Ok.ensures.started;
  devices = c.requires ∙ ap length (sym c.in-Ok.ensures.same);
  none = c.clear.ensures.items;
  sent =
      subst (λ xs. AllSent (packet_counts c.args.world.now.sites) (packet_counts xs) (map (λ k. (g.L.Link.tally k).sent) c.args.links.now) (map (λ k. (g.L.Link.tally k).sent) c.args.links.now)) (sym c.in-Ok.ensures.same)
      (sent_none (packet_counts c.args.world.now.sites) (map (λ k. (g.L.Link.tally k).sent) c.args.links.now) (counted_alike c.args.world.now.sites (λ k. (g.L.Link.tally k).sent) c.args.links.now c.requires));
  kept = refl;
  seen = λ none. c.note-noted.ensures.seen ∙ none;
  lost = c.note-noted.ensures.lost;
  recorded =
      run_begun c.args.world.now c.start_all-started.new.world (g.V.Observer.watched c.args.watch.now).recording (g.V.Observer.watched c.note-noted.new.self).recording c.start_all-started.new.steps.items c.as_slice.result.now
      (starts_of (number_for c.args.packages.now) c.args.world.now.sites) c.as_slice.ensures.value c.in-Ok.ensures.listed c.in-Ok.ensures.started c.in-Ok-noted.ensures.noted;
  history =
      kept_same (g.V.Observer.watched c.args.watch.now).history (g.V.Observer.watched c.note-noted.new.self).history c.args.world.now.history c.start_all-started.new.world.history c.note-noted.ensures.history
      c.start_all-started.ensures.history;
  shows = c.note-noted.ensures.same;
}

pub returns-in-Err-drive-clause-reached : goal.returns-in-Err-drive-clause-reached
returns-in-Err-drive-clause-reached g c =
    updates_off (number_for c.args.packages.now) c.args.world.now c.loop.world c.drive.new.world c.loop.counter c.loop.steps.items c.drive.new.steps.items c.loop.invariant.updates c.drive.ensures.drives.drives

pub returns-then-driven-eq0-clause-updated : goal.returns-then-driven-eq0-clause-updated
returns-then-driven-eq0-clause-updated g c = record {
  ticks = c.loop.counter + c.in-Ok-drive.driven.turns;
  updates =
      updates_more (number_for c.args.packages.now) c.args.world.now c.loop.world c.drive.new.world c.loop.counter c.in-Ok-drive.driven.turns c.loop.steps.items c.drive.new.steps.items c.loop.invariant.updates
      c.loop.invariant.none c.drive.ensures.drives.drives c.in-Ok-drive.ensures.done.ticks;
  within = omega (arith, c.if-driven-eq0.true);
  ended = inl (c.in-Ok-drive.ensures.done.ended (omega (arith, c.if-driven-eq0.true)));
}

pub returns-then-driven-eq0-clause-reached : goal.returns-then-driven-eq0-clause-reached
returns-then-driven-eq0-clause-reached g c =
    updates_off (number_for c.args.packages.now) c.args.world.now c.loop.world c.drive.new.world c.loop.counter c.loop.steps.items c.drive.new.steps.items c.loop.invariant.updates c.drive.ensures.drives.drives

pub returns-in-Err-see_turn-clause-reached : goal.returns-in-Err-see_turn-clause-reached
returns-in-Err-see_turn-clause-reached g c =
    updates_off (number_for c.args.packages.now) c.args.world.now c.loop.world c.drive.new.world c.loop.counter c.loop.steps.items c.drive.new.steps.items c.loop.invariant.updates c.drive.ensures.drives.drives

pub returns-in-Err-see_turn-clause-failed : goal.returns-in-Err-see_turn-clause-failed
returns-in-Err-see_turn-clause-failed g c =
    (λ e. absurd (watched_apart c.in-Err-see_turn.fault edges.Frame (sym c.observer_fault-in-Err-see_turn.ensures.told ∙ e)), λ other. c.in-Ok-drive.ensures.done.counts.kept ∙ c.loop.invariant.kept)

pub returns-in-Err-see_turn-clause-step : goal.returns-in-Err-see_turn-clause-step
returns-in-Err-see_turn-clause-step g c e = absurd (watched_apart c.in-Err-see_turn.fault edges.Step (sym c.observer_fault-in-Err-see_turn.ensures.told ∙ e))

pub returns-in-Err-drive-clause-failed : goal.returns-in-Err-drive-clause-failed
returns-in-Err-drive-clause-failed g c =
    told_links c.in-Err-drive.fault c.broken_off.result (map (λ k. (g.L.Link.tally k).failures) c.args.links.now) (map (λ k. (g.L.Link.tally k).failures) c.loop.links)
    (map (λ k. (g.L.Link.tally k).failures) c.drive.new.links) c.broken_off.ensures.told c.loop.invariant.kept c.in-Err-drive.ensures.stopped.failed

pub returns-in-Err-drive-clause-fault : goal.returns-in-Err-drive-clause-fault
returns-in-Err-drive-clause-fault g c = may_end c.in-Err-drive.fault c.broken_off.result c.broken_off.ensures.told

pub returns-in-Err-drive-clause-unwritten : goal.returns-in-Err-drive-clause-unwritten
returns-in-Err-drive-clause-unwritten g c = turned_apart c.in-Err-drive.fault c.broken_off.result _ c.broken_off.ensures.told

pub returns-in-Err-see_turn-clause-unwritten : goal.returns-in-Err-see_turn-clause-unwritten
returns-in-Err-see_turn-clause-unwritten g c =
    unwritten_by c.in-Err-see_turn.fault (g.V.Observer.watched c.see_turn.new.watch).fault c.observer_fault-in-Err-see_turn.result c.observer_fault-in-Err-see_turn.ensures.told c.in-Err-see_turn.ensures.err

pub returns-then-driven-eq0-clause-sent : goal.returns-then-driven-eq0-clause-sent
returns-then-driven-eq0-clause-sent g c =
    sent_on (packet_counts c.args.world.now.sites) (packet_counts c.loop.world.sites) (packet_counts c.drive.new.world.sites)
    (map (λ k. (g.L.Link.tally k).sent) c.args.links.now) (map (λ k. (g.L.Link.tally k).sent) c.loop.links) (map (λ k. (g.L.Link.tally k).sent) c.drive.new.links) c.loop.invariant.sent c.in-Ok-drive.ensures.done.counts.sent

pub loop-preserved : goal.loop-preserved
loop-preserved g c = record {
  updates =
      subst (λ n. UpdatesDevices (number_for c.args.packages.now) c.args.world.now c.drive.new.world (c.loop.counter + n)) (omega (arith, c.in-Ok-drive.ensures.done.within, c.if-driven-eq0.false))
      (updates_more (number_for c.args.packages.now) c.args.world.now c.loop.world c.drive.new.world c.loop.counter c.in-Ok-drive.driven.turns c.loop.steps.items c.drive.new.steps.items c.loop.invariant.updates
      c.loop.invariant.none c.drive.ensures.drives.drives c.in-Ok-drive.ensures.done.ticks);
  devices = c.drive.ensures.devices;
  none = c.clear-in-loop.ensures.items;
  sent =
      sent_on (packet_counts c.args.world.now.sites) (packet_counts c.loop.world.sites) (packet_counts c.drive.new.world.sites)
      (map (λ k. (g.L.Link.tally k).sent) c.args.links.now) (map (λ k. (g.L.Link.tally k).sent) c.loop.links) (map (λ k. (g.L.Link.tally k).sent) c.drive.new.links) c.loop.invariant.sent c.in-Ok-drive.ensures.done.counts.sent;
  kept = c.in-Ok-drive.ensures.done.counts.kept ∙ c.loop.invariant.kept;
  seen = λ none. seen_next (g.V.Observer.watched c.loop.watch).seen (g.V.Observer.watched c.see_turn.new.watch).seen c.loop.counter (omega arith) (c.loop.invariant.seen none) c.see_turn.ensures.seen;
  lost = c.see_turn.ensures.lost ∙ c.loop.invariant.lost;
  recorded =
      run_noted c.schedules_read_back.ensures.portions c.args.world.now c.loop.world c.drive.new.world (g.V.Observer.watched c.args.watch.now).recording (g.V.Observer.watched c.loop.watch).recording
      (g.V.Observer.watched c.see_turn.new.watch).recording c.loop.steps.items c.drive.new.steps.items c.as_slice-in-loop.result.now c.loop.invariant.recorded c.loop.invariant.none c.drive.ensures.drives.drives
      c.as_slice-in-loop.ensures.value c.in-Ok-see_turn.ensures.noted;
  history = λ h.
      kept_on (g.V.Observer.watched c.loop.watch).history (g.V.Observer.watched c.see_turn.new.watch).history c.loop.world.history c.drive.new.world.history (entries_between c.loop.world c.drive.new.world) (c.loop.invariant.history h)
      (c.moments_are_tied.ensures.grow c.loop.world c.drive.new.world c.drive.ensures.drives.drives.steps c.drive.ensures.drives.drives.run) c.in-Ok-see_turn.ensures.history;
  shows = c.see_turn.ensures.same ∙ c.loop.invariant.shows;
}

pub returns-clause-reached : goal.returns-clause-reached
returns-clause-reached g c = updates_reached (number_for c.args.packages.now) c.args.world.now c.loop.world c.loop.counter c.loop.invariant.updates

pub returns-in-Err-drive-clause-sees : goal.returns-in-Err-drive-clause-sees
returns-in-Err-drive-clause-sees g c none =
    updates_seen_off (number_for c.args.packages.now) c.args.world.now c.loop.world c.drive.new.world c.loop.counter (g.V.Observer.watched c.broken_off.new.watch).seen c.loop.steps.items c.drive.new.steps.items c.loop.invariant.updates
    c.loop.invariant.none c.drive.ensures.drives.drives (let few = c.in-Err-drive.ensures.stopped.ticks in let first = c.in-Err-drive.ensures.stopped.within in omega arith)
    (seen_next (g.V.Observer.watched c.loop.watch).seen (g.V.Observer.watched c.broken_off.new.watch).seen c.loop.counter (omega arith) (c.loop.invariant.seen none) c.broken_off.ensures.seen)

pub returns-then-driven-eq0-clause-sees : goal.returns-then-driven-eq0-clause-sees
returns-then-driven-eq0-clause-sees g c none =
    updates_seen (number_for c.args.packages.now) c.args.world.now c.drive.new.world c.loop.counter (g.V.Observer.watched c.loop.watch).seen
    (subst (λ n. UpdatesDevices (number_for c.args.packages.now) c.args.world.now c.drive.new.world n) (omega (arith, c.if-driven-eq0.true))
    (updates_more (number_for c.args.packages.now) c.args.world.now c.loop.world c.drive.new.world c.loop.counter c.in-Ok-drive.driven.turns c.loop.steps.items c.drive.new.steps.items c.loop.invariant.updates
    c.loop.invariant.none c.drive.ensures.drives.drives c.in-Ok-drive.ensures.done.ticks))
    (c.loop.invariant.seen none)

pub returns-in-Err-see_turn-clause-sees : goal.returns-in-Err-see_turn-clause-sees
returns-in-Err-see_turn-clause-sees g c none =
    updates_seen (number_for c.args.packages.now) c.args.world.now c.drive.new.world (c.loop.counter + 1) (g.V.Observer.watched c.see_turn.new.watch).seen
    (subst (λ n. UpdatesDevices (number_for c.args.packages.now) c.args.world.now c.drive.new.world (c.loop.counter + n)) (omega (arith, c.in-Ok-drive.ensures.done.within, c.if-driven-eq0.false))
    (updates_more (number_for c.args.packages.now) c.args.world.now c.loop.world c.drive.new.world c.loop.counter c.in-Ok-drive.driven.turns c.loop.steps.items c.drive.new.steps.items c.loop.invariant.updates
    c.loop.invariant.none c.drive.ensures.drives.drives c.in-Ok-drive.ensures.done.ticks))
    (seen_next (g.V.Observer.watched c.loop.watch).seen (g.V.Observer.watched c.see_turn.new.watch).seen c.loop.counter (omega arith) (c.loop.invariant.seen none) c.see_turn.ensures.seen)

pub returns-clause-sees : goal.returns-clause-sees
returns-clause-sees g c none = updates_seen (number_for c.args.packages.now) c.args.world.now c.loop.world c.loop.counter (g.V.Observer.watched c.loop.watch).seen c.loop.invariant.updates (c.loop.invariant.seen none)

pub returns-in-Err-clause-sees : goal.returns-in-Err-clause-sees
returns-in-Err-clause-sees g c none =
    subst (RunsStepsSeen (number_for c.args.packages.now) c.args.world.now c.start_all-started.new.world) (sym (c.note-noted.ensures.seen ∙ none)) c.start_all-started.ensures.unseen_steps

pub returns-in-Err-clause-unwritten : goal.returns-in-Err-clause-unwritten
returns-in-Err-clause-unwritten g c = none_unwritten c.in-Err.fault _ c.in-Err.ensures.unseen

pub returns-in-Err-clause-begun : goal.returns-in-Err-clause-begun
returns-in-Err-clause-begun g c = none_begun (number_for c.args.packages.now) _ _ c.in-Err.fault c.in-Err.ensures.unseen

pub returns-in-Err-noted-clause-begun : goal.returns-in-Err-noted-clause-begun
returns-in-Err-noted-clause-begun g c seen = (0, updates_none (number_for c.args.packages.now) c.args.world.now c.start_all-started.new.world c.in-Ok.ensures.started)

pub returns-in-Err-drive-clause-begun : goal.returns-in-Err-drive-clause-begun
returns-in-Err-drive-clause-begun g c =
    none_begun (number_for c.args.packages.now) _ _ c.broken_off.result (turned_unseen c.in-Err-drive.fault c.broken_off.result c.broken_off.ensures.told)

pub returns-in-Err-see_turn-clause-begun : goal.returns-in-Err-see_turn-clause-begun
returns-in-Err-see_turn-clause-begun g c seen = (
  c.loop.counter + c.in-Ok-drive.driven.turns,
  updates_more (number_for c.args.packages.now) c.args.world.now c.loop.world c.drive.new.world c.loop.counter c.in-Ok-drive.driven.turns c.loop.steps.items c.drive.new.steps.items c.loop.invariant.updates
      c.loop.invariant.none c.drive.ensures.drives.drives c.in-Ok-drive.ensures.done.ticks,
)

pub returns-in-Err-noted-clause-sees : goal.returns-in-Err-noted-clause-sees
returns-in-Err-noted-clause-sees g c none =
    subst (RunsStepsSeen (number_for c.args.packages.now) c.args.world.now c.start_all-started.new.world) (sym (c.note-noted.ensures.seen ∙ none)) c.start_all-started.ensures.unseen_steps

pub returns-in-Err-noted-clause-unwritten : goal.returns-in-Err-noted-clause-unwritten
returns-in-Err-noted-clause-unwritten g c = unwritten_by c.in-Err-noted.fault _ c.observer_fault.result c.observer_fault.ensures.told c.in-Err-noted.ensures.err

pub returns-in-Err-noted-clause-failed : goal.returns-in-Err-noted-clause-failed
returns-in-Err-noted-clause-failed g c = (λ e. absurd (watched_apart c.in-Err-noted.fault edges.Frame (sym c.observer_fault.ensures.told ∙ e)), λ other. refl)

pub returns-in-Err-noted-clause-step : goal.returns-in-Err-noted-clause-step
returns-in-Err-noted-clause-step g c e = absurd (watched_apart c.in-Err-noted.fault edges.Step (sym c.observer_fault.ensures.told ∙ e))

pub returns-then-driven-eq0-clause-history : goal.returns-then-driven-eq0-clause-history
returns-then-driven-eq0-clause-history g c h =
    kept_same (g.V.Observer.watched c.loop.watch).history (g.V.Observer.watched c.loop.watch).history c.loop.world.history c.drive.new.world.history refl
    (ap (λ x. x.history)
    (none_driven c.in-Ok-drive.driven.turns c.loop.world c.loop.steps.items _ c.drive.new.world c.drive.new.steps.items _ c.in-Ok-drive.driven.foreign c.if-driven-eq0.true c.in-Ok-drive.ensures.done.drove))
    (c.loop.invariant.history h)

pub returns-then-driven-eq0-clause-noted : goal.returns-then-driven-eq0-clause-noted
returns-then-driven-eq0-clause-noted g c =
    run_still c.args.world.now c.loop.world c.drive.new.world _ _ c.loop.invariant.recorded
    (none_driven c.in-Ok-drive.driven.turns c.loop.world c.loop.steps.items _ c.drive.new.world c.drive.new.steps.items _ c.in-Ok-drive.driven.foreign c.if-driven-eq0.true c.in-Ok-drive.ensures.done.drove)

pub returns-in-Err-clause-noted_still : goal.returns-in-Err-clause-noted_still
returns-in-Err-clause-noted_still g c none =
    run_broken c.args.world.now c.start_all-started.new.world (g.V.Observer.watched c.args.watch.now).recording (g.V.Observer.watched c.note-noted.new.self).recording c.start_all-started.new.steps.items c.as_slice.result.now
    c.note-noted.result (g.V.Observer.watched c.note-noted.new.self).fault c.as_slice.ensures.value c.start_all-started.ensures.run c.note-noted.ensures.noted c.note-noted.ensures.err none

pub returns-in-Err-clause-history_still : goal.returns-in-Err-clause-history_still
returns-in-Err-clause-history_still g c kept =
    kept_still (g.V.Observer.watched c.note-noted.new.self).history c.start_all-started.new.world.history
    (kept_same (g.V.Observer.watched c.args.watch.now).history (g.V.Observer.watched c.note-noted.new.self).history c.args.world.now.history c.start_all-started.new.world.history c.note-noted.ensures.history
    c.start_all-started.ensures.history kept)

pub returns-in-Err-noted-clause-history_still : goal.returns-in-Err-noted-clause-history_still
returns-in-Err-noted-clause-history_still g c kept =
    kept_still (g.V.Observer.watched c.note-noted.new.self).history c.start_all-started.new.world.history
    (kept_same (g.V.Observer.watched c.args.watch.now).history (g.V.Observer.watched c.note-noted.new.self).history c.args.world.now.history c.start_all-started.new.world.history c.note-noted.ensures.history
    c.start_all-started.ensures.history kept)

pub returns-in-Err-drive-clause-history_still : goal.returns-in-Err-drive-clause-history_still
returns-in-Err-drive-clause-history_still g c kept =
    kept_on_still (g.V.Observer.watched c.loop.watch).history (g.V.Observer.watched c.broken_off.new.watch).history c.loop.world.history c.drive.new.world.history (entries_between c.loop.world c.drive.new.world) (c.loop.invariant.history kept)
    (c.moments_are_tied.ensures.grow c.loop.world c.drive.new.world c.drive.ensures.drives.drives.steps c.drive.ensures.drives.drives.run) c.broken_off.ensures.history_still

pub returns-in-Err-see_turn-clause-history_still : goal.returns-in-Err-see_turn-clause-history_still
returns-in-Err-see_turn-clause-history_still g c kept =
    kept_on_still (g.V.Observer.watched c.loop.watch).history (g.V.Observer.watched c.see_turn.new.watch).history c.loop.world.history c.drive.new.world.history (entries_between c.loop.world c.drive.new.world) (c.loop.invariant.history kept)
    (c.moments_are_tied.ensures.grow c.loop.world c.drive.new.world c.drive.ensures.drives.drives.steps c.drive.ensures.drives.drives.run) c.see_turn.ensures.history_still

pub returns-then-driven-eq0-clause-history_still : goal.returns-then-driven-eq0-clause-history_still
returns-then-driven-eq0-clause-history_still g c kept =
    kept_still (g.V.Observer.watched c.loop.watch).history c.drive.new.world.history
    (kept_same (g.V.Observer.watched c.loop.watch).history (g.V.Observer.watched c.loop.watch).history c.loop.world.history c.drive.new.world.history refl
    (ap (λ x. x.history)
    (none_driven c.in-Ok-drive.driven.turns c.loop.world c.loop.steps.items _ c.drive.new.world c.drive.new.steps.items _ c.in-Ok-drive.driven.foreign c.if-driven-eq0.true c.in-Ok-drive.ensures.done.drove))
    (c.loop.invariant.history kept))

pub returns-clause-history_still : goal.returns-clause-history_still
returns-clause-history_still g c kept = kept_still (g.V.Observer.watched c.loop.watch).history c.loop.world.history (c.loop.invariant.history kept)

pub returns-in-Err-drive-clause-noted_still : goal.returns-in-Err-drive-clause-noted_still
returns-in-Err-drive-clause-noted_still g c none =
    run_noted c.schedules_read_back.ensures.portions c.args.world.now c.loop.world c.drive.new.world (g.V.Observer.watched c.args.watch.now).recording (g.V.Observer.watched c.loop.watch).recording
    (g.V.Observer.watched c.broken_off.new.watch).recording c.loop.steps.items c.drive.new.steps.items c.as_slice-in-Err-drive.result.now c.loop.invariant.recorded c.loop.invariant.none c.drive.ensures.drives.drives
    c.as_slice-in-Err-drive.ensures.value (c.broken_off.ensures.noted none)
