use Rattle.std.proofs.Common.{◌≡◌, [], length, map}
use Rattle.fw_edge.specs.Ledgers.{AllSent, packet_counts}
use Rattle.fwupd_base.specs.PackageChoices.{number_for}
use Rattle.fwupd_watch.specs.Histories.{HasHistoryLinesIfAny}
use Rattle.fwupd_watch.specs.Recordings.{RecordsRun}
use Rattle.fwupd_watch.specs.Running.{UpdatesDevices}
use Rattle.fwupd_watch.proofs.running.update_all.Given as goal

-- the ticks so far
abbrev pub invariant-loop : goal.invariant-loop
invariant-loop g l = record {
  updates : UpdatesDevices (number_for l.packages) l.fn.world l.world l.counter;
  devices : length l.links ≡ length l.world.sites;
  none : l.steps.items ≡ [];
  sent : AllSent (packet_counts l.fn.world.sites) (packet_counts l.world.sites) (map (λ k. (g.L.Link.tally k).sent) l.fn.links) (map (λ k. (g.L.Link.tally k).sent) l.links);
  kept : map (λ k. (g.L.Link.tally k).failures) l.links ≡ map (λ k. (g.L.Link.tally k).failures) l.fn.links;
  seen : (g.V.Observer.watched l.fn.watch).seen ≡ 0 → (g.V.Observer.watched l.watch).seen ≡ l.counter;
  lost : (g.V.Observer.watched l.watch).lost ≡ (g.V.Observer.watched l.fn.watch).lost;
  recorded : RecordsRun l.fn.world l.world (g.V.Observer.watched l.fn.watch).recording (g.V.Observer.watched l.watch).recording;
  history : HasHistoryLinesIfAny (g.V.Observer.watched l.fn.watch).history l.fn.world.history → HasHistoryLinesIfAny (g.V.Observer.watched l.watch).history l.world.history;
  shows : (g.V.Observer.watched l.watch).shows ≡ (g.V.Observer.watched l.fn.watch).shows;
}
