use Rattle.std.proofs.Common.{◌≡◌, ◌∙◌, arith, length, map, refl, sym}
use Rattle.fw_edge.specs.Ledgers.{packet_counts}
use Rattle.fw_edge.proofs.Failing.{behind_next, same_from, stops_put}
use Rattle.fw_edge.proofs.Gaining.{fell_length}
use Rattle.fw_edge.proofs.Rising.{map_length}
use Rattle.fw_edge.proofs.Sending.{count_at, sent_next, sent_none, written_all, written_next, written_within}
use Rattle.fw_edge.proofs.Taking.{took_each, took_next}
use Rattle.fw_edge.proofs.outgoing.write_out.Goals as goal

pub returns-in-Err-clause-refused : goal.returns-in-Err-clause-refused
returns-in-Err-clause-refused g c = record {
  is = c.in-Err.ensures.refused.is;
  failed =
      stops_put c.in-Err.fault (λ k. (g.L.Link.tally k).failures) c.loop-place.place c.loop-place.links c.args.links.now c.index-links-place.result c.write_at.new.link (omega arith) (omega arith)
      c.loop-place.invariant.wrote.kept c.loop-place.invariant.behind (λ is. c.in-Err.ensures.refused.counts.failures, λ other. absurd (other c.in-Err.ensures.refused.is));
}

pub loop-place-init : goal.loop-place-init
loop-place-init g c = record {
  took = (refl, refl);
  gave = refl;
  behind = refl;
  wrote = record {
    kept = refl;
    asked = refl;
    given = refl;
    sent = sent_none c.args.written.now (map (λ k. (g.L.Link.tally k).sent) c.args.links.now) (rw (map_length (λ k. (g.L.Link.tally k).sent) c.args.links.now) c.requires.each);
  };
  written = c.requires.within;
}

pub loop-place-preserved : goal.loop-place-preserved
loop-place-preserved g c =
    let counts : length (packet_counts c.args.world.now.sites) ≡ length c.args.written.now = fell_length c.args.written.now (packet_counts c.args.world.now.sites) c.requires.within in
    let sites : length (packet_counts c.args.world.now.sites) ≡ length c.args.world.now.sites = map_length (λ x. length x.packets) c.args.world.now.sites in
    record {
      took =
          took_next g.L.Link.taken c.loop-place.place c.args.world.now.sites c.args.written.now c.loop-place.written (map g.L.Link.taken c.args.links.now) c.loop-place.links c.sent_at.result c.index-links-place.result c.write_at.new.link
          (omega arith) (omega arith) (omega arith) c.loop-place.invariant.took c.in-Ok.ensures.took;
      gave = same_from g.L.Link.gave (map g.L.Link.gave c.args.links.now) c.loop-place.links c.loop-place.place c.index-links-place.result c.write_at.new.link c.loop-place.invariant.gave c.in-Ok.ensures.wrote.gave_none;
      behind = behind_next c.loop-place.place c.loop-place.links c.args.links.now c.write_at.new.link (omega arith) (omega arith) c.loop-place.invariant.behind;
      wrote = record {
        kept = same_from (λ k. (g.L.Link.tally k).failures) (map (λ k. (g.L.Link.tally k).failures) c.args.links.now) c.loop-place.links c.loop-place.place c.index-links-place.result c.write_at.new.link c.loop-place.invariant.wrote.kept c.in-Ok.ensures.wrote.counts.failures;
        asked = same_from (λ k. (g.L.Link.tally k).asked) (map (λ k. (g.L.Link.tally k).asked) c.args.links.now) c.loop-place.links c.loop-place.place c.index-links-place.result c.write_at.new.link c.loop-place.invariant.wrote.asked c.in-Ok.ensures.wrote.counts.asked;
        given = same_from (λ k. (g.L.Link.tally k).given) (map (λ k. (g.L.Link.tally k).given) c.args.links.now) c.loop-place.links c.loop-place.place c.index-links-place.result c.write_at.new.link c.loop-place.invariant.wrote.given c.in-Ok.ensures.wrote.counts.given;
        sent =
            sent_next (λ k. (g.L.Link.tally k).sent) c.args.written.now c.loop-place.written (map (λ k. (g.L.Link.tally k).sent) c.args.links.now) c.loop-place.links c.loop-place.place
            c.sent_at.result c.index-links-place.result c.write_at.new.link (omega arith) (omega arith)
            (rw (c.sent_at.ensures, sym (count_at c.args.world.now.sites c.loop-place.place)) (written_within c.loop-place.place c.loop-place.written (packet_counts c.args.world.now.sites) (omega arith) c.loop-place.invariant.written))
            (rw c.sent_at.ensures c.in-Ok.ensures.wrote.counts.sent_rise) c.loop-place.invariant.wrote.sent;
      };
      written =
          written_next c.loop-place.place c.loop-place.written (packet_counts c.args.world.now.sites) c.sent_at.result (omega arith)
          (c.sent_at.ensures ∙ sym (count_at c.args.world.now.sites c.loop-place.place)) c.loop-place.invariant.written;
    }

pub returns-clause-out : goal.returns-clause-out
returns-clause-out g c = record {
  took = took_each c.loop-place.place (length (map g.L.Link.taken c.args.links.now)) c.args.world.now.sites c.args.written.now c.loop-place.written (map g.L.Link.taken c.args.links.now) (map g.L.Link.taken c.loop-place.links)
      (let same = map_length g.L.Link.taken c.args.links.now in omega arith) c.loop-place.invariant.took;
  all = written_all c.loop-place.place c.loop-place.written (packet_counts c.args.world.now.sites) (omega arith) c.loop-place.invariant.written;
  gave_none = c.loop-place.invariant.gave;
}
