use Rattle.std.proofs.Common.{◌∙◌, ap, arith, option_map, refl, rules, sym}
use Rattle.fw_edge.proofs.Stopping.{refuses_then}
use Rattle.fw_edge.proofs.Taking.{bytes_in, took_all, took_more}
use Rattle.fw_edge.proofs.outgoing.write_each.Goals as goal

pub returns-in-Err-clause-refused : goal.returns-in-Err-clause-refused
returns-in-Err-clause-refused g c = record {
  is = refl;
  taken = c.loop-place.place;
  fewer = omega arith;
  counts = refuses_then c.loop-place.place (g.L.Link.tally c.args.link.now) (g.L.Link.tally c.loop-place.link) (g.L.Link.tally c.send.new.self) c.loop-place.invariant.wrote.counts c.in-Err.ensures.err;
}

pub loop-place-preserved : goal.loop-place-preserved
loop-place-preserved g c = record {
  wrote = record { counts = search rules; gave_none = c.in-Ok.ensures.gave ∙ c.loop-place.invariant.wrote.gave_none };
  took =
      took_more c.args.device (g.L.Link.taken c.args.link.now) (g.L.Link.taken c.loop-place.link) (g.L.Link.taken c.send.new.self) c.args.packets.now c.loop-place.place c.in-Some.sent.bytes.now c.end_of.result
      (ap (option_map bytes_in) (sym c.in-Some.ensures.packet)) c.end_of.ensures c.loop-place.invariant.took (rw c.put.ensures at c.in-Ok.ensures.taken);
}

pub returns-clause-took : goal.returns-clause-took
returns-clause-took g c =
    took_all c.args.device (g.L.Link.taken c.args.link.now) (g.L.Link.taken c.loop-place.link) c.args.packets.now c.loop-place.place (omega arith) c.loop-place.invariant.took
