use Rattle.std.proofs.Common.{◌∙◌, arith}
use Rattle.fw_edge.proofs.Roughening.{counts_next, counts_still, goes_next, stays_next}
use Rattle.fw_edge.proofs.rough.send_due.Goals as goal
use Rattle.fw_edge.proofs.rough.send_due.Goals.{then-packet-turn+in-Ok, else-packet-turn}

pub loop-packet-preserved : goal.loop-packet-preserved
loop-packet-preserved g c = elim c.if-packet-turn.branch [
  | then-packet-turn+in-Ok w ↦ rw w.link-is (record {
    out =
        goes_next c.args.turn c.loop-packet.packet-index c.args.held.now c.packet-item.result (g.L.Link.taken c.args.link.now) (g.L.Link.taken c.loop-packet.link) (g.L.Link.taken w.send.new.self)
        (omega arith) c.packet-item.is w.if-packet-turn.true c.loop-packet.invariant.out w.in-Ok.ensures.taken;
    counts =
        counts_next c.args.turn c.loop-packet.packet-index c.args.held.now c.packet-item.result (g.L.Link.tally c.args.link.now) (g.L.Link.tally c.loop-packet.link) (g.L.Link.tally w.send.new.self)
        (omega arith) c.packet-item.is w.if-packet-turn.true c.loop-packet.invariant.counts w.in-Ok.ensures.ok;
    gave = w.in-Ok.ensures.gave ∙ c.loop-packet.invariant.gave;
  })
  | else-packet-turn w ↦ rw w.link-is (record {
    out =
        stays_next c.args.turn c.loop-packet.packet-index c.args.held.now c.packet-item.result (g.L.Link.taken c.args.link.now) (g.L.Link.taken c.loop-packet.link)
        (omega arith) c.packet-item.is (let far = w.if-packet-turn.false in omega arith) c.loop-packet.invariant.out;
    counts =
        counts_still c.args.turn c.loop-packet.packet-index c.args.held.now c.packet-item.result (g.L.Link.tally c.args.link.now) (g.L.Link.tally c.loop-packet.link)
        (omega arith) c.packet-item.is (let far = w.if-packet-turn.false in omega arith) c.loop-packet.invariant.counts;
    gave = c.loop-packet.invariant.gave;
  })
]
