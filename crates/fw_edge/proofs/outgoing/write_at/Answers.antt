use Rattle.std.proofs.Common.{map, subst, sym}
use Rattle.fw_edge.specs.Outgoing.{LinkTakesAll}
use Rattle.fw_edge.proofs.Taking.{bytes_in, took_there}
use Rattle.fw_edge.proofs.outgoing.write_at.Goals as goal

pub returns-in-Ok-clause-took : goal.returns-in-Ok-clause-took
returns-in-Ok-clause-took g c =
    took_there _ c.in-Some-Some.node.now c.in-Some-Some.packets c.eid.result c.args.written (g.L.Link.taken c.args.link.now) (g.L.Link.taken c.write_each.new.link)
    (sym c.in-Some-Some.ensures) (sym c.in-Some-Some.ensures') c.eid.ensures.eid
    (subst (λ ps. LinkTakesAll c.eid.result (g.L.Link.taken c.args.link.now) (map bytes_in ps) (g.L.Link.taken c.write_each.new.link)) c.behind.ensures c.in-Ok.ensures.took)
