use Rattle.std.proofs.Common.{arith, sym}
use Rattle.fwupd_jobs.proofs.Linked.{lost_at, none_more}
use Rattle.fwupd_jobs.proofs.updating.lost_device.Goals as goal

pub returns-in-Some-clause-lost : goal.returns-in-Some-clause-lost
returns-in-Some-clause-lost g c =
    lost_at c.args.world.now (λ l. (g.L.Link.tally l).failures) c.args.links.now c.index-links-place.result c.loop-place.place c.eid.result c.failures.result c.in-Some.node.now (omega (arith, c.loop-place-test.true))
    c.index-links-place.is c.failures.ensures c.if-failures-gt0.true (sym (rw c.in-Some.is at c.device_at.ensures)) c.eid.ensures.eid c.loop-place.invariant

pub loop-place-preserved : goal.loop-place-preserved
loop-place-preserved g c =
    none_more (λ k. (g.L.Link.tally k).failures) c.args.links.now c.index-links-place.result c.loop-place.place (omega (arith, c.loop-place-test.true)) c.index-links-place.is
    (omega (arith, c.failures.ensures, c.if-failures-gt0.false)) c.loop-place.invariant
