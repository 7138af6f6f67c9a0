use Rattle.std.proofs.Common.{rules, sym}
use Rattle.fwupd_watch.specs.Traces.{readers_for}
use Rattle.fwupd_watch.proofs.Traced.{readers_more}
use Rattle.fwupd_watch.proofs.tracing.add_readers.Goals as goal

pub loop-place-preserved : goal.loop-place-preserved
loop-place-preserved g c =
    readers_more c.args.world.now c.loop-place.place c.in-Some.node.now c.loop-place.readers.items c.push.new.self.items (readers_for c.args.readers.now.items c.args.world.now) c.new.result
    (search rules) (sym c.in-Some.ensures) (search rules) c.in_ok-push.ensures.items c.loop-place.invariant
