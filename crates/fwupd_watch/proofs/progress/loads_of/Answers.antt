use Rattle.fwupd_watch.proofs.Lines.{load_noted}
use Rattle.fwupd_watch.proofs.progress.loads_of.Goals as goal

pub loop-place-preserved : goal.loop-place-preserved
loop-place-preserved g c =
    load_noted c.loop-place.place c.loop-place.loads c.args.world.now.sites c.load_at.result c.loop-place.invariant c.loop-place-test.true c.load_at.ensures
