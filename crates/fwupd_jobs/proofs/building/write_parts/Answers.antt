use Rattle.std.proofs.Common.{arith}
use Rattle.fwupd_jobs.proofs.Builds.{parts_more}
use Rattle.fwupd_jobs.proofs.building.write_parts.Goals as goal

pub loop-image-preserved : goal.loop-image-preserved
loop-image-preserved g c =
    parts_more (g.W.Write.contents c.args.writer.now) (g.W.Write.contents c.loop-image.writer) (g.W.Write.contents c.write_whole-in-loop-image.new.writer)
    c.args.header.now c.args.images.now c.loop-image.image-index c.image-item.result c.deref.result.now (omega arith) c.image-item.is c.deref.ensures.value
    c.loop-image.invariant c.in-Ok-write_whole.ensures.ok
