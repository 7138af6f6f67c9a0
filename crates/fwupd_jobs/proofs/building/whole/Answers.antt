use Rattle.std.proofs.Common.{arith}
use Rattle.fwupd_jobs.proofs.Builds.{bytes_more}
use Rattle.fwupd_jobs.proofs.building.whole.Goals as goal

pub loop-image-preserved : goal.loop-image-preserved
loop-image-preserved c =
    bytes_more c.args.header.now c.loop-image.bytes.items c.extend_from_slice-in-loop-image.new.self.items c.deref.result.now c.args.images.now c.loop-image.image-index c.image-item.result (omega arith) c.image-item.is
    c.deref.ensures.value c.loop-image.invariant c.in_ok-extend_from_slice-2.ensures.items
