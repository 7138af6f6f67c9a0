use Rattle.std.proofs.Common.{arith, refl}
use Rattle.fwupd_watch.proofs.Overs.{over_image_item}
use Rattle.fwupd_watch.proofs.files.is_image.Goals as goal

pub returns-then-is_same_file-clause-over : goal.returns-then-is_same_file-clause-over
returns-then-is_same_file-clause-over g c = λ _.
    over_image_item (g.F.Files.holds c.args.files.now) c.args.path.now c.args.images.now c.loop-image.image-index _ (omega arith) (c.if-is_same_file.ensures.same refl)
