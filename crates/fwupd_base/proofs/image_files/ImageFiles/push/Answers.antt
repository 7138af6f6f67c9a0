use Rattle.std.proofs.Common.{arith}
use Rattle.fwupd_base.proofs.Images.{count_is, one_more}
use Rattle.fwupd_base.proofs.image_files.ImageFiles.push.Goals as goal

pub returns-then-self-eq-MAX_IMAGE_FILES-clause-room : goal.returns-then-self-eq-MAX_IMAGE_FILES-clause-room
returns-then-self-eq-MAX_IMAGE_FILES-clause-room c = λ within.
    absurd (omega (within, c.if-self-eq-MAX_IMAGE_FILES.true, count_is c.args.self.now.files c.args.self.now.count (omega (c.args.self.now.fits.0, c.args.self.now.fits.1, arith)), arith))

pub returns-clause-added : goal.returns-clause-added
returns-clause-added c = λ _. one_more c.args.self.now.files c.args.self.now.count c.args.file (omega (c.args.self.now.fits.0, c.args.self.now.fits.1, c.if-self-eq-MAX_IMAGE_FILES.false, arith))
