use Rattle.fw_package.proofs.Walked.{large_here}
use Rattle.fw_package.proofs.packages.Package.has_large_image.Goals as goal

pub returns : goal.returns
returns c = large_here c.args.self.now c.args.uses.now c.used.result c.has_image_over.result c.used.ensures.value c.has_image_over.ensures
