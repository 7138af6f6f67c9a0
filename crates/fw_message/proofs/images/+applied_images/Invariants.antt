use Rattle.std.proofs.Common.{length}
use Rattle.fw_message.proofs.images.+applied_images.Given as goal

abbrev pub decreases-applied_images : goal.decreases-applied_images
decreases-applied_images g l = length l.components.now
