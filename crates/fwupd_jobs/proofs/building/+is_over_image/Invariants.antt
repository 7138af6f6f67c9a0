use Rattle.std.proofs.Common.{length}
use Rattle.fwupd_jobs.proofs.building.+is_over_image.Given as goal

abbrev pub decreases-is_over_image : goal.decreases-is_over_image
decreases-is_over_image g l = length l.components.now
