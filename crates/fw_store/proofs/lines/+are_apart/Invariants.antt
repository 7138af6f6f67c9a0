use Rattle.std.proofs.Common.{length}
use Rattle.fw_store.proofs.lines.+are_apart.Given as goal

abbrev pub decreases-are_apart : goal.decreases-are_apart
decreases-are_apart l = length l.images.now
