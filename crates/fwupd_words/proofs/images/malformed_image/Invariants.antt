use Rattle.std.proofs.Common.{◌≡◌, length, map}
use Rattle.fwupd_words.specs.Images.{first_malformed_image}
use Rattle.fwupd_words.proofs.images.malformed_image.Given as goal

abbrev pub invariant-loop-left : goal.invariant-loop-left
invariant-loop-left l = first_malformed_image (map (λ t. t.now) l.left) ≡ first_malformed_image (map (λ t. t.now) l.texts)

abbrev pub decreases-loop-left : goal.decreases-loop-left
decreases-loop-left l = length l.left
