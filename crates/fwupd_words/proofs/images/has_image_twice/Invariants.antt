use Rattle.std.proofs.Common.{◌≡◌, length, map}
use Rattle.fwupd_words.specs.Images.{has_image_twice}
use Rattle.fwupd_words.proofs.images.has_image_twice.Given as goal

abbrev pub invariant-loop-left : goal.invariant-loop-left
invariant-loop-left l = has_image_twice (map (λ t. t.now) l.left) ≡ has_image_twice (map (λ t. t.now) l.texts)

abbrev pub decreases-loop-left : goal.decreases-loop-left
decreases-loop-left l = length l.left
