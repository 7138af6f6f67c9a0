use Rattle.std.proofs.Common.{◌≡◌, length, map}
use Rattle.fwupd_base.specs.ImageFiles.{image_file}
use Rattle.fwupd_words.specs.Images.{has_place, images_of}
use Rattle.fwupd_words.proofs.images.has_place.Given as goal

abbrev pub invariant-loop-left : goal.invariant-loop-left
invariant-loop-left l = has_place (images_of (map (λ t. t.now) l.left)) (image_file l.file) ≡ has_place (images_of (map (λ t. t.now) l.texts)) (image_file l.file)

abbrev pub decreases-loop-left : goal.decreases-loop-left
decreases-loop-left l = length l.left
