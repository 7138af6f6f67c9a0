use Rattle.std.proofs.Common.{◌≡◌, ◌≤◌, ◌+◌, ◌++◌, length, map}
use Rattle.fwupd_base.specs.ImageFiles.{files_in}
use Rattle.fwupd_words.specs.Images.{images_of}
use Rattle.fwupd_words.proofs.images.images_among.Given as goal

-- the files so far, and those of the remaining values
abbrev pub invariant-loop-left : goal.invariant-loop-left
invariant-loop-left l =
    (length (files_in l.images) + length l.left ≤ length l.texts)
    × (length l.texts ≤ 48 → files_in l.images ++ images_of (map (λ t. t.now) l.left) ≡ images_of (map (λ t. t.now) l.texts))

abbrev pub decreases-loop-left : goal.decreases-loop-left
decreases-loop-left l = length l.left
