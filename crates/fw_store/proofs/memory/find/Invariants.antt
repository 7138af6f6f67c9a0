use Rattle.std.proofs.Common.{◌≡◌, drop}
use Rattle.fw_store.specs.Kept.{image_for}
use Rattle.fw_store.proofs.memory.find.Given as goal

-- the component isn't among the images so far
abbrev pub invariant-loop-image : goal.invariant-loop-image
invariant-loop-image l = image_for (drop l.image-index l.images) l.key ≡ image_for l.images l.key
