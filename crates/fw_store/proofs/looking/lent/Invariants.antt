use Rattle.std.proofs.Common.{◌≡◌, take}
use Rattle.fw_store.proofs.looking.lent.Given as goal

-- the images so far are there
abbrev pub invariant-loop-image : goal.invariant-loop-image
invariant-loop-image l = l.lent.items ≡ take l.image-index l.images
