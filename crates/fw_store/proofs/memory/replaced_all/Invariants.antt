use Rattle.std.proofs.Common.{◌≡◌, take}
use Rattle.fw_store.specs.Kept.{kept_after}
use Rattle.fw_store.proofs.memory.replaced_all.Given as goal

-- the images so far are there
abbrev pub invariant-loop-image : goal.invariant-loop-image
invariant-loop-image l = l.new.items ≡ kept_after (take l.image-index l.old) l.images
