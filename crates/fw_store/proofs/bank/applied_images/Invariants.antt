use Rattle.std.proofs.Common.{◌≡◌, take}
use Rattle.fw_store.specs.Kept.{all_applied}
use Rattle.fw_store.proofs.bank.applied_images.Given as goal

-- the images of the components so far are there
abbrev pub invariant-loop-key : goal.invariant-loop-key
invariant-loop-key l = l.images.items ≡ all_applied (take l.key-index l.bank.rows)
