use Rattle.std.proofs.Common.{◌≡◌, drop}
use Rattle.fw_store.specs.Kept.{image_for}
use Rattle.fw_setup.proofs.stocks.kept_for.Given as goal

-- the component isn't among those so far
abbrev pub invariant-loop-stored : goal.invariant-loop-stored
invariant-loop-stored l = image_for (drop l.stored-index l.images) l.key ≡ image_for l.images l.key
