use Rattle.std.proofs.Common.{◌≡◌, take}
use Rattle.std.specs.List.{sum_by}
use Rattle.fw_soak.specs.Counts.{capped_count, lost_at}
use Rattle.fw_soak.proofs.counts.losses.Given as goal

-- the losses of the devices before the place
abbrev pub invariant-loop-place : goal.invariant-loop-place
invariant-loop-place g l = l.losses ≡ capped_count (sum_by (lost_at l.steps) (take l.place l.world.sites))
