use Rattle.std.proofs.Common.{◌≡◌, drop, map}
use Rattle.fw_soak.specs.Counts.{greatest, longest_at}
use Rattle.fw_soak.proofs.counts.longest.Given as goal

-- the greatest of the remaining durations and the one so far is the greatest of all
abbrev pub invariant-loop-place : goal.invariant-loop-place
invariant-loop-place g l =
    greatest l.longest (map (longest_at l.steps) (drop l.place l.world.sites)) ≡ greatest 0 (map (longest_at l.steps) l.world.sites)
