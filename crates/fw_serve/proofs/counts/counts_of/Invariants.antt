use Rattle.std.proofs.Common.{◌≡◌, map, take}
use Rattle.fw_serve.specs.Agents.{new_counts}
use Rattle.fw_serve.proofs.counts.counts_of.Given as goal

-- the counts of the devices so far are there
abbrev pub invariant-loop-place : goal.invariant-loop-place
invariant-loop-place l = l.counts.items ≡ new_counts (map (λ h. h.peer) (take l.place l.agent.halves))
