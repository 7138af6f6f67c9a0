use Rattle.std.proofs.Common.{◌≡◌, drop}
use Rattle.fw_edge.specs.Drives.{all_over, are_over}
use Rattle.fw_soak.proofs.turns.all_over.Given as goal

-- all sessions are over if those of the remaining devices are
abbrev pub invariant-loop-place : goal.invariant-loop-place
invariant-loop-place l = all_over l.world ≡ are_over l.world.agent (drop l.place l.world.sites)
