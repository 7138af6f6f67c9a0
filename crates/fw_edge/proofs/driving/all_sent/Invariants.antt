use Rattle.std.proofs.Common.{◌≡◌, take}
use Rattle.fw_edge.specs.Ledgers.{packet_counts}
use Rattle.fw_edge.proofs.driving.all_sent.Given as goal

-- the counts before the place are listed
abbrev pub invariant-loop-place : goal.invariant-loop-place
invariant-loop-place g l = l.sent.items ≡ take l.place (packet_counts l.world.sites)
