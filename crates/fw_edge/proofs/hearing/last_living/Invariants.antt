use Rattle.fw_edge.proofs.Latest.{LivesNoneBehind}
use Rattle.fw_edge.proofs.hearing.last_living.Given as goal

-- no packet after the remaining ones is alive
abbrev pub invariant-loop-number : goal.invariant-loop-number
invariant-loop-number l = LivesNoneBehind l.now l.packets l.packet.items l.number

-- the number decreases
abbrev pub decreases-loop-number : goal.decreases-loop-number
decreases-loop-number l = l.number
