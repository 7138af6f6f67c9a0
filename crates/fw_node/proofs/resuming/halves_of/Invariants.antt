use Rattle.std.proofs.Common.{◌≡◌, take, map}
use Rattle.fw_node.specs.AgentViews.{half_in}
use Rattle.fw_node.specs.Resumed.{resumed_half, session_kept}
use Rattle.fw_node.proofs.resuming.halves_of.Given as goal

-- the halves so far are those of the sessions so far
abbrev pub invariant-loop-kept : goal.invariant-loop-kept
invariant-loop-kept l = map (half_in 0) l.halves.items ≡ map (resumed_half l.unit l.own) (map session_kept (take l.kept-index l.sessions))
