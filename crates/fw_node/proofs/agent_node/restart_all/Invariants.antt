use Rattle.std.proofs.Common.{◌≡◌, ◌++◌, drop, map, take}
use Rattle.fw_node.specs.AgentViews.{half_restarted}
use Rattle.fw_node.proofs.agent_node.restart_all.Given as goal

-- the halves so far have restarted
abbrev pub invariant-loop-half : goal.invariant-loop-half
invariant-loop-half l = l.halves ≡ map half_restarted (take l.half-index l.fn.halves) ++ drop l.half-index l.fn.halves
