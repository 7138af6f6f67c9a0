use Rattle.std.proofs.Common.{◌≡◌, drop, map}
use Rattle.fw_node.specs.AgentViews.{half_in}
use Rattle.fw_node.specs.Agents.{place_from}
use Rattle.fw_node.proofs.agent_node.place_of.Given as goal

-- the device is among the halves that are left
abbrev pub invariant-loop-place : goal.invariant-loop-place
invariant-loop-place l =
    place_from 0 (map (half_in 0) l.halves) l.eid ≡ place_from l.place (map (half_in 0) (drop l.place l.halves)) l.eid
