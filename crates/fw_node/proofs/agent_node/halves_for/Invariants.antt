use Rattle.std.proofs.Common.{◌≡◌, take, map}
use Rattle.fw_node.specs.AgentViews.{half_in}
use Rattle.fw_node.specs.Agents.{new_half}
use Rattle.fw_node.proofs.agent_node.halves_for.Given as goal

-- the halves so far are those of the devices so far
abbrev pub invariant-loop-device : goal.invariant-loop-device
invariant-loop-device l = map (half_in 0) l.halves.items ≡ map (new_half l.unit l.own) (take l.device-index l.devices)
