use Rattle.std.proofs.Common.{drop}
use Rattle.std.specs.List.{AllByRecursion}
use Rattle.fw_node.specs.Nodes.{DeviceNodeOf}
use Rattle.fw_steps.specs.Widths.{HasWidthsAsNew}
use Rattle.fw_steps.proofs.fitting.devices_fit.Given as goal

-- if all nodes that are left fit, all fit
abbrev pub invariant-loop-node : goal.invariant-loop-node
invariant-loop-node g l =
    AllByRecursion (λ (n : DeviceNodeOf). HasWidthsAsNew n.half.core.device) (drop l.node-index l.devices) → AllByRecursion (λ (n : DeviceNodeOf). HasWidthsAsNew n.half.core.device) l.devices
