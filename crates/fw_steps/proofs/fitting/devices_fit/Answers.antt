use Rattle.std.proofs.Common.{rules}
use Rattle.fw_node.specs.Nodes.{DeviceNodeOf}
use Rattle.fw_steps.specs.Widths.{HasWidthsAsNew}
use Rattle.fw_steps.proofs.Fit.{one_before}
use Rattle.fw_steps.proofs.fitting.devices_fit.Goals as goal

pub loop-node-preserved : goal.loop-node-preserved
loop-node-preserved g c = λ rest.
    c.loop-node.invariant
    (one_before (λ (n : DeviceNodeOf). HasWidthsAsNew n.half.core.device) c.args.devices.now c.loop-node.node-index c.node-item.result (search rules) c.node-item.is c.node_fits.ensures rest)
