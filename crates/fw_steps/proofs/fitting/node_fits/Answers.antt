use Rattle.std.proofs.Common.{ap, subst}
use Rattle.fw_node.specs.Cores.{TimedDevice}
use Rattle.fw_steps.specs.Widths.{HasWidthsAsNew}
use Rattle.fw_steps.proofs.fitting.node_fits.Goals as goal

pub returns : goal.returns
returns g c = subst HasWidthsAsNew (ap (λ (t : TimedDevice). t.device) c.device.ensures.device) c.device_fits.ensures
