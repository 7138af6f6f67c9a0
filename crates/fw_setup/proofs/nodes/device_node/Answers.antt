use Rattle.std.proofs.Common.{ap, subst, sym, ◌∙◌}
use Rattle.fd_core.specs.Components.{HasComponents}
use Rattle.fd_core.specs.States.{DeviceOf}
use Rattle.fw_node.specs.Nodes.{new_device_node}
use Rattle.fw_script.specs.Seen.{device_of}
use Rattle.fw_steps.specs.Opening.{IsNewNode}
use Rattle.fw_setup.proofs.Making.{new_made}
use Rattle.fw_setup.proofs.nodes.device_node.Goals as goal

pub returns-clause-new : goal.returns-clause-new
returns-clause-new g c =
    let made = new_made c.args.unit c.args.agent (device_of c.args.config.now) c.requires (subst (λ (d : DeviceOf). HasComponents d.device) c.in_ok-device.ensures.is c.in_ok-device.ensures.components) in
    subst (IsNewNode c.args.unit c.args.agent) (ap (new_device_node c.args.config.now.endpoint c.args.agent) (sym c.in_ok-device.ensures.is) ∙ sym c.new.ensures) made
