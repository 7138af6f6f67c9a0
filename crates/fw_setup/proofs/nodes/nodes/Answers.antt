use Rattle.std.proofs.Common.{map}
use Rattle.fw_script.specs.Seen.{device_of}
use Rattle.fw_setup.proofs.Making.{nodes_new}
use Rattle.fw_setup.proofs.nodes.nodes.Goals as goal

pub returns-in-Ok-clause-new : goal.returns-in-Ok-clause-new
returns-in-Ok-clause-new g c =
    nodes_new c.args.unit c.args.agent (map device_of c.args.devices.now) c.in-Ok.nodes.items c.requires c.in-Ok.ensures.is c.in-Ok.ensures.new
