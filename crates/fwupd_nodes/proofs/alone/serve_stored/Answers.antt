use Rattle.std.proofs.Common.{arith}
use Rattle.fw_script.specs.Seen.{device_of}
use Rattle.fwupd_nodes.proofs.Lone.{device_first, setup_ends, setup_served, stocked_some, stored_one}
use Rattle.fwupd_nodes.proofs.alone.serve_stored.Goals as goal

pub index-device-requires : goal.index-device-requires
index-device-requires g c = omega (arith, stored_one _ c.args.setup.only.items c.open_kept.new.devices.items c.requires.one c.in-Ok.ensures.stocked)

pub device_node-requires : goal.device_node-requires
device_node-requires g c =
    device_first c.args.setup.agent c.open_kept.new.devices.items c.index-device.result.now (c.in-Ok.ensures.whole c.args.setup.agent c.requires.whole)
    (stored_one _ c.args.setup.only.items c.open_kept.new.devices.items c.requires.one c.in-Ok.ensures.stocked) c.index-device.ensures

pub serve_node-requires-clause-front : goal.serve_node-requires-clause-front
serve_node-requires-clause-front g c = rw c.in-Ok-device_node.ensures.is c.front_if-front.ensures

pub returns-clause-ok : goal.returns-clause-ok
returns-clause-ok g c =
    setup_served c.serve_node.result c.args.job _ (device_of c.index-device.result.now) c.in-Ok-device_node.node _ _ c.in-Ok-device_node.ensures.is
    (stocked_some _ _ c.args.root.now c.args.setup.only.items c.open_kept.new.devices.items c.index-device.result.now c.requires.some c.requires.one c.in-Ok.ensures.stocked c.index-device.ensures)
    (rw (c.in-Ok.ensures.kept.0, c.in-Ok.ensures.kept.1, c.in-Ok.ensures.kept.2) at c.serve_node.ensures.ok)

pub returns-clause-fault : goal.returns-clause-fault
returns-clause-fault g c =
    setup_ends c.serve_node.result c.args.job _ (device_of c.index-device.result.now) c.in-Ok-device_node.node _ _ c.in-Ok-device_node.ensures.is
    (stocked_some _ _ c.args.root.now c.args.setup.only.items c.open_kept.new.devices.items c.index-device.result.now c.requires.some c.requires.one c.in-Ok.ensures.stocked c.index-device.ensures)
    (rw (c.in-Ok.ensures.kept.0, c.in-Ok.ensures.kept.1, c.in-Ok.ensures.kept.2) at c.serve_node.ensures.fault)
