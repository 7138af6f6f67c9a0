use Rattle.std.proofs.Common.{arith}
use Rattle.fw_script.specs.Seen.{device_of}
use Rattle.fwupd_nodes.specs.Alone.{device_setup_seen}
use Rattle.fwupd_nodes.proofs.Lone.{device_first, stocked_some, stored_one}
use Rattle.fwupd_nodes.proofs.Processes.{runs_setup, setup_stops}
use Rattle.fwupd_nodes.proofs.device_serving.serve_stored.Goals as goal

pub index-device-requires : goal.index-device-requires
index-device-requires g c = omega (arith, stored_one _ c.args.setup.only.items c.open_kept.new.devices.items c.requires.one c.in-Ok.ensures.stocked)

pub device_node-requires : goal.device_node-requires
device_node-requires g c =
    device_first c.args.setup.agent c.open_kept.new.devices.items c.index-device.result.now (c.in-Ok.ensures.whole c.args.setup.agent c.requires.whole)
    (stored_one _ c.args.setup.only.items c.open_kept.new.devices.items c.requires.one c.in-Ok.ensures.stocked) c.index-device.ensures

pub returns-clause-runs : goal.returns-clause-runs
returns-clause-runs g c =
    runs_setup c.serve_device.result c.args.job.now (device_setup_seen c.args.setup) _ (device_of c.index-device.result.now) c.in-Ok-device_node.node _ _ c.in-Ok-device_node.ensures.is
    (stocked_some _ _ c.args.root.now c.args.setup.only.items c.open_kept.new.devices.items c.index-device.result.now c.requires.some c.requires.one c.in-Ok.ensures.stocked c.index-device.ensures) c.serve_device.ensures.runs

pub returns-clause-fault : goal.returns-clause-fault
returns-clause-fault g c =
    setup_stops c.serve_device.result c.args.job.now (device_setup_seen c.args.setup) _ (device_of c.index-device.result.now) c.in-Ok-device_node.node _ _ c.in-Ok-device_node.ensures.is
    (stocked_some _ _ c.args.root.now c.args.setup.only.items c.open_kept.new.devices.items c.index-device.result.now c.requires.some c.requires.one c.in-Ok.ensures.stocked c.index-device.ensures) c.serve_device.ensures.fault
