use Rattle.std.proofs.Common.{ap}
use Rattle.std.specs.Prelude.{option_map}
use Rattle.fw_script.specs.Seen.{device_of}
use Rattle.fwupd_nodes.specs.Alone.{device_setup_seen}
use Rattle.fwupd_nodes.proofs.Lone.{stocked_none}
use Rattle.fwupd_nodes.proofs.Processes.{runs_setup, setup_stops}
use Rattle.fwupd_nodes.proofs.device_serving.serve_configured.Goals as goal

pub returns-clause-runs : goal.returns-clause-runs
returns-clause-runs g c =
    runs_setup c.serve_device.result c.args.job.now (device_setup_seen c.args.setup.now) _ (device_of c.index-device.result.now) c.in-Ok.node _ _ c.in-Ok.ensures.is
    (stocked_none _ _ c.args.setup.now.only.items c.index-device.result.now (ap (option_map (λ p. p.now)) c.requires.none) c.requires.one c.index-device.ensures) c.serve_device.ensures.runs

pub returns-clause-fault : goal.returns-clause-fault
returns-clause-fault g c =
    setup_stops c.serve_device.result c.args.job.now (device_setup_seen c.args.setup.now) _ (device_of c.index-device.result.now) c.in-Ok.node _ _ c.in-Ok.ensures.is
    (stocked_none _ _ c.args.setup.now.only.items c.index-device.result.now (ap (option_map (λ p. p.now)) c.requires.none) c.requires.one c.index-device.ensures) c.serve_device.ensures.fault
