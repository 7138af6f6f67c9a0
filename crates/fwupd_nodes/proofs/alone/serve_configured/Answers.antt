use Rattle.std.proofs.Common.{ap}
use Rattle.std.specs.Prelude.{option_map}
use Rattle.fw_script.specs.Seen.{device_of}
use Rattle.fwupd_nodes.proofs.Lone.{setup_ends, setup_served, stocked_none}
use Rattle.fwupd_nodes.proofs.alone.serve_configured.Goals as goal

pub serve_node-requires-clause-front : goal.serve_node-requires-clause-front
serve_node-requires-clause-front g c = rw c.in-Ok.ensures.is c.front_if-front.ensures

pub returns-clause-ok : goal.returns-clause-ok
returns-clause-ok g c =
    setup_served c.serve_node.result c.args.job _ (device_of c.index-device.result.now) c.in-Ok.node _ _ c.in-Ok.ensures.is
    (stocked_none _ _ c.args.setup.now.only.items c.index-device.result.now (ap (option_map (λ p. p.now)) c.requires.none) c.requires.one c.index-device.ensures) c.serve_node.ensures.ok

pub returns-clause-fault : goal.returns-clause-fault
returns-clause-fault g c =
    setup_ends c.serve_node.result c.args.job _ (device_of c.index-device.result.now) c.in-Ok.node _ _ c.in-Ok.ensures.is
    (stocked_none _ _ c.args.setup.now.only.items c.index-device.result.now (ap (option_map (λ p. p.now)) c.requires.none) c.requires.one c.index-device.ensures) c.serve_node.ensures.fault
