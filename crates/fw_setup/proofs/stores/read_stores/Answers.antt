use Rattle.std.proofs.Common.{ap, arith, get_or, map, refl}
use Rattle.fw_script.specs.Seen.{device_of}
use Rattle.fw_setup.specs.Stocks.{stores_in}
use Rattle.fw_setup.proofs.Stocking.{seen_all, seen_more, seen_unopened, whole_stocked}
use Rattle.fw_setup.proofs.stores.read_stores.Goals as goal

pub returns-in-Err-clause-fault : goal.returns-in-Err-clause-fault
returns-in-Err-clause-fault g c =
    let i = c.loop-device.device-index in
    let xs = c.loop-device.devices in
    seen_unopened (stores_in (g.S.ReadStores.is_known c.args.stores.now) (g.S.ReadStores.files c.args.stores.now) c.args.root.now) c.args.devices.now xs i (get_or xs i c.device-item.result) _ (omega arith) (omega arith)
    (ap (get_or xs i) c.device-item.is) refl c.in-Err.ensures.fault c.loop-device.invariant

pub loop-device-preserved : goal.loop-device-preserved
loop-device-preserved g c =
    let i = c.loop-device.device-index in
    let xs = c.loop-device.devices in
    seen_more (stores_in (g.S.ReadStores.is_known c.args.stores.now) (g.S.ReadStores.files c.args.stores.now) c.args.root.now) c.args.devices.now xs i (get_or xs i c.device-item.result) c.read_device.new.device (omega arith)
    (omega arith) (ap (get_or xs i) c.device-item.is) c.in-Ok.ensures.stocked c.loop-device.invariant

pub returns-clause-stocked : goal.returns-clause-stocked
returns-clause-stocked g c =
    seen_all (stores_in (g.S.ReadStores.is_known c.args.stores.now) (g.S.ReadStores.files c.args.stores.now) c.args.root.now) c.args.devices.now c.loop-device.devices c.loop-device.device-index (omega arith)
    c.loop-device.invariant

pub returns-clause-whole : goal.returns-clause-whole
returns-clause-whole g c agent whole =
    let s = stores_in (g.S.ReadStores.is_known c.args.stores.now) (g.S.ReadStores.files c.args.stores.now) c.args.root.now in
    whole_stocked s agent (map device_of c.args.devices.now) (map device_of c.loop-device.devices)
    (seen_all s c.args.devices.now c.loop-device.devices c.loop-device.device-index (omega arith) c.loop-device.invariant) whole
