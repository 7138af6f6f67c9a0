use Rattle.std.proofs.Common.{arith, refl}
use Rattle.fw_setup.proofs.Stocking.{unmade_next}
use Rattle.fw_setup.proofs.stores.make_folders.Goals as goal

pub returns-in-Err-clause-fault : goal.returns-in-Err-clause-fault
returns-in-Err-clause-fault g c =
    unmade_next c.args.devices.now c.loop-device.device-index c.device-item.result _ (omega arith) c.device-item.is refl c.in-Err.ensures.fault
