use Rattle.fwupd_base.proofs.DeviceSets.{only_first}
use Rattle.fwupd_base.proofs.device_set.DeviceSet.new.Goals as goal

pub returns : goal.returns
returns c other = only_first c.args.eid other
