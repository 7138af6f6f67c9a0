use Rattle.std.proofs.Common.{◌≡◌, drop, map}
use Rattle.fw_script.specs.Seen.{device_of}
use Rattle.fwupd_nodes.specs.Setups.{has_device}
use Rattle.fwupd_jobs.proofs.choosing.has_device.Given as goal

-- the result for the remaining devices is the result for all
abbrev pub invariant-loop-device : goal.invariant-loop-device
invariant-loop-device l = has_device (map device_of (drop l.device-index l.devices)) l.eid ≡ has_device (map device_of l.devices) l.eid
