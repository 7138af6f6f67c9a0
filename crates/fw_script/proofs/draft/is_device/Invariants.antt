use Rattle.std.proofs.Common.{◌≡◌, drop, map}
use Rattle.fw_script.specs.Configs.{is_device}
use Rattle.fw_script.specs.Seen.{device_of}
use Rattle.fw_script.proofs.draft.is_device.Given as goal

-- the result for the remaining devices is the result for all
abbrev pub invariant-loop-device : goal.invariant-loop-device
invariant-loop-device l = is_device (map device_of (drop l.device-index l.devices)) l.eid ≡ is_device (map device_of l.devices) l.eid
