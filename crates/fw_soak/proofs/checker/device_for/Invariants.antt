use Rattle.std.proofs.Common.{◌≡◌, drop, map}
use Rattle.fw_script.specs.Seen.{device_of}
use Rattle.fw_soak.specs.Checks.{device_for}
use Rattle.fw_soak.proofs.checker.device_for.Given as goal

-- the result for the remaining devices is the result for all
abbrev pub invariant-loop-device : goal.invariant-loop-device
invariant-loop-device l = device_for (map device_of (drop l.device-index l.devices)) l.eid ≡ device_for (map device_of l.devices) l.eid
