use Rattle.std.proofs.Common.{◌≡◌, ◌<◌, ℕ, map, true}
use Rattle.fw_script.specs.Seen.{device_of}
use Rattle.fwupd_base.specs.DeviceSets.{has_eid}
use Rattle.fwupd_nodes.specs.Setups.{has_device}
use Rattle.fwupd_jobs.proofs.choosing.missing_device.Given as goal

-- each lesser member of the set is that of a device
abbrev pub invariant-loop-eid : goal.invariant-loop-eid
invariant-loop-eid l = (other : ℕ) → other < l.eid → has_eid l.set other ≡ true → has_device (map device_of l.devices) other ≡ true
