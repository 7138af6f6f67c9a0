use Rattle.std.proofs.Common.{◌≡◌, map, take}
use Rattle.fw_script.specs.Seen.{device_of}
use Rattle.fw_json.specs.Statuses as statuses
use Rattle.fw_json.proofs.status.status_text.Given as goal

-- the devices that were passed are written
abbrev pub invariant-loop-device : goal.invariant-loop-device
invariant-loop-device l = l.text.items ≡ statuses.status_text (map device_of (take l.device-index l.devices))
