use Rattle.std.proofs.Common.{◌≡◌, ◌++◌, drop, map}
use Rattle.json.specs.Tree.{items_tokens}
use Rattle.fw_script.specs.Seen.{device_of}
use Rattle.fw_json.specs.Statuses.{device_status_value}
use Rattle.fw_json.specs.Values.{items}
use Rattle.fw_json.proofs.status.push_devices.Given as goal

-- the items so far, then the rest to write
abbrev pub invariant-loop-device : goal.invariant-loop-device
invariant-loop-device l =
    (l.writer.before ≡ l.fn.writer.before)
    × (l.writer.tokens ++ items_tokens (items device_status_value (map device_of (drop l.device-index l.devices)))
    ≡ l.fn.writer.tokens ++ items_tokens (items device_status_value (map device_of l.devices)))
