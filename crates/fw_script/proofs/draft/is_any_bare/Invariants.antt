use Rattle.std.proofs.Common.{◌≡◌, drop, map}
use Rattle.std.specs.List.{list_any}
use Rattle.fw_script.specs.Configs.{is_bare}
use Rattle.fw_script.specs.Seen.{device_of}
use Rattle.fw_script.proofs.draft.is_any_bare.Given as goal

-- the result for the remaining devices is the result for all
abbrev pub invariant-loop-device : goal.invariant-loop-device
invariant-loop-device l = list_any is_bare (map device_of (drop l.device-index l.devices)) ≡ list_any is_bare (map device_of l.devices)
