use Rattle.std.proofs.Common.{◌≡◌, map, take}
use Rattle.fw_script.specs.Seen.{device_of}
use Rattle.fw_setup.specs.Forecasts.{forecast_of}
use Rattle.fw_setup.proofs.forecast_text.forecast.Given as goal

-- the devices that were passed are written
abbrev pub invariant-loop-device : goal.invariant-loop-device
invariant-loop-device l = l.text.items ≡ forecast_of l.number l.contents (map device_of (take l.device-index l.devices))
