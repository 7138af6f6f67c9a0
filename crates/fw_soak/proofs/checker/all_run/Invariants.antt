use Rattle.std.proofs.Common.{◌≡◌, drop, map}
use Rattle.std.specs.List.{list_all}
use Rattle.fw_script.specs.Seen.{device_of}
use Rattle.fw_soak.specs.Checking.{runs_what_it_may}
use Rattle.fw_soak.proofs.checker.all_run.Given as goal

-- the result for the remaining devices is the result for all
abbrev pub invariant-loop-device : goal.invariant-loop-device
invariant-loop-device g l =
    list_all (runs_what_it_may l.world) (map device_of (drop l.device-index l.devices)) ≡ list_all (runs_what_it_may l.world) (map device_of l.devices)
