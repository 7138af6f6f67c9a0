use Rattle.std.proofs.Common.{◌≡◌, drop, map}
use Rattle.fw_script.specs.Seen.{device_of}
use Rattle.fwupd_base.specs.PackageChoices.{number_for}
use Rattle.fwupd_nodes.specs.Setups.{have_packages}
use Rattle.fwupd_jobs.proofs.choosing.have_packages.Given as goal

-- the result for the remaining devices is the result for all
abbrev pub invariant-loop-device : goal.invariant-loop-device
invariant-loop-device l =
    have_packages (number_for l.packages) l.count (map device_of (drop l.device-index l.devices)) ≡ have_packages (number_for l.packages) l.count (map device_of l.devices)
