-- The setup of the runs, borrowed.
use Rattle.std.specs.Prelude.{map}
use Rattle.fw_script.specs.Seen.{device_of}
use Rattle.fw_soak.specs.Courses.{SetupOf}
use Rattle.fw_soak.specs.declared.setup.Setup.{Setup}

abbrev pub setup_of : Setup → SetupOf
setup_of s = record { agent = s.agent; unit = s.unit; devices = map device_of s.devices.now; packages = s.packages.now }
