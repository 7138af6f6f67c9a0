-- The output in either format: the text for readers, or a line with a JSON value for programs.
use Rattle.std.specs.Prelude.{ℕ, List}
use Rattle.fw_package.specs.Package.{PackageText}
use Rattle.fw_script.specs.Configs.{DeviceConfigOf}
use Rattle.fw_script.specs.Reports.{report_of}
use Rattle.fw_setup.specs.Forecasts.{forecast_of}
use Rattle.fw_steps.specs.Worlds.{WorldOf}
use Rattle.fwupd_base.specs.Inspection.{inspect_of}
use Rattle.fw_json.specs.Inspections.{inspection_value}
use Rattle.fw_json.specs.Plans.{plan_value}
use Rattle.fw_json.specs.Reports.{report_value}
use Rattle.fw_json.specs.Values.{line_of}
use Rattle.fwupd_base.specs.declared.forms.Form.{Form}
use Rattle.fwupd_base.specs.declared.forms.Form.TheVariants as forms

-- the inspection of a package
abbrev pub inspection_in : Form → PackageText → List ℕ
inspection_in forms.Text p = inspect_of p
inspection_in forms.Json p = line_of (inspection_value p)

-- the report of a world
abbrev pub report_in : Form → WorldOf → List ℕ
report_in forms.Text w = report_of w
report_in forms.Json w = line_of (report_value w)

-- the plan of an update for a configuration's devices, with package `number`
abbrev pub plan_in : Form → (number : ℕ) → PackageText → List DeviceConfigOf → List ℕ
plan_in forms.Text number p devices = forecast_of number p devices
plan_in forms.Json number p devices = line_of (plan_value number p devices)
