-- The output of the plan of an update.
use Rattle.std.specs.Prelude.{ℕ, ◌≡◌, ◌≤◌, ◌⊎◌, List, length}
use Rattle.fw_package.specs.Package.{PackageText}
use Rattle.fw_script.specs.Configs.{ConfigOf, DeviceConfigOf}
use Rattle.ua_core.specs.Lent.{package_at}
use Rattle.fw_json.specs.Forms.{plan_in}
use Rattle.fwupd_base.specs.declared.forms.Form.{Form}
use Rattle.fwupd_watch.specs.Outputs.{FailsToWriteOutput, OutputOf, WritesOutput}
use Rattle.fwupd_nodes.specs.Setups.{AreDevices, ArePackages, IsConfigured, LacksPackage, NumberedSetupFails, SourceOf, StoresFail}
use Rattle.fwupd_watch.specs.Files.{FileOf}
use Rattle.fwupd_watch.specs.declared.faults.JobFault.{JobFault}
use Rattle.fwupd_watch.specs.declared.faults.JobFault.TheVariants as faults

-- A text is the plan of an update of the devices of the configuration in a file, with its package
-- `number`, counted from 1. The devices have the images in their stores, if they have some.
pub record Forecasts (files : List ℕ → FileOf) (source : SourceOf) (number : ℕ) (form : Form) (text : List ℕ) : Type 0 where
  pub config : ConfigOf
  pub packages : List PackageText
  pub devices : List DeviceConfigOf
  pub says : IsConfigured files source.config config
  pub are : ArePackages files config.packages packages
  pub counted : 1 ≤ number
  pub there : number ≤ length packages
  pub stocked : AreDevices source.stores config.devices devices
  pub is : text ≡ plan_in form number (package_at packages number) devices

-- The plan is written.
pub record Plans (files : List ℕ → FileOf) (source : SourceOf) (number : ℕ) (form : Form) (before now : OutputOf) : Type 0 where
  pub text : List ℕ
  pub forecasts : Forecasts files source number form text
  pub written : WritesOutput before now text

-- A beginning of the plan is written.
pub record BreaksPlan (files : List ℕ → FileOf) (source : SourceOf) (number : ℕ) (form : Form) (told : JobFault) (before now : OutputOf) : Type 0 where
  pub is : told ≡ faults.Output
  pub text : List ℕ
  pub forecasts : Forecasts files source number form text
  pub begun : FailsToWriteOutput before now text

-- The package is there, and the store of a device can't be read.
pub record LacksImages (files : List ℕ → FileOf) (source : SourceOf) (number : ℕ) (told : JobFault) : Type 0 where
  pub fails : StoresFail files source told
  pub counted : 1 ≤ number
  pub there : number ≤ length fails.config.packages

-- Nothing is planned: memory was refused, or one of the inputs, the first in their order, is
-- missing or faulty.
abbrev pub LacksPlan : (files : List ℕ → FileOf) (source : SourceOf) (number : ℕ) (told : JobFault) → Type 0
LacksPlan files source number told =
    (told ≡ faults.Memory)
    ⊎ (NumberedSetupFails files source.config number told
    ⊎ (((told ≡ faults.NoPackage) × LacksPackage files source.config number) ⊎ LacksImages files source number told))

-- The result of a plan that failed. If writing didn't fail, nothing is written.
abbrev pub PlanEnds : (files : List ℕ → FileOf) (source : SourceOf) (number : ℕ) (form : Form) (told : JobFault) (before now : OutputOf) → Type 0
PlanEnds files source number form told before now =
    BreaksPlan files source number form told before now ⊎ (LacksPlan files source number told × (now ≡ before))
