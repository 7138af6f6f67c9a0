-- The output of the inspection of a package in a file.
use Rattle.std.specs.Prelude.{ℕ, ◌≡◌, ◌⊎◌, Bool, List, true, false}
use Rattle.fw_package.specs.Package.{PackageText}
use Rattle.fw_json.specs.Digests.{digested_in}
use Rattle.fw_json.specs.Forms.{inspection_in}
use Rattle.fwupd_base.specs.declared.forms.Form.{Form}
use Rattle.fwupd_watch.specs.Outputs.{FailsToWriteOutput, OutputOf, WritesOutput}
use Rattle.fwupd_watch.specs.Files.{FileOf}
use Rattle.fwupd_nodes.specs.Setups.{IsPackageFile, PackageFails}
use Rattle.fwupd_watch.specs.declared.faults.JobFault.{JobFault}
use Rattle.fwupd_watch.specs.declared.faults.JobFault.TheVariants as faults
use Rattle.fwupd_base.specs.declared.inspection.InspectFault.{InspectFault}
use Rattle.fwupd_base.specs.declared.inspection.InspectFault.TheVariants as inspected

-- the fault of a package that can't be inspected
abbrev pub job_fault_of_inspection : InspectFault → JobFault
job_fault_of_inspection (inspected.Package fault) = faults.Package fault
job_fault_of_inspection inspected.Memory = faults.Memory

-- the text of a package, with the SHA-256 of each image or without
abbrev pub inspection_for : (digested : Bool) → Form → PackageText → List ℕ
inspection_for true form p = digested_in form p
inspection_for false form p = inspection_in form p

-- The text of the package is written, as `shown` says.
pub record Inspects (file : FileOf) (shown : PackageText → List ℕ) (before now : OutputOf) : Type 0 where
  pub contents : PackageText
  pub is : IsPackageFile file contents
  pub written : WritesOutput before now (shown contents)

-- A beginning of the text is written.
pub record BreaksInspection (file : FileOf) (shown : PackageText → List ℕ) (told : JobFault) (before now : OutputOf) : Type 0 where
  pub is : told ≡ faults.Output
  pub contents : PackageText
  pub read : IsPackageFile file contents
  pub begun : FailsToWriteOutput before now (shown contents)

-- The result of an inspection that failed. If writing didn't fail, nothing is written, and memory
-- was refused, or the file can't be read or isn't a package.
abbrev pub InspectEnds : (files : List ℕ → FileOf) (path : List ℕ) (shown : PackageText → List ℕ) → JobFault → (before now : OutputOf) → Type 0
InspectEnds files path shown told before now =
    BreaksInspection (files path) shown told before now ⊎ (((told ≡ faults.Memory) ⊎ PackageFails files path told) × (now ≡ before))
