-- The output of a soak, and the recorded steps.
use Rattle.std.specs.Prelude.{ℕ, ◌≡◌, ◌⊎◌, Bool, List, Option, None, Some, IfSome, IsSome, IsSomeAnd, true}
use Rattle.std.specs.List.{AllByRecursion}
use Rattle.fw_package.specs.Package.{PackageText}
use Rattle.fwupd_base.specs.declared.forms.Form.{Form}
use Rattle.fw_script.specs.Configs.{ConfigOf}
use Rattle.fw_script.specs.ScheduleTexts.{schedule_text}
use Rattle.fw_steps.specs.declared.step.Step.{Step}
use Rattle.fw_soak.specs.Courses.{SetupOf}
use Rattle.fw_soak.specs.Summaries.{SoakOk}
use Rattle.fw_soak.specs.SummaryTexts.{summary_in}
use Rattle.fw_soak.specs.declared.summary.Summary.{Summary}
use Rattle.fwupd_words.specs.declared.asked.SoakOrder.{SoakOrder}
use Rattle.fwupd_watch.specs.Outputs.{FailsToWriteOutput, OutputOf, WritesOutput}
use Rattle.fwupd_nodes.specs.Setups.{ArePackages, IsConfigured, LacksPackage, NumberedSetupFails}
use Rattle.fwupd_base.specs.ImageFiles.{ConfigSourceOf}
use Rattle.fwupd_watch.specs.Files.{FileOf, IsApartFrom, IsOverOne}
use Rattle.fwupd_watch.specs.Inputs.{inputs_of}
use Rattle.fwupd_watch.specs.declared.faults.JobFault.{JobFault}
use Rattle.fwupd_watch.specs.declared.faults.JobFault.TheVariants as faults

-- the setup of a configuration with these packages
abbrev pub setup_of_config : ConfigOf → List PackageText → SetupOf
setup_of_config c packages = record { agent = c.agent; unit = c.unit; devices = c.devices; packages = packages }

-- The result of `runs` runs of the configuration in a file with its packages: their totals, and the
-- steps of the first violation. The file for the steps, if one is given, is none of the inputs.
pub record Soaks (files : List ℕ → FileOf) (source : ConfigSourceOf) (file : Option (List ℕ)) (runs : ℕ) (sum : Summary) (kept : Option (List Step)) : Type 0 where
  pub config : ConfigOf
  pub packages : List PackageText
  pub says : IsConfigured files source config
  pub are : ArePackages files config.packages packages
  pub apart : IfSome file (λ p. AllByRecursion (IsApartFrom files p) (inputs_of source config.packages))
  pub soaked : SoakOk (setup_of_config config packages) runs sum kept

-- There was no violation, and the totals are written.
pub record SoaksClean (files : List ℕ → FileOf) (source : ConfigSourceOf) (order : SoakOrder) (form : Form) (file : Option (List ℕ)) (before now : OutputOf) : Type 0 where
  pub sum : Summary
  pub soaks : Soaks files source file order.runs sum None
  pub none : sum.violations ≡ 0
  pub written : WritesOutput before now (summary_in form sum)

-- The fault after a violation. Its file, if one is given, holds the schedule of the steps; or they
-- couldn't be written, or memory was refused.
abbrev pub ReportsViolation : Option (List Step) → (file : Option (List ℕ)) → JobFault → (is_known : Bool) → (held : List ℕ → Option (List ℕ)) → Type 0
ReportsViolation None file told is_known held = ⊥
ReportsViolation (Some steps) file told is_known held =
    ((told ≡ faults.Violation) ⊎ (IsSome file × ((told ≡ faults.Record) ⊎ (told ≡ faults.Memory))))
    × (told ≡ faults.Violation → is_known ≡ true → IfSome file (λ p. held p ≡ Some (schedule_text steps)))

-- There was a violation, and the totals are written. If a file is given for the steps and the fault
-- is the violation, the file holds them.
pub record SoaksWrong (files : List ℕ → FileOf) (source : ConfigSourceOf) (order : SoakOrder) (form : Form) (file : Option (List ℕ)) (told : JobFault) (is_known : Bool) (held : List ℕ → Option (List ℕ)) (before now : OutputOf) : Type 0 where
  pub sum : Summary
  pub steps : List Step
  pub soaks : Soaks files source file order.runs sum (Some steps)
  pub written : WritesOutput before now (summary_in form sum)
  pub judged : ReportsViolation (Some steps) file told is_known held

-- The totals can't be written.
pub record BreaksSoak (files : List ℕ → FileOf) (source : ConfigSourceOf) (order : SoakOrder) (form : Form) (file : Option (List ℕ)) (told : JobFault) (before now : OutputOf) : Type 0 where
  pub is : told ≡ faults.Output
  pub sum : Summary
  pub kept : Option (List Step)
  pub soaks : Soaks files source file order.runs sum kept
  pub begun : FailsToWriteOutput before now (summary_in form sum)

-- The steps would overwrite an input. The packages are read before.
pub record WouldWriteOver (files : List ℕ → FileOf) (source : ConfigSourceOf) (file : Option (List ℕ)) (told : JobFault) : Type 0 where
  pub is : told ≡ faults.Record
  pub config : ConfigOf
  pub says : IsConfigured files source config
  pub packages : List PackageText
  pub are : ArePackages files config.packages packages
  pub over : IsSomeAnd file (λ p. IsOverOne files p (inputs_of source config.packages))

-- The result of a soak that failed. In the other cases nothing is written.
abbrev pub SoakEnds : (files : List ℕ → FileOf) (source : ConfigSourceOf) (order : SoakOrder) (form : Form) (file : Option (List ℕ)) (told : JobFault) (is_known : Bool) (held : List ℕ → Option (List ℕ)) (before now : OutputOf) → Type 0
SoakEnds files source order form file told is_known held before now =
    SoaksWrong files source order form file told is_known held before now
    ⊎ (BreaksSoak files source order form file told before now
    ⊎ (((told ≡ faults.Memory) ⊎ (NumberedSetupFails files source 1 told ⊎ (((told ≡ faults.NoPackage) × LacksPackage files source 1) ⊎ WouldWriteOver files source file told)))
    × (now ≡ before)))
