-- The package of a description in a file, and the output of a build.
use Rattle.std.specs.Prelude.{ℕ, ◌≡◌, ◌++◌, ◌⊎◌, List, [], ◌∷◌, Option, None, Some, Ok, Bool, true, IfSome, IsSomeAnd, length, map, string_bytes}
use Rattle.std.specs.List.{concat}
use Rattle.fw_package.specs.Asked.{AskedComponentOf, AskedPackageOf, AskedRecordOf, package_for, refusal_of}
use Rattle.fw_package.specs.Grammar.{IsPackage}
use Rattle.fw_package.specs.Reading.{package_of}
use Rattle.fw_package.specs.Writing.{header_bytes}
use Rattle.fw_package.specs.declared.asked.AskedFault.{AskedFault}
use Rattle.fw_package.specs.declared.asked.AskedFault.TheVariants as refusals
use Rattle.fw_script.specs.PackageSpecs.{PackageSpecOf, SpecComponentOf, SpecRecordOf, package_spec_of}
use Rattle.fw_script.specs.declared.faults.ScriptCause.{ScriptCause}
use Rattle.fw_script.specs.declared.faults.ScriptCause.TheVariants as causes
use Rattle.fw_script.specs.declared.faults.ScriptFault.{ScriptFault}
use Rattle.fwupd_watch.specs.Files.{FileOf, IsApartFrom, IsOver, MayHold}
use Rattle.fwupd_watch.specs.Outputs.{FailsToWriteOutput, OutputOf, WritesOutput}
use Rattle.fwupd_nodes.specs.Setups.{IsUnread, Says, TextFails}
use Rattle.fwupd_watch.specs.declared.faults.JobFault.{JobFault}
use Rattle.fwupd_watch.specs.declared.faults.JobFault.TheVariants as faults

-- the package of a description, with these images
abbrev pub record_by : SpecRecordOf → AskedRecordOf
record_by r = record { flags = r.flags; set_text = r.set_text; descriptors = r.descriptors; uses = r.uses }

abbrev pub component_by : SpecComponentOf → List ℕ → AskedComponentOf
component_by c image =
    record {
      classification = c.numbers.key.classification;
      identifier = c.numbers.key.identifier;
      stamp = c.numbers.stamp;
      options = c.numbers.options;
      method = c.numbers.method;
      text = c.text;
      size = length image;
    }

abbrev pub components_by : List SpecComponentOf → List (List ℕ) → List AskedComponentOf
components_by (c ∷ cs) (image ∷ images) = component_by c image ∷ components_by cs images
components_by cs images = []

abbrev pub asked_by : PackageSpecOf → List (List ℕ) → AskedPackageOf
asked_by spec images =
    record {
      release = spec.release;
      version = spec.version;
      records = map record_by spec.records;
      components = components_by spec.components images;
    }

-- a component's image: its file's bytes, or empty if it has no file
abbrev pub IsImage : (files : List ℕ → FileOf) → Option (List ℕ) → List ℕ → Type 0
IsImage files None image = image ≡ []
IsImage files (Some path) image = MayHold (files path) image

abbrev pub AreImages : (files : List ℕ → FileOf) → List SpecComponentOf → List (List ℕ) → Type 0
AreImages files [] [] = Unit {0}
AreImages files (c ∷ cs) (image ∷ images) = IsImage files c.path image × AreImages files cs images
AreImages files cs images = ⊥

-- The bytes are the package of the description in a file.
pub record IsBuilt (files : List ℕ → FileOf) (path bytes : List ℕ) : Type 0 where
  pub spec : PackageSpecOf
  pub images : List (List ℕ)
  pub says : Says package_spec_of (files path) spec
  pub are : AreImages files spec.components images
  pub written : bytes ≡ header_bytes (asked_by spec images) ++ concat images
  pub is : IsPackage bytes (package_for (asked_by spec images) images)
  pub reads : package_of bytes ≡ Ok (package_for (asked_by spec images) images)

-- The first of the images' files that can't be read, and the fault.
abbrev pub ImageFails : (files : List ℕ → FileOf) → Option (List ℕ) → JobFault → Type 0
ImageFails files None told = ⊥
ImageFails files (Some path) told = IsUnread path (files path) told

pub record ImagesFail (files : List ℕ → FileOf) (components : List SpecComponentOf) (told : JobFault) : Type 0 where
  pub before : List SpecComponentOf
  pub component : SpecComponentOf
  pub after : List SpecComponentOf
  pub images : List (List ℕ)
  pub is : components ≡ before ++ component ∷ after
  pub read : AreImages files before images
  pub fails : ImageFails files component.path told

-- The package can't be encoded, which is reported at the line after the last.
abbrev pub cause_of : AskedFault → ScriptCause
cause_of refusals.Uses = causes.Range
cause_of refusals.Limit = causes.Limit

abbrev pub script_fault_of_refusal : PackageSpecOf → AskedFault → ScriptFault
script_fault_of_refusal spec refusal = record { line = spec.next_line; cause = cause_of refusal }

pub record IsBuildRefusal (spec : PackageSpecOf) (images : List (List ℕ)) (told : ScriptFault) : Type 0 where
  pub refusal : AskedFault
  pub is : refusal_of (asked_by spec images) ≡ Some refusal
  pub told_so : told ≡ script_fault_of_refusal spec refusal

abbrev pub IsBuildFault : (path : List ℕ) → PackageSpecOf → List (List ℕ) → JobFault → Type 0
IsBuildFault path spec images (faults.Text name told) = (string_bytes name ≡ path) × IsBuildRefusal spec images told
IsBuildFault path spec images told = ⊥

-- why nothing is built from the description in a file
pub record SpecFails (files : List ℕ → FileOf) (path : List ℕ) (told : JobFault) : Type 0 where
  pub spec : PackageSpecOf
  pub says : Says package_spec_of (files path) spec
  pub fails : ImagesFail files spec.components told

pub record PackageRefused (files : List ℕ → FileOf) (path : List ℕ) (told : JobFault) : Type 0 where
  pub spec : PackageSpecOf
  pub images : List (List ℕ)
  pub says : Says package_spec_of (files path) spec
  pub are : AreImages files spec.components images
  pub refused : IsBuildFault path spec images told

abbrev pub BuildEnds : (files : List ℕ → FileOf) → (path : List ℕ) → JobFault → Type 0
BuildEnds files path told =
    (told ≡ faults.Memory) ⊎ ((told ≡ faults.Output) ⊎ (TextFails package_spec_of files path told ⊎ (SpecFails files path told ⊎ PackageRefused files path told)))

-- A write to a path overwrites none of the images' files; or it may overwrite one.
abbrev pub IsApartFromImages : (files : List ℕ → FileOf) → (written : List ℕ) → List SpecComponentOf → Type 0
IsApartFromImages files written [] = Unit {0}
IsApartFromImages files written (c ∷ cs) = IfSome c.path (IsApartFrom files written) × IsApartFromImages files written cs

abbrev pub IsOverImage : (files : List ℕ → FileOf) → (written : List ℕ) → List SpecComponentOf → Type 0
IsOverImage files written [] = ⊥
IsOverImage files written (c ∷ cs) = IsSomeAnd c.path (IsOver files written) ⊎ IsOverImage files written cs

-- The package overwrites neither its description nor an image.
pub record BuildsApart (files : List ℕ → FileOf) (path written : List ℕ) : Type 0 where
  pub spec : PackageSpecOf
  pub says : Says package_spec_of (files path) spec
  pub text : IsApartFrom files written path
  pub images : IsApartFromImages files written spec.components

-- If the content of a path is known, it is the package.
abbrev pub Builds : (files : List ℕ → FileOf) → (path : List ℕ) → (is_known : Bool) → Option (List ℕ) → Type 0
Builds files path is_known held = is_known ≡ true → IsSomeAnd held (λ bytes. IsBuilt files path bytes)

-- The package of the description in a file is written to the output.
pub record PrintsPackage (files : List ℕ → FileOf) (path : List ℕ) (before now : OutputOf) : Type 0 where
  pub bytes : List ℕ
  pub built : IsBuilt files path bytes
  pub written : WritesOutput before now bytes

-- A beginning of it is written.
pub record BreaksPackage (files : List ℕ → FileOf) (path : List ℕ) (told : JobFault) (before now : OutputOf) : Type 0 where
  pub is : told ≡ faults.Output
  pub bytes : List ℕ
  pub built : IsBuilt files path bytes
  pub begun : FailsToWriteOutput before now bytes

-- why there is no package of the description in a file
abbrev pub LacksPackageOf : (files : List ℕ → FileOf) → (path : List ℕ) → JobFault → Type 0
LacksPackageOf files path told =
    (told ≡ faults.Memory) ⊎ (TextFails package_spec_of files path told ⊎ (SpecFails files path told ⊎ PackageRefused files path told))

-- The result of a build to the output that failed. If there is no package, nothing is written.
abbrev pub PrintingEnds : (files : List ℕ → FileOf) → (path : List ℕ) → (told : JobFault) → (before now : OutputOf) → Type 0
PrintingEnds files path told before now = BreaksPackage files path told before now ⊎ (LacksPackageOf files path told × (now ≡ before))
