-- Laws of all packages.
use Rattle.std.specs.Prelude.{◌≡◌, ◌↔◌, ◌<◌, ◌≤◌, ℕ, List, Some, Ok, All, Contains, MatchOption, length}
use Rattle.fw_package.specs.Choice.{component_at, image_for, plan_of, record_at, record_number}
use Rattle.fw_package.specs.Grammar.{IsPackage}
use Rattle.fw_package.specs.Package.{DescriptorOf, PackageText, RecordOf}
use Rattle.fw_package.specs.Reading.{package_of}

-- reading returns the package that the bytes are, and each package is read
abbrev pub ReadsPackages : Type 0
ReadsPackages = (bytes : List ℕ) (p : PackageText) → (package_of bytes ≡ Ok p) ↔ IsPackage bytes p

-- bytes are at most one package
abbrev pub AreOnePackage : Type 0
AreOnePackage = (bytes : List ℕ) (p q : PackageText) → IsPackage bytes p → IsPackage bytes q → p ≡ q

-- the record is for the device: it has a descriptor, and each of its descriptors is one of the
-- device's
pub record IsRecordFor (device : List DescriptorOf) (r : RecordOf) : Type 0 where
  pub some : 1 ≤ length r.descriptors
  pub among : All (Contains device) r.descriptors

-- the record chosen for a device is the first that is for it
abbrev pub ChoosesFirst : Type 0
ChoosesFirst = (p : PackageText) (device : List DescriptorOf) →
    MatchOption (record_number p device)
    ((k : ℕ) → k < length p.records → ¬ IsRecordFor device (record_at p k))
    (λ n. (n < length p.records) × IsRecordFor device (record_at p n) × ((k : ℕ) → k < n → ¬ IsRecordFor device (record_at p k)))

-- components of a plan with the same key are the same
abbrev pub PlansKeysOnce : Type 0
PlansKeysOnce = (p : PackageText) (number n m : ℕ) (numbers : List ℕ) → plan_of p number ≡ Ok numbers → Contains numbers n → Contains numbers m
    → (component_at p n).classification ≡ (component_at p m).classification → (component_at p n).identifier ≡ (component_at p m).identifier → n ≡ m

-- the image of a plan's component is the one that the package names for the device under its key
abbrev pub PlansNamedImages : Type 0
PlansNamedImages = (p : PackageText) (device : List DescriptorOf) (number n : ℕ) (numbers : List ℕ) → record_number p device ≡ Some number → plan_of p number ≡ Ok numbers → Contains numbers n
    → image_for p device (component_at p n).classification (component_at p n).identifier ≡ Some (component_at p n).image
