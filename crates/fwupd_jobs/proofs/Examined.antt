-- The text of a package in a file.
use Rattle.std.proofs.Common.{◌≡◌, ◌≢◌, ◌⊎◌, ℕ, List, Result, Ok, Err, inl, inr, refl, sym, ap, subst}
use Rattle.std.specs.Result.{result_map_both}
use Rattle.fw_package.specs.Package.{PackageText}
use Rattle.fw_package.specs.Reading.{package_of}
use Rattle.fw_package.specs.declared.fault.PackageFault.{PackageFault}
use Rattle.fwupd_jobs.specs.Inspected.{BreaksInspection, Inspects, job_fault_of_inspection}
use Rattle.fwupd_watch.specs.Outputs.{FailsToWriteOutput, OutputOf, WritesOutput}
use Rattle.fwupd_watch.specs.Files.{FileOf, MayHold}
use Rattle.fwupd_nodes.specs.Setups.{IsNone, PackageFails}
use Rattle.fwupd_watch.specs.declared.faults.JobFault.{JobFault}
use Rattle.fwupd_watch.specs.declared.faults.JobFault.TheVariants as faults
use Rattle.fwupd_base.specs.declared.inspection.InspectFault.{InspectFault}
use Rattle.fwupd_base.specs.declared.inspection.InspectFault.TheVariants as inspected

-- the file isn't a package
refused : (r : Result PackageText PackageFault) (f : PackageFault) → result_map_both (λ p. p) inspected.Package r ≡ Err (inspected.Package f) → r ≡ Err f
refused (Ok p) f e = absurd cc
refused (Err g) f e = ap Err (let same : Err (inspected.Package g) ≡ Err (inspected.Package f) = e in cc)

pub inspection_fails : (files : List ℕ → FileOf) (path bytes : List ℕ) (fault : InspectFault) (told : JobFault) → MayHold (files path) bytes → told ≡ job_fault_of_inspection fault
    → (fault ≢ inspected.Memory → result_map_both (λ p. p) inspected.Package (package_of bytes) ≡ Err fault) → (told ≡ faults.Memory) ⊎ PackageFails files path told
inspection_fails files path bytes inspected.Memory told held e first = inl e
inspection_fails files path bytes (inspected.Package f) told held e first =
    inr (inr (subst (IsNone (files path)) (sym e) (record { bytes = bytes; held = held; is = refused (package_of bytes) f (first (λ h. cc)) })))

-- the file is a package
read : (shown : PackageText → List ℕ) (r : Result PackageText PackageFault) (text : List ℕ) → result_map_both shown (λ e. e) r ≡ Ok text → (p : PackageText) × (r ≡ Ok p) × (text ≡ shown p)
read shown (Ok p) text e = (p, refl, (let same : Ok (shown p) ≡ Ok text = e in cc))
read shown (Err f) text e = absurd cc

pub inspects : (file : FileOf) (shown : PackageText → List ℕ) (bytes text : List ℕ) (before now : OutputOf) → MayHold file bytes → result_map_both shown (λ e. e) (package_of bytes) ≡ Ok text → WritesOutput before now text
    → Inspects file shown before now
inspects file shown bytes text before now held is written =
    let found = read shown (package_of bytes) text is in
    record { contents = found.0; is = record { bytes = bytes; held = held; is = found.1 }; written = subst (WritesOutput before now) found.2 written }

pub breaks : (file : FileOf) (shown : PackageText → List ℕ) (bytes text : List ℕ) (told : JobFault) (before now : OutputOf) → told ≡ faults.Output → MayHold file bytes → result_map_both shown (λ e. e) (package_of bytes) ≡ Ok text → FailsToWriteOutput before now text
    → BreaksInspection file shown told before now
breaks file shown bytes text told before now e held is begun =
    let found = read shown (package_of bytes) text is in
    record { is = e; contents = found.0; read = record { bytes = bytes; held = held; is = found.1 }; begun = subst (FailsToWriteOutput before now) found.2 begun }
