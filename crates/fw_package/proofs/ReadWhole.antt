-- The results of reading, by the package grammar.
use Rattle.std.proofs.Common.{◌≡◌, List, ℕ, Result, Ok, Err, IfErr, IfOk, IsOk, ap, sym, ◌∙◌}
use Rattle.std.specs.Result.{is_ok}
use Rattle.fw_package.specs.Faults.{IsFirstPackageFault}
use Rattle.fw_package.specs.Grammar.{IsPackage}
use Rattle.fw_package.specs.Package.{PackageText}
use Rattle.fw_package.specs.Reading.{package_of}
use Rattle.fw_package.specs.declared.fault.PackageFault.{PackageFault}
use Rattle.fw_package.proofs.FirstFault.{first_fault}
use Rattle.fw_package.proofs.OnePackage.{package_reads}
use Rattle.fw_package.proofs.WholeBuilt.{package_built}

pub found_package : (r : Result PackageText PackageFault) (bytes : List ℕ) → r ≡ package_of bytes → IfOk r (λ p. IsPackage bytes p)
found_package (Ok p) bytes h = package_built bytes p (sym h)
found_package (Err e) bytes h = tt

pub only_packages : (r : Result PackageText PackageFault) (bytes : List ℕ) → r ≡ package_of bytes → (p : PackageText) → IsPackage bytes p → IsOk r
only_packages r bytes h p is = ap is_ok (h ∙ package_reads bytes p is)

pub refused_bytes : (r : Result PackageText PackageFault) (bytes : List ℕ) → r ≡ package_of bytes → IfErr r (λ e. IsFirstPackageFault bytes e)
refused_bytes (Ok p) bytes h = tt
refused_bytes (Err e) bytes h = first_fault bytes e (sym h)
