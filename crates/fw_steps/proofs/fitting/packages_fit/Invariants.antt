use Rattle.std.proofs.Common.{drop}
use Rattle.fw_steps.specs.Widths.{HavePackageWidths}
use Rattle.fw_steps.proofs.fitting.packages_fit.Given as goal

-- if all packages that are left fit, all fit
abbrev pub invariant-loop-package : goal.invariant-loop-package
invariant-loop-package l = HavePackageWidths (drop l.package-index l.packages) → HavePackageWidths l.packages
