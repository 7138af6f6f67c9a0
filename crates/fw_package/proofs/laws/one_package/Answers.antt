use Rattle.fw_package.proofs.OnePackage.{package_once, package_reads}
use Rattle.fw_package.proofs.WholeBuilt.{package_built}
use Rattle.fw_package.proofs.laws.one_package.Goals as goal

pub returns : goal.returns
returns c = record {
  read = λ bytes p. (package_built bytes p, package_reads bytes p);
  one = package_once;
}
