use Rattle.fw_package.proofs.ReadWhole.{found_package, only_packages, refused_bytes}
use Rattle.fw_package.proofs.packages.Package.read.Goals as goal

pub returns-clause-found : goal.returns-clause-found
returns-clause-found c = found_package c.read_parts.result c.args.bytes.now c.read_parts.ensures

pub returns-clause-only : goal.returns-clause-only
returns-clause-only c = only_packages c.read_parts.result c.args.bytes.now c.read_parts.ensures

pub returns-clause-fault : goal.returns-clause-fault
returns-clause-fault c = refused_bytes c.read_parts.result c.args.bytes.now c.read_parts.ensures
