use Rattle.fw_package.proofs.Walked.{twins_here}
use Rattle.fw_package.proofs.packages.Package.has_twin.Goals as goal

pub has_twin-requires : goal.has_twin-requires
has_twin-requires c = c.used.ensures.few

pub returns : goal.returns
returns c = twins_here c.args.self.now c.args.uses.now c.used.result c.has_twin.result c.used.ensures.value c.has_twin.ensures
