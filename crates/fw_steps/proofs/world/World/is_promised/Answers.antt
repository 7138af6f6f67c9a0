use Rattle.std.proofs.Common.{subst}
use Rattle.fw_steps.specs.Promises.{IsPromised}
use Rattle.fw_steps.proofs.Reaching.{promised}
use Rattle.fw_steps.proofs.world.World.is_promised.Goals as goal

pub returns : goal.returns
returns g c = subst IsPromised c.self.view_is (promised c.self.inside.state c.runs_are_promised.ensures.law c.self.invariant)
