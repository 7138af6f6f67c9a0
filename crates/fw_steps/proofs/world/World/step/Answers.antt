use Rattle.fw_steps.proofs.Reaching.{reached_on}
use Rattle.fw_steps.proofs.world.World.step.Goals as goal

pub invariant_of-self : goal.invariant_of-self
invariant_of-self g c = reached_on c.step.result c.self.inside.state c.step.new.self c.args.step.now c.self.invariant c.step.ensures.taken c.step.ensures.same
