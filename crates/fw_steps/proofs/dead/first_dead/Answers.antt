use Rattle.std.proofs.Common.{◌∙◌, sym}
use Rattle.fw_steps.proofs.Aging.{dead_all, dead_until}
use Rattle.fw_steps.proofs.dead.first_dead.Goals as goal

pub returns-else-is_dead-clause-exact : goal.returns-else-is_dead-clause-exact
returns-else-is_dead-clause-exact c =
    dead_until c.args.now c.loop-count.count c.args.packets.now (rw c.len.ensures at c.loop-count-test.true) (sym c.is_dead.ensures ∙ c.if-is_dead.false) c.loop-count.invariant

pub returns-after-loop-count-clause-exact : goal.returns-after-loop-count-clause-exact
returns-after-loop-count-clause-exact c = dead_all c.args.now c.loop-count.count c.args.packets.now (rw c.len.ensures at c.loop-count-test.false) c.loop-count.invariant
