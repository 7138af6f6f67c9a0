use Rattle.fwupd_nodes.proofs.Processes.{started_more}
use Rattle.fwupd_nodes.proofs.agent_serving.start_all.Goals as goal

pub loop-eid-preserved : goal.loop-eid-preserved
loop-eid-preserved c =
    started_more c.args.agent.now c.loop-eid.agent c.start.new.self c.args.number c.args.eids.now c.loop-eid.eid-index _ c.loop-eid-test.true c.loop-eid.invariant c.in-Ok.ensures.taken
