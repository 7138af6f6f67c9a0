use Rattle.fwupd_nodes.specs.AgentStores.{keeps_nothing}
use Rattle.fwupd_nodes.proofs.Processes.{served_as, stops_as}
use Rattle.fwupd_nodes.proofs.agent_serving.serve_new.Goals as goal

pub returns-clause-runs : goal.returns-clause-runs
returns-clause-runs g c = served_as keeps_nothing c.serve_agent.result c.args.job.now c.in-Ok.agent _ _ _ _ c.in-Ok.ensures c.serve_agent.ensures.runs

pub returns-clause-fault : goal.returns-clause-fault
returns-clause-fault g c = stops_as keeps_nothing c.serve_agent.result c.args.job.now c.in-Ok.agent _ _ _ _ c.in-Ok.ensures c.serve_agent.ensures.fault
