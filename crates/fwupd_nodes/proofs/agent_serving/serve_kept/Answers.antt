use Rattle.fwupd_nodes.proofs.Processes.{kept_stops, runs_kept}
use Rattle.fwupd_nodes.proofs.agent_serving.serve_kept.Goals as goal

pub returns-clause-runs : goal.returns-clause-runs
returns-clause-runs g c =
    runs_kept c.serve_agent.result c.args.job.now _ _ _ c.in-Ok.opened.0 c.in-Ok-of_node.agent _ _ c.in-Ok-of_node.ensures c.in-Ok.ensures.begins c.serve_agent.ensures.runs

pub returns-clause-fault : goal.returns-clause-fault
returns-clause-fault g c =
    kept_stops c.serve_agent.result c.args.job.now _ _ _ c.in-Ok.opened.0 c.in-Ok-of_node.agent _ _ c.in-Ok-of_node.ensures c.in-Ok.ensures.begins c.serve_agent.ensures.fault
