use Rattle.std.proofs.Common.{OnOk, subst}
use Rattle.fw_serve.specs.Agents.{ServedAgentOf}
use Rattle.fwupd_nodes.specs.Processes.{EndsServed}
use Rattle.fwupd_nodes.proofs.Processes.{runs_served, served_stops}
use Rattle.fwupd_nodes.proofs.agent_serving.serve_agent.Goals as goal

pub returns-clause-runs : goal.returns-clause-runs
returns-clause-runs g c =
    runs_served g.K.AgentKeeper.keeps c.end_observed.result c.args.job.now _ _ _ _ _ (rw c.in-Ok-served.is at c.serve_observed-served.ensures.serves)
    (subst (λ (a : ServedAgentOf). OnOk c.end_observed.result (EndsServed c.args.job.now a c.args.host.now.output
    (record { is_known = g.H.Places.OutputPlaces.is_known c.args.host.now.places; held = g.H.Places.OutputPlaces.held c.end_observed.new.host.places; output = c.end_observed.new.host.output })))
    c.agent-3.ensures c.end_observed.ensures.ended)

pub returns-clause-fault : goal.returns-clause-fault
returns-clause-fault g c =
    served_stops g.K.AgentKeeper.keeps c.end_observed.result c.args.job.now _ c.in-Ok-served.process c.agent-3.result.now _ _ _ _ c.agent-3.ensures
    (rw c.in-Ok-served.is at c.serve_observed-served.ensures.serves) c.end_observed.ensures.fault
