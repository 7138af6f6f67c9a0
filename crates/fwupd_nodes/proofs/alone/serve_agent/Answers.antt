use Rattle.std.proofs.Common.{ap, inl, refl}
use Rattle.fw_serve.specs.Agents.{AgentFilterOf}
use Rattle.fwupd_nodes.proofs.Lone.{filter_served, filter_unkept}
use Rattle.fwupd_nodes.proofs.alone.serve_agent.Goals as goal

pub returns-in-Err-clause-fault : goal.returns-in-Err-clause-fault
returns-in-Err-clause-fault g c = record { last = c.serve.new.server; ends = inl (record { fault = c.in-Err.fault; is = refl; ends = c.in-Err.ensures.fault; unmade = refl }) }

pub returns-clause-fault : goal.returns-clause-fault
returns-clause-fault g c = filter_unkept c.keep_agent.result c.args.job c.args.filter c.serve.new.server c.end_turn.new.self.agent _ _ c.in-Ok.ensures.ok (ap (λ (f : AgentFilterOf). f.agent) c.end_turn.ensures) c.keep_agent.ensures.fault c.keep_agent.ensures.left

pub returns-clause-ok : goal.returns-clause-ok
returns-clause-ok g c = filter_served c.keep_agent.result c.args.job c.args.filter c.serve.new.server c.end_turn.new.self.agent _ _ c.in-Ok.ensures.ok (ap (λ (f : AgentFilterOf). f.agent) c.end_turn.ensures) c.keep_agent.ensures.reported c.keep_agent.ensures.logged
