use Rattle.std.proofs.Common.{rules, subst}
use Rattle.fw_process.specs.Processes.{ServesRounds}
use Rattle.fw_serve.specs.Agents.{ServedAgentOf}
use Rattle.fw_serve.specs.Processes.{AgentDoes}
use Rattle.fwupd_nodes.proofs.Processes.{ends_agent}
use Rattle.fwupd_nodes.proofs.agent_serving.serve_started.Goals as goal

pub returns-in-Ok-serve_agent_process : goal.returns-in-Ok-serve_agent_process
returns-in-Ok-serve_agent_process g c = record {
  shown = c.begin-shown.result;
  opened = g.C.Clock.shown c.args.joined.now.clock;
  joined = record { line = g.L.Line.known c.begin-shown.new.joined.line.line; shown = g.C.Clock.shown c.begin-shown.new.joined.clock };
  clock = c.begin-shown.ensures.clock;
  left = record { line = g.L.Line.known c.serve_agent_process.new.line.line; shown = g.C.Clock.shown c.serve_agent_process.new.clock };
  serves =
      subst (λ (s : ServedAgentOf). ServesRounds AgentDoes (λ x. x.now)
      s (record { line = g.L.Line.known c.begin-shown.new.joined.line.line; shown = g.C.Clock.shown c.begin-shown.new.joined.clock })
      c.serve_agent_process.new.process.agent (record { line = g.L.Line.known c.serve_agent_process.new.line.line; shown = g.C.Clock.shown c.serve_agent_process.new.clock }))
      (search rules) c.in-Ok-serve_agent_process.ensures.agent;
  ends = ends_agent c.end_of-end.result c.begin-shown.result c.args.job.now.serving.ticks c.serve_agent_process.new.process.agent.now c.end_of-end.ensures c.in-Ok-serve_agent_process.ensures.ends;
  first = c.in-Ok-new.process;
  begins = (search rules);
  is_kept = c.in-Ok-new.ensures.kept;
  keeping = c.in-Ok-serve_agent_process.ensures.served;
}
