use Rattle.fw_serve.proofs.Keeping.{agent_rounds, rounds_kept, until_kept}
use Rattle.fw_serve.proofs.agent_process.serve_agent_process.Goals as goal

pub returns-in-Ok-clause-agent : goal.returns-in-Ok-clause-agent
returns-in-Ok-clause-agent g c = agent_rounds g.K.AgentKeeper.keeps c.args.process.now c.serve_process.new.process _ _ c.in-Ok.ensures.served

pub returns-in-Ok-clause-kept : goal.returns-in-Ok-clause-kept
returns-in-Ok-clause-kept g c = rounds_kept g.K.AgentKeeper.keeps c.args.process.now c.serve_process.new.process _ _ c.in-Ok.ensures.served

pub returns-in-Err-clause-kept : goal.returns-in-Err-clause-kept
returns-in-Err-clause-kept g c =
    until_kept g.K.AgentKeeper.keeps c.args.process.now c.serve_process.new.process (g.L.Line.known c.args.line.now) (g.L.Line.known c.serve_process.new.line) c.in-Err.ensures.stopped
