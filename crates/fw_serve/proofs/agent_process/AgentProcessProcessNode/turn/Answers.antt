use Rattle.std.proofs.Common.{rules}
use Rattle.fw_serve.proofs.Keeping.{turns_kept}
use Rattle.fw_serve.proofs.agent_process.AgentProcessProcessNode.turn.Goals as goal

pub returns-in-Ok-clause-served : goal.returns-in-Ok-clause-served
returns-in-Ok-clause-served g c =
    turns_kept g.K.AgentKeeper.keeps c.args.self.now (record { agent = c.keep_and_send.new.agent; keeper = c.keep_and_send.new.keeper; fault = c.self.inside.fault })
    c.turn.new.self c.turn.new.outbox (g.L.Line.known c.args.line.now) (g.L.Line.known c.keep_and_send.new.line)
    (search rules) (search rules) c.in-Ok.ensures.counted c.in-Ok.ensures.line c.in-Ok.ensures.kept (search rules)
