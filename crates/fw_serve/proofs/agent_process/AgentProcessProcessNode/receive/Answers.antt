use Rattle.std.proofs.Common.{rules}
use Rattle.exch_lane.specs.Steps.{sent_at}
use Rattle.fw_serve.proofs.Keeping.{receives}
use Rattle.fw_serve.proofs.agent_process.AgentProcessProcessNode.receive.Goals as goal

pub returns-in-Ok-keep_and_send-clause-served : goal.returns-in-Ok-keep_and_send-clause-served
returns-in-Ok-keep_and_send-clause-served g c =
    receives g.K.AgentKeeper.keeps c.args.self.now (record { agent = c.keep_and_send.new.agent; keeper = c.keep_and_send.new.keeper; fault = c.self.inside.fault })
    c.on_packet.new.self (sent_at c.args._stamp c.args.packet.now) c.on_packet.new.outbox (g.L.Line.known c.args.line.now) (g.L.Line.known c.keep_and_send.new.line)
    (search rules) (search rules) c.in-Ok-keep_and_send.ensures.counted c.in-Ok-keep_and_send.ensures.line c.in-Ok-keep_and_send.ensures.kept (search rules)
