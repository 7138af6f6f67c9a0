use Rattle.std.proofs.Common.{rules}
use Rattle.exch_lane.specs.Steps.{sent_at}
use Rattle.fw_process.proofs.Rounds.{serves_for, stops_on}
use Rattle.fw_process.proofs.process.accept.Goals as goal

pub returns-clause-served : goal.returns-clause-served
returns-clause-served g c =
    serves_for g.P.ProcessNode.does g.P.ProcessNode.unit c.args.process.now c.advance.new.process c.receive_timely.new.process
    (g.L.Line.known c.args.line.now) (g.L.Line.known c.advance.new.line) (g.L.Line.known c.receive_timely.new.line)
    (sent_at c.args.stamp c.args.packet.now.items) c.receive_timely.result (search rules) c.in-Ok.ensures.served c.receive_timely.ensures.served

pub returns-clause-stopped : goal.returns-clause-stopped
returns-clause-stopped g c =
    stops_on g.P.ProcessNode.does g.P.ProcessNode.fails g.P.ProcessNode.unit c.args.process.now c.advance.new.process c.receive_timely.new.process
    (g.L.Line.known c.args.line.now) (g.L.Line.known c.advance.new.line) (g.L.Line.known c.receive_timely.new.line)
    _ _ c.receive_timely.result c.in-Ok.ensures.served c.receive_timely.ensures.stopped
