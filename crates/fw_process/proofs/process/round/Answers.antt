use Rattle.fw_process.specs.Processes.{deeds_to}
use Rattle.fw_process.proofs.Rounds.{serves_round, stops_on}
use Rattle.fw_process.proofs.process.round.Goals as goal

pub returns-clause-served : goal.returns-clause-served
returns-clause-served g c =
    serves_round g.P.ProcessNode.does g.P.ProcessNode.unit c.args.process.now c.begin_round.new.process c.accept_all.new.process
    (g.L.Line.known c.args.line.now) (g.L.Line.known c.begin_round.new.line) (g.L.Line.known c.accept_all.new.line)
    c.args.shown c.accept_all.result c.in-Ok.ensures.served c.accept_all.ensures.served

pub returns-clause-stopped : goal.returns-clause-stopped
returns-clause-stopped g c =
    stops_on g.P.ProcessNode.does g.P.ProcessNode.fails g.P.ProcessNode.unit c.args.process.now c.begin_round.new.process c.accept_all.new.process
    (g.L.Line.known c.args.line.now) (g.L.Line.known c.begin_round.new.line) (g.L.Line.known c.accept_all.new.line)
    _ (deeds_to (g.P.ProcessNode.unit c.args.process.now) c.args.shown) c.accept_all.result c.in-Ok.ensures.served c.accept_all.ensures.stopped
