use Rattle.std.proofs.Common.{rules}
use Rattle.fw_process.proofs.Rounds.{rests_on, rounds_on, until_on}
use Rattle.fw_process.proofs.process.serve_process.Goals as goal

pub loop-process-preserved : goal.loop-process-preserved
loop-process-preserved g c = record {
  served =
      rounds_on g.P.ProcessNode.does g.P.ProcessNode.unit c.args.process.now c.loop-process.process c.round.new.process
      (record { line = g.L.Line.known c.args.line.now; shown = g.C.Clock.shown c.args.clock.now })
      (record { line = g.L.Line.known c.loop-process.line; shown = g.C.Clock.shown c.loop-process.clock })
      (record { line = g.L.Line.known c.round.new.line; shown = g.C.Clock.shown c.wait_past-shown.new.self })
      c.wait_past-shown.result c.loop-process.invariant.served c.in-Ok.ensures.served c.wait_past-shown.ensures.shown;
  rests = rests_on g.P.ProcessNode.is_over g.P.ProcessNode.unit c.args.end c.args.process.now c.loop-process.process c.loop-process.invariant.rests (search rules) (search rules);
}

pub returns-in-Err-clause-stopped : goal.returns-in-Err-clause-stopped
returns-in-Err-clause-stopped g c =
    until_on g.P.ProcessNode.does g.P.ProcessNode.fails g.P.ProcessNode.unit c.args.process.now c.loop-process.process c.round.new.process
    (g.L.Line.known c.args.line.now) (g.L.Line.known c.loop-process.line) (g.L.Line.known c.round.new.line) _ _ c.loop-process.invariant.served.serves c.in-Err.ensures.stopped
