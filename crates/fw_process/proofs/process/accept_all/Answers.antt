use Rattle.std.proofs.Common.{arith, rules, [], ◌∷◌}
use Rattle.exch_lane.specs.Steps.{sent_at}
use Rattle.fw_process.specs.Processes.{LineCall}
use Rattle.fw_process.proofs.Rounds.{comes, takes_packet, until_on}
use Rattle.fw_process.proofs.process.accept_all.Goals as goal

pub loop-taken-preserved : goal.loop-taken-preserved
loop-taken-preserved g c = record {
  later = omega (arith, c.loop-taken.invariant.later, c.in-Ok.ensures.later);
  some =
      takes_packet g.P.ProcessNode.does g.P.ProcessNode.unit _ c.args.process.now c.loop-taken.process c.accept.new.process
      (g.L.Line.known c.args.line.now) (g.L.Line.known c.loop-taken.line) (g.L.Line.known c.receive.new.self) (g.L.Line.known c.accept.new.line)
      (sent_at c.in-Some.stamp c.receive.new.packet.items) c.loop-taken.invariant.some (search rules) c.in-Ok.ensures.served;
}

pub returns-in-Err-clause-stopped : goal.returns-in-Err-clause-stopped
returns-in-Err-clause-stopped g c =
    until_on g.P.ProcessNode.does g.P.ProcessNode.fails g.P.ProcessNode.unit c.args.process.now c.loop-taken.process c.accept.new.process
    (g.L.Line.known c.args.line.now) (g.L.Line.known c.loop-taken.line) (g.L.Line.known c.accept.new.line) _ _ c.loop-taken.invariant.some.serves
    (until_on g.P.ProcessNode.does g.P.ProcessNode.fails g.P.ProcessNode.unit c.loop-taken.process c.loop-taken.process c.accept.new.process
    (g.L.Line.known c.loop-taken.line) (g.L.Line.known c.receive.new.self) (g.L.Line.known c.accept.new.line) (LineCall.Takes (sent_at c.in-Some.stamp c.receive.new.packet.items) ∷ []) []
    (comes g.P.ProcessNode.does g.P.ProcessNode.unit c.loop-taken.process (LineCall.Takes (sent_at c.in-Some.stamp c.receive.new.packet.items) ∷ [])
    (g.L.Line.known c.loop-taken.line) (g.L.Line.known c.receive.new.self) (search rules))
    c.in-Err.ensures.stopped)
