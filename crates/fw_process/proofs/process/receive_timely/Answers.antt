use Rattle.std.proofs.Common.{OnErr, OnOk, rules, subst, List, ℕ, [], ◌∷◌}
use Rattle.exch_lane.specs.Steps.{sent_at}
use Rattle.fw_process.specs.Processes.{Deed, FailsAt, Serves}
use Rattle.fw_process.proofs.Rounds.{serves_timely, stops_at}
use Rattle.fw_process.proofs.process.receive_timely.Goals as goal

pub returns-clause-served : goal.returns-clause-served
returns-clause-served g c =
    serves_timely g.P.ProcessNode.does g.P.ProcessNode.unit c.args.process.now c.receive.new.self (sent_at c.args.stamp c.args.packet.now.items)
    (g.L.Line.known c.args.line.now) (g.L.Line.known c.receive.new.line) c.receive.result (search rules)
    (subst (λ (bs : List ℕ). OnOk c.receive.result (Serves g.P.ProcessNode.does g.P.ProcessNode.unit [] (Deed.Receives (sent_at c.args.stamp bs) ∷ []) c.args.process.now (g.L.Line.known c.args.line.now) c.receive.new.self (g.L.Line.known c.receive.new.line)))
    c.as_slice.ensures.value c.receive.ensures.served)

pub returns-clause-stopped : goal.returns-clause-stopped
returns-clause-stopped g c =
    stops_at g.P.ProcessNode.does g.P.ProcessNode.fails (Deed.Receives (sent_at c.args.stamp c.args.packet.now.items)) c.args.process.now c.receive.new.self
    (g.L.Line.known c.args.line.now) (g.L.Line.known c.receive.new.line) c.receive.result
    (subst (λ (bs : List ℕ). OnErr c.receive.result (FailsAt g.P.ProcessNode.fails (Deed.Receives (sent_at c.args.stamp bs)) c.args.process.now (g.L.Line.known c.args.line.now) c.receive.new.self (g.L.Line.known c.receive.new.line)))
    c.as_slice.ensures.value c.receive.ensures.failed)
