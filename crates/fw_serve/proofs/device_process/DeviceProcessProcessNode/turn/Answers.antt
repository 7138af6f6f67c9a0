use Rattle.std.proofs.Common.{rules, ◌+◌}
use Rattle.fw_serve.proofs.Processes.{device_turns}
use Rattle.fw_serve.proofs.device_process.DeviceProcessProcessNode.turn.Goals as goal

pub returns-clause-served : goal.returns-clause-served
returns-clause-served g c =
    device_turns c.args.self.now (record { unit = c.self.inside.unit + 1; device = c.turn.new.self }) c.turn.new.outbox
    (g.L.Line.known c.args.line.now) (g.L.Line.known c.send_all.new.line) (search rules) (search rules) (search rules)
