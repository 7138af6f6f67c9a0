use Rattle.std.proofs.Common.{rules}
use Rattle.exch_lane.specs.Steps.{sent_at}
use Rattle.fw_serve.proofs.Processes.{device_receives}
use Rattle.fw_serve.proofs.device_process.DeviceProcessProcessNode.receive.Goals as goal

pub returns-clause-served : goal.returns-clause-served
returns-clause-served g c =
    device_receives c.args.self.now (record { unit = c.self.inside.unit; device = c.on_packet.new.self }) (sent_at c.args.stamp c.args.packet.now) c.on_packet.new.outbox
    (g.L.Line.known c.args.line.now) (g.L.Line.known c.send_all.new.line) (search rules) (search rules) (search rules) (search rules)
