use Rattle.std.proofs.Common.{◌∙◌, ap, sym}
use Rattle.mctp_wire.specs.Packet.{spelling}
use Rattle.mctp_wire.proofs.Spelled.{spelled_alike}
use Rattle.fw_node.specs.Cores.{device_core}
use Rattle.fw_node.specs.Packets.{all_packets}
use Rattle.fw_node.proofs.Readings.{calls_alike, device_alike}
use Rattle.fw_node.proofs.device_node.DeviceNode.read.Goals as goal

pub returns-clause-half : goal.returns-clause-half
returns-clause-half g c =
    c.accept.ensures.half
    ∙ ap (λ heard. heard.half) (sym (device_alike c.accept.result c.args.self.now c.args.bytes.now (spelling c.in-Ok.packet)
    (λ u. spelled_alike c.unit.result u c.args.bytes.now c.in-Ok.packet c.in-Ok.ensures.value)))

pub returns-clause-tid : goal.returns-clause-tid
returns-clause-tid g c =
    c.accept.ensures.tid
    ∙ ap (λ heard. heard.tid) (sym (device_alike c.accept.result c.args.self.now c.args.bytes.now (spelling c.in-Ok.packet)
    (λ u. spelled_alike c.unit.result u c.args.bytes.now c.in-Ok.packet c.in-Ok.ensures.value)))

pub returns-clause-packets : goal.returns-clause-packets
returns-clause-packets g c =
    c.accept.ensures.packets
    ∙ ap (λ heard. all_packets c.args.self.now.half.unit heard.sent) (sym (device_alike c.accept.result c.args.self.now c.args.bytes.now (spelling c.in-Ok.packet)
    (λ u. spelled_alike c.unit.result u c.args.bytes.now c.in-Ok.packet c.in-Ok.ensures.value)))

pub returns-clause-called : goal.returns-clause-called
returns-clause-called g c =
    λ e. calls_alike device_core c.args.self.now.half c.args.bytes.now (spelling c.in-Ok.packet)
    (λ u. spelled_alike c.unit.result u c.args.bytes.now c.in-Ok.packet c.in-Ok.ensures.value) ∙ c.accept.ensures.called e
