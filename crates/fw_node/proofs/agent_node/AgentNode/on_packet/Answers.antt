use Rattle.std.proofs.Common.{◌∙◌, ap, sym}
use Rattle.mctp_wire.specs.declared.unit.Unit.TheVariants.{U128}
use Rattle.mctp_wire.specs.Packet.{spelling}
use Rattle.mctp_wire.proofs.Spelled.{spelled_alike}
use Rattle.fw_node.proofs.Readings.{agent_alike}
use Rattle.fw_node.proofs.agent_node.AgentNode.on_packet.Goals as goal

pub returns-clause-after : goal.returns-clause-after
returns-clause-after c =
    c.accept.ensures.after
    ∙ ap (λ heard. heard.agent) (sym (agent_alike c.args.packages.now c.args.self.now c.args.bytes.now (spelling c.in-Ok.packet) c.args.now
    (λ u. spelled_alike U128 u c.args.bytes.now c.in-Ok.packet c.in-Ok.ensures.value)))

pub returns-clause-sent : goal.returns-clause-sent
returns-clause-sent c =
    c.accept.ensures.sent
    ∙ ap (λ heard. heard.sent) (sym (agent_alike c.args.packages.now c.args.self.now c.args.bytes.now (spelling c.in-Ok.packet) c.args.now
    (λ u. spelled_alike U128 u c.args.bytes.now c.in-Ok.packet c.in-Ok.ensures.value)))
