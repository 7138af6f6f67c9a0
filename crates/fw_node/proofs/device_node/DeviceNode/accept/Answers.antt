use Rattle.std.proofs.Common.{◌≡◌, true, rules, subst, sym}
use Rattle.mctp_wire.specs.Packet.{spelling}
use Rattle.pldm_base.specs.declared.terminus.Role.TheVariants as roles
use Rattle.fw_node.specs.BankCalls.{packet_calls_bank}
use Rattle.fw_node.specs.Cores.{device_core, timed_device}
use Rattle.fw_node.specs.Halves.{half_on_packet}
use Rattle.fw_node.specs.Nodes.{device_on_packet, node_outcome_of, half_of}
use Rattle.fw_node.specs.Packets.{all_packets}
use Rattle.fw_node.proofs.device_node.DeviceNode.accept.Goals as goal

pub returns-clause-tid : goal.returns-clause-tid
returns-clause-tid g c =
    let n = c.self.inside in
    let hears : n.deaf ≡ 0 = search rules in
    subst (λ old. c.handle_packet.new.identity.tid ≡ (device_on_packet c.handle_packet.result old (spelling c.args.packet.now)).tid) c.self.view_is
    (subst (λ deaf. c.handle_packet.new.identity.tid ≡ (node_outcome_of roles.Device n.identity.endpoint n.identity.tid (half_on_packet device_core c.handle_packet.result (half_of deaf (timed_device n.half.core) n.half.ends) (spelling c.args.packet.now))).tid)
    (sym hears) c.handle_packet.ensures.tid)

pub returns-clause-packets : goal.returns-clause-packets
returns-clause-packets g c =
    let n = c.self.inside in
    let hears : n.deaf ≡ 0 = search rules in
    subst (λ old. c.handle_packet.new.outbox ≡ all_packets old.half.unit (device_on_packet c.handle_packet.result old (spelling c.args.packet.now)).sent) c.self.view_is
    (subst (λ deaf. c.handle_packet.new.outbox ≡ all_packets n.half.ends.asking.unit (node_outcome_of roles.Device n.identity.endpoint n.identity.tid (half_on_packet device_core c.handle_packet.result (half_of deaf (timed_device n.half.core) n.half.ends) (spelling c.args.packet.now))).sent)
    (sym hears) c.handle_packet.ensures.packets)

pub returns-clause-called : goal.returns-clause-called
returns-clause-called g c =
    let n = c.self.inside in
    let hears : n.deaf ≡ 0 = search rules in
    λ e. subst (λ old. packet_calls_bank device_core old.half (spelling c.args.packet.now) ≡ true) c.self.view_is
    (subst (λ deaf. packet_calls_bank device_core (half_of deaf (timed_device n.half.core) n.half.ends) (spelling c.args.packet.now) ≡ true) (sym hears) (c.handle_packet.ensures.called e))
