use Rattle.std.proofs.Common.{◌≡◌, ◌∙◌, ap, sym}
use Rattle.fw_node.specs.Nodes.{half_of}
use Rattle.fw_node.specs.Packets.{all_packets}
use Rattle.fw_node.proofs.NodeServes.{taken}
use Rattle.fw_node.proofs.half.Half.serve.Goals as goal

pub returns-then-head-eq-TYPE_FIRMWARE_UPDATE-clause-half : goal.returns-then-head-eq-TYPE_FIRMWARE_UPDATE-clause-half
returns-then-head-eq-TYPE_FIRMWARE_UPDATE-clause-half g c =
    let five : c.args.request.now.head.pldm_type ≡ 5 = ap (λ h. h.pldm_type) (sym c.head.ensures) ∙ c.if-head-eq-TYPE_FIRMWARE_UPDATE.true in
    c.take.ensures.half
    ∙ ap (λ n. n.half) (sym (taken (g.C.Core.does c.args.given) c.args.role c.args.identity.now.endpoint c.args.identity.now.tid c.take.result (half_of 0 (g.C.Core.seen c.args.self.now.core) c.args.self.now.ends) c.args.request.now five))

pub returns-then-head-eq-TYPE_FIRMWARE_UPDATE-clause-tid : goal.returns-then-head-eq-TYPE_FIRMWARE_UPDATE-clause-tid
returns-then-head-eq-TYPE_FIRMWARE_UPDATE-clause-tid g c =
    let five : c.args.request.now.head.pldm_type ≡ 5 = ap (λ h. h.pldm_type) (sym c.head.ensures) ∙ c.if-head-eq-TYPE_FIRMWARE_UPDATE.true in
    ap (λ n. n.tid) (sym (taken (g.C.Core.does c.args.given) c.args.role c.args.identity.now.endpoint c.args.identity.now.tid c.take.result (half_of 0 (g.C.Core.seen c.args.self.now.core) c.args.self.now.ends) c.args.request.now five))

pub returns-then-head-eq-TYPE_FIRMWARE_UPDATE-clause-packets : goal.returns-then-head-eq-TYPE_FIRMWARE_UPDATE-clause-packets
returns-then-head-eq-TYPE_FIRMWARE_UPDATE-clause-packets g c =
    let five : c.args.request.now.head.pldm_type ≡ 5 = ap (λ h. h.pldm_type) (sym c.head.ensures) ∙ c.if-head-eq-TYPE_FIRMWARE_UPDATE.true in
    c.take.ensures.packets
    ∙ ap (λ n. all_packets c.args.self.now.ends.asking.unit n.sent) (sym (taken (g.C.Core.does c.args.given) c.args.role c.args.identity.now.endpoint c.args.identity.now.tid c.take.result (half_of 0 (g.C.Core.seen c.args.self.now.core) c.args.self.now.ends) c.args.request.now five))
