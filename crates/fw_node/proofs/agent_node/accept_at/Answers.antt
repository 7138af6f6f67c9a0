use Rattle.std.proofs.Common.{◌∙◌, Some, ap, get_or, sym}
use Rattle.mctp_wire.specs.Packet.{spelling}
use Rattle.fw_node.specs.Agents.{agent_on_packet_at}
use Rattle.fw_node.specs.AgentViews.{agent_of, half_in}
use Rattle.fw_node.proofs.Loops.{at_place}
use Rattle.fw_node.proofs.HalfHears.{heard_agent}
use Rattle.fw_node.proofs.agent_node.accept_at.Goals as goal

pub returns-clause-after : goal.returns-clause-after
returns-clause-after c =
    let x = get_or c.args.halves.now c.args.place c.index-halves-place.result in
    let is = ap (get_or c.args.halves.now c.args.place) c.index-halves-place.is in
    heard_agent c.args.packages.now c.args.identity.now c.handle_and_note.new.identity c.args.log.now c.handle_and_note.new.log c.args.halves.now c.args.place x c.handle_and_note.new.half (spelling c.args.packet.now) c.args.now
    c.handle_and_note.ensures.endpoint c.handle_and_note.ensures.tid c.handle_and_note.ensures.half c.handle_and_note.ensures.log
    ∙ ap (λ h. (agent_on_packet_at c.args.packages.now (agent_of 0 c.args.identity.now c.args.log.now c.args.halves.now) (spelling c.args.packet.now) c.args.now (Some c.args.place) h).agent) (sym (at_place (half_in 0) c.args.halves.now c.args.place x c.requires.place is))

pub returns-clause-sent : goal.returns-clause-sent
returns-clause-sent c =
    let x = get_or c.args.halves.now c.args.place c.index-halves-place.result in
    let is = ap (get_or c.args.halves.now c.args.place) c.index-halves-place.is in
    c.handle_and_note.ensures.packets
    ∙ ap (λ h. (agent_on_packet_at c.args.packages.now (agent_of 0 c.args.identity.now c.args.log.now c.args.halves.now) (spelling c.args.packet.now) c.args.now (Some c.args.place) h).sent) (sym (at_place (half_in 0) c.args.halves.now c.args.place x c.requires.place is))
