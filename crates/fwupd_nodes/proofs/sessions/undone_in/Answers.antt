use Rattle.std.proofs.Common.{ap, sym, ◌≡◌, ◌∙◌}
use Rattle.fw_node.specs.Agents.{AgentOf}
use Rattle.fw_script.specs.Reports.{session_of}
use Rattle.fwupd_nodes.specs.Sessions.{undone_in, with_session}
use Rattle.fwupd_nodes.proofs.Ended.{undone_next}
use Rattle.fwupd_nodes.proofs.sessions.undone_in.Goals as goal

pub loop-place-preserved : goal.loop-place-preserved
loop-place-preserved g c =
    let state : c.session_of.result ≡ session_of c.args.world.now.agent c.eid-eid.result =
    c.session_of.ensures ∙ ap (λ (a : AgentOf). session_of a c.eid-eid.result) c.agent.ensures in
    undone_next c.loop-place.undone c.add.new.self c.args.world.now.agent c.args.world.now.sites c.loop-place.place c.eid-eid.result c.in-Some.node.now (undone_in c.args.world.now)
    (sym (rw c.in-Some.is at c.device_at.ensures)) c.eid-eid.ensures.eid (c.in_ok-add.ensures ∙ ap (with_session c.loop-place.undone c.eid-eid.result) state) c.loop-place.invariant
