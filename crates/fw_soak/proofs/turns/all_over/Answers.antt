use Rattle.std.proofs.Common.{◌∙◌, ap, sym}
use Rattle.fw_node.specs.Agents.{half_for}
use Rattle.fw_edge.specs.Drives.{all_over, is_over}
use Rattle.fw_soak.proofs.Overs.{is_not_over, over_later}
use Rattle.fw_soak.proofs.turns.all_over.Goals as goal

pub returns-then-not-is_over : goal.returns-then-not-is_over
returns-then-not-is_over c =
    is_not_over c.args.world.now.agent c.args.world.now.sites c.loop-place.place c.in-Some.node.now (all_over c.args.world.now) (sym c.in-Some.ensures)
    (sym (ap (λ e. is_over (half_for c.args.world.now.agent e)) c.eid.ensures.eid) ∙ sym c.if-not-is_over.ensures) c.loop-place.invariant

pub loop-place-preserved : goal.loop-place-preserved
loop-place-preserved c =
    over_later c.args.world.now.agent c.args.world.now.sites c.loop-place.place c.in-Some.node.now (all_over c.args.world.now) (sym c.in-Some.ensures)
    (sym (ap (λ e. is_over (half_for c.args.world.now.agent e)) c.eid.ensures.eid) ∙ sym c.if-not-is_over.ensures) c.loop-place.invariant
