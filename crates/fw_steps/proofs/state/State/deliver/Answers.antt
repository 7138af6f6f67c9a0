use Rattle.std.proofs.Common.{◌∙◌, ap, subst, sym}
use Rattle.fw_steps.specs.Deliveries.{DeliversToDevice}
use Rattle.fw_steps.specs.Worlds.{at_agent}
use Rattle.fw_steps.proofs.Leading.{agent_leads, device_leads, differs, equals}
use Rattle.fw_steps.proofs.state.State.deliver.Goals as goal

pub returns-then-node-eid-clause-taken : goal.returns-then-node-eid-clause-taken
returns-then-node-eid-clause-taken g c =
    agent_leads c.args.self.now c.deliver_to_agent.new.self c.args.device c.args.number c.args.node c.in-Ok.bytes.items c.in-Ok.ensures.ok c.in-Ok.ensures.found
    (equals _ _ (c.if-node-eid.true ∙ c.eid.ensures ∙ ap (λ w. w.agent.endpoint.eid) c.self.view_is))
    (c.in-Ok-deliver_to_agent.ensures.after ∙ ap (at_agent c.args.self.now) c.as_slice.ensures.value)

pub returns-clause-taken : goal.returns-clause-taken
returns-clause-taken g c =
    device_leads c.args.self.now c.deliver_to_device.new.self c.args.device c.args.number c.args.node c.in-Ok.bytes.items c.in-Ok.ensures.ok c.in-Ok.ensures.found
    (differs _ _ (λ e. c.if-node-eid.false (e ∙ sym (c.eid.ensures ∙ ap (λ w. w.agent.endpoint.eid) c.self.view_is))))
    (subst (λ b. DeliversToDevice c.args.self.now c.args.node b c.deliver_to_device.new.self) c.as_slice-2.ensures.value c.in-Ok-deliver_to_device.ensures.heard)
