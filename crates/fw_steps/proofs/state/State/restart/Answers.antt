use Rattle.std.proofs.Common.{◌∙◌, ap, sym}
use Rattle.fw_steps.proofs.Leading.{agent_restart_leads, device_restart_leads}
use Rattle.fw_steps.proofs.state.State.restart.Goals as goal

pub returns-then-node-eid-clause-taken : goal.returns-then-node-eid-clause-taken
returns-then-node-eid-clause-taken g c =
    agent_restart_leads c.args.self.now c.restart_agent.new.self c.args.node (c.if-node-eid.true ∙ c.eid.ensures ∙ ap (λ w. w.agent.endpoint.eid) c.self.view_is) c.restart_agent.ensures

pub returns-clause-taken : goal.returns-clause-taken
returns-clause-taken g c =
    device_restart_leads c.args.self.now c.restart_device.new.self c.args.node c.in-Some.place
    (λ e. c.if-node-eid.false (e ∙ sym (c.eid.ensures ∙ ap (λ w. w.agent.endpoint.eid) c.self.view_is))) (sym c.in-Some.ensures.place) c.in-Some.ensures.within c.restart_device.ensures
