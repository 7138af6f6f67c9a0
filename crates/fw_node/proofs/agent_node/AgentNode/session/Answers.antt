use Rattle.std.proofs.Common.{◌∙◌, map}
use Rattle.fw_node.specs.AgentViews.{half_in}
use Rattle.fw_node.specs.Agents.{half_at, place_of}
use Rattle.fw_node.proofs.Places.{core_any, known_alike}
use Rattle.fw_node.proofs.agent_node.AgentNode.session.Goals as goal

pub returns-clause-session : goal.returns-clause-session
returns-clause-session c =
    let found = rw c.as_slice.ensures.value at c.session_in.ensures in
    rw (← c.self.view_is) (found ∙ core_any 0 c.self.inside.deaf c.self.inside.halves.items c.args.eid)

pub returns-clause-known : goal.returns-clause-known
returns-clause-known c =
    let ps = c.self.inside.halves.items in
    let found = rw c.as_slice.ensures.value at c.session_in.ensures in
    rw (← c.self.view_is)
    (known_alike (λ s. s.now) (λ h. h.core) c.session_in.result (half_at (map (half_in c.self.inside.deaf) ps) (place_of (map (half_in c.self.inside.deaf) ps) c.args.eid))
    (found ∙ core_any 0 c.self.inside.deaf ps c.args.eid))
