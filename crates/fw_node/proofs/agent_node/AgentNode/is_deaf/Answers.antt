use Rattle.std.proofs.Common.{subst}
use Rattle.std.specs.List.{AllByRecursion}
use Rattle.fw_node.specs.Agents.{IsDeafFor}
use Rattle.fw_node.proofs.Places.{deaf_alike}
use Rattle.fw_node.proofs.agent_node.AgentNode.is_deaf.Goals as goal

pub returns-clause-halves : goal.returns-clause-halves
returns-clause-halves c =
    subst (λ n. AllByRecursion (IsDeafFor n.deaf) n.halves) c.self.view_is (deaf_alike c.self.inside.deaf c.self.inside.halves.items)
