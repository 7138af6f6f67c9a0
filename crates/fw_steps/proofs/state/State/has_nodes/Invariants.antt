use Rattle.std.proofs.Common.{◌≡◌, drop}
use Rattle.std.specs.List.{list_all}
use Rattle.fw_steps.specs.Steps.{is_node}
use Rattle.fw_steps.proofs.state.State.has_nodes.Given as goal

-- the result is that of the identifiers that are left
abbrev pub invariant-loop-eid : goal.invariant-loop-eid
invariant-loop-eid g l = list_all (is_node l.self) l.eids ≡ list_all (is_node l.self) (drop l.eid-index l.eids)
