use Rattle.std.proofs.Common.{◌≡◌, map, take}
use Rattle.fw_steps.proofs.sites.eids_of.Given as goal

-- the identifiers of the nodes so far
abbrev pub invariant-loop-node : goal.invariant-loop-node
invariant-loop-node g l = l.eids.items ≡ map (λ n. n.endpoint.eid) (take l.node-index l.nodes)
