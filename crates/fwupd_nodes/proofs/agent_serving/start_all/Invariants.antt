use Rattle.std.proofs.Common.{◌≡◌, take}
use Rattle.fwupd_nodes.specs.Processes.{agent_started}
use Rattle.fwupd_nodes.proofs.agent_serving.start_all.Given as goal

-- the updates of the devices before the index are started
abbrev pub invariant-loop-eid : goal.invariant-loop-eid
invariant-loop-eid l = l.agent ≡ agent_started l.fn.agent l.number (take l.eid-index l.eids)
