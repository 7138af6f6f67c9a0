use Rattle.std.proofs.Common.{◌≡◌, drop, map}
use Rattle.fw_script.specs.declared.reports.SentCount.{SentCount}
use Rattle.fwupd_nodes.specs.Sessions.{undone_after, undone_of}
use Rattle.fwupd_nodes.proofs.agent_serving.undone_of.Given as goal

-- the sessions so far, with the remaining ones after them, are all
abbrev pub invariant-loop-count : goal.invariant-loop-count
invariant-loop-count l = undone_after l.undone l.agent (map (λ (c : SentCount). c.device) (drop l.count-index l.counts)) ≡ undone_of l.agent (map (λ (c : SentCount). c.device) l.counts)
