use Rattle.std.proofs.Common.{◌≡◌, ◌++◌, length}
use Rattle.fw_serve.specs.Agents.{counts_after}
use Rattle.fw_serve.specs.Texts.{packets_spaced}
use Rattle.fw_serve.proofs.agent_filter.push_counted.Given as goal

-- what is written and counted, and what is still to be, are what was to be
abbrev pub invariant-loop-packet : goal.invariant-loop-packet
invariant-loop-packet l = record {
  sent : l.text.items ++ packets_spaced l.outbox ≡ l.fn.text.items ++ packets_spaced l.fn.outbox;
  counts : counts_after l.agent.counts l.outbox ≡ counts_after l.fn.agent.counts l.fn.outbox;
  agent : l.agent ≡ record l.fn.agent { counts = l.agent.counts };
}

abbrev pub decreases-loop-packet : goal.decreases-loop-packet
decreases-loop-packet l = length l.outbox
