use Rattle.std.proofs.Common.{[], ◌≡◌, length}
use Rattle.fw_steps.specs.Worlds.{sent_now}
use Rattle.fw_process.specs.Processes.{line_with}
use Rattle.fw_serve.specs.Agents.{counts_after}
use Rattle.fw_serve.proofs.agent_process.send_counted.Given as goal

-- what was sent and counted, and what is still to be, is what was to be
abbrev pub invariant-loop-packet : goal.invariant-loop-packet
invariant-loop-packet g l = record {
  line : line_with (g.L.Line.known l.line) [] (sent_now l.agent.now l.outbox) ≡ line_with (g.L.Line.known l.fn.line) [] (sent_now l.fn.agent.now l.fn.outbox);
  counted : record l.agent { counts = counts_after l.agent.counts l.outbox } ≡ record l.fn.agent { counts = counts_after l.fn.agent.counts l.fn.outbox };
}

abbrev pub decreases-loop-packet : goal.decreases-loop-packet
decreases-loop-packet g l = length l.outbox
