use Rattle.std.proofs.Common.{[], ◌≡◌, ◌+◌}
use Rattle.fw_serve.specs.Agents.{turns_packets, turns_taken}
use Rattle.fw_serve.specs.Texts.{packets_spaced}
use Rattle.fw_serve.proofs.agent_filter.AgentFilter.tick.Given as goal

-- the turns so far are taken, and their packets are written
abbrev pub invariant-loop-taken : goal.invariant-loop-taken
invariant-loop-taken l = record {
  options : l.self-inside.options ≡ l.fn.self.options;
  outbox : l.self-inside.outbox ≡ [];
  clock : l.self-inside.agent.now ≡ l.fn.self.agent.now + l._taken;
  agent : l.self-inside.agent ≡ turns_taken l.fn.self.options.auto l._taken l.fn.self.agent;
  text : l.text.items ≡ packets_spaced (turns_packets l.fn.self.options.auto l._taken l.fn.self.agent);
}
