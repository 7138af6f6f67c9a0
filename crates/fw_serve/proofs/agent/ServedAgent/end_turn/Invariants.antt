use Rattle.std.proofs.Common.{◌≡◌, drop}
use Rattle.fw_serve.specs.Agents.{all_activated}
use Rattle.fw_serve.proofs.agent.ServedAgent.end_turn.Given as goal

-- what is due for the devices from the place on makes of the agent what is due for all makes of it
abbrev pub invariant-loop-place : goal.invariant-loop-place
invariant-loop-place l = record {
  rest : all_activated l.self (drop l.place l.fn.self.counts) ≡ all_activated l.fn.self l.fn.self.counts;
  clock : l.self.now ≡ l.fn.self.now;
  counts : l.self.counts ≡ l.fn.self.counts;
}
