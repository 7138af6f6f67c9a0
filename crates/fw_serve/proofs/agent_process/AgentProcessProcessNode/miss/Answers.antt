use Rattle.std.proofs.Common.{rules}
use Rattle.fw_serve.proofs.Keeping.{misses_kept}
use Rattle.fw_serve.proofs.agent_process.AgentProcessProcessNode.miss.Goals as goal

pub returns-clause-does : goal.returns-clause-does
returns-clause-does g c =
    misses_kept g.K.AgentKeeper.keeps c.args.self.now (record { agent = c.miss.new.self; keeper = c.self.inside.keeper; fault = c.self.inside.fault })
    c.args.units (search rules) (search rules) (search rules)
