use Rattle.std.proofs.Common.{arith}
use Rattle.fw_serve.proofs.Turns.{agent_more}
use Rattle.fw_serve.proofs.agent_filter.AgentFilter.tick.Goals as goal

pub loop-taken-preserved : goal.loop-taken-preserved
loop-taken-preserved c =
    let so_far = c.loop-taken.invariant in
    let more = agent_more c.args.self.now.options.auto c.loop-taken._taken c.args.self.now.agent c.loop-taken.self-inside.agent c.turn.new.self c.push_counted.new.agent c.turn.new.outbox c.loop-taken.text.items c.push_counted.new.text.items
    so_far.agent (rw so_far.options at c.turn.ensures.taken) (rw so_far.options at c.turn.ensures.sent) c.in-Ok.ensures.counted c.in-Ok.ensures.sent so_far.text in
    let clock = more.clock in
    record {
      options = so_far.options;
      outbox = c.in-Ok.ensures.empty;
      clock = omega (arith, clock, so_far.clock);
      agent = more.agent;
      text = more.printed;
    }
