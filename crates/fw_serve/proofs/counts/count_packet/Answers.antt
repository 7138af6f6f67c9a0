use Rattle.std.proofs.Common.{arith}
use Rattle.fw_serve.specs.Agents.{count_with}
use Rattle.fw_serve.proofs.Lists.{map_over_next}
use Rattle.fw_serve.proofs.counts.count_packet.Goals as goal

pub loop-sent-preserved : goal.loop-sent-preserved
loop-sent-preserved c = map_over_next (count_with c.args.packet.now) c.args.counts.now c.loop-sent.counts c.loop-sent.sent-index _ _ c.count_at.ensures (omega arith) c.loop-sent.invariant
