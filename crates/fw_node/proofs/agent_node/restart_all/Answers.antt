use Rattle.std.proofs.Common.{ap, arith, get_or}
use Rattle.std.proofs.lemmas.List.Edits.{map_over_more}
use Rattle.fw_node.specs.AgentViews.{half_restarted}
use Rattle.fw_node.proofs.AgentTicks.{anew}
use Rattle.fw_node.proofs.agent_node.restart_all.Goals as goal

pub loop-half-preserved : goal.loop-half-preserved
loop-half-preserved c =
    let x = get_or c.loop-half.halves c.loop-half.half-index c.half-item.result in
    let is = ap (get_or c.loop-half.halves c.loop-half.half-index) c.half-item.is in
    rw (anew x c.restart.new.self c.restart.ensures.ends c.restart.ensures.core)
    (map_over_more half_restarted c.args.halves.now c.loop-half.halves c.loop-half.half-index x (omega arith) c.loop-half.invariant is)
