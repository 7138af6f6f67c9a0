use Rattle.std.proofs.Common.{ap, arith, get_or}
use Rattle.std.proofs.lemmas.List.Edits.{map_over_more}
use Rattle.fw_message.specs.Replays.{counted_restarted}
use Rattle.fw_message.proofs.messages.restart_each.Goals as goal

pub loop-pair-preserved : goal.loop-pair-preserved
loop-pair-preserved g c =
    rw c.restart.ensures
    (map_over_more (counted_restarted c.args.packages.now) c.args.pairs.now c.loop-pair.pairs c.loop-pair.pair-index
    (get_or c.loop-pair.pairs c.loop-pair.pair-index c.pair-item.result) (omega arith) c.loop-pair.invariant
    (ap (get_or c.loop-pair.pairs c.loop-pair.pair-index) c.pair-item.is))
