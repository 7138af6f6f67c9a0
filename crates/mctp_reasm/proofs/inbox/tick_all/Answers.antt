use Rattle.std.proofs.Common.{ap, arith, get_or}
use Rattle.std.proofs.lemmas.List.Edits.{map_over_more}
use Rattle.mctp_reasm.specs.Inboxes.{assembly_after_tick}
use Rattle.mctp_reasm.proofs.inbox.tick_all.Goals as goal

pub loop-place-preserved : goal.loop-place-preserved
loop-place-preserved c =
    rw c.tick.ensures
    (map_over_more assembly_after_tick c.args.places.now c.loop-place.places c.loop-place.place-index
    (get_or c.loop-place.places c.loop-place.place-index c.place-item.result) (omega arith) c.loop-place.invariant
    (ap (get_or c.loop-place.places c.loop-place.place-index) c.place-item.is))
