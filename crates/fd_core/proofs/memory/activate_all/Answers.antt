use Rattle.std.proofs.Common.{ap, arith, get_or}
use Rattle.std.proofs.lemmas.List.Edits.{map_over_more}
use Rattle.fd_core.specs.Areas.{place_after_switch}
use Rattle.fd_core.proofs.memory.activate_all.Goals as goal

pub loop-place-preserved : goal.loop-place-preserved
loop-place-preserved c =
    rw c.activate.ensures (map_over_more place_after_switch c.args.places.now c.loop-place.places c.loop-place.place-index
    (get_or c.loop-place.places c.loop-place.place-index c.place-item.result) (omega arith) c.loop-place.invariant
    (ap (get_or c.loop-place.places c.loop-place.place-index) c.place-item.is))
