use Rattle.std.proofs.Common.{◌-◌, arith, get_or}
use Rattle.std.proofs.lemmas.List.{get_or_default}
use Rattle.std.proofs.lemmas.List.Edits.{map_over_more}
use Rattle.pldm_exch.proofs.rests.fall.Goals as goal

pub loop-rest-preserved : goal.loop-rest-preserved
loop-rest-preserved c =
    rw c.saturating_sub.ensures
    (map_over_more (λ rest. rest - 1) c.args.rests.now c.loop-rest.rests c.loop-rest.rest-index (get_or c.loop-rest.rests c.loop-rest.rest-index 0) c.loop-rest-test.true c.loop-rest.invariant
    (get_or_default c.loop-rest.rests c.loop-rest.rest-index 0 (get_or c.loop-rest.rests c.loop-rest.rest-index 0) (omega arith)))
