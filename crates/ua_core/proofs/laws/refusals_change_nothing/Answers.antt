use Rattle.ua_core.proofs.Refusals.{refusals_keep, refusals_record, refusals_stir}
use Rattle.ua_core.proofs.laws.refusals_change_nothing.Goals as goal

pub returns : goal.returns
returns c = record { kept = refusals_keep; recorded = refusals_record; idle = refusals_stir }
