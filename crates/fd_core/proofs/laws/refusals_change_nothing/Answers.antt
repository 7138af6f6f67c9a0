use Rattle.fd_core.proofs.Refusals.{refusals_activate, refusals_keep, refusals_stir}
use Rattle.fd_core.proofs.laws.refusals_change_nothing.Goals as goal

pub returns : goal.returns
returns c = record { kept = refusals_keep; activated = refusals_activate; idle = refusals_stir }
