use Rattle.fw_serve.proofs.Anew.{started_anew}
use Rattle.fw_serve.proofs.process_laws.started_anew_is_absence.Goals as goal

pub returns : goal.returns
returns c = record { law = started_anew c.what_is_kept_is_resumed.ensures c.restarts_keep_no_more.ensures }
