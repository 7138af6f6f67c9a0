use Rattle.fw_serve.proofs.Lives.{lives_act, lives_end}
use Rattle.fw_serve.proofs.process_laws.lives_act.Goals as goal

pub returns : goal.returns
returns c = record { law = lives_act; end = lives_end c.started_anew_is_absence.ensures.law }
