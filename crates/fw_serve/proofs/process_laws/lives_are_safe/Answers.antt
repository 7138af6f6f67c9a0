use Rattle.fw_serve.proofs.Lives.{lives_are_safe}
use Rattle.fw_serve.proofs.process_laws.lives_are_safe.Goals as goal

pub returns : goal.returns
returns c = record { law = lives_are_safe c.started_anew_is_absence.ensures.law c.traces_are_safe.ensures.law }
