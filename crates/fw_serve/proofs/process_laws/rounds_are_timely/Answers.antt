use Rattle.fw_serve.proofs.TracedDeeds.{rounds_are_timely}
use Rattle.fw_serve.proofs.process_laws.rounds_are_timely.Goals as goal

pub returns : goal.returns
returns c = record { law = rounds_are_timely }
