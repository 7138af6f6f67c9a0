use Rattle.fw_serve.proofs.TracedAgent.{agents_act}
use Rattle.fw_serve.proofs.process_laws.agents_act.Goals as goal

pub returns : goal.returns
returns c = record { law = agents_act }
