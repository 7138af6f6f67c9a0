use Rattle.fw_steps.proofs.Cases.{agreement_sees_the_pair}
use Rattle.fw_steps.proofs.isolation.agreement_sees_the_pair.Goals as goal

pub returns : goal.returns
returns c = record { law = agreement_sees_the_pair }
