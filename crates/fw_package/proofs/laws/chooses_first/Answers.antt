use Rattle.fw_package.proofs.Chosen.{chooses_first}
use Rattle.fw_package.proofs.laws.chooses_first.Goals as goal

pub returns : goal.returns
returns c = chooses_first
