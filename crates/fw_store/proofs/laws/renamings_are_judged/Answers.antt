use Rattle.fw_store.proofs.DiskCases.{renamings_are_judged}
use Rattle.fw_store.proofs.laws.renamings_are_judged.Goals as goal

pub returns : goal.returns
returns c = renamings_are_judged
