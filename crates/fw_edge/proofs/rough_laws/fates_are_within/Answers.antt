use Rattle.fw_edge.proofs.Chances.{within}
use Rattle.fw_edge.proofs.rough_laws.fates_are_within.Goals as goal

pub returns : goal.returns
returns c = within
