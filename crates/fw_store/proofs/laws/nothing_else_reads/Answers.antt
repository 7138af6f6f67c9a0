use Rattle.fw_store.proofs.ReadBack.{nothing_else}
use Rattle.fw_store.proofs.laws.nothing_else_reads.Goals as goal

pub returns : goal.returns
returns c = nothing_else
