use Rattle.fw_store.proofs.ReadBack.{written_is_read}
use Rattle.fw_store.proofs.laws.active_reads_back.Goals as goal

pub returns : goal.returns
returns c = written_is_read
