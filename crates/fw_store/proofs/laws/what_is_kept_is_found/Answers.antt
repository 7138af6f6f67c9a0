use Rattle.fw_store.proofs.Found.{found_again}
use Rattle.fw_store.proofs.laws.what_is_kept_is_found.Goals as goal

pub returns : goal.returns
returns c = found_again
