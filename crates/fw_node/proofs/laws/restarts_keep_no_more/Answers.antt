use Rattle.fw_node.proofs.Resumed.{restart_keeps}
use Rattle.fw_node.proofs.laws.restarts_keep_no_more.Goals as goal

pub returns : goal.returns
returns c = restart_keeps
