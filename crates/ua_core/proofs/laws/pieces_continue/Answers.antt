use Rattle.ua_core.proofs.Windows.{window_continues}
use Rattle.ua_core.proofs.laws.pieces_continue.Goals as goal

pub returns : goal.returns
returns c = window_continues
