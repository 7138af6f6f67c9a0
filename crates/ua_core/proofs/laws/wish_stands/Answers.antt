use Rattle.ua_core.proofs.Lawful.{wish_stands}
use Rattle.ua_core.proofs.laws.wish_stands.Goals as goal

pub returns : goal.returns
returns c = wish_stands
