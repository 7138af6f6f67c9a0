use Rattle.fw_steps.proofs.Spans.{starts_behind}
use Rattle.fw_steps.proofs.packets.start_at.Goals as goal

pub returns : goal.returns
returns c = starts_behind c.args.start c.args.places.now c.args.count _ c.if-count-eq0.false c.requires
