use Rattle.fw_trace.proofs.Whole.{shows_parts_law, shows_whole_law}
use Rattle.fw_trace.proofs.laws.shows_messages.Goals as goal

pub returns-clause-parts : goal.returns-clause-parts
returns-clause-parts c = shows_parts_law c.feeds_next.ensures

pub returns-clause-whole : goal.returns-clause-whole
returns-clause-whole c = shows_whole_law c.reads_back.ensures.written c.reads_back.ensures.read
