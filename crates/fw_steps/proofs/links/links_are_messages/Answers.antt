use Rattle.fw_steps.proofs.LinksAreMessages.Whole.{links_are_messages}
use Rattle.fw_steps.proofs.links.links_are_messages.Goals as goal

pub returns : goal.returns
returns c = record { law = links_are_messages c.commands_read_back.ensures.written }
