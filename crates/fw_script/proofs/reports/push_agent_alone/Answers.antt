use Rattle.fw_text.proofs.Chains.{adds_more}
use Rattle.fw_script.specs.Reports.{agent_line}
use Rattle.fw_script.proofs.reports.push_agent_alone.Goals as goal

pub returns : goal.returns
unfolding agent_line
returns c = adds_more (rw c.is_deaf.ensures.deaf at (rw c.eid.ensures at c.in_ok-push_node.ensures)) c.in_ok-push_words.ensures
