use Rattle.mctp_front.proofs.Passing.{passes_others, passes_parts, passes_updates}
use Rattle.mctp_front.proofs.laws.passes_to_the_node.Goals as goal

pub returns-clause-others : goal.returns-clause-others
returns-clause-others c = passes_others

pub returns-clause-parts : goal.returns-clause-parts
returns-clause-parts c = passes_parts

pub returns-clause-updates : goal.returns-clause-updates
returns-clause-updates c = passes_updates
