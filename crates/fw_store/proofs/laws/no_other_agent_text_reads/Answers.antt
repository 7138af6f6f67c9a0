use Rattle.fw_store.proofs.AgentBack.{no_other_text}
use Rattle.fw_store.proofs.laws.no_other_agent_text_reads.Goals as goal

pub returns : goal.returns
returns c = no_other_text
