use Rattle.fw_store.proofs.AgentBack.{agent_text_back}
use Rattle.fw_store.proofs.laws.agent_text_reads_back.Goals as goal

pub returns : goal.returns
returns c = agent_text_back
