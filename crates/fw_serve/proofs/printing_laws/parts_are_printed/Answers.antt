use Rattle.fw_serve.proofs.NothingElse.{device_only}
use Rattle.fw_serve.proofs.Parts.{agent_parts, device_parts}
use Rattle.fw_serve.proofs.printing_laws.parts_are_printed.Goals as goal

pub returns : goal.returns
returns c = record { agent = agent_parts; device = device_parts; no_other = device_only }
