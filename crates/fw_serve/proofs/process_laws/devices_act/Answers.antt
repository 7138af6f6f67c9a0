use Rattle.fw_serve.proofs.TracedDevices.{devices_act}
use Rattle.fw_serve.proofs.process_laws.devices_act.Goals as goal

pub returns : goal.returns
returns c = record { law = devices_act }
