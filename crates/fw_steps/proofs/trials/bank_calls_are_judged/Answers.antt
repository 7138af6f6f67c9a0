use Rattle.fw_steps.proofs.CallCases.{called_banks, calling_packets, uncalling_packets}
use Rattle.fw_steps.proofs.trials.bank_calls_are_judged.Goals as goal

pub returns : goal.returns
returns c = record { packets = calling_packets; others = uncalling_packets; steps = called_banks }
