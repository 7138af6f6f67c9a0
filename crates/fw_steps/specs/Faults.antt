-- The names of the reasons why a step isn't taken.
use Rattle.std.specs.Prelude.{ℕ, List, codes}
use Rattle.fw_steps.specs.declared.step.Refusal.TheVariants as refusals
use Rattle.fw_steps.specs.declared.step.StepFault.{StepFault}
use Rattle.fw_steps.specs.declared.step.StepFault.TheVariants as faults

-- the name of a fault; that of a refusal ends with a colon and its reason
abbrev pub fault_name : StepFault → List ℕ
fault_name faults.NoSuchPacket = codes "NoSuchPacket"
fault_name faults.Dead = codes "Dead"
fault_name faults.NoSuchNode = codes "NoSuchNode"
fault_name (faults.Refused refusals.Busy) = codes "Refused:Busy"
fault_name (faults.Refused refusals.NotReady) = codes "Refused:NotReady"
fault_name (faults.Refused refusals.NotNow) = codes "Refused:NotNow"
fault_name (faults.Refused refusals.NoSuchPackage) = codes "Refused:NoSuchPackage"
fault_name (faults.Refused refusals.ClockEnd) = codes "Refused:ClockEnd"
fault_name (faults.Refused refusals.ClockSlow) = codes "Refused:ClockSlow"
fault_name faults.Memory = codes "Memory"
