-- An act as a step of a play: its process has the call of the act, and the others have none.
use Rattle.std.proofs.Common.{◌≡◌, ◌==◌, ◌++◌, ℕ, false, List, [], refl, append-nil}
use Rattle.fw_package.specs.Package.{PackageText}
use Rattle.fw_steps.specs.Plays.{AgentProcess, DeviceProcess, PlayStep, agent_process_after_step, device_process_after_step}
use Rattle.fw_steps.specs.Traces.{AgentAct, DeviceAct, agent_process_after_act, device_process_after_act}
use Rattle.fw_steps.proofs.Leading.{equals}
use Rattle.fw_steps.proofs.TracesArePlays.Keys.{IsOther, IsOtherOf}

abbrev pub agent_happens : AgentAct → PlayStep
agent_happens AgentAct.Ticks = PlayStep.UnitPasses
agent_happens (AgentAct.Receives device stamp bytes) = PlayStep.AgentReceives device stamp bytes
agent_happens (AgentAct.Starts device number) = PlayStep.Starts device number
agent_happens (AgentAct.Cancels device) = PlayStep.Cancels device
agent_happens (AgentAct.Activates device) = PlayStep.Activates device
agent_happens (AgentAct.AsksLog bytes) = PlayStep.AsksLog bytes
agent_happens AgentAct.Restarts = PlayStep.AgentRestarts

abbrev pub device_happens : ℕ → DeviceAct → PlayStep
device_happens device DeviceAct.Ticks = PlayStep.UnitPasses
device_happens device (DeviceAct.Receives works faults stamp bytes) = PlayStep.DeviceReceives device works faults stamp bytes
device_happens device (DeviceAct.Judges works faults verdict) = PlayStep.Judges device works faults verdict
device_happens device DeviceAct.Restarts = PlayStep.DeviceRestarts device

pub agent_same : (packages : List PackageText) (p : AgentProcess) (d : AgentAct) → agent_process_after_step packages p (agent_happens d) ≡ agent_process_after_act packages p d
agent_same packages p AgentAct.Ticks = refl
agent_same packages p (AgentAct.Receives device stamp bytes) = refl
agent_same packages p (AgentAct.Starts device number) = refl
agent_same packages p (AgentAct.Cancels device) = refl
agent_same packages p (AgentAct.Activates device) = refl
agent_same packages p (AgentAct.AsksLog bytes) = refl
agent_same packages p AgentAct.Restarts = refl

nothing_sent : (q : DeviceProcess) → ◌≡◌ {A = DeviceProcess} (record { unit = q.unit; node = q.node; sent = q.sent ++ [] }) q
nothing_sent q = λ i. record { unit = q.unit; node = q.node; sent = append-nil q.sent i }

pub device_still : (eid : ℕ) (q : DeviceProcess) (d : AgentAct) → IsOther d → device_process_after_step eid q (agent_happens d) ≡ q
device_still eid q AgentAct.Ticks o = absurd o
device_still eid q (AgentAct.Receives device stamp bytes) o = nothing_sent q
device_still eid q (AgentAct.Starts device number) o = nothing_sent q
device_still eid q (AgentAct.Cancels device) o = nothing_sent q
device_still eid q (AgentAct.Activates device) o = nothing_sent q
device_still eid q (AgentAct.AsksLog bytes) o = nothing_sent q
device_still eid q AgentAct.Restarts o = nothing_sent q

pub device_same : (eid : ℕ) (q : DeviceProcess) (d : DeviceAct) → device_process_after_step eid q (device_happens eid d) ≡ device_process_after_act d q
device_same eid q DeviceAct.Ticks = refl
device_same eid q (DeviceAct.Receives works faults stamp bytes) = rw (equals eid eid refl) refl
device_same eid q (DeviceAct.Judges works faults verdict) = rw (equals eid eid refl) refl
device_same eid q DeviceAct.Restarts = rw (equals eid eid refl) refl

pub device_far : (device eid : ℕ) (q : DeviceProcess) (d : DeviceAct) → IsOtherOf d → (device == eid) ≡ false → device_process_after_step eid q (device_happens device d) ≡ q
device_far device eid q DeviceAct.Ticks o far = absurd o
device_far device eid q (DeviceAct.Receives works faults stamp bytes) o far = rw far (nothing_sent q)
device_far device eid q (DeviceAct.Judges works faults verdict) o far = rw far (nothing_sent q)
device_far device eid q DeviceAct.Restarts o far = rw far (nothing_sent q)

agent_nothing_sent : (p : AgentProcess) → ◌≡◌ {A = AgentProcess} (record { unit = p.unit; node = p.node; sent = p.sent ++ [] }) p
agent_nothing_sent p = λ i. record { unit = p.unit; node = p.node; sent = append-nil p.sent i }

pub agent_still : (packages : List PackageText) (p : AgentProcess) (device : ℕ) (d : DeviceAct) → IsOtherOf d → agent_process_after_step packages p (device_happens device d) ≡ p
agent_still packages p device DeviceAct.Ticks o = absurd o
agent_still packages p device (DeviceAct.Receives works faults stamp bytes) o = agent_nothing_sent p
agent_still packages p device (DeviceAct.Judges works faults verdict) o = agent_nothing_sent p
agent_still packages p device DeviceAct.Restarts o = agent_nothing_sent p
