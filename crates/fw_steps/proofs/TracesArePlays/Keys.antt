-- The key of an act, by which a trace is sorted: the ticks to a unit come first, then all other
-- acts in that unit.
use Rattle.std.proofs.Common.{◌≡◌, ◌+◌, ◌*◌, ◌≤◌, ℕ, Option, Some, None, refl, arith}
use Rattle.fw_steps.specs.Plays.{DeviceProcess}
use Rattle.fw_steps.specs.Traces.{Act, AgentAct, DeviceAct, ProcessesOf, agent_unit_after, device_unit_after}

-- An even key is a tick's, to half of it. An odd key is another act's.
pub agent_key : ℕ → AgentAct → ℕ
agent_key unit AgentAct.Ticks = 2 * (unit + 1)
agent_key unit (AgentAct.Receives device stamp bytes) = 2 * unit + 1
agent_key unit (AgentAct.Starts device number) = 2 * unit + 1
agent_key unit (AgentAct.Cancels device) = 2 * unit + 1
agent_key unit (AgentAct.Activates device) = 2 * unit + 1
agent_key unit (AgentAct.AsksLog bytes) = 2 * unit + 1
agent_key unit AgentAct.Restarts = 2 * unit + 1

pub device_key : ℕ → DeviceAct → ℕ
device_key unit DeviceAct.Ticks = 2 * (unit + 1)
device_key unit (DeviceAct.Receives works faults stamp bytes) = 2 * unit + 1
device_key unit (DeviceAct.Judges works faults verdict) = 2 * unit + 1
device_key unit DeviceAct.Restarts = 2 * unit + 1

abbrev pub key_in : Option DeviceProcess → DeviceAct → ℕ
key_in None d = 0
key_in (Some q) d = device_key q.unit d

abbrev pub key_of : ProcessesOf → Act → ℕ
key_of ps (Act.OfAgent d) = agent_key ps.agent.unit d
key_of ps (Act.OfDevice device d) = key_in (ps.device device) d

-- A key lies within the units before and after its act.
pub agent_least : (unit : ℕ) (d : AgentAct) → 2 * unit + 1 ≤ agent_key unit d
unfolding agent_key
agent_least unit AgentAct.Ticks = omega arith
agent_least unit (AgentAct.Receives device stamp bytes) = omega arith
agent_least unit (AgentAct.Starts device number) = omega arith
agent_least unit (AgentAct.Cancels device) = omega arith
agent_least unit (AgentAct.Activates device) = omega arith
agent_least unit (AgentAct.AsksLog bytes) = omega arith
agent_least unit AgentAct.Restarts = omega arith

pub agent_most : (unit : ℕ) (d : AgentAct) → agent_key unit d ≤ 2 * agent_unit_after unit d + 1
unfolding agent_key
agent_most unit AgentAct.Ticks = omega arith
agent_most unit (AgentAct.Receives device stamp bytes) = omega arith
agent_most unit (AgentAct.Starts device number) = omega arith
agent_most unit (AgentAct.Cancels device) = omega arith
agent_most unit (AgentAct.Activates device) = omega arith
agent_most unit (AgentAct.AsksLog bytes) = omega arith
agent_most unit AgentAct.Restarts = omega arith

pub device_least : (unit : ℕ) (d : DeviceAct) → 2 * unit + 1 ≤ device_key unit d
unfolding device_key
device_least unit DeviceAct.Ticks = omega arith
device_least unit (DeviceAct.Receives works faults stamp bytes) = omega arith
device_least unit (DeviceAct.Judges works faults verdict) = omega arith
device_least unit DeviceAct.Restarts = omega arith

pub device_most : (unit : ℕ) (d : DeviceAct) → device_key unit d ≤ 2 * device_unit_after unit d + 1
unfolding device_key
device_most unit DeviceAct.Ticks = omega arith
device_most unit (DeviceAct.Receives works faults stamp bytes) = omega arith
device_most unit (DeviceAct.Judges works faults verdict) = omega arith
device_most unit DeviceAct.Restarts = omega arith

-- every act but a tick
abbrev pub IsOther : AgentAct → Type 0
IsOther AgentAct.Ticks = ⊥
IsOther d = Unit {0}

abbrev pub IsOtherOf : DeviceAct → Type 0
IsOtherOf DeviceAct.Ticks = ⊥
IsOtherOf d = Unit {0}

pub other_key : (unit : ℕ) (d : AgentAct) → IsOther d → agent_key unit d ≡ 2 * unit + 1
unfolding agent_key
other_key unit AgentAct.Ticks o = absurd o
other_key unit (AgentAct.Receives device stamp bytes) o = refl
other_key unit (AgentAct.Starts device number) o = refl
other_key unit (AgentAct.Cancels device) o = refl
other_key unit (AgentAct.Activates device) o = refl
other_key unit (AgentAct.AsksLog bytes) o = refl
other_key unit AgentAct.Restarts o = refl

pub other_device_key : (unit : ℕ) (d : DeviceAct) → IsOtherOf d → device_key unit d ≡ 2 * unit + 1
unfolding device_key
other_device_key unit DeviceAct.Ticks o = absurd o
other_device_key unit (DeviceAct.Receives works faults stamp bytes) o = refl
other_device_key unit (DeviceAct.Judges works faults verdict) o = refl
other_device_key unit DeviceAct.Restarts o = refl

pub tick_key : (unit : ℕ) → agent_key unit AgentAct.Ticks ≡ 2 * (unit + 1)
unfolding agent_key
tick_key unit = refl

pub device_tick_key : (unit : ℕ) → device_key unit DeviceAct.Ticks ≡ 2 * (unit + 1)
unfolding device_key
device_tick_key unit = refl
