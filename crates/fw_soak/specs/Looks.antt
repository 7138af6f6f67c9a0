-- What a run looks up in its world: the next packet of a pair, the state of a session, and the
-- steps that are due for a device.
use Rattle.std.specs.Prelude.{ℕ, ◌+◌, ◌-◌, ◌^◌, ◌==◌, Bool, true, false, if◌then◌else◌, is_some, min, option_map, slice_get, Option, Some, None}
use Rattle.fd_core.specs.declared.states.Verdict.{Verdict}
use Rattle.fd_core.specs.declared.states.Verdict.TheVariants as verdicts
use Rattle.exch_lane.specs.Lanes.{Sent}
use Rattle.ua_core.specs.Session.{TimedOf, state_of}
use Rattle.ua_core.specs.declared.state.SessionState.{SessionState}
use Rattle.ua_core.specs.declared.state.SessionState.TheVariants as states
use Rattle.fw_node.specs.Agents.{half_for}
use Rattle.fw_node.specs.Halves.{HalfOf}
use Rattle.fw_steps.specs.Worlds.{SiteOf, WorldOf}
use Rattle.fw_steps.specs.declared.step.Step.{Step}
use Rattle.fw_steps.specs.declared.step.Step.TheVariants as steps
use Rattle.rand_pcg.specs.Lcg.{Lcg}
use Rattle.fw_edge.specs.Fates.{word_after}
use Rattle.fw_edge.specs.Turns.{awaited_in}
use Rattle.fw_soak.specs.Chances.{drawn_verdict}
use Rattle.fw_soak.specs.declared.traffic.Arrival.{Arrival}

-- the node that receives a packet: the agent if the packet's destination is the agent, else the
-- device of the pair
abbrev pub receiver_by : (agent device : ℕ) → (dest : Option ℕ) → ℕ
receiver_by agent device None = device
receiver_by agent device (Some dest) = if dest == agent then agent else device

-- the packet of a device's pair after the first `met`; its number counts from 1
abbrev pub arrival_of : (agent device met : ℕ) → Sent → Arrival
arrival_of agent device met p = record { pair = device; number = min (met + 1) (2 ^ 64 - 1); node = receiver_by agent device (slice_get p.bytes 1) }

abbrev pub arrival_in : (agent met : ℕ) → Option SiteOf → Option Arrival
arrival_in agent met None = None
arrival_in agent met (Some x) = option_map (arrival_of agent x.node.endpoint.eid met) (slice_get x.packets met)

-- the packet of the pair at a place after the first `met`, if it was sent
abbrev pub next_arrival : WorldOf → (place met : ℕ) → Option Arrival
next_arrival w place met = arrival_in w.agent.endpoint.eid met (slice_get w.sites place)

-- the session with the device at a place is idle
abbrev pub is_idle_state : SessionState → Bool
is_idle_state states.Idle = true
is_idle_state state = false

abbrev pub is_idle_half : Option (HalfOf TimedOf) → Bool
is_idle_half None = false
is_idle_half (Some h) = is_idle_state (state_of h.core.session.stage)

abbrev pub is_idle_at : WorldOf → Option SiteOf → Bool
is_idle_at w None = false
is_idle_at w (Some x) = is_idle_half (half_for w.agent x.node.endpoint.eid)

-- the failure in place of a success
abbrev pub bad_for : Verdict → Verdict
bad_for verdicts.VerifyOk = verdicts.VerifyFail
bad_for verdicts.ApplyOk = verdicts.ApplyFail
bad_for verdict = verdict

-- the verdict that the device at a place waits for, a failure at random
abbrev pub verdict_by : (device : ℕ) → (awaited : Option Verdict) → Lcg → Option Step
verdict_by device None g = None
verdict_by device (Some v) g = Some (steps.Verdict device (drawn_verdict v (bad_for v) g))

abbrev pub verdict_at : Option SiteOf → Lcg → Option Step
verdict_at None g = None
verdict_at (Some x) g = verdict_by x.node.endpoint.eid (awaited_in (Some x)) g

-- the generator after it
abbrev pub generator_after_verdict : Option SiteOf → Lcg → Lcg
generator_after_verdict x g = if is_some (awaited_in x) then word_after g else g
