-- The steps of the packet world: when each may be taken (`may_step`), what it makes of a world
-- (`world_after`), and runs of steps (`Run`).
--
-- This page included, it rests on 754 definitions, 2,914 lines in 83 files. To be read first, in
-- this order, with the lines that it needs of each:
-- 1. `crates/fw_steps/src/step.rt`, 25 lines: `Step`, a step; `StepFault` and `Refusal`, the
--    reasons why one isn't taken.
-- 2. `crates/fw_steps/specs/Worlds.antt`, 146 lines: `WorldOf`, a world, its parts for a device,
--    and the world after each kind of step.
-- 3. `crates/exch_lane/specs/Lanes.antt`, 7 lines: `Sent`, a packet with its date; `lives_until`,
--    8 units later. `crates/exch_lane/specs/Clocks.antt`, 5 lines: `may_beat`, a node misses a
--    tick only after eight that it counted.
-- 4. `crates/fw_steps/specs/BankCalls.antt`, 13 lines: `step_calls_bank`, whether a device calls
--    its bank in a step. `crates/fd_core/specs/Banks.antt`, 2 lines: `CountsFailure`, a bank's
--    count of failures rose, or is at its last value.
-- 5. What a node makes of a call: `crates/fw_node/specs/Nodes.antt`, 40 lines, a device's;
--    `crates/fw_node/specs/Agents.antt`, 98 lines, the agent's; `crates/fw_node/specs/Halves.antt`,
--    140 lines, either's for one peer. The standard's tables of commands:
--    `crates/fd_core/specs/Commands.antt`, 245 lines; `crates/ua_core/specs/Serve.antt`, 74 lines.
use Rattle.std.specs.Prelude.{ℕ, ◌≡◌, ◌-◌, ◌^◌, ◌==◌, ◌&&◌, ◌||◌, ◌∷◌, [], Bool, true, false, if◌then◌else◌, nat_lt, nat_le, is_some, List, length, Option, Some, None}
use Rattle.std.specs.List.{list_all}
use Rattle.exch_lane.specs.Clocks.{may_beat}
use Rattle.exch_lane.specs.Lanes.{Sent, lives_until, item_numbered}
use Rattle.fw_package.specs.Package.{PackageText}
use Rattle.fd_core.specs.Banks.{CountsFailure}
use Rattle.fd_core.specs.Steps.{device_verdict}
use Rattle.fd_core.specs.declared.states.Verdict.{Verdict}
use Rattle.ua_core.specs.Session.{SessionOf}
use Rattle.fw_node.specs.Agents.{half_after_cancel, free_for, half_for, ready_for, half_after_start}
use Rattle.fw_steps.specs.BankCalls.{step_calls_bank}
use Rattle.fw_steps.specs.Worlds.{SiteOf, WorldOf, activates_on, world_after_log_request, world_after_call, counts, world_after_deliver, world_after_verdict, packets_of, place_of, world_after_restart, site_for, world_after_tick}
use Rattle.fw_steps.specs.declared.step.Refusal.TheVariants as refusals
use Rattle.fw_steps.specs.declared.step.Step.{Step}
use Rattle.fw_steps.specs.declared.step.Step.TheVariants as steps
use Rattle.fw_steps.specs.declared.step.StepFault.{StepFault}
use Rattle.fw_steps.specs.declared.step.StepFault.TheVariants as faults

-- THE STEPS THAT MAY BE TAKEN

-- the world has this device, and this node
abbrev pub is_device : WorldOf → ℕ → Bool
is_device w eid = is_some (site_for w.sites eid)

abbrev pub is_node : WorldOf → ℕ → Bool
is_node w eid = (eid == w.agent.endpoint.eid) || is_device w eid

-- the agent has a session with this device
abbrev pub has_session : WorldOf → ℕ → Bool
has_session w eid = is_some (half_for w.agent eid)

-- `NoSuchNode` if the node isn't known, else this fault
abbrev pub where_known : Bool → Option StepFault → Option StepFault
where_known true fault = fault
where_known false fault = Some faults.NoSuchNode

-- a packet may be delivered as long as it lives
abbrev pub packet_fault : ℕ → Option Sent → Option StepFault
packet_fault now None = Some faults.NoSuchPacket
packet_fault now (Some p) = if nat_lt (lives_until p) now then Some faults.Dead else None

-- the number of a package, from 1
abbrev pub is_package : List PackageText → ℕ → Bool
is_package packages number = nat_lt 0 number && nat_le number (length packages)

-- a Start for a session that is missing, that isn't free, or that is free
abbrev pub start_fault : (has_package : Bool) → Option Bool → Option StepFault
start_fault has_package None = Some faults.NoSuchNode
start_fault false (Some free) = Some (faults.Refused refusals.NoSuchPackage)
start_fault true (Some false) = Some (faults.Refused refusals.Busy)
start_fault true (Some true) = None

abbrev pub ready_fault : Option SessionOf → Option StepFault
ready_fault None = Some (faults.Refused refusals.NotReady)
ready_fault (Some s) = None

abbrev pub verdict_fault : Verdict → Option SiteOf → Option StepFault
verdict_fault verdict None = Some faults.NoSuchNode
verdict_fault verdict (Some x) =
    if is_some (device_verdict x.node.half.core.device verdict true) then None else Some (faults.Refused refusals.NotNow)

-- A node misses a tick only if it has counted eight since the last one it missed.
abbrev pub may_site_beat : (missed : List ℕ) → SiteOf → Bool
may_site_beat missed x = may_beat (counts missed x.node.endpoint.eid) x.since_miss

abbrev pub may_all_beat : (missed : List ℕ) → WorldOf → Bool
may_all_beat missed w = may_beat (counts missed w.agent.endpoint.eid) w.since_miss && list_all (may_site_beat missed) w.sites

-- the fault of a tick; none if the nodes that miss it are known, the clock isn't at its end, and
-- each of these nodes may miss it
abbrev pub tick_fault : (known soon may : Bool) → Option StepFault
tick_fault false soon may = Some faults.NoSuchNode
tick_fault true false may = Some (faults.Refused refusals.ClockEnd)
tick_fault true true false = Some (faults.Refused refusals.ClockSlow)
tick_fault true true true = None

-- The reason why a step may not be taken, or none if it may.
abbrev pub may_step : WorldOf → Step → Option StepFault
may_step w (steps.Deliver device number node) =
    where_known (is_device w device && is_node w node) (packet_fault w.now (item_numbered (packets_of w device) number))
may_step w (steps.Tick missed) = tick_fault (list_all (is_node w) missed.items) (nat_lt w.now (2 ^ 32 - 1)) (may_all_beat missed.items w)
may_step w (steps.Start device number) = start_fault (is_package w.packages number) (free_for w.agent device)
may_step w (steps.Cancel device) = where_known (has_session w device) None
may_step w (steps.Activate device) = where_known (has_session w device) (ready_fault (ready_for w.agent device))
may_step w (steps.Verdict device verdict) = verdict_fault verdict (site_for w.sites device)
may_step w (steps.Restart node) = where_known (is_node w node) None
may_step w (steps.Sel bytes) = None

-- THE WORLD AFTER A STEP

-- The world after a step. `works` says whether the one call of a bank that the step makes succeeds,
-- and `faults` is that bank's count of failures after it.
abbrev pub world_after : (works : Bool) → (faults : ℕ) → WorldOf → Step → WorldOf
world_after works faults w (steps.Deliver device number node) =
    world_after_deliver works faults w node (item_numbered (packets_of w device) number)
world_after works faults w (steps.Tick missed) = world_after_tick missed.items w
world_after works faults w (steps.Start device number) = world_after_call w device (λ h. half_after_start w.packages h number)
world_after works faults w (steps.Cancel device) = world_after_call w device (half_after_cancel w.packages)
world_after works faults w (steps.Activate device) =
    activates_on w device (ready_for w.agent device)
world_after works faults w (steps.Verdict device verdict) =
    world_after_verdict works faults w verdict (place_of w.sites device) (site_for w.sites device)
world_after works faults w (steps.Restart node) = world_after_restart w node
world_after works faults w (steps.Sel bytes) = world_after_log_request w bytes.items

-- the bank's count of failures of the device that a step is for
abbrev pub faults_of : Option SiteOf → ℕ
faults_of None = 0
faults_of (Some x) = x.node.faults

-- the node of a step
abbrev pub node_of : Step → ℕ
node_of (steps.Deliver device number node) = node
node_of (steps.Tick missed) = 0
node_of (steps.Start device number) = device
node_of (steps.Cancel device) = device
node_of (steps.Activate device) = device
node_of (steps.Verdict device verdict) = device
node_of (steps.Restart node) = node
node_of (steps.Sel bytes) = 0

abbrev pub faults_before : WorldOf → Step → ℕ
faults_before w s = faults_of (site_for w.sites (node_of s))

-- A RUN

-- A step from one world to another: it may be taken, and a call of a bank fails only if the step
-- has a device call its bank, and only if that bank counts the failure.
pub record StepsTo (w : WorldOf) (s : Step) (v : WorldOf) : Type 0 where
  pub may : may_step w s ≡ None
  pub works : Bool
  pub faults : ℕ
  pub after : v ≡ world_after works faults w s
  pub worked : works ≡ true → faults ≡ faults_before w s
  pub failed : works ≡ false → CountsFailure (faults_before w s) faults
  pub called : works ≡ false → step_calls_bank w s ≡ true

-- each step is taken in the world after the step before it
abbrev pub Run : WorldOf → List Step → WorldOf → Type 0
Run w [] v = v ≡ w
Run w (s ∷ ss) v = (mid : WorldOf) × StepsTo w s mid × Run mid ss v

-- some steps reach this world
pub record IsAfterSteps (w v : WorldOf) : Type 0 where
  pub steps : List Step
  pub run : Run w steps v
