-- A link: the agent's half for a device, the device's half for the agent, and every packet sent
-- between them. A step of the world for one device is a step of its link, without control and base
-- messages and the event log.
use Rattle.std.specs.Prelude.{ℕ, ◌+◌, ◌-◌, ◌^◌, ◌&&◌, Bool, true, if◌then◌else◌, nat_lt, List, [], ◌∷◌, ◌++◌, map, Option, Some, None}
use Rattle.mctp_reasm.specs.Pieces.{MessageOf}
use Rattle.pldm_exch.specs.Caller.{is_quiet}
use Rattle.exch_lane.specs.Clocks.{may_beat, since_after}
use Rattle.exch_lane.specs.Lanes.{Sent, lives_until, item_numbered}
use Rattle.exch_lane.specs.Steps.{packets_of_message}
use Rattle.fw_package.specs.Package.{PackageText}
use Rattle.fd_core.specs.Commands.{device_take}
use Rattle.fd_core.specs.Steps.{VerdictEffect, device_verdict}
use Rattle.fd_core.specs.declared.states.Verdict.{Verdict}
use Rattle.ua_core.specs.Calls.{agent_activated}
use Rattle.ua_core.specs.Serve.{recorded_by}
use Rattle.ua_core.specs.Session.{SessionOf, TimedOf}
use Rattle.fw_message.specs.Headline.{EntryOf}
use Rattle.fw_message.specs.Pairs.{may_start}
use Rattle.fw_message.specs.declared.side.Side.{Side}
use Rattle.fw_message.specs.declared.side.Side.TheVariants as sides
use Rattle.fw_node.specs.Agents.{half_after_activate, half_after_cancel, half_after_start}
use Rattle.fw_node.specs.Cores.{TimedDevice, device_core, package_of, session_core}
use Rattle.mctp_wire.specs.declared.unit.Unit.{«Unit»}
use Rattle.fw_node.specs.Halves.{HalfOutcome, HalfOf, half_on_packet, half_restarts, half_ticks, half_with_core}

-- both halves, the packets, dated, in the order of sending, and the ticks that each node counted
-- since it last missed one
pub record LinkOf : Type 0 where
  pub agent : HalfOf TimedOf
  pub device : HalfOf TimedDevice
  pub packets : List Sent
  pub agent_since_miss : ℕ
  pub device_since_miss : ℕ

-- A step of a link. `works` says whether the one call of its bank that the step makes succeeds. A
-- tick has a flag for each of the two nodes: whether it counts the tick.
pub data LinkStep : Type 0 where
  Deliver : (number : ℕ) → (to : Side) → (works : Bool) → LinkStep
  Tick : (agent device : Bool) → LinkStep
  Start : (number : ℕ) → LinkStep
  Cancel : LinkStep
  Activate : LinkStep
  Judge : (verdict : Verdict) → (works : Bool) → LinkStep
  Restart : (side : Side) → LinkStep

-- a link after a step, and the entries of its device
pub record LinkStepped : Type 0 where
  pub after : LinkOf
  pub noted : List EntryOf

-- packets with those of these messages appended, cut at this transmission unit
abbrev pub packets_with_messages : «Unit» → (now : ℕ) → List Sent → List MessageOf → List Sent
packets_with_messages u now ps [] = ps
packets_with_messages u now ps (m ∷ ms) = packets_with_messages u now (ps ++ packets_of_message u now m) ms

-- a step without entries of the device
abbrev pub link_step_without_entries : LinkOf → LinkStepped
link_step_without_entries l = record { after = l; noted = [] }

-- the step for an outcome of the agent's half; a control message or a message of another PLDM type
-- isn't sent on a link
abbrev pub link_step_of_agent : (now : ℕ) → List PackageText → LinkOf → HalfOutcome TimedOf → Option LinkStepped
link_step_of_agent now packages l (HalfOutcome.Went half sent) =
    Some (link_step_without_entries (record l { agent = half; packets = packets_with_messages l.agent.unit now l.packets sent }))
link_step_of_agent now packages l (HalfOutcome.Took half sent command answer) =
    Some (record {
      after = record l { agent = half; packets = packets_with_messages l.agent.unit now l.packets sent };
      noted = map EntryOf.Recording (recorded_by (package_of packages l.agent.core.session) l.agent.core.session command);
    })
link_step_of_agent now packages l heard = None

-- the step for an outcome of the device's half
abbrev pub link_step_of_device : (now : ℕ) → Bool → LinkOf → HalfOutcome TimedDevice → Option LinkStepped
link_step_of_device now works l (HalfOutcome.Went half sent) =
    Some (link_step_without_entries (record l { device = half; packets = packets_with_messages l.device.unit now l.packets sent }))
link_step_of_device now works l (HalfOutcome.Took half sent command answer) =
    Some (record {
      after = record l { device = half; packets = packets_with_messages l.device.unit now l.packets sent };
      noted = map EntryOf.Activated (device_take l.device.core.device command (is_quiet l.device.asker.caller) works).activated;
    })
link_step_of_device now works l heard = None

-- one of the halves handles these bytes
abbrev pub link_step_of_packet : (now : ℕ) → List PackageText → LinkOf → Side → Bool → List ℕ → Option LinkStepped
link_step_of_packet now packages l sides.Agent works bytes = link_step_of_agent now packages l (half_on_packet (session_core packages) true l.agent bytes)
link_step_of_packet now packages l sides.Device works bytes = link_step_of_device now works l (half_on_packet device_core works l.device bytes)

-- a packet is delivered as long as it lives
abbrev pub delivers_on : (now : ℕ) → List PackageText → LinkOf → Side → Bool → Option Sent → Option LinkStepped
delivers_on now packages l to works None = None
delivers_on now packages l to works (Some p) =
    if nat_lt (lives_until p) now then None else link_step_of_packet now packages l to works p.bytes

-- both tick, and the packets that they send are dated with the new time, the agent's before the
-- device's
abbrev pub link_ticks : (now : ℕ) → List PackageText → LinkOf → (agent device : Bool) → LinkOf
link_ticks now packages l agent device =
    record {
      agent = (half_ticks (session_core packages) agent l.agent).half;
      device = (half_ticks device_core device l.device).half;
      packets = packets_with_messages l.device.unit (now + 1)
          (packets_with_messages l.agent.unit (now + 1) l.packets (half_ticks (session_core packages) agent l.agent).sent)
          (half_ticks device_core device l.device).sent;
      agent_since_miss = since_after agent l.agent_since_miss;
      device_since_miss = since_after device l.device_since_miss;
    }

abbrev pub activates_on : List PackageText → LinkOf → Option SessionOf → Option LinkStepped
activates_on packages l None = None
activates_on packages l (Some s) = Some (link_step_without_entries (record l { agent = half_after_activate packages l.agent s }))

abbrev pub link_step_of_verdict : LinkOf → Option VerdictEffect → Option LinkStepped
link_step_of_verdict l None = None
link_step_of_verdict l (Some j) =
    Some (record {
      after = record l { device = half_with_core device_core l.device (record { device = j.after; idle = 0 }) };
      noted = map EntryOf.Applied j.applied;
    })

-- A step of a link at this time, if it may be taken.
abbrev pub link_after : (now : ℕ) → List PackageText → LinkOf → LinkStep → Option LinkStepped
link_after now packages l (LinkStep.Deliver number to works) =
    delivers_on now packages l to works (item_numbered l.packets number)
link_after now packages l (LinkStep.Tick agent device) =
    if nat_lt now (2 ^ 32 - 1) && (may_beat agent l.agent_since_miss && may_beat device l.device_since_miss) then
    Some (link_step_without_entries (link_ticks now packages l agent device))
    else None
link_after now packages l (LinkStep.Start number) =
    if may_start packages l.agent.core.session number then
    Some (link_step_without_entries (record l { agent = half_after_start packages l.agent number }))
    else None
link_after now packages l LinkStep.Cancel = Some (link_step_without_entries (record l { agent = half_after_cancel packages l.agent }))
link_after now packages l LinkStep.Activate = activates_on packages l (agent_activated l.agent.core.session)
link_after now packages l (LinkStep.Judge verdict works) =
    link_step_of_verdict l (device_verdict l.device.core.device verdict works)
link_after now packages l (LinkStep.Restart sides.Agent) =
    Some (link_step_without_entries (record l { agent = half_restarts (session_core packages) l.agent }))
link_after now packages l (LinkStep.Restart sides.Device) =
    Some (link_step_without_entries (record l { device = half_restarts device_core l.device }))

-- the time after the step
abbrev pub time_after : (now : ℕ) → LinkStep → ℕ
time_after now (LinkStep.Tick agent device) = now + 1
time_after now s = now
