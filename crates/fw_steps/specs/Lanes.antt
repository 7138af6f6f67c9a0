-- The two lanes of a link: down, in which the agent asks, and up, in which the device asks; and the
-- steps of each lane in a step of the link.
use Rattle.std.specs.Prelude.{◌≡◌, ◌⊎◌, ℕ, ◌+◌, ◌==◌, Bool, true, false, List, [], ◌∷◌, length, take, Option, Some, None}
use Rattle.std.specs.List.{AllByRecursion, filter}
use Rattle.pldm_base.specs.declared.header.PldmHead.{PldmHead}
use Rattle.fwup_wire.specs.Answers.{answer_read}
use Rattle.fwup_wire.specs.Commands.{command_bytes, command_code}
use Rattle.fwup_wire.specs.Values.{CommandOf}
use Rattle.pldm_exch.specs.Caller.{CallerState, Open, is_quiet, may_begin}
use Rattle.pldm_exch.specs.Sides.{AskerRow, AskerTick, TakerRow, asker_counts, asker_row, taker_row}
use Rattle.exch_lane.specs.Cells.{CellRun, cells_along, no_cell_yet}
use Rattle.exch_lane.specs.Clocks.{since_after}
use Rattle.exch_lane.specs.Lanes.{AreEnds, LaneEntryOf, LaneOf, IsAlive, Sent, LaneStepOf, lane_new, item_numbered}
use Rattle.exch_lane.specs.Laws.{in_lane}
use Rattle.exch_lane.specs.Steps.{MayRun, lane_run}
use Rattle.exch_lane.specs.declared.step.End.TheVariants as ends
use Rattle.fw_package.specs.Package.{PackageText}
use Rattle.fd_core.specs.Steps.{VerdictEffect, device_verdict}
use Rattle.ua_core.specs.Calls.{agent_activated}
use Rattle.ua_core.specs.Session.{SessionOf}
use Rattle.fw_message.specs.declared.side.Side.{Side}
use Rattle.fw_message.specs.declared.side.Side.TheVariants as sides
use Rattle.fw_node.specs.Agents.{half_after_activate, half_after_cancel, half_after_start}
use Rattle.fw_node.specs.Cores.{device_core, session_core}
use Rattle.fw_node.specs.Halves.{CoreOf, HalfOf, RepliedBy, read_by, half_with_core, reply_read, still_wished, unwished_abandoned}
use Rattle.mctp_wire.specs.declared.unit.Unit.{«Unit»}
use Rattle.fw_steps.specs.Links.{LinkOf, LinkStep}

-- the time, and the ticks that the half that asks and the half that answers counted since they last
-- missed one
pub record Times : Type 0 where
  pub now : ℕ
  pub asker_since_miss : ℕ
  pub taker_since_miss : ℕ

abbrev pub turned_times : Times → Times
turned_times t = record { now = t.now; asker_since_miss = t.taker_since_miss; taker_since_miss = t.asker_since_miss }

-- after a unit
abbrev pub times_after_unit : Times → (asker taker : Bool) → Times
times_after_unit t asker taker =
    record {
      now = t.now + 1;
      asker_since_miss = since_after asker t.asker_since_miss;
      taker_since_miss = since_after taker t.taker_since_miss;
    }

-- the lane in which one half asks the other
abbrev pub lane_of : {A B : Type 0} → Times → HalfOf A → HalfOf B → List Sent → List LaneEntryOf → LaneOf
lane_of t a b packets entries =
    record {
      unit = a.unit;
      asker_eid = a.own;
      taker_eid = a.peer;
      now = t.now;
      asker_since_miss = t.asker_since_miss;
      taker_since_miss = t.taker_since_miss;
      asker = a.asker;
      taker = b.taker;
      packets = packets;
      entries = entries;
    }

-- the packet is of this lane: a request from the half that asks, or a reply from the other half
abbrev pub is_of : (u : «Unit») (asker taker : ℕ) → Sent → Bool
is_of u asker taker s = in_lane u asker taker s.bytes

abbrev pub is_down : LinkOf → Sent → Bool
is_down l s = is_of l.agent.unit l.agent.own l.device.own s

abbrev pub is_up : LinkOf → Sent → Bool
is_up l s = is_of l.device.unit l.device.own l.agent.own s

-- the lane between two halves in which the first asks, with its packets among all
abbrev pub way_of : {A B : Type 0} → Times → HalfOf A → HalfOf B → List Sent → List LaneEntryOf → LaneOf
way_of t a b packets entries = lane_of t a b (filter (is_of a.unit a.own b.own) packets) entries

-- the times of a link at this moment, in the lane in which the agent asks
abbrev pub times_of : (now : ℕ) → LinkOf → Times
times_of now l = record { now = now; asker_since_miss = l.agent_since_miss; taker_since_miss = l.device_since_miss }

abbrev pub down_lane : (now : ℕ) → LinkOf → List LaneEntryOf → LaneOf
down_lane now l entries = way_of (times_of now l) l.agent l.device l.packets entries

abbrev pub up_lane : (now : ℕ) → LinkOf → List LaneEntryOf → LaneOf
up_lane now l entries = way_of (turned_times (times_of now l)) l.device l.agent l.packets entries

-- the number of a packet in its lane: the number of the lane's packets up to it
abbrev pub number_in : (Sent → Bool) → List Sent → ℕ → ℕ
number_in test packets number = length (filter test (take number packets))

-- A tick of the half that asks: the lane's tick; then, if the half hears, an open request that is
-- no longer the pending command is given up, and a pending command begins.
abbrev pub begin_steps : Bool → CommandOf → List LaneStepOf
begin_steps true c = LaneStepOf.Begin (command_code c) (command_bytes c) ∷ []
begin_steps false c = []

abbrev pub wish_steps : Option CommandOf → CallerState → List LaneStepOf
wish_steps None c = []
wish_steps (Some k) c = begin_steps (may_begin c) k

abbrev pub unless_wished : Bool → List LaneStepOf → List LaneStepOf
unless_wished true ss = ss
unless_wished false ss = LaneStepOf.Abandon ∷ ss

abbrev pub abandon_steps : Option CommandOf → Option Open → List LaneStepOf → List LaneStepOf
abandon_steps wish None ss = ss
abandon_steps wish (Some o) ss = unless_wished (still_wished wish o) ss

abbrev pub last_steps : Option CommandOf → CallerState → List LaneStepOf
last_steps wish c = abandon_steps wish c.asked (wish_steps wish (unwished_abandoned wish c))

abbrev pub hearing_steps : {C : Type 0} → Bool → CoreOf C → C → CallerState → List LaneStepOf
hearing_steps true core x c = last_steps (core.wish (core.ticked x)) c
hearing_steps false core x c = []

abbrev pub called_steps : {C : Type 0} → CoreOf C → C → AskerTick → List LaneStepOf
called_steps core x (AskerTick.Waits a) = hearing_steps (a.deaf == 0) core x a.caller
called_steps core x (AskerTick.Resends a m) = hearing_steps (a.deaf == 0) core x a.caller
called_steps core x (AskerTick.GivesUp a) = hearing_steps (a.deaf == 0) core (core.silent x) a.caller

abbrev pub counted_steps : {C : Type 0} → CoreOf C → Bool → HalfOf C → List LaneStepOf
counted_steps core true h = called_steps core h.core (asker_counts h.asker)
counted_steps core false h = []

abbrev pub tick_steps : {C : Type 0} → CoreOf C → (asker taker : Bool) → HalfOf C → List LaneStepOf
tick_steps core asker taker h = LaneStepOf.Tick asker taker ∷ counted_steps core asker h

-- A half with a new core gives up its open request if it is no longer the pending command.
abbrev pub settle_steps : {C : Type 0} → CoreOf C → (asked : Option Open) → C → List LaneStepOf
settle_steps core asked x = abandon_steps (core.wish x) asked []

-- A packet at a half, in the lane in which it answers: no steps if the packet isn't of this lane.
abbrev pub replied_by : {C : Type 0} → CoreOf C → (works : Bool) → HalfOf C → PldmHead → List ℕ → RepliedBy C
replied_by core works h head body =
    reply_read core (is_quiet h.asker.caller) works h.core (read_by core head.command body)

abbrev pub reply_in : {C : Type 0} → CoreOf C → (works : Bool) → HalfOf C → TakerRow → List ℕ
reply_in core works h (TakerRow.TakesUp requests m head body) = (replied_by core works h head body).reply
reply_in core works h row = []

abbrev pub answer_steps : {C : Type 0} → CoreOf C → (works : Bool) → HalfOf C → (mine : Bool) → (number : ℕ) → List ℕ → List LaneStepOf
answer_steps core works h true number bytes =
    LaneStepOf.Deliver number ends.Taker (reply_in core works h (taker_row h.unit h.own h.peer h.taker bytes)) ∷ []
answer_steps core works h false number bytes = []

-- A packet at a half, in the lane in which it asks: the steps for a reply, after which its core may
-- have another pending command; or no steps, but the half may take a request of the other lane,
-- after which its core may have another pending command too.
abbrev pub learn_steps : {C : Type 0} → CoreOf C → (works : Bool) → HalfOf C → AskerRow → List LaneStepOf
learn_steps core works h (AskerRow.Learns replies caller heard) =
    settle_steps core caller.asked (core.learn h.core (answer_read heard.command heard.reply) works)
learn_steps core works h (AskerRow.Ignores replies) = []

abbrev pub take_steps : {C : Type 0} → CoreOf C → (works : Bool) → HalfOf C → TakerRow → List LaneStepOf
take_steps core works h (TakerRow.TakesUp requests m head body) =
    settle_steps core h.asker.caller.asked (replied_by core works h head body).core
take_steps core works h row = []

abbrev pub ask_steps : {C : Type 0} → CoreOf C → (works : Bool) → HalfOf C → (mine : Bool) → (number : ℕ) → List ℕ → List LaneStepOf
ask_steps core works h true number bytes =
    LaneStepOf.Deliver number ends.Asker [] ∷ learn_steps core works h (asker_row h.unit h.own h.peer h.asker bytes)
ask_steps core works h false number bytes = take_steps core works h (taker_row h.unit h.own h.peer h.taker bytes)

-- A call of a half, from the half before and after it.
abbrev pub call_steps : {C : Type 0} → CoreOf C → (before after : HalfOf C) → List LaneStepOf
call_steps core before after = settle_steps core before.asker.caller.asked after.core

abbrev pub activate_steps : List PackageText → LinkOf → Option SessionOf → List LaneStepOf
activate_steps packages l None = []
activate_steps packages l (Some s) = call_steps (session_core packages) l.agent (half_after_activate packages l.agent s)

abbrev pub judge_steps : LinkOf → Option VerdictEffect → List LaneStepOf
judge_steps l None = []
judge_steps l (Some j) = call_steps device_core l.device (half_with_core device_core l.device (record { device = j.after; idle = 0 }))

-- a packet of the link is delivered to a side
abbrev pub down_packet_steps : List PackageText → LinkOf → Side → (works : Bool) → (number : ℕ) → Option Sent → List LaneStepOf
down_packet_steps packages l to works number None = []
down_packet_steps packages l sides.Agent works number (Some p) =
    ask_steps (session_core packages) true l.agent (is_down l p) (number_in (is_down l) l.packets number) p.bytes
down_packet_steps packages l sides.Device works number (Some p) =
    answer_steps device_core works l.device (is_down l p) (number_in (is_down l) l.packets number) p.bytes

abbrev pub up_packet_steps : List PackageText → LinkOf → Side → (works : Bool) → (number : ℕ) → Option Sent → List LaneStepOf
up_packet_steps packages l to works number None = []
up_packet_steps packages l sides.Agent works number (Some p) =
    answer_steps (session_core packages) true l.agent (is_up l p) (number_in (is_up l) l.packets number) p.bytes
up_packet_steps packages l sides.Device works number (Some p) =
    ask_steps device_core works l.device (is_up l p) (number_in (is_up l) l.packets number) p.bytes

-- The steps of the lane in which the agent asks, for a step of the link.
abbrev pub down_steps : List PackageText → LinkOf → LinkStep → List LaneStepOf
down_steps packages l (LinkStep.Deliver number to works) = down_packet_steps packages l to works number (item_numbered l.packets number)
down_steps packages l (LinkStep.Tick agent device) = tick_steps (session_core packages) agent device l.agent
down_steps packages l (LinkStep.Start number) = call_steps (session_core packages) l.agent (half_after_start packages l.agent number)
down_steps packages l LinkStep.Cancel = call_steps (session_core packages) l.agent (half_after_cancel packages l.agent)
down_steps packages l LinkStep.Activate = activate_steps packages l (agent_activated l.agent.core.session)
down_steps packages l (LinkStep.Judge verdict works) = []
down_steps packages l (LinkStep.Restart sides.Agent) = LaneStepOf.Restart ends.Asker ∷ []
down_steps packages l (LinkStep.Restart sides.Device) = LaneStepOf.Restart ends.Taker ∷ []

-- The steps of the lane in which the device asks.
abbrev pub up_steps : List PackageText → LinkOf → LinkStep → List LaneStepOf
up_steps packages l (LinkStep.Deliver number to works) = up_packet_steps packages l to works number (item_numbered l.packets number)
up_steps packages l (LinkStep.Tick agent device) = tick_steps device_core device agent l.device
up_steps packages l (LinkStep.Judge verdict works) = judge_steps l (device_verdict l.device.core.device verdict works)
up_steps packages l (LinkStep.Restart sides.Agent) = LaneStepOf.Restart ends.Taker ∷ []
up_steps packages l (LinkStep.Restart sides.Device) = LaneStepOf.Restart ends.Asker ∷ []
up_steps packages l s = []

-- A lane, with any history, is explained: steps from a new lane reach it, and its cell can take all
-- of them.
pub record Explained (u : «Unit») (asker taker : ℕ) (lane : List LaneEntryOf → LaneOf) : Type 0 where
  pub steps : List LaneStepOf
  pub may : MayRun (lane_new u asker taker) steps
  pub run : CellRun
  pub along : cells_along (lane_new u asker taker) steps (Some no_cell_yet) ≡ Some run
  pub is : lane_run (lane_new u asker taker) steps ≡ lane run.entries

-- A link is explained: both nodes have one transmission unit, which the agent's answers fit; both
-- of its lanes are explained; and each packet that can still be received is of one of them.
pub record LinkExplained (now : ℕ) (l : LinkOf) : Type 0 where
  pub unit : l.device.unit ≡ l.agent.unit
  pub session_unit : l.agent.core.session.unit ≡ l.agent.unit
  pub ends : AreEnds l.agent.own l.device.own
  pub agent_peer : l.agent.peer ≡ l.device.own
  pub device_peer : l.device.peer ≡ l.agent.own
  pub down : Explained l.agent.unit l.agent.own l.device.own (down_lane now l)
  pub up : Explained l.device.unit l.device.own l.agent.own (up_lane now l)
  pub packets : AllByRecursion (λ s. IsAlive now s → (is_down l s ≡ true) ⊎ (is_up l s ≡ true)) l.packets
