-- A link's step is steps of its two lanes, each of which may be taken, so that the cell of each
-- lane takes its steps too.
use Rattle.mctp_wire.specs.declared.unit.Unit.TheVariants.{U64}
use Rattle.std.specs.Prelude.{◌≡◌, ℕ, Bool, true, List, nat_le, Some, IfSome, IsSomeAnd, is_some}
use Rattle.fwup_wire.specs.Commands.{CommandRoundTrips}
use Rattle.exch_lane.specs.Cells.{CellRun, cells_along}
use Rattle.exch_lane.specs.Lanes.{LaneEntryOf, LaneOf, IsAlive, LaneStepOf, item_numbered}
use Rattle.exch_lane.specs.Laws.{IsCellOf}
use Rattle.exch_lane.specs.Steps.{MayRun, lane_run}
use Rattle.fw_package.specs.Package.{PackageText}
use Rattle.fw_message.specs.declared.side.Side.{Side}
use Rattle.fw_message.specs.declared.side.Side.TheVariants as sides
use Rattle.fw_node.specs.Cores.{device_core, session_core}
use Rattle.fw_node.specs.Halves.{CoreOf, HalfOf, half_on_packet, half_ticks}
use Rattle.fw_node.specs.Nodes.{TakenAnswerRoundTrips}
use Rattle.fw_steps.specs.Lanes.{LinkExplained, down_lane, down_steps, up_lane, up_steps}
use Rattle.fw_steps.specs.Links.{LinkOf, LinkStep, LinkStepped, link_after, time_after}

-- The step may be taken: a packet that is delivered was sent, and lives; a tick isn't the last, and
-- a node misses it only if it counted eight since the last one it missed; and the calls are
-- allowed.
abbrev pub MayHappen : (now : ℕ) → List PackageText → LinkOf → LinkStep → Type 0
MayHappen now packages l (LinkStep.Deliver number to works) = IsSomeAnd (item_numbered l.packets number) (IsAlive now)
MayHappen now packages l s = is_some (link_after now packages l s) ≡ true

-- The facts about codecs: the answer of a core round-trips; and if a half hears after a tick, its
-- core's pending command can be encoded.
abbrev pub AnswerRoundTripsOn : List PackageText → LinkOf → Side → (works : Bool) → List ℕ → Type 0
AnswerRoundTripsOn packages l sides.Agent works bytes = TakenAnswerRoundTrips l.agent.core.session.unit (half_on_packet (session_core packages) true l.agent bytes)
AnswerRoundTripsOn packages l sides.Device works bytes = TakenAnswerRoundTrips U64 (half_on_packet device_core works l.device bytes)

abbrev pub PendingRoundTrips : {C : Type 0} → CoreOf C → HalfOf C → Type 0
PendingRoundTrips core h = nat_le h.asker.deaf 1 ≡ true → IfSome (core.wish (half_ticks core true h).half.core) CommandRoundTrips

abbrev pub LinkStepRoundTrips : List PackageText → LinkOf → LinkStep → Type 0
LinkStepRoundTrips packages l (LinkStep.Deliver number to works) = IfSome (item_numbered l.packets number) (λ p. AnswerRoundTripsOn packages l to works p.bytes)
LinkStepRoundTrips packages l (LinkStep.Tick agent device) =
    (agent ≡ true → PendingRoundTrips (session_core packages) l.agent) × (device ≡ true → PendingRoundTrips device_core l.device)
LinkStepRoundTrips packages l s = Unit {0}

-- One lane in a step of its link: the lane's steps may be taken, they give the lane after the
-- link's step, and its cell takes them too.
pub record StepsLane (before after : List LaneEntryOf → LaneOf) (steps : List LaneStepOf) (was is : CellRun) : Type 0 where
  pub may : MayRun (before was.entries) steps
  pub leads : lane_run (before was.entries) steps ≡ after is.entries
  pub along : cells_along (before was.entries) steps (Some was) ≡ Some is
  pub cell_before : IsCellOf (before was.entries) was
  pub cell_after : IsCellOf (after is.entries) is

-- The link takes the step and stays between its two nodes, it is explained again, and both of its
-- lanes take their steps.
pub record StepsInLanes (now : ℕ) (packages : List PackageText) (l : LinkOf) (s : LinkStep) (before : LinkExplained now l) : Type 0 where
  pub stepped : LinkStepped
  pub after : link_after now packages l s ≡ Some stepped
  pub agent_unit : stepped.after.agent.unit ≡ l.agent.unit
  pub device_unit : stepped.after.device.unit ≡ l.device.unit
  pub agent_own : stepped.after.agent.own ≡ l.agent.own
  pub device_own : stepped.after.device.own ≡ l.device.own
  pub explained : LinkExplained (time_after now s) stepped.after
  pub down : StepsLane (down_lane now l) (down_lane (time_after now s) stepped.after) (down_steps packages l s) before.down.run explained.down.run
  pub up : StepsLane (up_lane now l) (up_lane (time_after now s) stepped.after) (up_steps packages l s) before.up.run explained.up.run

-- This holds for every link that is explained, with any packets lost, repeated, reordered or late
-- and any nodes restarted.
abbrev pub LinksAreLanes : Type 0
LinksAreLanes =
    (now : ℕ) (packages : List PackageText) (l : LinkOf) (s : LinkStep) (before : LinkExplained now l)
    → MayHappen now packages l s → LinkStepRoundTrips packages l s
    → StepsInLanes now packages l s before
