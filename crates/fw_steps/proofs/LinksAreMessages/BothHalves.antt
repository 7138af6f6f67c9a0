-- A link and its pair, half by half; and a tick of the link.
use Rattle.std.proofs.Common.{◌≡◌, ℕ, Bool, true, false, List, Option, Some, refl, sym, subst}
use Rattle.std.specs.Option.{option_map}
use Rattle.pldm_exch.specs.Caller.{request_of_open, is_quiet}
use Rattle.exch_lane.specs.Cells.{Cell, CellRun, cells_along}
use Rattle.exch_lane.specs.Lanes.{LaneStepOf}
use Rattle.exch_lane.specs.Lanes.{LaneEntryOf as LaneEntry}
use Rattle.exch_lane.specs.Laws.{awaited_request}
use Rattle.exch_lane.specs.Steps.{lane_after}
use Rattle.fw_package.specs.Package.{PackageText}
use Rattle.fwup_wire.specs.Laws.{WritesCommands}
use Rattle.fd_core.specs.Wishes.{device_wish}
use Rattle.fw_message.specs.Pairs.{CellContentOf, PairOf, down_wish}
use Rattle.fw_node.specs.Cores.{device_core, session_core}
use Rattle.fw_node.specs.Halves.{half_ticks}
use Rattle.fw_steps.specs.Joins.{IsWishedIn, LinkMatchesPair}
use Rattle.fw_steps.specs.Lanes.{down_lane, tick_steps, up_lane}
use Rattle.fw_steps.specs.LinksAreLanes.{PendingRoundTrips}
use Rattle.fw_steps.specs.Links.{LinkOf, LinkStepped, link_ticks, link_step_without_entries}
use Rattle.fw_steps.proofs.LinksAreMessages.AgentSide.{agent_place, agent_side}
use Rattle.fw_steps.proofs.LinksAreMessages.DeviceSide.{device_side}
use Rattle.fw_steps.proofs.LinksAreMessages.Holding.{Holds}
use Rattle.fw_steps.proofs.LinksAreMessages.Rows.{ticks_deaf}
use Rattle.fw_steps.proofs.LinksAreMessages.Sides.{PairLeads, leads_on}
use Rattle.fw_steps.proofs.LinksAreMessages.Ticks.{half_ticks_on}

-- both halves of a link, with their cells and those of a pair
pub record BothHold (packages : List PackageText) (l : LinkOf) (down_cell up_cell : Cell) (down up : Option CellContentOf) : Type 0 where
  pub agent : Holds (session_core packages) false l.agent.core down_cell down
  pub device : Holds device_core true l.device.core up_cell up
  pub agent_deaf : l.agent.asker.deaf ≡ l.agent.taker.deaf
  pub device_deaf : l.device.asker.deaf ≡ l.device.taker.deaf

-- the pair of a link
abbrev pub pair_at : LinkOf → (down up : Option CellContentOf) → PairOf
pair_at l down up = agent_place l.device.core.device l.agent.core down up

-- the request that each asker of a link waits for is in its cell
pub record BothWait (l : LinkOf) (down_cell up_cell : Cell) : Type 0 where
  pub down : awaited_request down_cell ≡ option_map request_of_open l.agent.asker.caller.asked
  pub up : awaited_request up_cell ≡ option_map request_of_open l.device.asker.caller.asked

-- if an asker of a link hears and is quiet, its cell is empty
pub record BothRest (l : LinkOf) (down_cell up_cell : Cell) : Type 0 where
  pub down : l.agent.asker.deaf ≡ 0 → is_quiet l.agent.asker.caller ≡ true → down_cell ≡ Cell.Empty
  pub up : l.device.asker.deaf ≡ 0 → is_quiet l.device.asker.caller ≡ true → up_cell ≡ Cell.Empty

-- The link took its step, and its pair with it.
pub record PairGoes (packages : List PackageText) (m : PairOf) (t : LinkStepped) (down_cell up_cell : Cell) : Type 0 where
  pub down : Option CellContentOf
  pub up : Option CellContentOf
  pub leads : PairLeads packages m t.noted (pair_at t.after down up)
  pub both : BothHold packages t.after down_cell up_cell down up

-- a link that matches its pair, half by half
pub joined_both : (packages : List PackageText) (l : LinkOf) (down_cell up_cell : Cell) (m : PairOf) → LinkMatchesPair packages l down_cell up_cell m → BothHold packages l down_cell up_cell m.down m.up
joined_both packages l down_cell up_cell m j = record {
  agent = record { stands = j.down; wished = subst (λ s. IsWishedIn m.down (down_wish packages s)) j.session j.down_wished; is_for = j.down_for };
  device = record { stands = j.up; wished = subst (λ d. IsWishedIn m.up (device_wish d)) j.device j.up_wished; is_for = j.up_for };
  agent_deaf = j.agent_deaf;
  device_deaf = j.device_deaf;
}

pub joined_pair : (packages : List PackageText) (l : LinkOf) (down_cell up_cell : Cell) (m : PairOf) → LinkMatchesPair packages l down_cell up_cell m → m ≡ pair_at l m.down m.up
joined_pair packages l down_cell up_cell m j = rw (sym j.session, sym j.device) refl

pub both_joined : (packages : List PackageText) (l : LinkOf) (down_cell up_cell : Cell) (down up : Option CellContentOf) → BothHold packages l down_cell up_cell down up → LinkMatchesPair packages l down_cell up_cell (pair_at l down up)
both_joined packages l down_cell up_cell down up b = record {
  session = refl;
  device = refl;
  down = b.agent.stands;
  up = b.device.stands;
  agent_deaf = b.agent_deaf;
  device_deaf = b.device_deaf;
  down_wished = b.agent.wished;
  up_wished = b.device.wished;
  down_for = b.agent.is_for;
  up_for = b.device.is_for;
}

-- A tick of a link: the agent's half, then the device's.
pub tick_joins : (packages : List PackageText) (now : ℕ) (l : LinkOf) (agent device : Bool) (down up : Option CellContentOf) (down_past up_past : List LaneEntry) (down_run up_run down_last up_last : CellRun)
    → WritesCommands → BothHold packages l down_run.cell up_run.cell down up → BothWait l down_run.cell up_run.cell
    → (agent ≡ true → PendingRoundTrips (session_core packages) l.agent) → (device ≡ true → PendingRoundTrips device_core l.device)
    → cells_along (down_lane now l down_past) (tick_steps (session_core packages) agent device l.agent) (Some down_run) ≡ Some down_last
    → cells_along (up_lane now l up_past) (tick_steps device_core device agent l.device) (Some up_run) ≡ Some up_last
    → PairGoes packages (pair_at l down up) (link_step_without_entries (link_ticks now packages l agent device)) down_last.cell up_last.cell
tick_joins packages now l agent device down up down_past up_past down_run up_run down_last up_last written both waits agent_spoken device_spoken e f =
    let a = half_ticks_on (agent_side packages l.device.core.device) agent l.agent down up (lane_after (down_lane now l down_past) (LaneStepOf.Tick agent device)) down_run down_last written both.device.wished agent_spoken both.agent waits.down e in
    let b = half_ticks_on (device_side packages (half_ticks (session_core packages) agent l.agent).half.core.session) device l.device up a.own (lane_after (up_lane now l up_past) (LaneStepOf.Tick device agent)) up_run up_last written a.holds.wished device_spoken both.device waits.up f in
    record {
      down = a.own;
      up = b.own;
      leads = leads_on a.leads b.leads;
      both = record {
        agent = a.holds;
        device = b.holds;
        agent_deaf = ticks_deaf (session_core packages) agent l.agent both.agent_deaf;
        device_deaf = ticks_deaf device_core device l.device both.device_deaf;
      };
    }
