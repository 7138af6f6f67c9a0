-- The opening of a world: as `World::new` makes it, before its first step. The nodes of 1 to 16
-- devices and of the agent are new, no packet was sent, and the history is empty. What the devices
-- and packages hold fits the fields of messages (`Widths`), which `World::new` finds by itself.
--
-- This page included, it rests on 102 definitions, 438 lines in 39 files. To be read first, in
-- this order, with the lines that it needs of each:
-- 1. `crates/fw_steps/specs/Worlds.antt`, 12 lines: `WorldOf`, a world, and `SiteOf`, a device's
--    node with the packets between it and the agent.
-- 2. `crates/fd_core/specs/States.antt`, 30 lines: `DeviceOf`, a device, and `Phase`, its phase in
--    an update. `crates/fd_core/specs/Components.antt`, 9 lines: `HasComponents`, its components
--    are those of its bank.
-- 3. `crates/fw_node/specs/Nodes.antt`, 11 lines: `new_device_node`, a device's new node.
--    `crates/fw_node/specs/Agents.antt`, 11 lines: `new_agent`, the agent's.
-- 4. `crates/fw_steps/specs/Widths.antt`, 37 lines: `HasDeviceWidths` and `HavePackageWidths`.
use Rattle.std.specs.Prelude.{◌≡◌, ◌≢◌, ◌≤◌, ◌∷◌, ℕ, [], List, None, length, map}
use Rattle.std.specs.List.{All, AllByRecursion}
use Rattle.mctp_ctl.specs.declared.answers.Endpoint.{Endpoint}
use Rattle.mctp_wire.specs.declared.unit.Unit.{«Unit»}
use Rattle.mctp_wire.specs.declared.unit.Unit.TheVariants.{U64}
use Rattle.exch_lane.specs.Lanes.{IsEid}
use Rattle.fw_package.specs.Package.{PackageText}
use Rattle.fd_core.specs.Components.{HasComponents}
use Rattle.fd_core.specs.States.{DeviceOf, Phase}
use Rattle.fw_message.specs.Laws.{IsUnapplied}
use Rattle.fw_node.specs.Agents.{new_agent}
use Rattle.fw_node.specs.Nodes.{DeviceNodeOf, new_device_node}
use Rattle.fw_steps.specs.Widths.{HasDeviceWidths, HavePackageWidths}
use Rattle.fw_steps.specs.Worlds.{SiteOf, WorldOf}

-- A new device's node: of the network's transmission unit, idle, with its bank's components, and
-- nothing applied.
pub record IsNewNode (u : «Unit») (agent : ℕ) (n : DeviceNodeOf) : Type 0 where
  pub device : DeviceOf
  pub is : n ≡ new_device_node n.endpoint agent device
  pub unit : device.device.unit ≡ u
  pub idle : device.device.phase ≡ Phase.Idle
  pub unapplied : All IsUnapplied device.device.rows
  pub components : HasComponents device.device
  pub eid : IsEid n.endpoint.eid

-- no identifier is in the list twice
abbrev pub AreDifferent : List ℕ → Type 0
AreDifferent [] = Prim.Unit {0}
AreDifferent (x ∷ xs) = All (λ y. x ≢ y) xs × AreDifferent xs

-- the network's transmission unit: that of the first device's node
abbrev pub unit_of : List DeviceNodeOf → «Unit»
unit_of [] = U64
unit_of (n ∷ ns) = n.half.unit

-- the new nodes of 1 to 16 devices, all of one transmission unit, with different endpoint
-- identifiers
pub record AreNewNodes (agent : ℕ) (nodes : List DeviceNodeOf) : Type 0 where
  pub some : 1 ≤ length nodes
  pub few : length nodes ≤ 16
  pub agent_eid : IsEid agent
  pub new : AllByRecursion (IsNewNode (unit_of nodes) agent) nodes
  pub apart : AreDifferent (agent ∷ map (λ n. n.endpoint.eid) nodes)

-- a device's node without packets
abbrev pub new_site : DeviceNodeOf → SiteOf
new_site n = record { node = n; since_miss = 8; packets = [] }

-- the world of these nodes before its first step
abbrev pub new_world : Endpoint → List DeviceNodeOf → List PackageText → WorldOf
new_world agent nodes packages =
    record {
      packages = packages;
      now = 0;
      agent = new_agent (unit_of nodes) agent (map (λ n. n.endpoint.eid) nodes);
      since_miss = 8;
      sites = map new_site nodes;
      answer = None;
      history = [];
    }

-- the opening of a world
pub record IsOpeningWorld (w : WorldOf) : Type 0 where
  pub agent : Endpoint
  pub nodes : List DeviceNodeOf
  pub are : AreNewNodes agent.eid nodes
  pub is : w ≡ new_world agent nodes w.packages
  pub packages : HavePackageWidths w.packages
  pub devices : AllByRecursion (λ (n : DeviceNodeOf). HasDeviceWidths n.half.core.device) nodes
