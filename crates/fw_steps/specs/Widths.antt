-- The devices, sessions and packages that fit the fields of messages: a device's answer then
-- decodes to itself, and each node's pending command can be encoded.
use Rattle.std.specs.Prelude.{ℕ, ◌≡◌, ◌≤◌, ◌<◌, ◌^◌, List, IfSome, length}
use Rattle.std.specs.List.{AllByRecursion}
use Rattle.fw_package.specs.Package.{ComponentOf, PackageText}
use Rattle.fwup_wire.specs.Commands.{HasCommandWidths}
use Rattle.fwup_wire.specs.Descriptors.{HasDescriptorWidths, descriptors_bytes}
use Rattle.fwup_wire.specs.Items.{EachItem}
use Rattle.fwup_wire.specs.Values.{DeviceDescriptorOf}
use Rattle.fwup_wire.specs.declared.values.Key.{Key}
use Rattle.fd_core.specs.Components.{HasComponents}
use Rattle.fd_core.specs.Images.{ImageOf, LabelOf, RowOf, active_of, row_of}
use Rattle.fw_message.specs.Laws.{IsUnapplied}
use Rattle.fd_core.specs.States.{DeviceState, Phase}
use Rattle.fd_core.specs.declared.parts.BankComponent.{BankComponent}
use Rattle.fw_message.specs.Pairs.{CellContentOf, PairOf, Stepped}
use Rattle.fw_message.specs.Worlds.{NodeOf, MessageWorldOf}
use Rattle.ua_core.specs.Laws.{IsStageInPlan}
use Rattle.ua_core.specs.Lent.{package_at}
use Rattle.ua_core.specs.Session.{SessionOf}

-- A label fits the fields of a device's parameters: its stamp four bytes, its text twelve.
pub record HasLabelWidths (l : LabelOf) : Type 0 where
  pub stamp : l.stamp < 256 ^ 4
  pub text : length l.text ≤ 12

abbrev pub HasImageWidths : ImageOf → Type 0
HasImageWidths image = HasLabelWidths image.label

pub record HasRowWidths (row : RowOf) : Type 0 where
  pub active : HasImageWidths row.active
  pub applied : IfSome row.applied HasImageWidths

abbrev pub HasKeyWidths : Key → Type 0
HasKeyWidths key = (key.classification < 256 ^ 2) × (key.identifier < 256 ^ 2)

abbrev pub HasComponentKeyWidths : BankComponent → Type 0
HasComponentKeyWidths c = HasKeyWidths c.key

-- The current work fits its reports, with `have` bytes of the image written.
abbrev pub HasPhaseWidths : Phase → (have : ℕ) → Type 0
HasPhaseWidths (Phase.Download u w p) have = HasLabelWidths w.label × (have ≤ w.size) × (w.size < 256 ^ 4)
HasPhaseWidths (Phase.Verify u w p) have = HasLabelWidths w.label
HasPhaseWidths (Phase.Apply u w p) have = HasLabelWidths w.label
HasPhaseWidths p have = Unit {0}

-- Descriptors fit their fields, and an answer (246 bytes).
pub record HasDescriptorListWidths (ds : List DeviceDescriptorOf) : Type 0 where
  pub widths : EachItem HasDescriptorWidths ds
  pub few : length ds < 256
  pub short : length (descriptors_bytes ds) ≤ 246

-- The configuration of a device fits its answers.
pub record HasConfigurationWidths (v : DeviceState) : Type 0 where
  pub descriptors : HasDescriptorListWidths v.descriptors
  pub components : AllByRecursion HasComponentKeyWidths v.components
  pub few : length v.components ≤ 3

pub record HasDeviceWidths (v : DeviceState) : Type 0 where
  pub told : HasConfigurationWidths v
  pub rows : AllByRecursion HasRowWidths v.rows
  pub phase : HasPhaseWidths v.phase (length v.stage)

-- The same for a new device.
abbrev pub HasWidthsAsNew : DeviceState → Type 0
HasWidthsAsNew v = HasComponents v → v.phase ≡ Phase.Idle → AllByRecursion IsUnapplied v.rows → HasDeviceWidths v

-- A component's key, and the label of its running image, fit.
pub record HasKeyAndLabelWidths (rows : List RowOf) (c : BankComponent) : Type 0 where
  pub key : HasComponentKeyWidths c
  pub label : IfSome (active_of (row_of rows c.key)) HasImageWidths

-- A descriptor's type fits its field.
abbrev pub HasKindWidth : DeviceDescriptorOf → Type 0
HasKindWidth d = d.kind < 256 ^ 2

-- A package's component fits the fields of the commands that name it.
pub record HasPlannedWidths (c : ComponentOf) : Type 0 where
  pub classification : c.classification < 256 ^ 2
  pub identifier : c.identifier < 256 ^ 2
  pub stamp : c.stamp < 256 ^ 4

abbrev pub HasPackageWidths : PackageText → Type 0
HasPackageWidths p = AllByRecursion HasPlannedWidths p.components

abbrev pub SessionIsInPlan : List PackageText → SessionOf → Type 0
SessionIsInPlan packages s = IsStageInPlan (package_at packages s.number) s.stage

-- A device, its session, and the command in the cell for the device fit.
pub record HasPairWidths (packages : List PackageText) (m : PairOf) : Type 0 where
  pub device : HasDeviceWidths m.device
  pub session : SessionIsInPlan packages m.session
  pub down : IfSome m.down (λ (h : CellContentOf). HasCommandWidths h.command)

abbrev pub HavePackageWidths : List PackageText → Type 0
HavePackageWidths packages = AllByRecursion HasPackageWidths packages

-- A pair after a step fits.
abbrev pub HasSteppedWidths : List PackageText → Stepped → Type 0
HasSteppedWidths packages t = HasPairWidths packages t.after

-- All devices of a world of messages, and its packages, fit.
pub record HaveMessageWidths (w : MessageWorldOf) : Type 0 where
  pub packages : HavePackageWidths w.packages
  pub pairs : AllByRecursion (λ (n : NodeOf). HasPairWidths w.packages n.pair) w.nodes
