-- The state of a device (DSP0267 1.0, "Firmware device state machine").
use Rattle.std.specs.Prelude.{[], ◌≡◌, Bool, List, Option, None, Some, if◌then◌else◌, ℕ}
use Rattle.mctp_wire.specs.declared.unit.Unit.{«Unit»}
use Rattle.fd_core.specs.Images.{LabelOf, RowOf, rows_after_drop}
use Rattle.fd_core.specs.declared.parts.BankComponent.{BankComponent}
use Rattle.fd_core.specs.declared.parts.Listed.{Listed}
use Rattle.fd_core.specs.declared.states.Progress.{Progress}
use Rattle.fd_core.specs.declared.states.Progress.TheVariants as progress
use Rattle.fd_core.specs.declared.states.Reason.{Reason}
use Rattle.fd_core.specs.declared.states.Reason.TheVariants as reasons
use Rattle.fd_core.specs.declared.states.State.{State}
use Rattle.fd_core.specs.declared.states.State.TheVariants as states
use Rattle.fwup_wire.specs.Values.{DeviceDescriptorOf}
use Rattle.fwup_wire.specs.declared.values.Key.{Key}

-- the data from LEARN COMPONENTS to APPLY: those of RequestUpdate, and the components passed so far
pub record UpdateOf : Type 0 where
  pub transfer_size : ℕ
  pub components : ℕ
  pub table : List Listed

-- the data from DOWNLOAD to APPLY: those of UpdateComponent
pub record WorkOf : Type 0 where
  pub key : Key
  pub size : ℕ
  pub label : LabelOf
  pub force : Bool

-- the state of a device in an update, with its data
pub data Phase : Type 0 where
  Idle : Phase
  Learn : (u : UpdateOf) → Phase
  Ready : (u : UpdateOf) → Phase
  Download : (u : UpdateOf) (w : WorkOf) (p : Progress) → Phase
  Verify : (u : UpdateOf) (w : WorkOf) (p : Progress) → Phase
  Apply : (u : UpdateOf) (w : WorkOf) (p : Progress) → Phase
  Activated : Phase

-- A device: its network's transmission unit, its configuration, its images, the bytes of the image
-- that is being written, and its phase.
pub record DeviceState : Type 0 where
  pub unit : «Unit»
  pub descriptors : List DeviceDescriptorOf
  pub components : List BankComponent
  pub rows : List RowOf
  pub stage : List ℕ
  pub phase : Phase
  pub previous : State
  pub reason : Reason

-- The same with the parts kept separately: the ticks without a change, and the number of the bank's
-- failures.
pub record DeviceOf : Type 0 where
  pub device : DeviceState
  pub idle : ℕ
  pub faults : ℕ

-- the state's name
abbrev pub state_of : Phase → State
state_of Phase.Idle = states.Idle
state_of (Phase.Learn u) = states.Learn
state_of (Phase.Ready u) = states.Ready
state_of (Phase.Download u w p) = states.Download
state_of (Phase.Verify u w p) = states.Verify
state_of (Phase.Apply u w p) = states.Apply
state_of Phase.Activated = states.Activate

-- the progress of the phase, if it has work to do
abbrev pub progress_of : Phase → Option Progress
progress_of (Phase.Download u w p) = Some p
progress_of (Phase.Verify u w p) = Some p
progress_of (Phase.Apply u w p) = Some p
progress_of p = None

-- the component that is being updated, and its size
abbrev pub staged_of : Phase → Option (Key × ℕ)
staged_of (Phase.Download u w p) = Some (w.key, w.size)
staged_of (Phase.Verify u w p) = Some (w.key, w.size)
staged_of (Phase.Apply u w p) = Some (w.key, w.size)
staged_of p = None

-- an image that waits for a verdict has all its bytes
abbrev pub IsWhole : Phase → ℕ → Type 0
IsWhole (Phase.Verify u w progress.InProgress) have = have ≡ w.size
IsWhole (Phase.Apply u w progress.InProgress) have = have ≡ w.size
IsWhole p have = Prim.Unit {0}

-- a device in another state
abbrev pub device_in_phase : DeviceState → Phase → DeviceState
device_in_phase v p = record v { phase = p; previous = state_of v.phase }

-- a device that is idle again: applied images are dropped
abbrev pub device_after_reset : DeviceState → Reason → DeviceState
device_after_reset v why = record (device_in_phase v Phase.Idle) { reason = why; rows = rows_after_drop v.rows; stage = [] }

-- the count of ticks after an event that sets it to 0, or doesn't
abbrev pub idle_count_if : ℕ → Bool → ℕ
idle_count_if idle stirs = if stirs then 0 else idle

-- a device as it is configured
abbrev pub new_device : «Unit» → List DeviceDescriptorOf → List BankComponent → List RowOf → DeviceState
new_device unit descriptors components rows =
    record {
      unit = unit;
      descriptors = descriptors;
      components = components;
      rows = rows;
      stage = [];
      phase = Phase.Idle;
      previous = states.Idle;
      reason = reasons.Initialization;
    }
