-- The laws of every run of messages between an agent and a device.
use Rattle.std.specs.Prelude.{◌≡◌, List, [], map, All, Some, None, IfSome}
use Rattle.fw_package.specs.Package.{PackageText}
use Rattle.fd_core.specs.Images.{RowOf}
use Rattle.fd_core.specs.States.{Phase}
use Rattle.ua_core.specs.Calls.{new_session}
use Rattle.ua_core.specs.Lent.{package_descriptor}
use Rattle.fw_message.specs.Headline.{EntryOf, IsSafeAndTied, ShownDevice}
use Rattle.fw_message.specs.Pairs.{PairOf, PairRun, StepOf, message_along}

-- nothing is applied
abbrev pub IsUnapplied : RowOf → Type 0
IsUnapplied row = row.applied ≡ None

-- the opening of a pair: the device is idle and has nothing applied, its session is new and has the
-- device's unit, both cells are empty and the history is empty
pub record IsOpening (r : PairRun) : Type 0 where
  pub idle : r.pair.device.phase ≡ Phase.Idle
  pub unapplied : All IsUnapplied r.pair.device.rows
  pub session : r.pair.session ≡ (new_session r.pair.device.unit).session
  pub down : r.pair.down ≡ None
  pub up : r.pair.up ≡ None
  pub entries : r.entries ≡ []

-- what a device and the agent's session for it show, with this history
abbrev pub shown_pair : PairOf → List EntryOf → ShownDevice
shown_pair m es =
    record { descriptors = map package_descriptor m.device.descriptors; components = m.device.rows; records = m.session.records; entries = es }

abbrev pub shown_run : PairRun → ShownDevice
shown_run r = shown_pair r.pair r.entries

abbrev pub StaysSafeAndTied : List PackageText → (opening r : PairRun) → Type 0
StaysSafeAndTied packages opening r = IsSafeAndTied packages (shown_run opening) (shown_run r)

-- Message safety: every run of messages keeps the history of a device safe and tied.
abbrev pub MessagesAreSafe : Type 0
MessagesAreSafe = (packages : List PackageText) (opening : PairRun) (steps : List StepOf) → IsOpening opening
    → IfSome (message_along packages (Some opening) steps) (StaysSafeAndTied packages opening)
