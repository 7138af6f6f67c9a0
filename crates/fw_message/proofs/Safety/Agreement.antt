-- The agreement of a device, its session and the two cells.
use Rattle.std.specs.Prelude.{◌≡◌, ◌⊎◌, ◌<◌, ℕ, ◌==◌, Bool, true, false, List, [], length, map, take, Option, Some, None}
use Rattle.fw_package.specs.Choice.{component_at, record_number}
use Rattle.fw_package.specs.Package.{ComponentOf, DescriptorOf, PackageText}
use Rattle.fwup_wire.specs.Values.{AnswerOf, CommandOf}
use Rattle.fd_core.specs.Images.{RowOf}
use Rattle.fd_core.specs.States.{Phase, WorkOf}
use Rattle.fd_core.specs.Wishes.{device_wish}
use Rattle.fd_core.specs.declared.states.Progress.TheVariants as progress
use Rattle.ua_core.specs.Laws.{IsStageInPlan}
use Rattle.ua_core.specs.Lent.{key_of, package_descriptor, package_at}
use Rattle.ua_core.specs.Serve.{window}
use Rattle.ua_core.specs.Session.{JobOf, Stage, TaskOf}
use Rattle.ua_core.specs.declared.planned.Recorded.{Recorded}
use Rattle.fw_message.specs.Headline.{EntryOf}
use Rattle.fw_message.specs.Pairs.{CellContentOf, PairOf, down_wish}
use Rattle.fw_message.proofs.Safety.Applied.{AppliedIs, Backed, BackedBut, NoneApplied}
use Rattle.fw_message.proofs.Safety.Counts.{IsPending}
use Rattle.fw_message.proofs.Safety.Histories.{IsHistory}
use Rattle.fw_message.proofs.Safety.Readings.{since}

-- the content of a cell
abbrev pub reply_of : Option CellContentOf → Option AnswerOf
reply_of None = None
reply_of (Some h) = h.reply

abbrev pub command_of : Option CellContentOf → Option CommandOf
command_of None = None
command_of (Some h) = Some h.command

abbrev pub unanswered : CommandOf → Option AnswerOf → Option CommandOf
unanswered c None = Some c
unanswered c (Some a) = None

-- the command that waits to be taken
abbrev pub asked_of : Option CellContentOf → Option CommandOf
asked_of None = None
asked_of (Some h) = unanswered h.command h.reply

abbrev pub at_hand : PackageText → TaskOf → ComponentOf
at_hand p t = component_at p t.at_hand.component

-- the device is in no update
abbrev pub IsLost : Phase → Type 0
IsLost Phase.Idle = Unit {0}
IsLost p = ⊥

-- outside IDLE the device's own cell is empty or has its pending command
abbrev pub Holds : Option CommandOf → Option CommandOf → Type 0
Holds wish None = Unit {0}
Holds wish (Some c) = wish ≡ Some c

abbrev pub OwnStands : Phase → Option CommandOf → Option CommandOf → Type 0
OwnStands Phase.Idle wish own = Unit {0}
OwnStands p wish own = Holds wish own

-- from Params to Activate the agent's cell is empty, or open with the session's pending command
abbrev pub StandsOpen : Option CommandOf → Option CellContentOf → Type 0
StandsOpen wish None = Unit {0}
StandsOpen wish (Some h) = (h.live ≡ true) × (wish ≡ Some h.command)

abbrev pub CommandStands : Stage → Option CommandOf → Option CellContentOf → Type 0
CommandStands Stage.Idle wish down = Unit {0}
CommandStands Stage.Query wish down = Unit {0}
CommandStands Stage.Done wish down = Unit {0}
CommandStands Stage.Cancelling wish down = Unit {0}
CommandStands (Stage.Failed c) wish down = Unit {0}
CommandStands g wish down = StandsOpen wish down

-- DOWNLOAD: bytes are missing while in progress, and none are after it
abbrev pub StageForm : Phase → ℕ → Type 0
StageForm (Phase.Download u w progress.InProgress) have = have < w.size
StageForm (Phase.Download u w progress.Succeeded) have = have ≡ w.size
StageForm p have = Unit {0}

-- ClearOld: a device that cancelled, or had nothing to cancel, is in no update
abbrev pub Cleared : Phase → Option AnswerOf → Type 0
Cleared p (Some AnswerOf.CancelUpdate) = IsLost p
Cleared p (Some (AnswerOf.Refused code)) = code ≡ 0x80 → IsLost p
Cleared p reply = Unit {0}

-- Request: an update that began has nothing applied
abbrev pub FreshIn : List RowOf → Phase → Type 0
FreshIn rows Phase.Idle = Unit {0}
FreshIn rows (Phase.Learn u) = NoneApplied rows
FreshIn rows p = ⊥

abbrev pub FreshUpdate : List RowOf → Phase → Option AnswerOf → Type 0
FreshUpdate rows p (Some AnswerOf.RequestUpdate) = FreshIn rows p
FreshUpdate rows p reply = IsLost p

-- Pass
abbrev pub TableTime : List RowOf → Phase → Type 0
TableTime rows Phase.Idle = Unit {0}
TableTime rows (Phase.Learn u) = NoneApplied rows
TableTime rows (Phase.Ready u) = NoneApplied rows
TableTime rows p = ⊥

-- the device works at the session's component
pub record IsSame (w : WorkOf) (c : ComponentOf) : Type 0 where
  pub key : w.key ≡ key_of c
  pub size : w.size ≡ length c.image

-- READY XFER, or sealed
abbrev pub Settled : List PackageText → List DescriptorOf → ℕ → List Recorded → List RowOf → Phase → Type 0
Settled ps ds n rs rows Phase.Idle = Unit {0}
Settled ps ds n rs rows (Phase.Ready u) = Backed ps ds n rs rows
Settled ps ds n rs rows (Phase.Apply u w progress.Succeeded) = Backed ps ds n rs rows
Settled ps ds n rs rows p = ⊥

abbrev pub Waiting : List PackageText → List DescriptorOf → ℕ → List Recorded → List RowOf → Phase → Type 0
Waiting ps ds n rs rows (Phase.Learn u) = Backed ps ds n rs rows
Waiting ps ds n rs rows p = Settled ps ds n rs rows p

-- the answer in this cell accepts nothing
abbrev pub NothingAccepted : Option AnswerOf → Type 0
NothingAccepted None = Unit {0}
NothingAccepted (Some (AnswerOf.Refused code)) = Unit {0}
NothingAccepted (Some a) = ⊥

-- Update: a component that the device accepted is begun
pub record IsBegun (ps : List PackageText) (ds : List DescriptorOf) (n : ℕ) (rs : List Recorded) (c : ComponentOf) (rows : List RowOf) (bytes : List ℕ) (w : WorkOf) (reply : Option AnswerOf) : Type 0 where
  pub same : IsSame w c
  pub stage : bytes ≡ []
  pub backed : Backed ps ds n rs rows
  pub nothing : NothingAccepted reply

abbrev pub IsBegunAt : List PackageText → List DescriptorOf → ℕ → List Recorded → ComponentOf → List RowOf → List ℕ → Phase
    → Option AnswerOf → Type 0
IsBegunAt ps ds n rs c rows bytes Phase.Idle reply = Unit {0}
IsBegunAt ps ds n rs c rows bytes (Phase.Download u w progress.InProgress) reply = IsBegun ps ds n rs c rows bytes w reply
IsBegunAt ps ds n rs c rows bytes (Phase.Download u w progress.Succeeded) reply = IsBegun ps ds n rs c rows bytes w reply
IsBegunAt ps ds n rs c rows bytes p reply = ⊥

abbrev pub is_offered : Option AnswerOf → Bool
is_offered (Some (AnswerOf.UpdateComponent r)) = r.compatibility == 0
is_offered reply = false

abbrev pub UpdateOffered : List PackageText → List DescriptorOf → ℕ → List Recorded → ComponentOf → List RowOf → List ℕ → Phase
    → Option AnswerOf → Bool → Type 0
UpdateOffered ps ds n rs c rows bytes p reply true = IsBegunAt ps ds n rs c rows bytes p reply
UpdateOffered ps ds n rs c rows bytes p reply false = Waiting ps ds n rs rows p

-- Download: the stage is a prefix of the image, and an answer continues it
abbrev pub IsPiece : List ℕ → CommandOf → AnswerOf → Type 0
IsPiece image c (AnswerOf.Refused code) = Unit {0}
IsPiece image (CommandOf.RequestFirmwareData offset n) (AnswerOf.RequestFirmwareData bytes) = bytes ≡ window image offset n
IsPiece image c a = ⊥

abbrev pub IsPieceOf : List ℕ → Option CommandOf → Option AnswerOf → Type 0
IsPieceOf image c None = Unit {0}
IsPieceOf image None (Some a) = Unit {0}
IsPieceOf image (Some c) (Some a) = IsPiece image c a

pub record IsTransfer (ps : List PackageText) (ds : List DescriptorOf) (n : ℕ) (rs : List Recorded) (c : ComponentOf) (rows : List RowOf) (bytes : List ℕ) (w : WorkOf) (command : Option CommandOf) (reply : Option AnswerOf) : Type 0 where
  pub same : IsSame w c
  pub stage : bytes ≡ take (length bytes) c.image
  pub backed : Backed ps ds n rs rows
  pub piece : IsPieceOf c.image command reply

abbrev pub Transfer : List PackageText → List DescriptorOf → ℕ → List Recorded → ComponentOf → List RowOf → List ℕ → Phase
    → Option CommandOf → Option AnswerOf → Type 0
Transfer ps ds n rs c rows bytes Phase.Idle command reply = Unit {0}
Transfer ps ds n rs c rows bytes (Phase.Download u w a) command reply = IsTransfer ps ds n rs c rows bytes w command reply
Transfer ps ds n rs c rows bytes p command reply = ⊥

-- Verify: the stage is the image
pub record IsHeld (ps : List PackageText) (ds : List DescriptorOf) (n : ℕ) (rs : List Recorded) (c : ComponentOf) (rows : List RowOf) (bytes : List ℕ) (w : WorkOf) : Type 0 where
  pub same : IsSame w c
  pub stage : bytes ≡ c.image
  pub backed : Backed ps ds n rs rows

abbrev pub Verification : List PackageText → List DescriptorOf → ℕ → List Recorded → ComponentOf → List RowOf → List ℕ → Phase
    → Option AnswerOf → Type 0
Verification ps ds n rs c rows bytes Phase.Idle reply = Unit {0}
Verification ps ds n rs c rows bytes (Phase.Download u w progress.Succeeded) reply = IsHeld ps ds n rs c rows bytes w
Verification ps ds n rs c rows bytes (Phase.Verify u w a) reply = IsHeld ps ds n rs c rows bytes w × NothingAccepted reply
Verification ps ds n rs c rows bytes p reply = ⊥

-- Apply: the image is applied, and all other applied images are recorded
pub record IsSealed (ps : List PackageText) (ds : List DescriptorOf) (n : ℕ) (rs : List Recorded) (c : ComponentOf) (rows : List RowOf) : Type 0 where
  pub applied : AppliedIs rows (key_of c) c.image
  pub others : BackedBut ps ds n rs (key_of c) rows

abbrev pub Application : List PackageText → List DescriptorOf → ℕ → List Recorded → ComponentOf → List RowOf → List ℕ → Phase
    → Option AnswerOf → Type 0
Application ps ds n rs c rows bytes Phase.Idle reply = Unit {0}
Application ps ds n rs c rows bytes (Phase.Verify u w progress.Succeeded) reply = IsHeld ps ds n rs c rows bytes w
Application ps ds n rs c rows bytes (Phase.Apply u w progress.Succeeded) reply = IsSealed ps ds n rs c rows × NothingAccepted reply
Application ps ds n rs c rows bytes (Phase.Apply u w a) reply = IsHeld ps ds n rs c rows bytes w × NothingAccepted reply
Application ps ds n rs c rows bytes p reply = ⊥

abbrev pub is_sealed : Phase → Bool
is_sealed (Phase.Apply u w progress.Succeeded) = true
is_sealed p = false

abbrev pub is_applied : Option CommandOf → Bool
is_applied (Some (CommandOf.ApplyComplete r methods)) = r == 0
is_applied c = false

-- an application that isn't recorded yet
abbrev pub IsUnderWay : Phase → Option CellContentOf → Type 0
IsUnderWay p up = (is_sealed p ≡ true) ⊎ (is_applied (asked_of up) ≡ true)

-- Activate
abbrev pub Activation : List PackageText → List DescriptorOf → ℕ → List Recorded → List RowOf → Phase → Option AnswerOf → Type 0
Activation ps ds n rs rows p (Some (AnswerOf.ActivateFirmware time)) = Unit {0}
Activation ps ds n rs rows p reply = Settled ps ds n rs rows p

-- The agreement of the session's stage with the device and the cells.
abbrev pub Together : List PackageText → List DescriptorOf → List Recorded → PairOf → ℕ → Stage → Type 0
Together ps ds rs m n (Stage.ClearOld j) = Cleared m.device.phase (reply_of m.down)
Together ps ds rs m n (Stage.Request j) = FreshUpdate m.device.rows m.device.phase (reply_of m.down)
Together ps ds rs m n (Stage.Pass j i left todo) = TableTime m.device.rows m.device.phase
Together ps ds rs m n (Stage.Update t) =
    UpdateOffered ps ds n rs (at_hand (package_at ps n) t) m.device.rows m.device.stage m.device.phase (reply_of m.up)
    (is_offered (reply_of m.down))
Together ps ds rs m n (Stage.Download t) =
    Transfer ps ds n rs (at_hand (package_at ps n) t) m.device.rows m.device.stage m.device.phase (command_of m.up) (reply_of m.up)
Together ps ds rs m n (Stage.Verify t) =
    Verification ps ds n rs (at_hand (package_at ps n) t) m.device.rows m.device.stage m.device.phase (reply_of m.up)
Together ps ds rs m n (Stage.Apply t) =
    Application ps ds n rs (at_hand (package_at ps n) t) m.device.rows m.device.stage m.device.phase (reply_of m.up)
Together ps ds rs m n (Stage.AllApplied j) = Settled ps ds n rs m.device.rows m.device.phase
Together ps ds rs m n (Stage.Activate j) = Activation ps ds n rs m.device.rows m.device.phase (reply_of m.down)
Together ps ds rs m n g = Unit {0}

-- in Apply: an image that is sealed, or reported as applied, is pending
abbrev pub Pending : List PackageText → List EntryOf → PairOf → ℕ → Stage → Type 0
Pending ps es m n (Stage.Apply t) =
    IsUnderWay m.device.phase m.up → IsPending ps (key_of (at_hand (package_at ps n) t)) (at_hand (package_at ps n) t).image es
Pending ps es m n g = Unit {0}

-- for an ActivateFirmware that was asked, all applied images are recorded of one package; no
-- CancelUpdateComponent is asked
abbrev pub Stray : List PackageText → List DescriptorOf → List Recorded → List RowOf → Phase → Option CommandOf → Type 0
Stray ps ds rs rows p (Some (CommandOf.ActivateFirmware b)) = (n : ℕ) × Settled ps ds n rs rows p
Stray ps ds rs rows p (Some CommandOf.CancelUpdateComponent) = ⊥
Stray ps ds rs rows p c = Unit {0}

-- the job has the record that the device's descriptors choose
abbrev pub IsChosen : PackageText → List DescriptorOf → JobOf → Type 0
IsChosen p ds j = record_number p ds ≡ Some j.chosen

abbrev pub HasChosen : PackageText → List DescriptorOf → Stage → Type 0
HasChosen p ds (Stage.Params j) = IsChosen p ds j
HasChosen p ds (Stage.ClearOld j) = IsChosen p ds j
HasChosen p ds (Stage.Request j) = IsChosen p ds j
HasChosen p ds (Stage.Pass j i left todo) = IsChosen p ds j
HasChosen p ds (Stage.Update t) = IsChosen p ds t.job
HasChosen p ds (Stage.Download t) = IsChosen p ds t.job
HasChosen p ds (Stage.Verify t) = IsChosen p ds t.job
HasChosen p ds (Stage.Apply t) = IsChosen p ds t.job
HasChosen p ds (Stage.AllApplied j) = IsChosen p ds j
HasChosen p ds (Stage.Activate j) = IsChosen p ds j
HasChosen p ds g = Unit {0}

-- descriptors that were answered are the device's
abbrev pub AreTold : List DescriptorOf → Option AnswerOf → Type 0
AreTold ds (Some (AnswerOf.QueryDeviceIdentifiers xs)) = map package_descriptor xs ≡ ds
AreTold ds reply = Unit {0}

-- The invariant of a pair and its history.
pub record IsStanding (ps : List PackageText) (ds : List DescriptorOf) (first : List RowOf) (es : List EntryOf) (m : PairOf) : Type 0 where
  pub own : OwnStands m.device.phase (device_wish m.device) (command_of m.up)
  pub command : CommandStands m.session.stage (down_wish ps m.session) m.down
  pub form : StageForm m.device.phase (length m.device.stage)
  pub together : Together ps ds (since es) m m.session.number m.session.stage
  pub pending : Pending ps es m m.session.number m.session.stage
  pub stray : Stray ps ds (since es) m.device.rows m.device.phase (asked_of m.down)
  pub plan : IsStageInPlan (package_at ps m.session.number) m.session.stage
  pub chosen : HasChosen (package_at ps m.session.number) ds m.session.stage
  pub identified : map package_descriptor m.device.descriptors ≡ ds
  pub told : AreTold ds (reply_of m.down)
  pub history : IsHistory ps ds first m.device.rows m.session.records es
