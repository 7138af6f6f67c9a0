-- A device that goes to IDLE, and a session that begins nothing, keep the invariant.
use Rattle.std.specs.Prelude.{ℕ, Bool, true, false, List, Option, Some, None}
use Rattle.std.proofs.Common.{inl, inr}
use Rattle.fw_package.specs.Package.{DescriptorOf, PackageText, ComponentOf}
use Rattle.fwup_wire.specs.Values.{AnswerOf, CommandOf}
use Rattle.fd_core.specs.Images.{RowOf, rows_after_drop}
use Rattle.fd_core.specs.States.{DeviceState, Phase}
use Rattle.fd_core.specs.declared.states.Reason.{Reason}
use Rattle.fd_core.specs.declared.states.State.{State}
use Rattle.ua_core.specs.Laws.{IsOutsideUpdate, IsStageInPlan}
use Rattle.ua_core.specs.Session.{Stage}
use Rattle.ua_core.specs.Wish.{stage_wish}
use Rattle.ua_core.specs.declared.planned.Recorded.{Recorded}
use Rattle.fw_message.specs.Headline.{EntryOf}
use Rattle.ua_core.specs.Lent.{package_at}
use Rattle.fw_message.specs.Pairs.{CellContentOf, PairOf}
use Rattle.fw_message.proofs.Safety.Agreement.{Activation, AreTold, Cleared, CommandStands, FreshUpdate, HasChosen, IsStanding, Pending, Stray, Together, UpdateOffered, asked_of, at_hand, is_offered, reply_of}
use Rattle.fw_message.proofs.Safety.Histories.{history_dropped}
use Rattle.fw_message.proofs.Safety.Readings.{since}

abbrev pub cell : CommandOf → Option AnswerOf → Bool → CellContentOf
cell c r l = record { command = c; reply = r; live = l }

-- a device that is idle again, with nothing applied
abbrev pub idle_device : DeviceState → List ℕ → State → Reason → DeviceState
idle_device v bytes previous reason =
    record v { phase = Phase.Idle; rows = rows_after_drop v.rows; stage = bytes; previous = previous; reason = reason }

-- the session in another state, and perhaps with another package
abbrev pub loosened : PairOf → Stage → ℕ → Option CellContentOf → PairOf
loosened m g n down = record m { session = record { unit = m.session.unit; stage = g; number = n; records = m.session.records }; down = down }

-- an empty cell
pub none_command : (g : Stage) (wish : Option CommandOf) → CommandStands g wish None
none_command Stage.Idle wish = tt
none_command Stage.Query wish = tt
none_command Stage.Done wish = tt
none_command Stage.Cancelling wish = tt
none_command (Stage.Failed c) wish = tt
none_command g wish = tt

cleared_lost : (r : Option AnswerOf) → Cleared Phase.Idle r
cleared_lost (Some AnswerOf.CancelUpdate) = tt
cleared_lost (Some (AnswerOf.Refused code)) = λ e. tt
cleared_lost r = tt

fresh_lost : (rows : List RowOf) (r : Option AnswerOf) → FreshUpdate rows Phase.Idle r
fresh_lost rows (Some AnswerOf.RequestUpdate) = tt
fresh_lost rows r = tt

module _ (ps : List PackageText) (ds : List DescriptorOf) where
  offered_lost : (n : ℕ) (rs : List Recorded) (c : ComponentOf) (rows : List RowOf) (bytes : List ℕ) (r : Option AnswerOf) (b : Bool)
      → UpdateOffered ps ds n rs c rows bytes Phase.Idle r b
  offered_lost n rs c rows bytes r true = tt
  offered_lost n rs c rows bytes r false = tt

  activation_lost : (n : ℕ) (rs : List Recorded) (rows : List RowOf) (r : Option AnswerOf) → Activation ps ds n rs rows Phase.Idle r
  activation_lost n rs rows (Some (AnswerOf.ActivateFirmware time)) = tt
  activation_lost n rs rows r = tt

  stray_lost : (rs : List Recorded) (rows other : List RowOf) (p : Phase) (c : Option CommandOf) → Stray ps ds rs rows p c
      → Stray ps ds rs other Phase.Idle c
  stray_lost rs rows other p (Some (CommandOf.ActivateFirmware b)) s = (s.0, tt)
  stray_lost rs rows other p (Some CommandOf.CancelUpdateComponent) s = s
  stray_lost rs rows other p c s = tt

  -- for any session and cells, a device in no update agrees
  pub lost_together : (rs : List Recorded) (m : PairOf) (v : DeviceState) (n : ℕ) (g : Stage)
      → Together ps ds rs (record m { device = record v { phase = Phase.Idle } }) n g
  lost_together rs m v n (Stage.ClearOld j) = cleared_lost (reply_of m.down)
  lost_together rs m v n (Stage.Request j) = fresh_lost v.rows (reply_of m.down)
  lost_together rs m v n (Stage.Update t) =
      offered_lost n rs (at_hand (package_at ps n) t) v.rows v.stage (reply_of m.up) (is_offered (reply_of m.down))
  lost_together rs m v n (Stage.Activate j) = activation_lost n rs v.rows (reply_of m.down)
  lost_together rs m v n g = tt

  -- an application that was pending still is
  pub lost_pending : (es : List EntryOf) (m : PairOf) (v : DeviceState) (n : ℕ) (g : Stage) → Pending ps es m n g
      → Pending ps es (record m { device = record v { phase = Phase.Idle } }) n g
  lost_pending es m v n (Stage.Apply t) s = λ e. elim e [ inl bad ↦ absurd (cc) | inr told ↦ s (inr told) ]
  lost_pending es m v n g s = tt

  -- any row into IDLE
  pub reset_stands : (first : List RowOf) (es : List EntryOf) (m : PairOf) (bytes : List ℕ) (previous : State) (reason : Reason)
      → IsStanding ps ds first es m → IsStanding ps ds first es (record m { device = idle_device m.device bytes previous reason })
  reset_stands first es m bytes previous reason s =
      record {
        own = tt;
        command = s.command;
        form = tt;
        together = lost_together (since es) m (idle_device m.device bytes previous reason) m.session.number m.session.stage;
        pending = lost_pending es m (idle_device m.device bytes previous reason) m.session.number m.session.stage s.pending;
        stray = stray_lost (since es) m.device.rows (rows_after_drop m.device.rows) m.device.phase (asked_of m.down) s.stray;
        plan = s.plan;
        chosen = s.chosen;
        identified = s.identified;
        told = s.told;
        history = history_dropped ps ds first m.device.rows m.session.records es s.history;
      }

  pub loose_command : (g : Stage) (wish : Option CommandOf) (down : Option CellContentOf) → IsOutsideUpdate g → CommandStands g wish down
  loose_command Stage.Idle wish down l = tt
  loose_command Stage.Query wish down l = tt
  loose_command Stage.Done wish down l = tt
  loose_command Stage.Cancelling wish down l = tt
  loose_command (Stage.Failed c) wish down l = tt
  loose_command g wish down l = absurd l

  pub loose_together : (rs : List Recorded) (m : PairOf) (n : ℕ) (g : Stage) → IsOutsideUpdate g → Together ps ds rs m n g
  loose_together rs m n Stage.Idle l = tt
  loose_together rs m n Stage.Query l = tt
  loose_together rs m n Stage.Done l = tt
  loose_together rs m n Stage.Cancelling l = tt
  loose_together rs m n (Stage.Failed c) l = tt
  loose_together rs m n g l = absurd l

  pub loose_pending : (es : List EntryOf) (m : PairOf) (n : ℕ) (g : Stage) → IsOutsideUpdate g → Pending ps es m n g
  loose_pending es m n (Stage.Apply t) l = absurd l
  loose_pending es m n g l = tt

  loose_plan : (n : ℕ) (g : Stage) → IsOutsideUpdate g → IsStageInPlan (package_at ps n) g
  loose_plan n Stage.Idle l = tt
  loose_plan n Stage.Query l = tt
  loose_plan n Stage.Done l = tt
  loose_plan n Stage.Cancelling l = tt
  loose_plan n (Stage.Failed c) l = tt
  loose_plan n g l = absurd l

  loose_chosen : (n : ℕ) (g : Stage) → IsOutsideUpdate g → HasChosen (package_at ps n) ds g
  loose_chosen n Stage.Idle l = tt
  loose_chosen n Stage.Query l = tt
  loose_chosen n Stage.Done l = tt
  loose_chosen n Stage.Cancelling l = tt
  loose_chosen n (Stage.Failed c) l = tt
  loose_chosen n g l = absurd l

  -- any row of the session into such a stage
  pub loose_stands : (first : List RowOf) (es : List EntryOf) (m : PairOf) (g : Stage) (n : ℕ) (down : Option CellContentOf) → IsOutsideUpdate g
      → Stray ps ds (since es) m.device.rows m.device.phase (asked_of down) → AreTold ds (reply_of down)
      → IsStanding ps ds first es m → IsStanding ps ds first es (loosened m g n down)
  loose_stands first es m g n down l stray told s =
      record {
        own = s.own;
        command = loose_command g (stage_wish m.session.unit (package_at ps n) g) down l;
        form = s.form;
        together = loose_together (since es) (loosened m g n down) n g l;
        pending = loose_pending es (loosened m g n down) n g l;
        stray = stray;
        plan = loose_plan n g l;
        chosen = loose_chosen n g l;
        identified = s.identified;
        told = told;
        history = s.history;
      }
