-- A device that progresses with its own work keeps the invariant.
use Rattle.std.specs.Prelude.{ℕ, Bool, true, false, List, length, Option, Some}
use Rattle.fw_package.specs.Package.{ComponentOf, DescriptorOf, PackageText}
use Rattle.fwup_wire.specs.Values.{AnswerOf, CommandOf}
use Rattle.fd_core.specs.Images.{RowOf}
use Rattle.fd_core.specs.States.{DeviceState, Phase}
use Rattle.fd_core.specs.Wishes.{wish_at}
use Rattle.fd_core.specs.declared.states.State.{State}
use Rattle.ua_core.specs.Session.{Stage}
use Rattle.ua_core.specs.declared.planned.Recorded.{Recorded}
use Rattle.fw_message.specs.Headline.{EntryOf}
use Rattle.ua_core.specs.Lent.{package_at}
use Rattle.fw_message.specs.Pairs.{CellContentOf, PairOf}
use Rattle.fw_message.proofs.Safety.Agreement.{Activation, Application, Cleared, FreshIn, FreshUpdate, IsBegunAt, IsLost, IsStanding, IsUnderWay, OwnStands, Pending, Settled, StageForm, Stray, TableTime, Together, Transfer, UpdateOffered, Verification, Waiting, asked_of, at_hand, command_of, is_offered, reply_of}
use Rattle.fw_message.proofs.Safety.Readings.{since}

abbrev pub with_device : PairOf → DeviceState → Option CellContentOf → PairOf
with_device m v u = record m { device = v; up = u }

-- the same device in this phase, with this stage
abbrev pub at_phase : DeviceState → Phase → List ℕ → State → DeviceState
at_phase v p bytes previous = record v { phase = p; stage = bytes; previous = previous }

cleared_moves : (p q : Phase) (r : Option AnswerOf) → (IsLost p → IsLost q) → Cleared p r → Cleared q r
cleared_moves p q (Some AnswerOf.CancelUpdate) to h = to h
cleared_moves p q (Some (AnswerOf.Refused code)) to h = λ e. to (h e)
cleared_moves p q r to h = tt

fresh_moves : (rows rows' : List RowOf) (p q : Phase) (r : Option AnswerOf) → (IsLost p → IsLost q) → (FreshIn rows p → FreshIn rows' q)
    → FreshUpdate rows p r → FreshUpdate rows' q r
fresh_moves rows rows' p q (Some AnswerOf.RequestUpdate) lost fresh h = fresh h
fresh_moves rows rows' p q r lost fresh h = lost h

module _ (ps : List PackageText) (ds : List DescriptorOf) where
  -- the agreement of a device and its cell in each stage of the session carries over from one
  -- device to another
  pub record IsMove (rs : List Recorded) (v w : DeviceState) (u x : Option CellContentOf) : Type 0 where
    pub lost : IsLost v.phase → IsLost w.phase
    pub fresh : FreshIn v.rows v.phase → FreshIn w.rows w.phase
    pub time : TableTime v.rows v.phase → TableTime w.rows w.phase
    pub begun : (n : ℕ) (c : ComponentOf) → IsBegunAt ps ds n rs c v.rows v.stage v.phase (reply_of u)
        → IsBegunAt ps ds n rs c w.rows w.stage w.phase (reply_of x)
    pub waiting : (n : ℕ) → Waiting ps ds n rs v.rows v.phase → Waiting ps ds n rs w.rows w.phase
    pub transfer : (n : ℕ) (c : ComponentOf) → Transfer ps ds n rs c v.rows v.stage v.phase (command_of u) (reply_of u)
        → Transfer ps ds n rs c w.rows w.stage w.phase (command_of x) (reply_of x)
    pub verification : (n : ℕ) (c : ComponentOf) → Verification ps ds n rs c v.rows v.stage v.phase (reply_of u)
        → Verification ps ds n rs c w.rows w.stage w.phase (reply_of x)
    pub application : (n : ℕ) (c : ComponentOf) → Application ps ds n rs c v.rows v.stage v.phase (reply_of u)
        → Application ps ds n rs c w.rows w.stage w.phase (reply_of x)
    pub settled : (n : ℕ) → Settled ps ds n rs v.rows v.phase → Settled ps ds n rs w.rows w.phase

  offered_moves : (rs : List Recorded) (v w : DeviceState) (u x : Option CellContentOf) (n : ℕ) (c : ComponentOf) (b : Bool) → IsMove rs v w u x
      → UpdateOffered ps ds n rs c v.rows v.stage v.phase (reply_of u) b → UpdateOffered ps ds n rs c w.rows w.stage w.phase (reply_of x) b
  offered_moves rs v w u x n c true k h = k.begun n c h
  offered_moves rs v w u x n c false k h = k.waiting n h

  activation_moves : (rs : List Recorded) (rows rows' : List RowOf) (p q : Phase) (n : ℕ) (r : Option AnswerOf)
      → (Settled ps ds n rs rows p → Settled ps ds n rs rows' q) → Activation ps ds n rs rows p r → Activation ps ds n rs rows' q r
  activation_moves rs rows rows' p q n (Some (AnswerOf.ActivateFirmware time)) k h = tt
  activation_moves rs rows rows' p q n r k h = k h

  pub together_moves : (rs : List Recorded) (m : PairOf) (v w : DeviceState) (u x : Option CellContentOf) (n : ℕ) (g : Stage) → IsMove rs v w u x
      → Together ps ds rs (with_device m v u) n g → Together ps ds rs (with_device m w x) n g
  together_moves rs m v w u x n (Stage.ClearOld j) k h = cleared_moves v.phase w.phase (reply_of m.down) k.lost h
  together_moves rs m v w u x n (Stage.Request j) k h = fresh_moves v.rows w.rows v.phase w.phase (reply_of m.down) k.lost k.fresh h
  together_moves rs m v w u x n (Stage.Pass j i left todo) k h = k.time h
  together_moves rs m v w u x n (Stage.Update t) k h =
      offered_moves rs v w u x n (at_hand (package_at ps n) t) (is_offered (reply_of m.down)) k h
  together_moves rs m v w u x n (Stage.Download t) k h = k.transfer n (at_hand (package_at ps n) t) h
  together_moves rs m v w u x n (Stage.Verify t) k h = k.verification n (at_hand (package_at ps n) t) h
  together_moves rs m v w u x n (Stage.Apply t) k h = k.application n (at_hand (package_at ps n) t) h
  together_moves rs m v w u x n (Stage.AllApplied j) k h = k.settled n h
  together_moves rs m v w u x n (Stage.Activate j) k h =
      activation_moves rs v.rows w.rows v.phase w.phase n (reply_of m.down) (k.settled n) h
  together_moves rs m v w u x n g k h = tt

  pub stray_moves : (rs : List Recorded) (v w : DeviceState) (u x : Option CellContentOf) (c : Option CommandOf) → IsMove rs v w u x
      → Stray ps ds rs v.rows v.phase c → Stray ps ds rs w.rows w.phase c
  stray_moves rs v w u x (Some (CommandOf.ActivateFirmware b)) k h = (h.0, k.settled h.0 h.1)
  stray_moves rs v w u x (Some CommandOf.CancelUpdateComponent) k h = h
  stray_moves rs v w u x c k h = tt

  pending_moves : (es : List EntryOf) (m : PairOf) (v w : DeviceState) (u x : Option CellContentOf) (n : ℕ) (g : Stage)
      → (IsUnderWay w.phase x → IsUnderWay v.phase u)
      → Pending ps es (with_device m v u) n g → Pending ps es (with_device m w x) n g
  pending_moves es m v w u x n (Stage.Apply t) k h = λ e. h (k e)
  pending_moves es m v w u x n g k h = tt

  module _ (first : List RowOf) (es : List EntryOf) where
    -- a step of a device that keeps its rows
    pub moves_stand : (m : PairOf) (v : DeviceState) (p : Phase) (bytes : List ℕ) (previous : State) (u x : Option CellContentOf)
        → IsMove (since es) v (at_phase v p bytes previous) u x
        → OwnStands p (wish_at v.unit p (length bytes)) (command_of x) → StageForm p (length bytes) → (IsUnderWay p x → IsUnderWay v.phase u)
        → IsStanding ps ds first es (with_device m v u) → IsStanding ps ds first es (with_device m (at_phase v p bytes previous) x)
    moves_stand m v p bytes previous u x k own form under s =
        record {
          own = own;
          command = s.command;
          form = form;
          together = together_moves (since es) m v (at_phase v p bytes previous) u x m.session.number m.session.stage k s.together;
          pending = pending_moves es m v (at_phase v p bytes previous) u x m.session.number m.session.stage under s.pending;
          stray = stray_moves (since es) v (at_phase v p bytes previous) u x (asked_of m.down) k s.stray;
          plan = s.plan;
          chosen = s.chosen;
          identified = s.identified;
          told = s.told;
          history = s.history;
        }
