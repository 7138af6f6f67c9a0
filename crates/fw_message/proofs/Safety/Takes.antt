-- Answers of the device without a change, or with a step to IDLE, keep the invariant.
use Rattle.std.specs.Prelude.{◌≡◌, ℕ, Bool, List, [], Option, Some, None}
use Rattle.std.proofs.Common.{refl, sym, subst, arith}
use Rattle.fw_package.specs.Package.{DescriptorOf, PackageText}
use Rattle.fwup_wire.specs.Values.{AnswerOf, CommandOf}
use Rattle.fd_core.specs.Commands.{CancelRow, CommandEffect, CommandEffect, cancel_by, cancel_row, cancel_take, effect_of_answer, refused}
use Rattle.fd_core.specs.Images.{RowOf}
use Rattle.fd_core.specs.States.{Phase, state_of}
use Rattle.fd_core.specs.declared.states.Reason.TheVariants as reasons
use Rattle.ua_core.specs.Session.{Stage}
use Rattle.ua_core.specs.Wish.{stage_wish}
use Rattle.ua_core.specs.declared.planned.Recorded.{Recorded}
use Rattle.fw_message.specs.Headline.{EntryOf}
use Rattle.ua_core.specs.Lent.{package_at}
use Rattle.fw_message.specs.Pairs.{PairOf, Stepped, down_taken, down_wish, history_with, with_down}
use Rattle.fw_message.proofs.Safety.Agreement.{AreTold, CommandStands, IsLost, IsStanding, Together}
use Rattle.fw_message.proofs.Safety.Loose.{cell, idle_device, lost_pending, lost_together}
use Rattle.fw_message.proofs.Safety.Histories.{history_dropped}
use Rattle.fw_message.proofs.Safety.Readings.{since}

-- the result of a step keeps the invariant
abbrev pub Stood : List PackageText → List DescriptorOf → List RowOf → List EntryOf → Stepped → Type 0
Stood ps ds first es t = IsStanding ps ds first (history_with es t.noted) t.after

-- a reply doesn't change the cell's command
command_answered : (g : Stage) (wish : Option CommandOf) (c : CommandOf) (r s : Option AnswerOf) (l : Bool)
    → CommandStands g wish (Some (cell c r l)) → CommandStands g wish (Some (cell c s l))
command_answered Stage.Idle wish c r s l h = tt
command_answered Stage.Query wish c r s l h = tt
command_answered Stage.Done wish c r s l h = tt
command_answered Stage.Cancelling wish c r s l h = tt
command_answered (Stage.Failed x) wish c r s l h = tt
command_answered g wish c r s l h = h

-- the pair with a command in the agent's cell, and after the device took it
abbrev pub asking : PairOf → CommandOf → Bool → PairOf
asking m c l = with_down m (Some (cell c None l))

abbrev pub taken : PairOf → CommandOf → Bool → CommandEffect → Stepped
taken m c l t = down_taken (asking m c l) (cell c None l) t

pub told_command : (ps : List PackageText) (m : PairOf) (c : CommandOf) (a : AnswerOf) (l : Bool)
    → CommandStands m.session.stage (down_wish ps m.session) (Some (cell c None l))
    → CommandStands m.session.stage (down_wish ps m.session) (Some (cell c (Some a) l))
told_command ps m c a l h = command_answered m.session.stage (down_wish ps m.session) c None (Some a) l h

-- the commands whose answers don't matter to the agreement
abbrev pub IsOther : CommandOf → Type 0
IsOther (CommandOf.RequestUpdate r) = ⊥
IsOther (CommandOf.UpdateComponent o) = ⊥
IsOther (CommandOf.ActivateFirmware b) = ⊥
IsOther CommandOf.CancelUpdate = ⊥
IsOther c = Unit {0}

abbrev pub IsNoCancel : CommandOf → Type 0
IsNoCancel CommandOf.CancelUpdate = ⊥
IsNoCancel c = Unit {0}

abbrev OtherIn : Option CommandOf → Type 0
OtherIn None = Unit {0}
OtherIn (Some c) = IsOther c

abbrev NoCancelIn : Option CommandOf → Type 0
NoCancelIn None = Unit {0}
NoCancelIn (Some c) = IsNoCancel c

refused_cancel : (p : Phase) (code : ℕ) → cancel_row p ≡ CancelRow.RefuseCancel code → code ≡ 0x80 → IsLost p
refused_cancel Phase.Idle code e c = tt
refused_cancel Phase.Activated code e c = absurd (let is : 0x84 ≡ code = cc in omega (arith, is, c))
refused_cancel p code e c = absurd (cc)

module _ (ps : List PackageText) (ds : List DescriptorOf) where
  other_told : (rs : List Recorded) (m : PairOf) (n : ℕ) (c : CommandOf) (a : AnswerOf) (l : Bool) (g : Stage) → IsOther c
      → CommandStands g (stage_wish m.session.unit (package_at ps n) g) (Some (cell c None l))
      → Together ps ds rs (asking m c l) n g → Together ps ds rs (with_down m (Some (cell c (Some a) l))) n g
  other_told rs m n c a l (Stage.ClearOld j) o s h = absurd (subst OtherIn (sym s.1) o)
  other_told rs m n c a l (Stage.Request j) o s h = absurd (subst OtherIn (sym s.1) o)
  other_told rs m n c a l (Stage.Update t) o s h = absurd (subst OtherIn (sym s.1) o)
  other_told rs m n c a l (Stage.Activate j) o s h = absurd (subst OtherIn (sym s.1) o)
  other_told rs m n c a l g o s h = h

  refused_told : (rs : List Recorded) (m : PairOf) (n : ℕ) (c : CommandOf) (code : ℕ) (l : Bool) (g : Stage) → IsNoCancel c
      → CommandStands g (stage_wish m.session.unit (package_at ps n) g) (Some (cell c None l))
      → Together ps ds rs (asking m c l) n g
      → Together ps ds rs (with_down m (Some (cell c (Some (AnswerOf.Refused code)) l))) n g
  refused_told rs m n c code l (Stage.ClearOld j) o s h = absurd (subst NoCancelIn (sym s.1) o)
  refused_told rs m n c code l g o s h = h

  cancel_told : (rs : List Recorded) (m : PairOf) (n : ℕ) (code : ℕ) (l : Bool) (g : Stage) → (code ≡ 0x80 → IsLost m.device.phase)
      → Together ps ds rs (asking m CommandOf.CancelUpdate l) n g
      → Together ps ds rs (with_down m (Some (cell CommandOf.CancelUpdate (Some (AnswerOf.Refused code)) l))) n g
  cancel_told rs m n code l (Stage.ClearOld j) o h = o
  cancel_told rs m n code l g o h = h

  module _ (first : List RowOf) (es : List EntryOf) where
    -- an answer that changes nothing
    pub told_stands : (m : PairOf) (c : CommandOf) (a : AnswerOf) (l : Bool) → AreTold ds (Some a)
        → Together ps ds (since es) (with_down m (Some (cell c (Some a) l))) m.session.number m.session.stage
        → IsStanding ps ds first es (asking m c l)
        → Stood ps ds first es (taken m c l (effect_of_answer m.device a))
    unfolding down_taken
    told_stands m c a l t h s =
        record {
          own = s.own;
          command = told_command ps m c a l s.command;
          form = s.form;
          together = h;
          pending = s.pending;
          stray = tt;
          plan = s.plan;
          chosen = s.chosen;
          identified = s.identified;
          told = t;
          history = s.history;
        }

    pub other_stands : (m : PairOf) (c : CommandOf) (a : AnswerOf) (l : Bool) → AreTold ds (Some a) → IsOther c
        → IsStanding ps ds first es (asking m c l)
        → Stood ps ds first es (taken m c l (effect_of_answer m.device a))
    other_stands m c a l t o s =
        told_stands m c a l t (other_told (since es) m m.session.number c a l m.session.stage o s.command s.together) s

    pub refused_stands : (m : PairOf) (c : CommandOf) (code : ℕ) (l : Bool) → IsNoCancel c
        → IsStanding ps ds first es (asking m c l)
        → Stood ps ds first es (taken m c l (refused m.device code))
    refused_stands m c code l o s =
        told_stands m c (AnswerOf.Refused code) l tt
        (refused_told (since es) m m.session.number c code l m.session.stage o s.command s.together) s

    -- QueryDeviceIdentifiers
    pub query_stands : (m : PairOf) (l : Bool)
        → IsStanding ps ds first es (asking m CommandOf.QueryDeviceIdentifiers l)
        → Stood ps ds first es (taken m CommandOf.QueryDeviceIdentifiers l (effect_of_answer m.device (AnswerOf.QueryDeviceIdentifiers m.device.descriptors)))
    query_stands m l s =
        other_stands m CommandOf.QueryDeviceIdentifiers (AnswerOf.QueryDeviceIdentifiers m.device.descriptors) l s.identified tt s

    -- CancelUpdate
    cancel_by_row : (m : PairOf) (l : Bool) → IsStanding ps ds first es (asking m CommandOf.CancelUpdate l)
        → (row : CancelRow) → cancel_row m.device.phase ≡ row
        → Stood ps ds first es (taken m CommandOf.CancelUpdate l (cancel_by m.device row))
    unfolding down_taken
    cancel_by_row m l s (CancelRow.RefuseCancel code) e =
        record {
          own = s.own;
          command = told_command ps m CommandOf.CancelUpdate (AnswerOf.Refused code) l s.command;
          form = s.form;
          together = cancel_told (since es) m m.session.number code l m.session.stage (refused_cancel m.device.phase code e) s.together;
          pending = s.pending;
          stray = tt;
          plan = s.plan;
          chosen = s.chosen;
          identified = s.identified;
          told = tt;
          history = s.history;
        }
    cancel_by_row m l s CancelRow.Reset e =
        let v = idle_device m.device [] (state_of m.device.phase) reasons.Cancelled in
        let answered = with_down m (Some (cell CommandOf.CancelUpdate (Some AnswerOf.CancelUpdate) l)) in
        record {
          own = tt;
          command = told_command ps m CommandOf.CancelUpdate AnswerOf.CancelUpdate l s.command;
          form = tt;
          together = lost_together ps ds (since es) answered v m.session.number m.session.stage;
          pending = lost_pending ps ds es answered v m.session.number m.session.stage s.pending;
          stray = tt;
          plan = s.plan;
          chosen = s.chosen;
          identified = s.identified;
          told = tt;
          history = history_dropped ps ds first m.device.rows m.session.records es s.history;
        }

    pub cancel_stands : (m : PairOf) (l : Bool) → IsStanding ps ds first es (asking m CommandOf.CancelUpdate l)
        → Stood ps ds first es (taken m CommandOf.CancelUpdate l (cancel_take m.device))
    cancel_stands m l s = cancel_by_row m l s (cancel_row m.device.phase) refl
