-- Cells that are filled, emptied and closed keep the invariant.
use Rattle.std.specs.Prelude.{◌≡◌, ℕ, Bool, true, false, if◌then◌else◌, List, length, Option, Some, None}
use Rattle.std.proofs.Common.{refl, sym, subst, inl, inr}
use Rattle.mctp_wire.specs.declared.unit.Unit.{«Unit»}
use Rattle.fw_package.specs.Package.{ComponentOf, DescriptorOf, PackageText}
use Rattle.fwup_wire.specs.Values.{AnswerOf, CommandOf}
use Rattle.fd_core.specs.Images.{RowOf}
use Rattle.fd_core.specs.States.{Phase}
use Rattle.fd_core.specs.Wishes.{device_wish, wish_at}
use Rattle.fd_core.specs.declared.states.Progress.TheVariants as progress
use Rattle.ua_core.specs.Session.{Stage}
use Rattle.ua_core.specs.Wish.{stage_wish}
use Rattle.ua_core.specs.declared.planned.Recorded.{Recorded}
use Rattle.fw_message.specs.Headline.{EntryOf}
use Rattle.ua_core.specs.Lent.{package_at}
use Rattle.fw_message.specs.Pairs.{CellContentOf, PairOf, StepOf, cell_after_ask, dropped_cell, fresh_cell, cell_after_give_up, put_down, put_up, step_of, with_down, with_up}
use Rattle.fw_message.specs.declared.side.Way.TheVariants as ways
use Rattle.fw_message.proofs.Safety.Agreement.{Application, CommandStands, IsBegunAt, IsStanding, OwnStands, Pending, Together, Transfer, UpdateOffered, Verification, at_hand, command_of, is_applied, is_offered, is_sealed, reply_of}
use Rattle.fw_message.proofs.Safety.Down.{Leaves}
use Rattle.fw_message.proofs.Safety.Loose.{none_command}
use Rattle.fw_message.proofs.Safety.Readings.{since}

own_none : (p : Phase) (wish : Option CommandOf) → OwnStands p wish None
own_none Phase.Idle wish = tt
own_none p wish = tt

own_asks : (p : Phase) (wish : Option CommandOf) (c : CommandOf) → wish ≡ Some c → OwnStands p wish (Some c)
own_asks Phase.Idle wish c e = tt
own_asks p wish c e = e

-- only a sealed image is reported as applied
applied_sealed : (unit : «Unit») (p : Phase) (have : ℕ) → is_applied (wish_at unit p have) ≡ true → is_sealed p ≡ true
applied_sealed unit (Phase.Apply u w progress.InProgress) have e = absurd (cc)
applied_sealed unit (Phase.Apply u w progress.Succeeded) have e = refl
applied_sealed unit (Phase.Apply u w (progress.Failed true)) have e = absurd (cc)
applied_sealed unit (Phase.Apply u w (progress.Failed false)) have e = absurd (cc)
applied_sealed unit (Phase.Verify u w progress.InProgress) have e = absurd (cc)
applied_sealed unit (Phase.Verify u w progress.Succeeded) have e = absurd (cc)
applied_sealed unit (Phase.Verify u w (progress.Failed true)) have e = absurd (cc)
applied_sealed unit (Phase.Verify u w (progress.Failed false)) have e = absurd (cc)
applied_sealed unit (Phase.Download u w progress.InProgress) have e = absurd (cc)
applied_sealed unit (Phase.Download u w progress.Succeeded) have e = absurd (cc)
applied_sealed unit (Phase.Download u w (progress.Failed true)) have e = absurd (cc)
applied_sealed unit (Phase.Download u w (progress.Failed false)) have e = absurd (cc)
applied_sealed unit p have e = absurd (cc)

module _ (ps : List PackageText) (ds : List DescriptorOf) where
  module _ (n : ℕ) (rs : List Recorded) (c : ComponentOf) (rows : List RowOf) (bytes : List ℕ) where
    transfer_asked : (p : Phase) (d e : Option CommandOf) → Transfer ps ds n rs c rows bytes p d None
        → Transfer ps ds n rs c rows bytes p e None
    transfer_asked Phase.Idle d e h = tt
    transfer_asked (Phase.Download u w a) d e h = record { same = h.same; stage = h.stage; backed = h.backed; piece = tt }
    transfer_asked p d e h = absurd h

    pub transfer_none : (p : Phase) (d : Option CommandOf) (r : Option AnswerOf) → Transfer ps ds n rs c rows bytes p d r
        → Transfer ps ds n rs c rows bytes p None None
    transfer_none Phase.Idle d r h = tt
    transfer_none (Phase.Download u w a) d r h = record { same = h.same; stage = h.stage; backed = h.backed; piece = tt }
    transfer_none p d r h = absurd h

    begun_none : (p : Phase) (r : Option AnswerOf) → IsBegunAt ps ds n rs c rows bytes p r → IsBegunAt ps ds n rs c rows bytes p None
    begun_none Phase.Idle r h = tt
    begun_none (Phase.Download u w progress.InProgress) r h = record { same = h.same; stage = h.stage; backed = h.backed; nothing = tt }
    begun_none (Phase.Download u w progress.Succeeded) r h = record { same = h.same; stage = h.stage; backed = h.backed; nothing = tt }
    begun_none p r h = absurd h

    pub offered_none : (p : Phase) (r : Option AnswerOf) (b : Bool) → UpdateOffered ps ds n rs c rows bytes p r b
        → UpdateOffered ps ds n rs c rows bytes p None b
    offered_none p r true h = begun_none p r h
    offered_none p r false h = h

    pub verification_none : (p : Phase) (r : Option AnswerOf) → Verification ps ds n rs c rows bytes p r
        → Verification ps ds n rs c rows bytes p None
    verification_none Phase.Idle r h = tt
    verification_none (Phase.Download u w progress.Succeeded) r h = h
    verification_none (Phase.Verify u w a) r h = (h.0, tt)
    verification_none p r h = absurd h

    pub application_none : (p : Phase) (r : Option AnswerOf) → Application ps ds n rs c rows bytes p r
        → Application ps ds n rs c rows bytes p None
    application_none Phase.Idle r h = tt
    application_none (Phase.Verify u w progress.Succeeded) r h = h
    application_none (Phase.Apply u w progress.InProgress) r h = (h.0, tt)
    application_none (Phase.Apply u w progress.Succeeded) r h = (h.0, tt)
    application_none (Phase.Apply u w (progress.Failed b)) r h = (h.0, tt)
    application_none p r h = absurd h

  -- the device's cell is emptied
  emptied_together : (rs : List Recorded) (m : PairOf) (n : ℕ) (g : Stage) → Together ps ds rs m n g
      → Together ps ds rs (with_up m None) n g
  emptied_together rs m n (Stage.Update t) h =
      offered_none n rs (at_hand (package_at ps n) t) m.device.rows m.device.stage m.device.phase (reply_of m.up)
      (is_offered (reply_of m.down)) h
  emptied_together rs m n (Stage.Download t) h =
      transfer_none n rs (at_hand (package_at ps n) t) m.device.rows m.device.stage m.device.phase (command_of m.up) (reply_of m.up) h
  emptied_together rs m n (Stage.Verify t) h =
      verification_none n rs (at_hand (package_at ps n) t) m.device.rows m.device.stage m.device.phase (reply_of m.up) h
  emptied_together rs m n (Stage.Apply t) h =
      application_none n rs (at_hand (package_at ps n) t) m.device.rows m.device.stage m.device.phase (reply_of m.up) h
  emptied_together rs m n g h = h

  emptied_pending : (es : List EntryOf) (m : PairOf) (n : ℕ) (g : Stage) → Pending ps es m n g → Pending ps es (with_up m None) n g
  emptied_pending es m n (Stage.Apply t) h = λ e. elim e [ inl sealed ↦ h (inl sealed) | inr told ↦ absurd (cc) ]
  emptied_pending es m n g h = tt

  asked_together : (rs : List Recorded) (m : PairOf) (c : CommandOf) (n : ℕ) (g : Stage) → Together ps ds rs (with_up m None) n g
      → Together ps ds rs (with_up m (Some (fresh_cell c))) n g
  asked_together rs m c n (Stage.Download t) h =
      transfer_asked n rs (at_hand (package_at ps n) t) m.device.rows m.device.stage m.device.phase None (Some c) h
  asked_together rs m c n g h = h

  asked_pending : (es : List EntryOf) (m : PairOf) (c : CommandOf) (n : ℕ) (g : Stage) → device_wish m.device ≡ Some c
      → Pending ps es (with_up m None) n g → Pending ps es (with_up m (Some (fresh_cell c))) n g
  asked_pending es m c n (Stage.Apply t) e h = λ k. elim k [
    | inl sealed ↦ h (inl sealed)
    | inr told ↦ h (inl (applied_sealed m.device.unit m.device.phase (length m.device.stage) (subst (λ (x : Option CommandOf). is_applied x ≡ true) (sym e) told)))
  ]
  asked_pending es m c n g e h = tt

  -- the agent's cell is emptied if nobody waits for it
  dropped_down : (rs : List Recorded) (m : PairOf) (c : CommandOf) (r : Option AnswerOf) (n : ℕ) (g : Stage)
      → CommandStands g (stage_wish m.session.unit (package_at ps n) g) (Some (record { command = c; reply = r; live = false }))
      → Together ps ds rs (with_down m (Some (record { command = c; reply = r; live = false }))) n g
      → Together ps ds rs (with_down m None) n g
  dropped_down rs m c r n (Stage.ClearOld j) s h = absurd (let e = s.0 in cc)
  dropped_down rs m c r n (Stage.Request j) s h = absurd (let e = s.0 in cc)
  dropped_down rs m c r n (Stage.Update t) s h = absurd (let e = s.0 in cc)
  dropped_down rs m c r n (Stage.Activate j) s h = absurd (let e = s.0 in cc)
  dropped_down rs m c r n g s h = h

  module _ (first : List RowOf) (es : List EntryOf) where
    -- Ask Up
    asks : (m : PairOf) (wish : Option CommandOf) → wish ≡ device_wish m.device → IsStanding ps ds first es (with_up m None)
        → Leaves ps ds first es (put_up (with_up m None) (cell_after_ask None wish))
    asks m None e s = tt
    asks m (Some c) e s =
        record {
          own = own_asks m.device.phase (device_wish m.device) c (sym e);
          command = s.command;
          form = s.form;
          together = asked_together (since es) m c m.session.number m.session.stage s.together;
          pending = asked_pending es m c m.session.number m.session.stage (sym e) s.pending;
          stray = s.stray;
          plan = s.plan;
          chosen = s.chosen;
          identified = s.identified;
          told = s.told;
          history = s.history;
        }

    asks_at : (m : PairOf) (up : Option CellContentOf) → IsStanding ps ds first es (with_up m up)
        → Leaves ps ds first es (put_up (with_up m up) (cell_after_ask up (device_wish m.device)))
    asks_at m None s = asks m (device_wish m.device) refl s
    asks_at m (Some h) s = tt

    pub device_asks : (m : PairOf) → IsStanding ps ds first es m → Leaves ps ds first es (step_of ps m StepOf.AskUp)
    device_asks m s = asks_at m m.up s

    -- Drop Up
    pub emptied_stands : (m : PairOf) → IsStanding ps ds first es m → IsStanding ps ds first es (with_up m None)
    emptied_stands m s =
        record {
          own = own_none m.device.phase (device_wish m.device);
          command = s.command;
          form = s.form;
          together = emptied_together (since es) m m.session.number m.session.stage s.together;
          pending = emptied_pending es m m.session.number m.session.stage s.pending;
          stray = s.stray;
          plan = s.plan;
          chosen = s.chosen;
          identified = s.identified;
          told = s.told;
          history = s.history;
        }

    drops_up : (m : PairOf) (up : Option CellContentOf) → IsStanding ps ds first es (with_up m up)
        → Leaves ps ds first es (put_up (with_up m up) (dropped_cell up))
    drops_up m None s = tt
    drops_up m (Some h) s = at_live h.live
      where
        at_live : (l : Bool) → Leaves ps ds first es (put_up (with_up m (Some h)) (if l then None else Some None))
        at_live true = tt
        at_live false = emptied_stands (with_up m (Some h)) s

    pub up_drops : (m : PairOf) → IsStanding ps ds first es m → Leaves ps ds first es (step_of ps m (StepOf.Drop ways.Up))
    up_drops m s = drops_up m m.up s

    -- GiveUp Up
    pub closed_up : (m : PairOf) (h : CellContentOf) (l : Bool) → IsStanding ps ds first es (with_up m (Some h))
        → IsStanding ps ds first es (with_up m (Some (record h { live = l })))
    closed_up m h l s = record {
      own = s.own;
      command = s.command;
      form = s.form;
      together = s.together;
      pending = s.pending;
      stray = s.stray;
      plan = s.plan;
      chosen = s.chosen;
      identified = s.identified;
      told = s.told;
      history = s.history;
    }

    gives_up : (m : PairOf) (up : Option CellContentOf) → IsStanding ps ds first es (with_up m up)
        → Leaves ps ds first es (put_up (with_up m up) (cell_after_give_up up))
    gives_up m None s = tt
    gives_up m (Some h) s = at_live h.live
      where
        at_live : (l : Bool)
            → Leaves ps ds first es (put_up (with_up m (Some h)) (if l then Some (Some (record h { live = false })) else None))
        at_live true = closed_up m h false s
        at_live false = tt

    pub device_gives_up : (m : PairOf) → IsStanding ps ds first es m → Leaves ps ds first es (step_of ps m (StepOf.GiveUp ways.Up))
    device_gives_up m s = gives_up m m.up s

    -- Drop Down
    drop_dead : (m : PairOf) (c : CommandOf) (r : Option AnswerOf)
        → IsStanding ps ds first es (with_down m (Some (record { command = c; reply = r; live = false })))
        → IsStanding ps ds first es (with_down m None)
    drop_dead m c r s =
        record {
          own = s.own;
          command = none_command m.session.stage (stage_wish m.session.unit (package_at ps m.session.number) m.session.stage);
          form = s.form;
          together = dropped_down (since es) m c r m.session.number m.session.stage s.command s.together;
          pending = s.pending;
          stray = tt;
          plan = s.plan;
          chosen = s.chosen;
          identified = s.identified;
          told = tt;
          history = s.history;
        }

    drop_at : (m : PairOf) (c : CommandOf) (r : Option AnswerOf) (l : Bool)
        → IsStanding ps ds first es (with_down m (Some (record { command = c; reply = r; live = l })))
        → Leaves ps ds first es (put_down (with_down m (Some (record { command = c; reply = r; live = l }))) (if l then None else Some None))
    drop_at m c r true s = tt
    drop_at m c r false s = drop_dead m c r s

    drops_down : (m : PairOf) (down : Option CellContentOf) → IsStanding ps ds first es (with_down m down)
        → Leaves ps ds first es (put_down (with_down m down) (dropped_cell down))
    drops_down m None s = tt
    drops_down m (Some h) s = drop_at m h.command h.reply h.live s

    pub down_drops : (m : PairOf) → IsStanding ps ds first es m → Leaves ps ds first es (step_of ps m (StepOf.Drop ways.Down))
    down_drops m s = drops_down m m.down s
