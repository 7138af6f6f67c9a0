-- The agent's commands, and the device's answers, keep the invariant.
use Rattle.std.specs.Prelude.{◌≡◌, ℕ, ◌&&◌, not, Bool, true, false, if◌then◌else◌, List, Option, Some, None}
use Rattle.std.specs.Option.{IfSome}
use Rattle.std.proofs.Common.{refl, sym, subst}
use Rattle.mctp_wire.specs.declared.unit.Unit.{«Unit»}
use Rattle.fw_package.specs.Package.{DescriptorOf, PackageText}
use Rattle.fwup_wire.specs.Values.{AnswerOf, CommandOf}
use Rattle.fd_core.specs.Commands.{all_parameters, device_take, status_of}
use Rattle.fd_core.specs.Images.{RowOf}
use Rattle.ua_core.specs.Session.{Stage}
use Rattle.ua_core.specs.Wish.{stage_wish}
use Rattle.ua_core.specs.declared.planned.Recorded.{Recorded}
use Rattle.fw_message.specs.Headline.{EntryOf}
use Rattle.ua_core.specs.Lent.{package_at}
use Rattle.fw_message.specs.Pairs.{CellContentOf, PairOf, StepOf, Stepped, cell_after_ask, down_wish, fresh_cell, is_empty, put_down, step_of, take_down, take_down_at, with_down}
use Rattle.fw_message.proofs.Safety.Agreement.{CommandStands, IsStanding, Stray, Together}
use Rattle.fw_message.proofs.Safety.Begins.{offer_stands, request_stands, switch_stands, table_stands}
use Rattle.fw_message.proofs.Safety.Loose.{cell}
use Rattle.fw_message.proofs.Safety.Readings.{since}
use Rattle.fw_message.proofs.Safety.Takes.{Stood, asking, cancel_stands, other_stands, query_stands, refused_stands, taken}

-- if a step is taken, its result keeps the invariant
abbrev pub Leaves : List PackageText → List DescriptorOf → List RowOf → List EntryOf → Option Stepped → Type 0
Leaves ps ds first es o = IfSome o (Stood ps ds first es)

quiet_up : (up : Option CellContentOf) (quiet : Bool) → (quiet && not (is_empty up)) ≡ false → quiet ≡ true → up ≡ None
quiet_up None quiet e q = refl
quiet_up (Some h) true e q = absurd (cc)
quiet_up (Some h) false e q = absurd (cc)

module _ (ps : List PackageText) (ds : List DescriptorOf) (first : List RowOf) (es : List EntryOf) where
  -- Take
  take_by_command : (m : PairOf) (l quiet works : Bool) → (quiet ≡ true → m.up ≡ None) → (c : CommandOf)
      → IsStanding ps ds first es (asking m c l)
      → Stood ps ds first es (taken m c l (device_take m.device c quiet works))
  take_by_command m l quiet works q CommandOf.QueryDeviceIdentifiers s = query_stands ps ds first es m l s
  take_by_command m l quiet works q CommandOf.GetFirmwareParameters s =
      other_stands ps ds first es m CommandOf.GetFirmwareParameters (AnswerOf.GetFirmwareParameters (all_parameters m.device.rows m.device.components)) l tt tt s
  take_by_command m l quiet works q CommandOf.GetStatus s =
      other_stands ps ds first es m CommandOf.GetStatus (AnswerOf.GetStatus (status_of m.device)) l tt tt s
  take_by_command m l quiet works q (CommandOf.RequestUpdate r) s = request_stands ps ds first es m r l quiet q s
  take_by_command m l quiet works q (CommandOf.PassComponentTable x) s = table_stands ps ds first es m x l s
  take_by_command m l quiet works q (CommandOf.UpdateComponent o) s = offer_stands ps ds first es m o l quiet works q s
  take_by_command m l quiet works q CommandOf.CancelUpdateComponent s = absurd s.stray
  take_by_command m l quiet works q (CommandOf.ActivateFirmware b) s = switch_stands ps ds first es m b l works s
  take_by_command m l quiet works q CommandOf.CancelUpdate s = cancel_stands ps ds first es m l s
  take_by_command m l quiet works q (CommandOf.RequestFirmwareData offset size) s =
      refused_stands ps ds first es m (CommandOf.RequestFirmwareData offset size) 5 l tt s
  take_by_command m l quiet works q (CommandOf.TransferComplete r) s =
      refused_stands ps ds first es m (CommandOf.TransferComplete r) 5 l tt s
  take_by_command m l quiet works q (CommandOf.VerifyComplete r) s = refused_stands ps ds first es m (CommandOf.VerifyComplete r) 5 l tt s
  take_by_command m l quiet works q (CommandOf.ApplyComplete r x) s = refused_stands ps ds first es m (CommandOf.ApplyComplete r x) 5 l tt s

  take_tested : (m : PairOf) (c : CommandOf) (l quiet works : Bool) (b : Bool) → (quiet && not (is_empty m.up)) ≡ b
      → IsStanding ps ds first es (asking m c l)
      → Leaves ps ds first es (if b then None else Some (taken m c l (device_take m.device c quiet works)))
  take_tested m c l quiet works true e s = tt
  take_tested m c l quiet works false e s = take_by_command m l quiet works (quiet_up m.up quiet e) c s

  take_at : (m : PairOf) (c : CommandOf) (r : Option AnswerOf) (l quiet works : Bool)
      → IsStanding ps ds first es (with_down m (Some (cell c r l)))
      → Leaves ps ds first es (take_down_at (with_down m (Some (cell c r l))) (cell c r l) r quiet works)
  take_at m c None l quiet works s = take_tested m c l quiet works (quiet && not (is_empty m.up)) refl s
  take_at m c (Some a) l quiet works s = tt

  take_cell : (m : PairOf) (down : Option CellContentOf) (quiet works : Bool) → IsStanding ps ds first es (with_down m down)
      → Leaves ps ds first es (take_down (with_down m down) down quiet works)
  take_cell m None quiet works s = tt
  take_cell m (Some h) quiet works s = take_at m h.command h.reply h.live quiet works s

  pub device_takes : (m : PairOf) (quiet works : Bool) → IsStanding ps ds first es m
      → Leaves ps ds first es (step_of ps m (StepOf.TakeDown quiet works))
  device_takes m quiet works s = take_cell m m.down quiet works s

  -- Ask
  ask_command : (unit : «Unit») (g : Stage) (c : CommandOf) (n : ℕ) → stage_wish unit (package_at ps n) g ≡ Some c
      → CommandStands g (stage_wish unit (package_at ps n) g) (Some (fresh_cell c))
  ask_command unit Stage.Idle c n e = tt
  ask_command unit Stage.Query c n e = tt
  ask_command unit Stage.Done c n e = tt
  ask_command unit Stage.Cancelling c n e = tt
  ask_command unit (Stage.Failed x) c n e = tt
  ask_command unit g c n e = (refl, e)

  ask_together : (rs : List Recorded) (m : PairOf) (n : ℕ) (c : CommandOf) (g : Stage) → Together ps ds rs (with_down m None) n g
      → Together ps ds rs (with_down m (Some (fresh_cell c))) n g
  ask_together rs m n c g h = h

  abbrev StrayIn : List Recorded → PairOf → Option CommandOf → Type 0
  StrayIn rs m c = Stray ps ds rs m.device.rows m.device.phase c

  ask_stray : (rs : List Recorded) (m : PairOf) (n : ℕ) (g : Stage) → Together ps ds rs (with_down m None) n g
      → StrayIn rs m (stage_wish m.session.unit (package_at ps n) g)
  ask_stray rs m n (Stage.Activate j) h = (n, h)
  ask_stray rs m n g h = tt

  asks : (m : PairOf) (wish : Option CommandOf) → wish ≡ down_wish ps m.session → IsStanding ps ds first es (with_down m None)
      → Leaves ps ds first es (put_down (with_down m None) (cell_after_ask None wish))
  asks m None e s = tt
  asks m (Some c) e s =
      record {
        own = s.own;
        command = ask_command m.session.unit m.session.stage c m.session.number (sym e);
        form = s.form;
        together = ask_together (since es) m m.session.number c m.session.stage s.together;
        pending = s.pending;
        stray = subst (StrayIn (since es) m) (sym e) (ask_stray (since es) m m.session.number m.session.stage s.together);
        plan = s.plan;
        chosen = s.chosen;
        identified = s.identified;
        told = tt;
        history = s.history;
      }

  asks_at : (m : PairOf) (down : Option CellContentOf) → IsStanding ps ds first es (with_down m down)
      → Leaves ps ds first es (put_down (with_down m down) (cell_after_ask down (down_wish ps m.session)))
  asks_at m None s = asks m (down_wish ps m.session) refl s
  asks_at m (Some h) s = tt

  pub agent_asks : (m : PairOf) → IsStanding ps ds first es m → Leaves ps ds first es (step_of ps m StepOf.AskDown)
  agent_asks m s = asks_at m m.down s
