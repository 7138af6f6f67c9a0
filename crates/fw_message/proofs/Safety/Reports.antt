-- The answers that the device learns keep the invariant.
use Rattle.std.specs.Prelude.{◌≡◌, ◌<◌, ◌≤◌, ◌-◌, ◌++◌, ◌==◌, ℕ, Bool, true, false, if◌then◌else◌, List, [], length, take, Option, Some, None}
use Rattle.std.proofs.Common.{sym, subst, inl, inr, arith}
use Rattle.std.proofs.lemmas.Bool.{cond_both}
use Rattle.fw_package.specs.Package.{ComponentOf, DescriptorOf, PackageText}
use Rattle.fwup_wire.specs.Values.{AnswerOf, CommandOf}
use Rattle.fd_core.specs.Commands.{download_progress}
use Rattle.fd_core.specs.Images.{RowOf}
use Rattle.fd_core.specs.States.{DeviceState, Phase, UpdateOf, WorkOf, state_of}
use Rattle.fd_core.specs.Wishes.{DeviceLearnRow, asked_length, download_by, learn_at, stage_with}
use Rattle.fd_core.specs.declared.states.Progress.{Progress}
use Rattle.fd_core.specs.declared.states.Progress.TheVariants as progress
use Rattle.fd_core.specs.declared.states.State.{State}
use Rattle.ua_core.specs.Laws.{WindowContinues}
use Rattle.ua_core.specs.declared.planned.Recorded.{Recorded}
use Rattle.fw_message.specs.Headline.{EntryOf}
use Rattle.fw_message.specs.Pairs.{CellContentOf, PairOf, StepOf, waiting_answer, learn_up, step_of, with_up}
use Rattle.fw_message.proofs.Safety.Agreement.{IsPieceOf, IsStanding, IsTransfer, IsUnderWay, StageForm}
use Rattle.fw_message.proofs.Safety.Begins.{full_either}
use Rattle.fw_message.proofs.Safety.Cells.{emptied_stands}
use Rattle.fw_message.proofs.Safety.Down.{Leaves}
use Rattle.fw_message.proofs.Safety.Loose.{cell}
use Rattle.fw_message.proofs.Safety.Moves.{IsMove, moves_stand, with_device}
use Rattle.fw_message.proofs.Safety.Pieces.{piece_kept, piece_short}
use Rattle.fw_message.proofs.Safety.Readings.{since}

put_form : (u : UpdateOf) (w : WorkOf) (have : ℕ) → have ≤ w.size → StageForm (Phase.Download u w (download_progress have w.size)) have
put_form u w have le = full_either have w.size (λ a. StageForm (Phase.Download u w a) have) (λ lt. lt) (λ ge. omega (arith, le, ge))

-- no application is unrecorded
not_sealed : (u : UpdateOf) (w : WorkOf) (p : Progress) (q : Phase) (x : Option CellContentOf) → IsUnderWay (Phase.Download u w p) None
    → IsUnderWay q x
not_sealed u w p q x h = elim h [ inl bad ↦ absurd (cc) | inr bad ↦ absurd (cc) ]

module _ (ps : List PackageText) (ds : List DescriptorOf) where
  put_transfer : (law : WindowContinues) (n : ℕ) (rs : List Recorded) (c : ComponentOf) (rows : List RowOf) (stage bytes : List ℕ) (w : WorkOf) (d : CommandOf) (asked : ℕ)
      → CommandOf.RequestFirmwareData (length stage) asked ≡ d → length stage < w.size
      → IsTransfer ps ds n rs c rows stage w (Some d) (Some (AnswerOf.RequestFirmwareData bytes))
      → IsTransfer ps ds n rs c rows (stage ++ take (w.size - length stage) bytes) w None None
  put_transfer law n rs c rows stage bytes w d asked is lt h =
      let piece : IsPieceOf c.image (Some (CommandOf.RequestFirmwareData (length stage) asked)) (Some (AnswerOf.RequestFirmwareData bytes)) =
      subst (λ (x : CommandOf). IsPieceOf c.image (Some x) (Some (AnswerOf.RequestFirmwareData bytes))) (sym is) h.piece in
      record {
        same = h.same;
        stage = piece_kept law c.image stage bytes w.size asked h.same.size h.stage (omega (arith, lt)) piece;
        backed = h.backed;
        piece = tt;
      }

  -- a download after its answer
  put_moves : (law : WindowContinues) (rs : List Recorded) (v : DeviceState) (u : UpdateOf) (w : WorkOf) (bytes : List ℕ) (p : Progress) (d : CommandOf) (asked : ℕ) (l : Bool)
      → CommandOf.RequestFirmwareData (length v.stage) asked ≡ d → length v.stage < w.size
      → IsMove ps ds rs (record v { phase = Phase.Download u w progress.InProgress }) (record v { phase = Phase.Download u w p; stage = stage_with v w bytes }) (Some (cell d (Some (AnswerOf.RequestFirmwareData bytes)) l)) None
  put_moves law rs v u w bytes p d asked l is lt = record {
    lost = λ h. h;
    fresh = λ h. h;
    time = λ h. h;
    begun = λ n c h. absurd h.nothing;
    waiting = λ n h. h;
    transfer = λ n c h. put_transfer law n rs c v.rows v.stage bytes w d asked is lt h;
    verification = λ n c h. absurd h;
    application = λ n c h. h;
    settled = λ n h. h;
  }

  fails_moves : (rs : List Recorded) (v : DeviceState) (u : UpdateOf) (w : WorkOf) (bytes : List ℕ) (d : CommandOf) (l : Bool)
      → IsMove ps ds rs (record v { phase = Phase.Download u w progress.InProgress }) (record v { phase = Phase.Download u w (progress.Failed false) }) (Some (cell d (Some (AnswerOf.RequestFirmwareData bytes)) l)) None
  fails_moves rs v u w bytes d l = record {
    lost = λ h. h;
    fresh = λ h. h;
    time = λ h. h;
    begun = λ n c h. absurd h.nothing;
    waiting = λ n h. h;
    transfer = λ n c h. record { same = h.same; stage = h.stage; backed = h.backed; piece = tt };
    verification = λ n c h. absurd h;
    application = λ n c h. h;
    settled = λ n h. h;
  }

  -- a transfer that is complete
  verify_moves : (rs : List Recorded) (v : DeviceState) (u : UpdateOf) (w : WorkOf) (previous : State) (d : CommandOf) (l : Bool)
      → IsMove ps ds rs (record v { phase = Phase.Download u w progress.Succeeded }) (record v { phase = Phase.Verify u w progress.InProgress; previous = previous }) (Some (cell d (Some AnswerOf.TransferComplete) l)) None
  verify_moves rs v u w previous d l = record {
    lost = λ h. h;
    fresh = λ h. h;
    time = λ h. h;
    begun = λ n c h. absurd h.nothing;
    waiting = λ n h. h;
    transfer = λ n c h. absurd h.piece;
    verification = λ n c h. (h, tt);
    application = λ n c h. absurd h;
    settled = λ n h. h;
  }

  reported_download : (rs : List Recorded) (v : DeviceState) (u : UpdateOf) (w : WorkOf) (b : Bool) (x : Option CellContentOf)
      → IsMove ps ds rs (record v { phase = Phase.Download u w (progress.Failed b) }) (record v { phase = Phase.Download u w (progress.Failed true) }) x None
  reported_download rs v u w b x = record {
    lost = λ h. h;
    fresh = λ h. h;
    time = λ h. h;
    begun = λ n c h. h;
    waiting = λ n h. h;
    transfer = λ n c h. record { same = h.same; stage = h.stage; backed = h.backed; piece = tt };
    verification = λ n c h. h;
    application = λ n c h. h;
    settled = λ n h. h;
  }

  -- an image that is verified
  apply_moves : (rs : List Recorded) (v : DeviceState) (u : UpdateOf) (w : WorkOf) (previous : State) (d : CommandOf) (l : Bool)
      → IsMove ps ds rs (record v { phase = Phase.Verify u w progress.Succeeded }) (record v { phase = Phase.Apply u w progress.InProgress; previous = previous }) (Some (cell d (Some AnswerOf.VerifyComplete) l)) None
  apply_moves rs v u w previous d l = record {
    lost = λ h. h;
    fresh = λ h. h;
    time = λ h. h;
    begun = λ n c h. h;
    waiting = λ n h. h;
    transfer = λ n c h. h;
    verification = λ n c h. absurd h.1;
    application = λ n c h. (h, tt);
    settled = λ n h. h;
  }

  reported_verify : (rs : List Recorded) (v : DeviceState) (u : UpdateOf) (w : WorkOf) (b : Bool) (x : Option CellContentOf)
      → IsMove ps ds rs (record v { phase = Phase.Verify u w (progress.Failed b) }) (record v { phase = Phase.Verify u w (progress.Failed true) }) x None
  reported_verify rs v u w b x = record {
    lost = λ h. h;
    fresh = λ h. h;
    time = λ h. h;
    begun = λ n c h. h;
    waiting = λ n h. h;
    transfer = λ n c h. h;
    verification = λ n c h. (h.0, tt);
    application = λ n c h. h;
    settled = λ n h. h;
  }

  -- an image that is applied
  ready_moves : (rs : List Recorded) (v : DeviceState) (u : UpdateOf) (w : WorkOf) (previous : State) (d : CommandOf) (l : Bool)
      → IsMove ps ds rs (record v { phase = Phase.Apply u w progress.Succeeded }) (record v { phase = Phase.Ready u; stage = []; previous = previous }) (Some (cell d (Some AnswerOf.ApplyComplete) l)) None
  ready_moves rs v u w previous d l = record {
    lost = λ h. h;
    fresh = λ h. h;
    time = λ h. absurd h;
    begun = λ n c h. h;
    waiting = λ n h. h;
    transfer = λ n c h. h;
    verification = λ n c h. h;
    application = λ n c h. absurd h.1;
    settled = λ n h. h;
  }

  reported_apply : (rs : List Recorded) (v : DeviceState) (u : UpdateOf) (w : WorkOf) (b : Bool) (x : Option CellContentOf)
      → IsMove ps ds rs (record v { phase = Phase.Apply u w (progress.Failed b) }) (record v { phase = Phase.Apply u w (progress.Failed true) }) x None
  reported_apply rs v u w b x = record {
    lost = λ h. h;
    fresh = λ h. h;
    time = λ h. h;
    begun = λ n c h. h;
    waiting = λ n h. h;
    transfer = λ n c h. h;
    verification = λ n c h. h;
    application = λ n c h. (h.0, tt);
    settled = λ n h. h;
  }

  module _ (first : List RowOf) (es : List EntryOf) where
    -- DOWNLOAD
    piece_learnt : (law : WindowContinues) (m : PairOf) (v : DeviceState) (u : UpdateOf) (w : WorkOf) (d : CommandOf) (bytes : List ℕ) (l works : Bool)
        → IsStanding ps ds first es (with_device m (record v { phase = Phase.Download u w progress.InProgress }) (Some (cell d (Some (AnswerOf.RequestFirmwareData bytes)) l)))
        → IsStanding ps ds first es (with_device m (learn_at (record v { phase = Phase.Download u w progress.InProgress }) (Phase.Download u w progress.InProgress) (Some (AnswerOf.RequestFirmwareData bytes)) works).after None)
    piece_learnt law m v u w d bytes l works s =
        let now = record v { phase = Phase.Download u w progress.InProgress } in
        let held = Some (cell d (Some (AnswerOf.RequestFirmwareData bytes)) l) in
        let asked = asked_length v.unit u w (length v.stage) in
        let lt : length v.stage < w.size = s.form in
        let is : CommandOf.RequestFirmwareData (length v.stage) asked ≡ d = let own = s.own in cc in
        let more = stage_with v w bytes in
        let Learnt : DeviceLearnRow → Type 0 = λ row. IsStanding ps ds first es (with_device m (download_by now u w row).after None) in
        cond_both (length bytes == asked) (if works then DeviceLearnRow.PutPiece bytes else DeviceLearnRow.PutFails) DeviceLearnRow.Stay Learnt
        (λ e. cond_both works (DeviceLearnRow.PutPiece bytes) DeviceLearnRow.PutFails Learnt
        (λ f. moves_stand ps ds first es m now (Phase.Download u w (download_progress (length more) w.size)) more v.previous held None
        (put_moves law (since es) v u w bytes (download_progress (length more) w.size) d asked l is lt)
        tt (put_form u w (length more) (piece_short v.stage bytes w.size (omega (arith, lt)))) (not_sealed u w (download_progress (length more) w.size) now.phase held) s)
        (λ f. moves_stand ps ds first es m now (Phase.Download u w (progress.Failed false)) v.stage v.previous held None (fails_moves (since es) v u w bytes d l)
        tt tt (not_sealed u w (progress.Failed false) now.phase held) s))
        (λ e. emptied_stands ps ds first es (with_device m now held) s)

    download_learnt : (law : WindowContinues) (m : PairOf) (v : DeviceState) (u : UpdateOf) (w : WorkOf) (p : Progress) (d : CommandOf) (a : AnswerOf) (l works : Bool)
        → IsStanding ps ds first es (with_device m (record v { phase = Phase.Download u w p }) (Some (cell d (Some a) l)))
        → IsStanding ps ds first es (with_device m (learn_at (record v { phase = Phase.Download u w p }) (Phase.Download u w p) (Some a) works).after None)
    download_learnt law m v u w progress.InProgress d (AnswerOf.RequestFirmwareData bytes) l works s =
        piece_learnt law m v u w d bytes l works s
    download_learnt law m v u w progress.InProgress d a l works s =
        emptied_stands ps ds first es
        (with_device m (record v { phase = Phase.Download u w progress.InProgress }) (Some (cell d (Some a) l))) s
    download_learnt law m v u w progress.Succeeded d AnswerOf.TransferComplete l works s =
        moves_stand ps ds first es m (record v { phase = Phase.Download u w progress.Succeeded }) (Phase.Verify u w progress.InProgress) v.stage (state_of (Phase.Download u w progress.Succeeded)) (Some (cell d (Some AnswerOf.TransferComplete) l)) None
        (verify_moves (since es) v u w (state_of (Phase.Download u w progress.Succeeded)) d l) tt tt (λ h. elim h [ inl bad ↦ absurd (cc) | inr bad ↦ absurd (cc) ]) s
    download_learnt law m v u w progress.Succeeded d a l works s =
        emptied_stands ps ds first es
        (with_device m (record v { phase = Phase.Download u w progress.Succeeded }) (Some (cell d (Some a) l))) s
    download_learnt law m v u w (progress.Failed b) d a l works s =
        moves_stand ps ds first es m (record v { phase = Phase.Download u w (progress.Failed b) }) (Phase.Download u w (progress.Failed true)) v.stage v.previous (Some (cell d (Some a) l)) None
        (reported_download (since es) v u w b (Some (cell d (Some a) l))) tt tt (λ h. elim h [ inl bad ↦ absurd (cc) | inr bad ↦ absurd (cc) ]) s

    -- VERIFY
    verify_learnt : (m : PairOf) (v : DeviceState) (u : UpdateOf) (w : WorkOf) (p : Progress) (d : CommandOf) (a : AnswerOf) (l works : Bool)
        → IsStanding ps ds first es (with_device m (record v { phase = Phase.Verify u w p }) (Some (cell d (Some a) l)))
        → IsStanding ps ds first es (with_device m (learn_at (record v { phase = Phase.Verify u w p }) (Phase.Verify u w p) (Some a) works).after None)
    verify_learnt m v u w progress.InProgress d a l works s =
        emptied_stands ps ds first es (with_device m (record v { phase = Phase.Verify u w progress.InProgress }) (Some (cell d (Some a) l)))
        s
    verify_learnt m v u w progress.Succeeded d AnswerOf.VerifyComplete l works s =
        moves_stand ps ds first es m (record v { phase = Phase.Verify u w progress.Succeeded }) (Phase.Apply u w progress.InProgress) v.stage (state_of (Phase.Verify u w progress.Succeeded)) (Some (cell d (Some AnswerOf.VerifyComplete) l)) None
        (apply_moves (since es) v u w (state_of (Phase.Verify u w progress.Succeeded)) d l) tt tt (λ h. elim h [ inl bad ↦ absurd (cc) | inr bad ↦ absurd (cc) ]) s
    verify_learnt m v u w progress.Succeeded d a l works s =
        emptied_stands ps ds first es (with_device m (record v { phase = Phase.Verify u w progress.Succeeded }) (Some (cell d (Some a) l)))
        s
    verify_learnt m v u w (progress.Failed b) d a l works s =
        moves_stand ps ds first es m (record v { phase = Phase.Verify u w (progress.Failed b) }) (Phase.Verify u w (progress.Failed true)) v.stage v.previous (Some (cell d (Some a) l)) None
        (reported_verify (since es) v u w b (Some (cell d (Some a) l))) tt tt (λ h. elim h [ inl bad ↦ absurd (cc) | inr bad ↦ absurd (cc) ]) s

    -- APPLY
    apply_learnt : (m : PairOf) (v : DeviceState) (u : UpdateOf) (w : WorkOf) (p : Progress) (d : CommandOf) (a : AnswerOf) (l works : Bool)
        → IsStanding ps ds first es (with_device m (record v { phase = Phase.Apply u w p }) (Some (cell d (Some a) l)))
        → IsStanding ps ds first es (with_device m (learn_at (record v { phase = Phase.Apply u w p }) (Phase.Apply u w p) (Some a) works).after None)
    apply_learnt m v u w progress.InProgress d a l works s =
        emptied_stands ps ds first es (with_device m (record v { phase = Phase.Apply u w progress.InProgress }) (Some (cell d (Some a) l)))
        s
    apply_learnt m v u w progress.Succeeded d AnswerOf.ApplyComplete l works s =
        moves_stand ps ds first es m (record v { phase = Phase.Apply u w progress.Succeeded }) (Phase.Ready u) [] (state_of (Phase.Apply u w progress.Succeeded)) (Some (cell d (Some AnswerOf.ApplyComplete) l)) None
        (ready_moves (since es) v u w (state_of (Phase.Apply u w progress.Succeeded)) d l) tt tt (λ h. elim h [ inl bad ↦ absurd (cc) | inr bad ↦ absurd (cc) ]) s
    apply_learnt m v u w progress.Succeeded d a l works s =
        emptied_stands ps ds first es (with_device m (record v { phase = Phase.Apply u w progress.Succeeded }) (Some (cell d (Some a) l))) s
    apply_learnt m v u w (progress.Failed b) d a l works s =
        moves_stand ps ds first es m (record v { phase = Phase.Apply u w (progress.Failed b) }) (Phase.Apply u w (progress.Failed true)) v.stage v.previous (Some (cell d (Some a) l)) None
        (reported_apply (since es) v u w b (Some (cell d (Some a) l))) tt tt (λ h. elim h [ inl bad ↦ absurd (cc) | inr bad ↦ absurd (cc) ]) s

    learnt_at : (law : WindowContinues) (m : PairOf) (v : DeviceState) (p : Phase) (d : CommandOf) (a : AnswerOf) (l works : Bool)
        → IsStanding ps ds first es (with_device m (record v { phase = p }) (Some (cell d (Some a) l)))
        → IsStanding ps ds first es (with_device m (learn_at (record v { phase = p }) p (Some a) works).after None)
    learnt_at law m v (Phase.Download u w p) d a l works s = download_learnt law m v u w p d a l works s
    learnt_at law m v (Phase.Verify u w p) d a l works s = verify_learnt m v u w p d a l works s
    learnt_at law m v (Phase.Apply u w p) d a l works s = apply_learnt m v u w p d a l works s
    learnt_at law m v p d a l works s = emptied_stands ps ds first es (with_device m (record v { phase = p }) (Some (cell d (Some a) l))) s

    learn_live : (law : WindowContinues) (m : PairOf) (c : CommandOf) (r : Option AnswerOf) (l works : Bool)
        → IsStanding ps ds first es (with_up m (Some (cell c r l)))
        → Leaves ps ds first es (learn_up (with_up m (Some (cell c r l))) (if l then r else None) works)
    learn_live law m c (Some a) true works s = learnt_at law m m.device m.device.phase c a true works s
    learn_live law m c None true works s = tt
    learn_live law m c r false works s = tt

    learn_held : (law : WindowContinues) (m : PairOf) (up : Option CellContentOf) (works : Bool) → IsStanding ps ds first es (with_up m up)
        → Leaves ps ds first es (learn_up (with_up m up) (waiting_answer up) works)
    learn_held law m None works s = tt
    learn_held law m (Some h) works s = learn_live law m h.command h.reply h.live works s

  pub device_learns : (first : List RowOf) (es : List EntryOf) (law : WindowContinues) (m : PairOf) (works : Bool)
      → IsStanding ps ds first es m → Leaves ps ds first es (step_of ps m (StepOf.LearnUp works))
  device_learns first es law m works s = learn_held first es law m m.up works s
