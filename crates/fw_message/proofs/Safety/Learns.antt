-- The answers that the session learns keep the invariant.
use Rattle.std.specs.Prelude.{◌≡◌, ℕ, ◌==◌, ◌||◌, Bool, true, false, if◌then◌else◌, List, [], ◌∷◌, map, Option, Some, None, Result, Ok, Err}
use Rattle.std.proofs.Common.{refl, sym, subst, ap}
use Rattle.std.proofs.lemmas.Bool.{cond_both, eqb-true}
use Rattle.fw_package.specs.Choice.{component_at, plan_of, record_number}
use Rattle.fw_package.specs.Package.{ComponentOf, DescriptorOf, PackageText}
use Rattle.fw_package.specs.declared.fault.PlanFault.{PlanFault}
use Rattle.fwup_wire.specs.Values.{AnswerOf, CommandOf}
use Rattle.fd_core.specs.Images.{RowOf}
use Rattle.fd_core.specs.States.{Phase, WorkOf}
use Rattle.fd_core.specs.declared.states.Progress.TheVariants as progress
use Rattle.ua_core.specs.Laws.{LearnsInPlan, IsStageInPlan}
use Rattle.ua_core.specs.Learn.{SessionLearnRow, first_stage, failure_row, first_pass, first_task, job_for, job_of, learn_by, learn_row, next_pass, planned, with_passed}
use Rattle.ua_core.specs.Lent.{package_descriptor, package_at}
use Rattle.ua_core.specs.Session.{JobOf, SessionOf, Stage, TaskOf}
use Rattle.ua_core.specs.Wish.{stage_wish}
use Rattle.ua_core.specs.declared.planned.Planned.{Planned}
use Rattle.ua_core.specs.declared.planned.Recorded.{Recorded}
use Rattle.ua_core.specs.declared.state.Cause.{Cause}
use Rattle.ua_core.specs.declared.state.Cause.TheVariants as causes
use Rattle.fw_message.specs.Headline.{EntryOf}
use Rattle.fw_message.specs.Pairs.{CellContentOf, PairOf, StepOf, waiting_answer, learn_down, step_of, with_down}
use Rattle.fw_message.proofs.Safety.Agreement.{AreTold, Cleared, FreshIn, HasChosen, IsBegun, IsBegunAt, IsChosen, IsPieceOf, IsStanding, IsTransfer, NothingAccepted, Pending, TableTime, Together, Transfer, UpdateOffered, Waiting, at_hand, command_of, reply_of}
use Rattle.fw_message.proofs.Safety.Applied.{none_backed}
use Rattle.fw_message.proofs.Safety.Down.{Leaves}
use Rattle.fw_message.proofs.Safety.Loose.{cell, none_command}
use Rattle.fw_message.proofs.Safety.Readings.{since}

pub no_piece : (image : List ℕ) (c : Option CommandOf) (r : Option AnswerOf) → NothingAccepted r → IsPieceOf image c r
no_piece image c None h = tt
no_piece image None (Some a) h = tt
no_piece image (Some c) (Some (AnswerOf.Refused code)) h = tt
no_piece image (Some c) (Some a) h = absurd h

fresh_time : (rows : List RowOf) (p : Phase) → FreshIn rows p → TableTime rows p
fresh_time rows Phase.Idle h = tt
fresh_time rows (Phase.Learn u) h = h
fresh_time rows p h = absurd h

-- the job has the record of the device's descriptors
chosen_planned : (p : PackageText) (ds : List DescriptorOf) (number : ℕ) (r : Result (List ℕ) PlanFault) → record_number p ds ≡ Some number
    → HasChosen p ds (first_stage (planned number r))
chosen_planned p ds number (Err fault) e = tt
chosen_planned p ds number (Ok []) e = tt
chosen_planned p ds number (Ok (n ∷ ns)) e = e

chosen_job : (p : PackageText) (ds : List DescriptorOf) (o : Option ℕ) → record_number p ds ≡ o → HasChosen p ds (first_stage (job_of p o))
chosen_job p ds None e = tt
chosen_job p ds (Some number) e = chosen_planned p ds number (plan_of p number) e

-- the pair after an answer is learned
abbrev after : PairOf → SessionOf → PairOf
after m s = record m { session = s; down = None }

module _ (ps : List PackageText) (ds : List DescriptorOf) (es : List EntryOf) where
  time_waits : (n : ℕ) (rs : List Recorded) (rows : List RowOf) (p : Phase) → TableTime rows p → Waiting ps ds n rs rows p
  time_waits n rs rows Phase.Idle h = tt
  time_waits n rs rows (Phase.Learn u) h = none_backed ps ds n rs rows h
  time_waits n rs rows (Phase.Ready u) h = none_backed ps ds n rs rows h
  time_waits n rs rows p h = absurd h

  begun_transfer : (n : ℕ) (rs : List Recorded) (c : ComponentOf) (rows : List RowOf) (bytes : List ℕ) (w : WorkOf) (command : Option CommandOf) (r : Option AnswerOf)
      → IsBegun ps ds n rs c rows bytes w r → IsTransfer ps ds n rs c rows bytes w command r
  begun_transfer n rs c rows bytes w command r h = record { same = h.same; stage = rw h.stage refl; backed = h.backed; piece = no_piece c.image command r h.nothing }

  begun_at : (n : ℕ) (rs : List Recorded) (c : ComponentOf) (rows : List RowOf) (bytes : List ℕ) (p : Phase) (command : Option CommandOf) (r : Option AnswerOf)
      → IsBegunAt ps ds n rs c rows bytes p r → Transfer ps ds n rs c rows bytes p command r
  begun_at n rs c rows bytes Phase.Idle command r h = tt
  begun_at n rs c rows bytes (Phase.Download u w progress.InProgress) command r h = begun_transfer n rs c rows bytes w command r h
  begun_at n rs c rows bytes (Phase.Download u w progress.Succeeded) command r h = begun_transfer n rs c rows bytes w command r h
  begun_at n rs c rows bytes p command r h = absurd h

  -- the invariant for the stage that a row steps to
  abbrev Gone : PairOf → SessionOf → ℕ → Stage → Type 0
  Gone m s n g = Together ps ds (since es) (after m s) n g × Pending ps es (after m s) n g × HasChosen (package_at ps n) ds g

  abbrev Learns : PairOf → SessionOf → ℕ → Stage → SessionLearnRow → Type 0
  Learns m s n g SessionLearnRow.Stay = Together ps ds (since es) (after m s) n g
  Learns m s n g (SessionLearnRow.Go k) = Gone m s n k

  failed : (m : PairOf) (s : SessionOf) (n : ℕ) (g : Stage) (cause : Cause) → Learns m s n g (failure_row cause)
  failed m s n g cause = (tt, tt, tt)

  begun_gone : (m : PairOf) (s : SessionOf) (n : ℕ) (r : Result JobOf Cause) → HasChosen (package_at ps n) ds (first_stage r)
      → Gone m s n (first_stage r)
  begun_gone m s n (Err cause) h = (tt, tt, tt)
  begun_gone m s n (Ok j) h = (tt, tt, h)

  query_learns : (m : PairOf) (s : SessionOf) (n : ℕ) (a : AnswerOf) → AreTold ds (Some a)
      → Learns m s n Stage.Query (learn_row (package_at ps n) Stage.Query (Ok a))
  query_learns m s n (AnswerOf.QueryDeviceIdentifiers xs) t =
      begun_gone m s n (job_for (package_at ps n) xs) (chosen_job (package_at ps n) ds (record_number (package_at ps n) (map package_descriptor xs)) (ap (record_number (package_at ps n)) (sym t)))
  query_learns m s n a t = failed m s n Stage.Query causes.Answer

  params_learns : (m : PairOf) (s : SessionOf) (n : ℕ) (j : JobOf) (a : AnswerOf) → IsChosen (package_at ps n) ds j
      → Learns m s n (Stage.Params j) (learn_row (package_at ps n) (Stage.Params j) (Ok a))
  params_learns m s n j (AnswerOf.GetFirmwareParameters devices) c = (tt, tt, c)
  params_learns m s n j a c = failed m s n (Stage.Params j) causes.Answer

  clear_learns : (m : PairOf) (s : SessionOf) (n : ℕ) (j : JobOf) (a : AnswerOf) → IsChosen (package_at ps n) ds j
      → Cleared m.device.phase (Some a)
      → Learns m s n (Stage.ClearOld j) (learn_row (package_at ps n) (Stage.ClearOld j) (Ok a))
  clear_learns m s n j AnswerOf.CancelUpdate c h = (h, tt, c)
  clear_learns m s n j (AnswerOf.Refused code) c h =
      cond_both (code == 0x80) (SessionLearnRow.Go (Stage.Request j)) (failure_row causes.Answer) (Learns m s n (Stage.ClearOld j)) (λ e. (h (eqb-true code 0x80 e), tt, c)) (λ e. failed m s n (Stage.ClearOld j) causes.Answer)
  clear_learns m s n j a c h = failed m s n (Stage.ClearOld j) causes.Answer

  first_gone : (m : PairOf) (s : SessionOf) (n : ℕ) (j : JobOf) (is : List Planned) → IsChosen (package_at ps n) ds j
      → FreshIn m.device.rows m.device.phase → Gone m s n (first_pass j is)
  first_gone m s n j [] c h = (tt, tt, tt)
  first_gone m s n j (i ∷ is) c h = (fresh_time m.device.rows m.device.phase h, tt, c)

  request_learns : (m : PairOf) (s : SessionOf) (n : ℕ) (j : JobOf) (a : AnswerOf) (d : CommandOf) (l : Bool)
      → IsChosen (package_at ps n) ds j
      → Together ps ds (since es) (with_down m (Some (cell d (Some a) l))) n (Stage.Request j)
      → Learns m s n (Stage.Request j) (learn_row (package_at ps n) (Stage.Request j) (Ok a))
  request_learns m s n j AnswerOf.RequestUpdate d l c h = first_gone m s n j j.plan c h
  request_learns m s n j (AnswerOf.Refused code) d l c h =
      cond_both (code == 4) SessionLearnRow.Stay (failure_row causes.Answer) (Learns m s n (Stage.Request j)) (λ e. h) (λ e. failed m s n (Stage.Request j) causes.Answer)
  request_learns m s n j a d l c h = failed m s n (Stage.Request j) causes.Answer

  task_gone : (m : PairOf) (s : SessionOf) (n : ℕ) (j : JobOf) (todo : List Planned) → IsChosen (package_at ps n) ds j
      → TableTime m.device.rows m.device.phase → Gone m s n (first_task j todo)
  task_gone m s n j [] c h = (tt, tt, tt)
  task_gone m s n j (i ∷ is) c h = (time_waits n (since es) m.device.rows m.device.phase h, tt, c)

  next_gone : (m : PairOf) (s : SessionOf) (n : ℕ) (j : JobOf) (left todo : List Planned) → IsChosen (package_at ps n) ds j
      → TableTime m.device.rows m.device.phase → Gone m s n (next_pass j left todo)
  next_gone m s n j [] todo c h = task_gone m s n j todo c h
  next_gone m s n j (i ∷ is) todo c h = (h, tt, c)

  pass_learns : (m : PairOf) (s : SessionOf) (n : ℕ) (j : JobOf) (i : Planned) (left todo : List Planned) (a : AnswerOf)
      → IsChosen (package_at ps n) ds j → TableTime m.device.rows m.device.phase
      → Learns m s n (Stage.Pass j i left todo) (learn_row (package_at ps n) (Stage.Pass j i left todo) (Ok a))
  pass_learns m s n j i left todo (AnswerOf.PassComponentTable response) c h =
      next_gone m s n j left (with_passed (component_at (package_at ps n) i.component) response.code i todo) c h
  pass_learns m s n j i left todo a c h = failed m s n (Stage.Pass j i left todo) causes.Answer

  update_learns : (m : PairOf) (s : SessionOf) (n : ℕ) (t : TaskOf) (a : AnswerOf) (d : CommandOf) (l : Bool)
      → IsChosen (package_at ps n) ds t.job
      → Together ps ds (since es) (with_down m (Some (cell d (Some a) l))) n (Stage.Update t)
      → Learns m s n (Stage.Update t) (learn_row (package_at ps n) (Stage.Update t) (Ok a))
  update_learns m s n t (AnswerOf.UpdateComponent response) d l c h =
      cond_both (response.compatibility == 0) (SessionLearnRow.Go (Stage.Download t)) (failure_row causes.Refused) (Learns m s n (Stage.Update t))
      (λ e.
      let P : Bool → Type 0 = λ b. UpdateOffered ps ds n (since es) (at_hand (package_at ps n) t) m.device.rows m.device.stage m.device.phase (reply_of m.up) b in
      (begun_at n (since es) (at_hand (package_at ps n) t) m.device.rows m.device.stage m.device.phase (command_of m.up) (reply_of m.up) (subst P e h), tt, c))
      (λ e. failed m s n (Stage.Update t) causes.Refused)
  update_learns m s n t (AnswerOf.Refused code) d l c h =
      cond_both ((code == 4) || (code == 0x84)) SessionLearnRow.Stay (failure_row causes.Answer) (Learns m s n (Stage.Update t)) (λ e. h) (λ e. failed m s n (Stage.Update t) causes.Answer)
  update_learns m s n t a d l c h = failed m s n (Stage.Update t) causes.Answer

  activate_learns : (m : PairOf) (s : SessionOf) (n : ℕ) (j : JobOf) (a : AnswerOf) (d : CommandOf) (l : Bool)
      → Together ps ds (since es) (with_down m (Some (cell d (Some a) l))) n (Stage.Activate j)
      → Learns m s n (Stage.Activate j) (learn_row (package_at ps n) (Stage.Activate j) (Ok a))
  activate_learns m s n j (AnswerOf.ActivateFirmware time) d l h = (tt, tt, tt)
  activate_learns m s n j (AnswerOf.Refused code) d l h =
      cond_both (code == 0x84) SessionLearnRow.Stay (failure_row causes.Answer) (Learns m s n (Stage.Activate j)) (λ e. h) (λ e. failed m s n (Stage.Activate j) causes.Answer)
  activate_learns m s n j a d l h = failed m s n (Stage.Activate j) causes.Answer

  stage_learns : (m : PairOf) (s : SessionOf) (n : ℕ) (a : AnswerOf) (d : CommandOf) (l : Bool) (g : Stage) → AreTold ds (Some a)
      → HasChosen (package_at ps n) ds g
      → Together ps ds (since es) (with_down m (Some (cell d (Some a) l))) n g → Learns m s n g (learn_row (package_at ps n) g (Ok a))
  stage_learns m s n a d l Stage.Query t c h = query_learns m s n a t
  stage_learns m s n a d l (Stage.Params j) t c h = params_learns m s n j a c
  stage_learns m s n a d l (Stage.ClearOld j) t c h = clear_learns m s n j a c h
  stage_learns m s n a d l (Stage.Request j) t c h = request_learns m s n j a d l c h
  stage_learns m s n a d l (Stage.Pass j i left todo) t c h = pass_learns m s n j i left todo a c h
  stage_learns m s n a d l (Stage.Update k) t c h = update_learns m s n k a d l c h
  stage_learns m s n a d l (Stage.Activate j) t c h = activate_learns m s n j a d l h
  stage_learns m s n a d l Stage.Cancelling t c h = (tt, tt, tt)
  stage_learns m s n a d l g t c h = h

  module _ (first : List RowOf) where
    learn_by_row : (m : PairOf) (d : Option CellContentOf) (row : SessionLearnRow) → IsStanding ps ds first es (with_down m d)
        → IsStageInPlan (package_at ps m.session.number) (learn_by m.session row).stage
        → Learns m (learn_by m.session row) m.session.number m.session.stage row
        → IsStanding ps ds first es (after m (learn_by m.session row))
    learn_by_row m d SessionLearnRow.Stay s p h =
        record {
          own = s.own;
          command = none_command m.session.stage (stage_wish m.session.unit (package_at ps m.session.number) m.session.stage);
          form = s.form;
          together = h;
          pending = s.pending;
          stray = tt;
          plan = s.plan;
          chosen = s.chosen;
          identified = s.identified;
          told = tt;
          history = s.history;
        }
    learn_by_row m d (SessionLearnRow.Go g) s p h =
        record {
          own = s.own;
          command = none_command g (stage_wish m.session.unit (package_at ps m.session.number) g);
          form = s.form;
          together = h.0;
          pending = h.1;
          stray = tt;
          plan = p;
          chosen = h.2;
          identified = s.identified;
          told = tt;
          history = s.history;
        }

    learn_cell : (law : LearnsInPlan) (m : PairOf) (c : CommandOf) (a : AnswerOf) (l : Bool)
        → IsStanding ps ds first es (with_down m (Some (cell c (Some a) l)))
        → Leaves ps ds first es (learn_down ps (with_down m (Some (cell c (Some a) l))) (Some a))
    learn_cell law m c a l s =
        let p = package_at ps m.session.number in
        let row = learn_row p m.session.stage (Ok a) in
        learn_by_row m (Some (cell c (Some a) l)) row s (law p m.session (Ok a) s.plan)
        (stage_learns m (learn_by m.session row) m.session.number a c l m.session.stage s.told s.chosen s.together)

    learn_at : (law : LearnsInPlan) (m : PairOf) (c : CommandOf) (r : Option AnswerOf) (l : Bool)
        → IsStanding ps ds first es (with_down m (Some (cell c r l)))
        → Leaves ps ds first es (learn_down ps (with_down m (Some (cell c r l))) (if l then r else None))
    learn_at law m c (Some a) true s = learn_cell law m c a true s
    learn_at law m c None true s = tt
    learn_at law m c r false s = tt

    learn_held : (law : LearnsInPlan) (m : PairOf) (down : Option CellContentOf) → IsStanding ps ds first es (with_down m down)
        → Leaves ps ds first es (learn_down ps (with_down m down) (waiting_answer down))
    learn_held law m None s = tt
    learn_held law m (Some h) s = learn_at law m h.command h.reply h.live s

    pub agent_learns : (law : LearnsInPlan) (m : PairOf) → IsStanding ps ds first es m
        → Leaves ps ds first es (step_of ps m StepOf.LearnDown)
    agent_learns law m s = learn_held law m m.down s
