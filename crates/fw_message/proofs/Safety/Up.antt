-- The device's commands, and the session's answers, keep the invariant.
use Rattle.std.specs.Prelude.{◌≡◌, ℕ, ◌==◌, ◌&&◌, ◌++◌, nat_lt, Bool, true, if◌then◌else◌, List, [], ◌∷◌, length, map, Option, Some, None}
use Rattle.std.proofs.Common.{refl, inl, inr}
use Rattle.std.proofs.lemmas.Bool.{cond_both}
use Rattle.mctp_wire.specs.declared.unit.Unit.{«Unit»}
use Rattle.fw_package.specs.Laws.{PlansNamedImages}
use Rattle.fw_package.specs.Package.{DescriptorOf, PackageText}
use Rattle.fwup_wire.specs.Values.{AnswerOf, CommandOf}
use Rattle.fd_core.specs.Images.{RowOf}
use Rattle.fd_core.specs.States.{Phase}
use Rattle.fd_core.specs.Wishes.{device_wish}
use Rattle.ua_core.specs.Laws.{ServesInPlan, IsStageInPlan}
use Rattle.ua_core.specs.Lent.{key_of, package_at}
use Rattle.ua_core.specs.Serve.{ServeRow, after_by, answer_by, is_bad_length, is_past_end, recorded_with, refusal_row, serve_row, task_after, unexpected_row, window}
use Rattle.ua_core.specs.Session.{SessionOf, Stage, TaskOf}
use Rattle.ua_core.specs.Wish.{stage_wish}
use Rattle.ua_core.specs.declared.planned.Planned.{Planned}
use Rattle.ua_core.specs.declared.planned.Recorded.{Recorded}
use Rattle.ua_core.specs.declared.state.Cause.TheVariants as causes
use Rattle.fw_message.specs.Headline.{EntryOf, IsNamedComponent}
use Rattle.fw_message.specs.Pairs.{CellContentOf, PairOf, StepOf, history_with, step_of, take_up, take_up_at, up_taken, with_up}
use Rattle.fw_message.proofs.Safety.Agreement.{CommandStands, HasChosen, IsStanding, OwnStands, Pending, Settled, StageForm, Together, Waiting, at_hand, is_offered, reply_of}
use Rattle.fw_message.proofs.Safety.Counts.{IsPending}
use Rattle.fw_message.proofs.Safety.Down.{Leaves}
use Rattle.fw_message.proofs.Safety.Histories.{history_recorded}
use Rattle.fw_message.proofs.Safety.Loose.{cell}
use Rattle.fw_message.proofs.Safety.Planned.{task_named, task_names}
use Rattle.fw_message.proofs.Safety.Readings.{since, since_recorded}
use Rattle.fw_message.proofs.Safety.Serves.{application_again, application_refused, offered_again, offered_refused, sealed_settles, transfer_done, transfer_told, verification_again, verification_refused, verified, verify_unsealed}
use Rattle.fw_message.proofs.Safety.Takes.{Stood}

-- the pair after an answer of the session
abbrev served : PairOf → SessionOf → CommandOf → AnswerOf → Bool → PairOf
served m s c a l = record m { session = s; up = Some (cell c (Some a) l) }

abbrev record_at : ℕ → TaskOf → Recorded
record_at n t = record { «package» = n; component = t.at_hand.component }

module _ (ps : List PackageText) (ds : List DescriptorOf) (es : List EntryOf) where
  -- the facts when the session takes a command
  pub record IsAsking (m : PairOf) (c : CommandOf) (l : Bool) (n : ℕ) (g : Stage) : Type 0 where
    pub own : OwnStands m.device.phase (device_wish m.device) (Some c)
    pub command : CommandStands g (stage_wish m.session.unit (package_at ps n) g) m.down
    pub form : StageForm m.device.phase (length m.device.stage)
    pub together : Together ps ds (since es) (with_up m (Some (cell c None l))) n g
    pub pending : Pending ps es (with_up m (Some (cell c None l))) n g
    pub plan : IsStageInPlan (package_at ps n) g
    pub chosen : HasChosen (package_at ps n) ds g

  -- the component to be recorded
  pub record IsRecordable (m : PairOf) (n : ℕ) (t : TaskOf) : Type 0 where
    pub settled : Settled ps ds n (since es ++ record_at n t ∷ []) m.device.rows m.device.phase
    pub pending : IsPending ps (key_of (at_hand (package_at ps n) t)) (at_hand (package_at ps n) t).image es
    pub named : IsNamedComponent ps ds (record_at n t)
    pub none : m.down ≡ None
    pub chosen : HasChosen (package_at ps n) ds (Stage.Apply t)

  abbrev Moved : PairOf → SessionOf → CommandOf → Bool → ℕ → AnswerOf → Stage → Type 0
  Moved m s c l n a k = Together ps ds (since es) (served m s c a l) n k × Pending ps es (served m s c a l) n k
      × HasChosen (package_at ps n) ds k × CommandStands k (stage_wish m.session.unit (package_at ps n) k) m.down

  abbrev Serves : PairOf → SessionOf → CommandOf → Bool → ℕ → Stage → ServeRow → Type 0
  Serves m s c l n g (ServeRow.Say a) = Together ps ds (since es) (served m s c a l) n g
  Serves m s c l n g (ServeRow.Give bytes) = Together ps ds (since es) (served m s c (AnswerOf.RequestFirmwareData bytes) l) n g
  Serves m s c l n g (ServeRow.Move k a) = Moved m s c l n a k
  Serves m s c l n g (ServeRow.Record t) = IsRecordable m n t

  -- a refusal
  refused_up : (m : PairOf) (s : SessionOf) (c : CommandOf) (l : Bool) (n : ℕ) (code : ℕ) (g : Stage)
      → Together ps ds (since es) (with_up m (Some (cell c None l))) n g
      → Together ps ds (since es) (served m s c (AnswerOf.Refused code) l) n g
  refused_up m s c l n code (Stage.Update t) h =
      offered_refused ps ds n (since es) (at_hand (package_at ps n) t) m.device.rows m.device.stage m.device.phase (Some (AnswerOf.Refused code)) (is_offered (reply_of m.down)) tt h
  refused_up m s c l n code (Stage.Download t) h =
      transfer_told ps ds n (since es) (at_hand (package_at ps n) t) m.device.rows m.device.stage m.device.phase (Some c) (Some (AnswerOf.Refused code)) tt h
  refused_up m s c l n code (Stage.Verify t) h =
      verification_refused ps ds n (since es) (at_hand (package_at ps n) t) m.device.rows m.device.stage m.device.phase (Some (AnswerOf.Refused code)) tt h
  refused_up m s c l n code (Stage.Apply t) h =
      application_refused ps ds n (since es) (at_hand (package_at ps n) t) m.device.rows m.device.stage m.device.phase (Some (AnswerOf.Refused code)) tt h
  refused_up m s c l n code g h = h

  -- RequestFirmwareData
  data_serves : (m : PairOf) (s : SessionOf) (l : Bool) (n offset size : ℕ) (g : Stage)
      → IsAsking m (CommandOf.RequestFirmwareData offset size) l n g
      → Serves m s (CommandOf.RequestFirmwareData offset size) l n g (serve_row m.session.unit (package_at ps n) g (CommandOf.RequestFirmwareData offset size))
  data_serves m s l n offset size (Stage.Update t) k =
      refused_up m s (CommandOf.RequestFirmwareData offset size) l n 0x89 (Stage.Update t) k.together
  data_serves m s l n offset size (Stage.Download t) k =
      let c = CommandOf.RequestFirmwareData offset size in
      let image = (at_hand (package_at ps n) t).image in
      cond_both (is_bad_length m.session.unit size) (refusal_row 0x83) (if is_past_end image offset size then refusal_row 0x82 else ServeRow.Give (window image offset size))
      (Serves m s c l n (Stage.Download t)) (λ e. refused_up m s c l n 0x83 (Stage.Download t) k.together)
      (λ e. cond_both (is_past_end image offset size) (refusal_row 0x82) (ServeRow.Give (window image offset size)) (Serves m s c l n (Stage.Download t))
      (λ f. refused_up m s c l n 0x82 (Stage.Download t) k.together)
      (λ f. transfer_told ps ds n (since es) (at_hand (package_at ps n) t) m.device.rows m.device.stage m.device.phase (Some c) (Some (AnswerOf.RequestFirmwareData (window image offset size))) refl k.together))
  data_serves m s l n offset size g k = refused_up m s (CommandOf.RequestFirmwareData offset size) l n 0x88 g k.together

  -- TransferComplete
  transfer_serves : (m : PairOf) (s : SessionOf) (l : Bool) (n r : ℕ) (g : Stage) → IsAsking m (CommandOf.TransferComplete r) l n g
      → Serves m s (CommandOf.TransferComplete r) l n g (serve_row m.session.unit (package_at ps n) g (CommandOf.TransferComplete r))
  transfer_serves m s l n r (Stage.Download t) k =
      cond_both (r == 0) (Stage.Verify t) (Stage.Failed causes.Transfer) (Moved m s (CommandOf.TransferComplete r) l n AnswerOf.TransferComplete)
      (λ z. (transfer_done ps ds n (since es) (at_hand (package_at ps n) t) m.device.rows m.device.stage m.device.unit m.device.phase r (Some AnswerOf.TransferComplete) z k.own k.form k.together, tt, k.chosen, k.command))
      (λ z. (tt, tt, tt, tt))
  transfer_serves m s l n r (Stage.Verify t) k =
      cond_both (r == 0) (ServeRow.Say AnswerOf.TransferComplete) unexpected_row (Serves m s (CommandOf.TransferComplete r) l n (Stage.Verify t))
      (λ z. verification_again ps ds n (since es) (at_hand (package_at ps n) t) m.device.rows m.device.stage m.device.unit m.device.phase (length m.device.stage) r (Some AnswerOf.TransferComplete) k.own k.together)
      (λ z. refused_up m s (CommandOf.TransferComplete r) l n 0x88 (Stage.Verify t) k.together)
  transfer_serves m s l n r g k = refused_up m s (CommandOf.TransferComplete r) l n 0x88 g k.together

  -- VerifyComplete
  not_yet : (m : PairOf) (s : SessionOf) (c : CommandOf) (a : AnswerOf) (l : Bool) (n : ℕ) (t : TaskOf)
      → Together ps ds (since es) (with_up m (Some (cell c None l))) n (Stage.Verify t) → Pending ps es (served m s c a l) n (Stage.Apply t)
  not_yet m s c a l n t h = λ e. elim e [
    | inl sealed ↦ absurd (verify_unsealed ps ds n (since es) (at_hand (package_at ps n) t) m.device.rows m.device.stage m.device.phase h sealed)
    | inr told ↦ absurd (cc)
  ]

  verify_serves : (m : PairOf) (s : SessionOf) (l : Bool) (n r : ℕ) (g : Stage) → IsAsking m (CommandOf.VerifyComplete r) l n g
      → Serves m s (CommandOf.VerifyComplete r) l n g (serve_row m.session.unit (package_at ps n) g (CommandOf.VerifyComplete r))
  verify_serves m s l n r (Stage.Verify t) k =
      cond_both (r == 0) (Stage.Apply t) (Stage.Failed causes.Verify) (Moved m s (CommandOf.VerifyComplete r) l n AnswerOf.VerifyComplete)
      (λ z. (
        verified ps ds n (since es) (at_hand (package_at ps n) t) m.device.rows m.device.stage m.device.unit m.device.phase (length m.device.stage) r (Some AnswerOf.VerifyComplete) z k.own k.together,
        not_yet m s (CommandOf.VerifyComplete r) AnswerOf.VerifyComplete l n t k.together,
        k.chosen,
        k.command,
      ))
      (λ z. (tt, tt, tt, tt))
  verify_serves m s l n r (Stage.Apply t) k =
      cond_both (r == 0) (ServeRow.Say AnswerOf.VerifyComplete) unexpected_row (Serves m s (CommandOf.VerifyComplete r) l n (Stage.Apply t))
      (λ z. application_again ps ds n (since es) (at_hand (package_at ps n) t) m.device.rows m.device.stage m.device.unit m.device.phase (length m.device.stage) r (Some AnswerOf.VerifyComplete) k.own k.together)
      (λ z. refused_up m s (CommandOf.VerifyComplete r) l n 0x88 (Stage.Apply t) k.together)
  verify_serves m s l n r g k = refused_up m s (CommandOf.VerifyComplete r) l n 0x88 g k.together

  -- ApplyComplete
  none_asked : (unit : «Unit») (n : ℕ) (t : TaskOf) (down : Option CellContentOf)
      → CommandStands (Stage.Apply t) (stage_wish unit (package_at ps n) (Stage.Apply t)) down → down ≡ None
  none_asked unit n t None h = refl
  none_asked unit n t (Some h) s = absurd (let e = s.1 in cc)

  recordable : (law : PlansNamedImages) (m : PairOf) (l : Bool) (n r x : ℕ) (t : TaskOf) → (r == 0) ≡ true
      → IsAsking m (CommandOf.ApplyComplete r x) l n (Stage.Apply t) → IsRecordable m n t
  recordable law m l n r x t z k = record {
    settled =
        sealed_settles ps ds n (since es) (at_hand (package_at ps n) t) m.device.rows m.device.stage m.device.unit m.device.phase (length m.device.stage)
        r x (record_at n t) z k.own refl refl
        (task_names law ps ds n t k.chosen k.plan) k.together;
    pending = k.pending (inr z);
    named = task_named ps ds n t k.chosen k.plan;
    none = none_asked m.session.unit n t m.down k.command;
    chosen = k.chosen;
  }

  apply_serves : (law : PlansNamedImages) (m : PairOf) (s : SessionOf) (l : Bool) (n r x : ℕ) (g : Stage)
      → IsAsking m (CommandOf.ApplyComplete r x) l n g
      → Serves m s (CommandOf.ApplyComplete r x) l n g (serve_row m.session.unit (package_at ps n) g (CommandOf.ApplyComplete r x))
  apply_serves law m s l n r x (Stage.Update t) k =
      cond_both ((r == 0) && nat_lt 0 t.made) (ServeRow.Say AnswerOf.ApplyComplete) unexpected_row (Serves m s (CommandOf.ApplyComplete r x) l n (Stage.Update t))
      (λ z. offered_again ps ds n (since es) (at_hand (package_at ps n) t) m.device.rows m.device.stage m.device.unit m.device.phase (length m.device.stage) r x (Some AnswerOf.ApplyComplete) (is_offered (reply_of m.down)) k.own k.together)
      (λ z. refused_up m s (CommandOf.ApplyComplete r x) l n 0x88 (Stage.Update t) k.together)
  apply_serves law m s l n r x (Stage.Apply t) k =
      cond_both (r == 0) (ServeRow.Record t) (ServeRow.Move (Stage.Failed causes.Apply) AnswerOf.ApplyComplete) (Serves m s (CommandOf.ApplyComplete r x) l n (Stage.Apply t))
      (λ z. recordable law m l n r x t z k)
      (λ z. (tt, tt, tt, tt))
  apply_serves law m s l n r x (Stage.AllApplied j) k =
      cond_both (r == 0) (ServeRow.Say AnswerOf.ApplyComplete) unexpected_row (Serves m s (CommandOf.ApplyComplete r x) l n (Stage.AllApplied j)) (λ z. k.together) (λ z. k.together)
  apply_serves law m s l n r x (Stage.Activate j) k =
      cond_both (r == 0) (ServeRow.Say AnswerOf.ApplyComplete) unexpected_row (Serves m s (CommandOf.ApplyComplete r x) l n (Stage.Activate j)) (λ z. k.together) (λ z. k.together)
  apply_serves law m s l n r x g k = refused_up m s (CommandOf.ApplyComplete r x) l n 0x88 g k.together

  serves : (law : PlansNamedImages) (m : PairOf) (s : SessionOf) (l : Bool) (n : ℕ) (g : Stage) (c : CommandOf) → IsAsking m c l n g
      → Serves m s c l n g (serve_row m.session.unit (package_at ps n) g c)
  serves law m s l n g (CommandOf.RequestFirmwareData offset size) k = data_serves m s l n offset size g k
  serves law m s l n g (CommandOf.TransferComplete r) k = transfer_serves m s l n r g k
  serves law m s l n g (CommandOf.VerifyComplete r) k = verify_serves m s l n r g k
  serves law m s l n g (CommandOf.ApplyComplete r x) k = apply_serves law m s l n r x g k
  serves law m s l n g c k = refused_up m s c l n 5 g k.together

  pending_answered : (m : PairOf) (s : SessionOf) (c : CommandOf) (a : AnswerOf) (l : Bool) (n : ℕ) (g : Stage)
      → Pending ps es (with_up m (Some (cell c None l))) n g → Pending ps es (served m s c a l) n g
  pending_answered m s c a l n (Stage.Apply t) h = λ e. elim e [ inl sealed ↦ h (inl sealed) | inr told ↦ absurd (cc) ]
  pending_answered m s c a l n g h = tt

  after_command : (unit : «Unit») (n : ℕ) (t : TaskOf) (todo : List Planned)
      → CommandStands (task_after t todo) (stage_wish unit (package_at ps n) (task_after t todo)) None
  after_command unit n t [] = tt
  after_command unit n t (i ∷ is) = tt

  after_pending : (m : PairOf) (xs : List EntryOf) (n : ℕ) (t : TaskOf) (todo : List Planned) → Pending ps xs m n (task_after t todo)
  after_pending m xs n t [] = tt
  after_pending m xs n t (i ∷ is) = tt

  after_chosen : (n : ℕ) (t : TaskOf) (todo : List Planned) → HasChosen (package_at ps n) ds (Stage.Apply t)
      → HasChosen (package_at ps n) ds (task_after t todo)
  after_chosen n t [] h = h
  after_chosen n t (i ∷ is) h = h

  settled_waits : (n : ℕ) (rs : List Recorded) (rows : List RowOf) (p : Phase) → Settled ps ds n rs rows p → Waiting ps ds n rs rows p
  settled_waits n rs rows (Phase.Learn u) h = absurd h
  settled_waits n rs rows p h = h

  after_together : (rs : List Recorded) (m : PairOf) (n : ℕ) (t : TaskOf) (todo : List Planned) → m.down ≡ None
      → Settled ps ds n rs m.device.rows m.device.phase → Together ps ds rs m n (task_after t todo)
  after_together rs m n t [] d h = h
  after_together rs m n t (i ∷ is) d h = rw d (settled_waits n rs m.device.rows m.device.phase h)

  module _ (first : List RowOf) where
    serve_by_row : (m : PairOf) (c : CommandOf) (l : Bool) (row : ServeRow) → IsStanding ps ds first es (with_up m (Some (cell c None l)))
        → IsStageInPlan (package_at ps m.session.number) (after_by m.session row).stage
        → Serves m (after_by m.session row) c l m.session.number m.session.stage row
        → IsStanding ps ds first (history_with es (map EntryOf.Recording (recorded_with m.session row))) (served m (after_by m.session row) c (answer_by row) l)
    serve_by_row m c l (ServeRow.Say a) s p h =
        record {
          own = s.own;
          command = s.command;
          form = s.form;
          together = h;
          pending = pending_answered m m.session c a l m.session.number m.session.stage s.pending;
          stray = s.stray;
          plan = s.plan;
          chosen = s.chosen;
          identified = s.identified;
          told = s.told;
          history = s.history;
        }
    serve_by_row m c l (ServeRow.Give bytes) s p h =
        record {
          own = s.own;
          command = s.command;
          form = s.form;
          together = h;
          pending = pending_answered m m.session c (AnswerOf.RequestFirmwareData bytes) l m.session.number m.session.stage s.pending;
          stray = s.stray;
          plan = s.plan;
          chosen = s.chosen;
          identified = s.identified;
          told = s.told;
          history = s.history;
        }
    serve_by_row m c l (ServeRow.Move g a) s p h =
        record {
          own = s.own;
          command = h.3;
          form = s.form;
          together = h.0;
          pending = h.1;
          stray = s.stray;
          plan = p;
          chosen = h.2;
          identified = s.identified;
          told = s.told;
          history = s.history;
        }
    serve_by_row m c l (ServeRow.Record t) s p h =
        let r = record_at m.session.number t in
        let xs = es ++ EntryOf.Recording r ∷ [] in
        let after = served m (after_by m.session (ServeRow.Record t)) c AnswerOf.ApplyComplete l in
        record {
          own = s.own;
          command = rw h.none (after_command m.session.unit m.session.number t t.todo);
          form = s.form;
          together = rw (since_recorded es r) (after_together (since es ++ r ∷ []) after m.session.number t t.todo h.none h.settled);
          pending = after_pending after xs m.session.number t t.todo;
          stray = rw h.none tt;
          plan = p;
          chosen = after_chosen m.session.number t t.todo h.chosen;
          identified = s.identified;
          told = s.told;
          history = history_recorded ps ds first m.device.rows m.session.records es r h.named h.pending s.history;
        }

    take_command : (serves_law : ServesInPlan) (names_law : PlansNamedImages) (m : PairOf) (c : CommandOf) (l : Bool)
        → IsStanding ps ds first es (with_up m (Some (cell c None l)))
        → Stood ps ds first es (up_taken ps (with_up m (Some (cell c None l))) (cell c None l))
    unfolding up_taken
    take_command serves_law names_law m c l s =
        let p = package_at ps m.session.number in
        let row = serve_row m.session.unit p m.session.stage c in
        serve_by_row m c l row s (serves_law p m.session c s.plan)
        (serves names_law m (after_by m.session row) l m.session.number m.session.stage c
        (record { own = s.own; command = s.command; form = s.form; together = s.together; pending = s.pending; plan = s.plan; chosen = s.chosen }))

    take_at : (serves_law : ServesInPlan) (names_law : PlansNamedImages) (m : PairOf) (c : CommandOf) (r : Option AnswerOf) (l : Bool)
        → IsStanding ps ds first es (with_up m (Some (cell c r l)))
        → Leaves ps ds first es (take_up_at ps (with_up m (Some (cell c r l))) (cell c r l) r)
    take_at serves_law names_law m c None l s = take_command serves_law names_law m c l s
    take_at serves_law names_law m c (Some a) l s = tt

    take_cell : (serves_law : ServesInPlan) (names_law : PlansNamedImages) (m : PairOf) (up : Option CellContentOf)
        → IsStanding ps ds first es (with_up m up) → Leaves ps ds first es (take_up ps (with_up m up) up)
    take_cell serves_law names_law m None s = tt
    take_cell serves_law names_law m (Some h) s = take_at serves_law names_law m h.command h.reply h.live s

    pub agent_takes : (serves_law : ServesInPlan) (names_law : PlansNamedImages) (m : PairOf) → IsStanding ps ds first es m
        → Leaves ps ds first es (step_of ps m StepOf.TakeUp)
    agent_takes serves_law names_law m s = take_cell serves_law names_law m m.up s
