-- RequestUpdate, PassComponentTable, UpdateComponent and ActivateFirmware that a device accepts
-- keep the invariant.
use Rattle.std.specs.Prelude.{◌≡◌, ◌<◌, ◌≤◌, ◌==◌, ◌||◌, not, nat_lt, ℕ, Bool, true, false, if◌then◌else◌, List, [], length, Option, Some, None}
use Rattle.std.proofs.Common.{refl, subst, ap, arith}
use Rattle.std.proofs.lemmas.Bool.{ltb-true, ltb-false, cond_both}
use Rattle.mctp_wire.specs.declared.unit.Unit.{«Unit»}
use Rattle.fw_package.specs.Package.{ComponentOf, DescriptorOf, PackageText}
use Rattle.fwup_wire.specs.Values.{AnswerOf, CommandOf, TableEntryOf as ListedOf, OfferOf, UpdateRequestOf, VersionOf}
use Rattle.fd_core.specs.Commands.{OfferRow, RequestRow, SwitchRow, TableRow, download_progress, flag_at, in_table, is_flag, offer_by, offer_restriction, offer_row, offer_take, offer_under, request_by, request_row, request_take, restriction, switch_by, switch_row, switch_take, table_by, table_response, table_row, table_take, with_entry, work_begun, declined}
use Rattle.fd_core.specs.Images.{RowOf}
use Rattle.fd_core.specs.States.{DeviceState, Phase, UpdateOf, WorkOf, device_in_phase, state_of}
use Rattle.fd_core.specs.declared.states.State.{State}
use Rattle.fd_core.specs.Wishes.{wish_at}
use Rattle.fd_core.specs.declared.parts.BankComponent.{BankComponent}
use Rattle.fd_core.specs.declared.states.Progress.{Progress}
use Rattle.fd_core.specs.declared.states.Progress.TheVariants as progress
use Rattle.ua_core.specs.Lent.{is_forced, key_of, sent_size, sent_version, package_at}
use Rattle.ua_core.specs.Session.{Stage}
use Rattle.ua_core.specs.Wish.{stage_wish}
use Rattle.ua_core.specs.declared.planned.Recorded.{Recorded}
use Rattle.fw_message.specs.Headline.{EntryOf}
use Rattle.fw_message.specs.Pairs.{CellContentOf, PairOf, down_taken, history_with, with_down}
use Rattle.fw_message.proofs.Safety.Agreement.{AreTold, CommandStands, Holds, IsBegun, IsBegunAt, IsSame, IsStanding, NothingAccepted, OwnStands, Pending, Settled, StageForm, TableTime, Together, Waiting, at_hand, command_of, reply_of}
use Rattle.fw_message.proofs.Safety.Applied.{NoneApplied, none_dropped}
use Rattle.fw_message.proofs.Safety.Histories.{history_activated, history_dropped}
use Rattle.fw_message.proofs.Safety.Loose.{cell}
use Rattle.fw_message.proofs.Safety.Readings.{since}
use Rattle.fw_message.proofs.Safety.Takes.{Stood, asking, refused_stands, taken, told_command, told_stands}

holds_empty : (wish : Option CommandOf) (up : Option CellContentOf) → up ≡ None → Holds wish (command_of up)
holds_empty wish up e = rw e tt

nothing_empty : (up : Option CellContentOf) → up ≡ None → NothingAccepted (reply_of up)
nothing_empty up e = rw e tt

request_begins : (p : Phase) (r : UpdateRequestOf) (quiet : Bool) → request_row p r quiet ≡ RequestRow.BeginUpdate → quiet ≡ true
request_begins Phase.Idle r true e = refl
request_begins Phase.Idle r false e = absurd (cc)
request_begins p r quiet e = absurd (cc)

table_learns : (rows : List RowOf) (p : Phase) (e : ListedOf) (u : UpdateOf) (code : ℕ) → table_row rows p e ≡ TableRow.AddEntry u code
    → p ≡ Phase.Learn u
table_learns rows (Phase.Learn x) e u code is =
    tested (not (is_flag e.flag (flag_at (length x.table) x.components)) || in_table x.table e.key) is
  where
    tested : (t : Bool)
        → (if t then TableRow.RefuseEntry 2 else TableRow.AddEntry x (restriction rows e.key e.version.stamp)) ≡ TableRow.AddEntry u code
        → Phase.Learn x ≡ Phase.Learn u
    tested true is = absurd (cc)
    tested false is = let same : x ≡ u = cc in ap Phase.Learn same
table_learns rows p e u code is = absurd (cc)

-- work begins only in READY XFER, with a quiet device, and with an image that the device has room
-- for
pub record Begins (p : Phase) (o : OfferOf) (quiet : Bool) (u : UpdateOf) : Type 0 where
  pub ready : p ≡ Phase.Ready u
  pub quiet_is : quiet ≡ true
  pub short : o.size ≤ 1048576

under_begins : (u x : UpdateOf) (code : ℕ) (works : Bool) → offer_under u code works ≡ OfferRow.BeginWork x → u ≡ x
under_begins u x code works e = decided (code == 0) works e
  where
    decided : (b works : Bool)
        → (if not b then OfferRow.DeclineOffer code else if works then OfferRow.BeginWork u else OfferRow.RefuseOffer 1) ≡ OfferRow.BeginWork x
        → u ≡ x
    decided false works e = absurd (cc)
    decided true false e = absurd (cc)
    decided true true e = cc

ready_begins : (rows : List RowOf) (u x : UpdateOf) (o : OfferOf) (works : Bool) (t : Bool) → nat_lt 1048576 o.size ≡ t
    → (if t then OfferRow.RefuseOffer 2 else offer_under u (offer_restriction rows u.table o) works) ≡ OfferRow.BeginWork x
    → (u ≡ x) × (o.size ≤ 1048576)
ready_begins rows u x o works true l e = absurd (cc)
ready_begins rows u x o works false l e = (under_begins u x (offer_restriction rows u.table o) works e, ltb-false 1048576 o.size l)

offer_begins : (rows : List RowOf) (p : Phase) (o : OfferOf) (quiet works : Bool) (u : UpdateOf)
    → offer_row rows p o quiet works ≡ OfferRow.BeginWork u → Begins p o quiet u
offer_begins rows (Phase.Ready x) o true works u e =
    let b = ready_begins rows x u o works (nat_lt 1048576 o.size) refl e in
    record { ready = ap Phase.Ready b.0; quiet_is = refl; short = b.1 }
offer_begins rows (Phase.Ready x) o false works u e = absurd (cc)
offer_begins rows p o quiet works u e = absurd (cc)

switch_ready : (components : List BankComponent) (rows : List RowOf) (p : Phase) (works : Bool)
    → switch_row components rows p works ≡ SwitchRow.Switch → (u : UpdateOf) × (p ≡ Phase.Ready u)
switch_ready components rows (Phase.Ready x) works e = (x, refl)
switch_ready components rows p works e = absurd (cc)

-- a stage is short or full
pub full_either : (have size : ℕ) (P : Progress → Type 0) → (have < size → P progress.InProgress) → (size ≤ have → P progress.Succeeded)
    → P (download_progress have size)
full_either have size P short full =
    cond_both (nat_lt have size) progress.InProgress progress.Succeeded P (λ e. short (ltb-true have size e))
    (λ e. full (ltb-false have size e))

begun_form : (u : UpdateOf) (w : WorkOf) → StageForm (Phase.Download u w (download_progress 0 w.size)) 0
begun_form u w = full_either 0 w.size (λ a. StageForm (Phase.Download u w a) 0) (λ lt. lt) (λ le. omega (arith, le))

sized : (c : ComponentOf) (size : ℕ) → size ≡ sent_size c → size ≤ 1048576 → size ≡ length c.image
sized c size e le = tested (nat_lt 0xFFFFFFFF (length c.image)) e
  where
    tested : (t : Bool) → size ≡ (if t then 0xFFFFFFFF else length c.image) → size ≡ length c.image
    tested true e = absurd (omega (arith, e, le))
    tested false e = e

same_offered : (o : OfferOf) (c : ComponentOf) (index : ℕ) (version : VersionOf) (force : Bool)
    → Some (CommandOf.UpdateComponent (record { key = key_of c; index = index; version = version; size = sent_size c; force = force })) ≡ Some (CommandOf.UpdateComponent o)
    → o.size ≤ 1048576 → IsSame (work_begun o) c
same_offered o c index version force e le =
    let is : o ≡ record { key = key_of c; index = index; version = version; size = sent_size c; force = force } = cc in
    record { key = ap (λ (x : OfferOf). x.key) is; size = sized c o.size (ap (λ (x : OfferOf). x.size) is) le }

-- the device got one more component of its table
abbrev passed : PairOf → ListedOf → AnswerOf → Bool → Phase → State → PairOf
passed m x a l p previous =
    record m { device = record m.device { phase = p; previous = previous }; down = Some (cell (CommandOf.PassComponentTable x) (Some a) l) }

abbrev IsTableTime : Phase → Type 0
IsTableTime (Phase.Learn u) = Prim.Unit {0}
IsTableTime (Phase.Ready u) = Prim.Unit {0}
IsTableTime p = ⊥

still_time : (rows : List RowOf) (p : Phase) → IsTableTime p → NoneApplied rows → TableTime rows p
still_time rows (Phase.Learn u) t h = h
still_time rows (Phase.Ready u) t h = h
still_time rows p t h = absurd t

time_own : (unit : «Unit») (p : Phase) (have : ℕ) (c : Option CommandOf) → IsTableTime p → Holds None c → OwnStands p (wish_at unit p have) c
time_own unit (Phase.Learn u) have c t h = h
time_own unit (Phase.Ready u) have c t h = h
time_own unit p have c t h = absurd t

time_form : (p : Phase) (have : ℕ) → IsTableTime p → StageForm p have
time_form (Phase.Learn u) have t = tt
time_form (Phase.Ready u) have t = tt
time_form p have t = absurd t

-- in a phase without a pending command
own_at : (unit : «Unit») (p q : Phase) (have : ℕ) (c : Option CommandOf) → p ≡ q → OwnStands p (wish_at unit p have) c → OwnStands q (wish_at unit q have) c
own_at unit p q have c e h = subst (λ (x : Phase). OwnStands x (wish_at unit x have) c) e h

module _ (ps : List PackageText) (ds : List DescriptorOf) where
  -- RequestUpdate
  begun_together : (rs : List Recorded) (m : PairOf) (n : ℕ) (r : UpdateRequestOf) (l : Bool) (g : Stage)
      → CommandStands g (stage_wish m.session.unit (package_at ps n) g) (Some (cell (CommandOf.RequestUpdate r) None l))
      → Together ps ds rs (taken m (CommandOf.RequestUpdate r) l (request_by m.device r RequestRow.BeginUpdate)).after n g
  unfolding down_taken
  begun_together rs m n r l Stage.Idle c = tt
  begun_together rs m n r l Stage.Query c = tt
  begun_together rs m n r l Stage.Done c = tt
  begun_together rs m n r l Stage.Cancelling c = tt
  begun_together rs m n r l (Stage.Failed x) c = tt
  begun_together rs m n r l (Stage.Request j) c = none_dropped m.device.rows
  begun_together rs m n r l g c = absurd (let e = c.1 in cc)

  -- a pending command isn't pending in Apply
  no_pending : (es : List EntryOf) (m : PairOf) (n : ℕ) (c : CommandOf) (l : Bool) (g : Stage)
      → CommandStands g (stage_wish m.session.unit (package_at ps n) g) (Some (cell c None l)) → Pending ps es m n g
  no_pending es m n c l (Stage.Apply t) s = absurd (let e = s.1 in cc)
  no_pending es m n c l g s = tt

  -- PassComponentTable
  table_together : (rs : List Recorded) (m : PairOf) (n : ℕ) (x : ListedOf) (a : AnswerOf) (l : Bool) (u : UpdateOf) (p : Phase) (previous : State) (g : Stage)
      → m.device.phase ≡ Phase.Learn u → IsTableTime p
      → CommandStands g (stage_wish m.session.unit (package_at ps n) g) (Some (cell (CommandOf.PassComponentTable x) None l))
      → Together ps ds rs (asking m (CommandOf.PassComponentTable x) l) n g
      → Together ps ds rs (passed m x a l p previous) n g
  table_together rs m n x a l u p previous Stage.Idle e t c h = tt
  table_together rs m n x a l u p previous Stage.Query e t c h = tt
  table_together rs m n x a l u p previous Stage.Done e t c h = tt
  table_together rs m n x a l u p previous Stage.Cancelling e t c h = tt
  table_together rs m n x a l u p previous (Stage.Failed y) e t c h = tt
  table_together rs m n x a l u p previous (Stage.Pass j i left todo) e t c h =
      still_time m.device.rows p t (subst (TableTime m.device.rows) e h)
  table_together rs m n x a l u p previous g e t c h = absurd (let is = c.1 in cc)

  -- UpdateComponent
  declined_told : (rs : List Recorded) (m : PairOf) (n : ℕ) (o : OfferOf) (code : ℕ) (l : Bool) (g : Stage)
      → CommandStands g (stage_wish m.session.unit (package_at ps n) g) (Some (cell (CommandOf.UpdateComponent o) None l))
      → Together ps ds rs (asking m (CommandOf.UpdateComponent o) l) n g
      → Together ps ds rs (with_down m (Some (cell (CommandOf.UpdateComponent o) (Some (AnswerOf.UpdateComponent (declined code))) l))) n g
  declined_told rs m n o code l (Stage.ClearOld j) c h = absurd (let e = c.1 in cc)
  declined_told rs m n o code l (Stage.Request j) c h = absurd (let e = c.1 in cc)
  declined_told rs m n o code l (Stage.Activate j) c h = absurd (let e = c.1 in cc)
  declined_told rs m n o code l g c h = h

  abbrev working : PairOf → OfferOf → Bool → UpdateOf → PairOf
  working m o l u = record m {
    device = (offer_by m.device o (OfferRow.BeginWork u)).after;
    down = Some (cell (CommandOf.UpdateComponent o) (Some (offer_by m.device o (OfferRow.BeginWork u)).answer) l);
  }

  offered_together : (rs : List Recorded) (m : PairOf) (n : ℕ) (o : OfferOf) (quiet l : Bool) (u : UpdateOf) (g : Stage)
      → Begins m.device.phase o quiet u → m.up ≡ None
      → CommandStands g (stage_wish m.session.unit (package_at ps n) g) (Some (cell (CommandOf.UpdateComponent o) None l))
      → Together ps ds rs (asking m (CommandOf.UpdateComponent o) l) n g → Together ps ds rs (working m o l u) n g
  offered_together rs m n o quiet l u Stage.Idle b q c h = tt
  offered_together rs m n o quiet l u Stage.Query b q c h = tt
  offered_together rs m n o quiet l u Stage.Done b q c h = tt
  offered_together rs m n o quiet l u Stage.Cancelling b q c h = tt
  offered_together rs m n o quiet l u (Stage.Failed x) b q c h = tt
  offered_together rs m n o quiet l u (Stage.Update t) b q c h =
      full_either 0 o.size (λ a. IsBegunAt ps ds n rs (at_hand (package_at ps n) t) m.device.rows [] (Phase.Download u (work_begun o) a) (reply_of m.up)) (λ lt. begun) (λ le. begun)
    where
      begun : IsBegun ps ds n rs (at_hand (package_at ps n) t) m.device.rows [] (work_begun o) (reply_of m.up)
      begun = record {
        same = same_offered o (at_hand (package_at ps n) t) t.at_hand.index (sent_version (at_hand (package_at ps n) t)) (is_forced (at_hand (package_at ps n) t)) c.1 b.short;
        stage = refl;
        backed = subst (λ (x : Phase). Waiting ps ds n rs m.device.rows x) b.ready h;
        nothing = nothing_empty m.up q;
      }
  offered_together rs m n o quiet l u g b q c h = absurd (let e = c.1 in cc)

  -- ActivateFirmware
  switched_together : (rs : List Recorded) (m : PairOf) (n : ℕ) (b l : Bool) (g : Stage)
      → CommandStands g (stage_wish m.session.unit (package_at ps n) g) (Some (cell (CommandOf.ActivateFirmware b) None l))
      → Together ps ds rs (taken m (CommandOf.ActivateFirmware b) l (switch_by m.device SwitchRow.Switch)).after n g
  unfolding down_taken
  switched_together rs m n b l Stage.Idle c = tt
  switched_together rs m n b l Stage.Query c = tt
  switched_together rs m n b l Stage.Done c = tt
  switched_together rs m n b l Stage.Cancelling c = tt
  switched_together rs m n b l (Stage.Failed x) c = tt
  switched_together rs m n b l (Stage.Activate j) c = tt
  switched_together rs m n b l g c = absurd (let e = c.1 in cc)

  module _ (first : List RowOf) (es : List EntryOf) where
    request_by_row : (m : PairOf) (r : UpdateRequestOf) (l quiet : Bool) → (quiet ≡ true → m.up ≡ None)
        → IsStanding ps ds first es (asking m (CommandOf.RequestUpdate r) l)
        → (row : RequestRow) → request_row m.device.phase r quiet ≡ row
        → Stood ps ds first es (taken m (CommandOf.RequestUpdate r) l (request_by m.device r row))
    unfolding down_taken
    request_by_row m r l quiet q s (RequestRow.RefuseRequest code) e =
        refused_stands ps ds first es m (CommandOf.RequestUpdate r) code l tt s
    request_by_row m r l quiet q s RequestRow.BeginUpdate e =
        record {
          own = holds_empty None m.up (q (request_begins m.device.phase r quiet e));
          command = told_command ps m (CommandOf.RequestUpdate r) AnswerOf.RequestUpdate l s.command;
          form = tt;
          together = begun_together (since es) m m.session.number r l m.session.stage s.command;
          pending = no_pending es (taken m (CommandOf.RequestUpdate r) l (request_by m.device r RequestRow.BeginUpdate)).after m.session.number (CommandOf.RequestUpdate r) l m.session.stage s.command;
          stray = tt;
          plan = s.plan;
          chosen = s.chosen;
          identified = s.identified;
          told = tt;
          history = history_dropped ps ds first m.device.rows m.session.records es s.history;
        }

    pub request_stands : (m : PairOf) (r : UpdateRequestOf) (l quiet : Bool) → (quiet ≡ true → m.up ≡ None)
        → IsStanding ps ds first es (asking m (CommandOf.RequestUpdate r) l)
        → Stood ps ds first es (taken m (CommandOf.RequestUpdate r) l (request_take m.device r quiet))
    request_stands m r l quiet q s = request_by_row m r l quiet q s (request_row m.device.phase r quiet) refl

    table_at : (m : PairOf) (x : ListedOf) (a : AnswerOf) (l : Bool) (u : UpdateOf) (p : Phase) (previous : State)
        → m.device.phase ≡ Phase.Learn u → IsTableTime p → AreTold ds (Some a)
        → IsStanding ps ds first es (asking m (CommandOf.PassComponentTable x) l)
        → IsStanding ps ds first es (passed m x a l p previous)
    table_at m x a l u p previous e t told s =
        record {
          own = time_own m.device.unit p (length m.device.stage) (command_of m.up) t (own_at m.device.unit m.device.phase (Phase.Learn u) (length m.device.stage) (command_of m.up) e s.own);
          command = told_command ps m (CommandOf.PassComponentTable x) a l s.command;
          form = time_form p (length m.device.stage) t;
          together = table_together (since es) m m.session.number x a l u p previous m.session.stage e t s.command s.together;
          pending = no_pending es (passed m x a l p previous) m.session.number (CommandOf.PassComponentTable x) l m.session.stage s.command;
          stray = tt;
          plan = s.plan;
          chosen = s.chosen;
          identified = s.identified;
          told = told;
          history = s.history;
        }

    table_by_row : (m : PairOf) (x : ListedOf) (l : Bool)
        → IsStanding ps ds first es (asking m (CommandOf.PassComponentTable x) l)
        → (row : TableRow) → table_row m.device.rows m.device.phase x ≡ row
        → Stood ps ds first es (taken m (CommandOf.PassComponentTable x) l (table_by m.device x row))
    unfolding down_taken
    table_by_row m x l s (TableRow.RefuseEntry code) e = refused_stands ps ds first es m (CommandOf.PassComponentTable x) code l tt s
    table_by_row m x l s (TableRow.AddEntry u code) e =
        let p = table_learns m.device.rows m.device.phase x u code e in
        let n = with_entry u x.key code in
        let a = AnswerOf.PassComponentTable (table_response code) in
        cond_both (length n.table == n.components) (device_in_phase m.device (Phase.Ready n)) (record m.device { phase = Phase.Learn n })
        (λ (v : DeviceState). IsStanding ps ds first es (record m { device = v; down = Some (cell (CommandOf.PassComponentTable x) (Some a) l) }))
        (λ t. table_at m x a l u (Phase.Ready n) (state_of m.device.phase) p tt tt s)
        (λ t. table_at m x a l u (Phase.Learn n) m.device.previous p tt tt s)

    pub table_stands : (m : PairOf) (x : ListedOf) (l : Bool)
        → IsStanding ps ds first es (asking m (CommandOf.PassComponentTable x) l)
        → Stood ps ds first es (taken m (CommandOf.PassComponentTable x) l (table_take m.device x))
    table_stands m x l s = table_by_row m x l s (table_row m.device.rows m.device.phase x) refl

    offer_by_row : (m : PairOf) (o : OfferOf) (l quiet works : Bool) → (quiet ≡ true → m.up ≡ None)
        → IsStanding ps ds first es (asking m (CommandOf.UpdateComponent o) l)
        → (row : OfferRow) → offer_row m.device.rows m.device.phase o quiet works ≡ row
        → Stood ps ds first es (taken m (CommandOf.UpdateComponent o) l (offer_by m.device o row))
    unfolding down_taken
    offer_by_row m o l quiet works q s (OfferRow.RefuseOffer code) e =
        refused_stands ps ds first es m (CommandOf.UpdateComponent o) code l tt s
    offer_by_row m o l quiet works q s (OfferRow.DeclineOffer code) e =
        told_stands ps ds first es m (CommandOf.UpdateComponent o) (AnswerOf.UpdateComponent (declined code)) l tt
        (declined_told (since es) m m.session.number o code l m.session.stage s.command s.together) s
    offer_by_row m o l quiet works q s (OfferRow.BeginWork u) e =
        let b = offer_begins m.device.rows m.device.phase o quiet works u e in
        record {
          own = holds_empty (wish_at m.device.unit (Phase.Download u (work_begun o) (download_progress 0 o.size)) 0) m.up (q b.quiet_is);
          command = told_command ps m (CommandOf.UpdateComponent o) (offer_by m.device o (OfferRow.BeginWork u)).answer l s.command;
          form = begun_form u (work_begun o);
          together = offered_together (since es) m m.session.number o quiet l u m.session.stage b (q b.quiet_is) s.command s.together;
          pending = no_pending es (working m o l u) m.session.number (CommandOf.UpdateComponent o) l m.session.stage s.command;
          stray = tt;
          plan = s.plan;
          chosen = s.chosen;
          identified = s.identified;
          told = tt;
          history = s.history;
        }

    pub offer_stands : (m : PairOf) (o : OfferOf) (l quiet works : Bool) → (quiet ≡ true → m.up ≡ None)
        → IsStanding ps ds first es (asking m (CommandOf.UpdateComponent o) l)
        → Stood ps ds first es (taken m (CommandOf.UpdateComponent o) l (offer_take m.device o quiet works))
    offer_stands m o l quiet works q s = offer_by_row m o l quiet works q s (offer_row m.device.rows m.device.phase o quiet works) refl

    switch_by_row : (m : PairOf) (b l works : Bool)
        → IsStanding ps ds first es (asking m (CommandOf.ActivateFirmware b) l)
        → (row : SwitchRow) → switch_row m.device.components m.device.rows m.device.phase works ≡ row
        → Stood ps ds first es (taken m (CommandOf.ActivateFirmware b) l (switch_by m.device row))
    unfolding down_taken
    switch_by_row m b l works s (SwitchRow.RefuseSwitch code) e = refused_stands ps ds first es m (CommandOf.ActivateFirmware b) code l tt s
    switch_by_row m b l works s SwitchRow.Switch e =
        let ready = switch_ready m.device.components m.device.rows m.device.phase works e in
        let after = taken m (CommandOf.ActivateFirmware b) l (switch_by m.device SwitchRow.Switch) in
        record {
          own = own_at m.device.unit m.device.phase (Phase.Ready ready.0) (length m.device.stage) (command_of m.up) ready.1 s.own;
          command = told_command ps m (CommandOf.ActivateFirmware b) (AnswerOf.ActivateFirmware 0) l s.command;
          form = tt;
          together = switched_together (since (history_with es after.noted)) m m.session.number b l m.session.stage s.command;
          pending = no_pending (history_with es after.noted) after.after m.session.number (CommandOf.ActivateFirmware b) l m.session.stage s.command;
          stray = tt;
          plan = s.plan;
          chosen = s.chosen;
          identified = s.identified;
          told = tt;
          history = history_activated ps ds s.stray.0 first m.device.rows m.session.records es (subst (λ (x : Phase). Settled ps ds s.stray.0 (since es) m.device.rows x) ready.1 s.stray.1) s.history;
        }

    pub switch_stands : (m : PairOf) (b l works : Bool)
        → IsStanding ps ds first es (asking m (CommandOf.ActivateFirmware b) l)
        → Stood ps ds first es (taken m (CommandOf.ActivateFirmware b) l (switch_take m.device works))
    switch_stands m b l works s = switch_by_row m b l works s (switch_row m.device.components m.device.rows m.device.phase works) refl
