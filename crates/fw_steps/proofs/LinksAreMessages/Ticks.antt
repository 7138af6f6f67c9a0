-- A tick of a half, as steps of its pair: a cell that nobody waits for is dropped, or the open
-- request is given up; time passes; and the pending command is asked.
use Rattle.std.proofs.Common.{◌≡◌, ◌∙◌, ℕ, ◌==◌, Bool, true, false, if◌then◌else◌, List, [], ◌∷◌, Option, Some, None, IfSome, refl, sym, ap, subst}
use Rattle.std.specs.Option.{option_map}
use Rattle.mctp_reasm.specs.Pieces.{MessageOf}
use Rattle.pldm_exch.specs.Caller.{CallerState, request_of_open, may_begin}
use Rattle.pldm_exch.specs.Sides.{AskerTick, asker_counts, asker_tick, taker_counts}
use Rattle.exch_lane.specs.Cells.{Cell, CellRun, cell_ticks, cells_along, close_in, drop_in, is_asker_quiet, is_empty_cell}
use Rattle.exch_lane.specs.Lanes.{LaneOf}
use Rattle.exch_lane.specs.Laws.{awaited_request}
use Rattle.fw_package.specs.Package.{PackageText}
use Rattle.fwup_wire.specs.Commands.{CommandRoundTrips}
use Rattle.fwup_wire.specs.Laws.{WritesCommands}
use Rattle.fwup_wire.specs.Values.{CommandOf}
use Rattle.fw_message.specs.Pairs.{CellContentOf, PairOf}
use Rattle.fw_node.specs.Halves.{CoreOf, HalfOf, begins_if, begins_wish, half_tick_by_row, half_ticks, tick_if, unwished_abandoned, with_caller}
use Rattle.fw_steps.specs.Joins.{IsWishedIn}
use Rattle.fw_steps.specs.LinksAreLanes.{PendingRoundTrips}
use Rattle.fw_steps.specs.Lanes.{called_steps, counted_steps, hearing_steps}
use Rattle.fw_steps.proofs.LinksAreMessages.Asks.{after_hearing, goes_on, hears_from}
use Rattle.fw_steps.proofs.LinksAreMessages.Holding.{CoreGoes, Holds, went}
use Rattle.fw_steps.proofs.LinksAreMessages.Rows.{RowWaits, row_waits}
use Rattle.fw_steps.proofs.LinksAreLanes.Ticks.{deaf_before, hears_then}
use Rattle.fw_steps.proofs.LinksAreMessages.Sides.{PairLeads, Notes, Place, Sided, no_step}

-- A half takes its steps, and the request that waits is the one that waited before.
record Rests {C : Type 0} (packages : List PackageText) (core : CoreOf C) (agent : Bool) (place : Place C) (m : PairOf) (other : Option CellContentOf) (x : C) (cell : Cell) (waits : Option (ℕ × List ℕ)) : Type 0 where
  pub goes : CoreGoes packages core agent place m other x cell
  pub waiting : awaited_request cell ≡ waits

-- the cell is empty
rested : {C : Type 0} {packages : List PackageText} {core : CoreOf C} {agent : Bool} {place : Place C} (m : PairOf) (other : Option CellContentOf) (x : C) (cell : Cell)
    → cell ≡ Cell.Empty → PairLeads packages m [] (place x None other) → Rests packages core agent place m other x cell None
rested m other x cell is leads = rw is (record { goes = record { own = None; leads = leads; holds = record { stands = tt; wished = tt; is_for = tt } }; waiting = refl })

emptied : (run after : CellRun) → Some (record run { cell = Cell.Empty }) ≡ Some after → after.cell ≡ Cell.Empty
emptied run after e =
    let is : ◌≡◌ {A = CellRun} (record run { cell = Cell.Empty }) after = cc in
    sym (ap (λ r. r.cell) is)

rests_from : {C : Type 0} {packages : List PackageText} {core : CoreOf C} {agent : Bool} {place : Place C} {peer_wish : Option CommandOf} {notes : Notes C} (side : Sided packages core agent place peer_wish notes)
    (x : C) (own other : Option CellContentOf) (run after : CellRun) (cell : Cell) → IsWishedIn other peer_wish → run.cell ≡ cell → Holds core agent x cell own
    → (if is_empty_cell cell then Some run else drop_in run cell) ≡ Some after
    → Rests packages core agent place (place x own other) other x after.cell (awaited_request cell)
rests_from {C} {packages} {core} {agent} {place} side x None other run after Cell.Empty k at holds e =
    let same : run ≡ after = cc in
    rested (place x None other) other x after.cell (sym (ap (λ r. r.cell) same) ∙ at) (no_step packages (place x None other))
rests_from {C} {packages} {core} {agent} {place} side x (Some h) other run after (Cell.Asked command body false) k at holds e =
    rested (place x (Some h) other) other x after.cell (emptied run after e) (side.drop x h other k holds.stands.live_is)
rests_from {C} {packages} {core} {agent} {place} side x (Some h) other run after (Cell.Answered command body reply false) k at holds e =
    rested (place x (Some h) other) other x after.cell (emptied run after e) (side.drop x h other k holds.stands.live_is)
rests_from side x own other run after (Cell.Asked command body true) k at holds e = absurd (cc)
rests_from side x own other run after (Cell.Answered command body reply true) k at holds e = absurd (cc)
rests_from side x None other run after (Cell.Asked command body false) k at holds e = absurd holds.stands
rests_from side x None other run after (Cell.Answered command body reply false) k at holds e = absurd holds.stands
rests_from side x (Some h) other run after Cell.Empty k at holds e = absurd holds.stands

-- no step is taken
unmoved : {C : Type 0} {packages : List PackageText} {core : CoreOf C} {agent : Bool} {place : Place C} (x : C) (own other : Option CellContentOf) (run after : CellRun)
    → Holds core agent x run.cell own → Some run ≡ Some after → Rests packages core agent place (place x own other) other x after.cell (awaited_request run.cell)
unmoved {C} {packages} {core} {agent} {place} x own other run after holds e =
    let same : run ≡ after = cc in
    subst (λ r. Rests packages core agent place (place x own other) other x r.cell (awaited_request run.cell)) same
    (record { goes = record { own = own; leads = no_step packages (place x own other); holds = holds }; waiting = refl })

rests_if : {C : Type 0} {packages : List PackageText} {core : CoreOf C} {agent : Bool} {place : Place C} {peer_wish : Option CommandOf} {notes : Notes C} (side : Sided packages core agent place peer_wish notes)
    (x : C) (own other : Option CellContentOf) (run after : CellRun) (quiet : Bool) → IsWishedIn other peer_wish → Holds core agent x run.cell own
    → (if quiet then (if is_empty_cell run.cell then Some run else drop_in run run.cell) else Some run) ≡ Some after
    → Rests packages core agent place (place x own other) other x after.cell (awaited_request run.cell)
rests_if side x own other run after true k holds e = rests_from side x own other run after run.cell k refl holds e
rests_if side x own other run after false k holds e = unmoved x own other run after holds e

-- the open request is given up
given_up : (run after : CellRun) (cell : Cell) → Some (record run { cell = cell }) ≡ Some after → after.cell ≡ cell
given_up run after cell e =
    let is : ◌≡◌ {A = CellRun} (record run { cell = cell }) after = cc in
    sym (ap (λ r. r.cell) is)

gives_from : {C : Type 0} {packages : List PackageText} {core : CoreOf C} {agent : Bool} {place : Place C} {peer_wish : Option CommandOf} {notes : Notes C} (side : Sided packages core agent place peer_wish notes)
    (x : C) (own other : Option CellContentOf) (run after : CellRun) (cell : Cell) → IsWishedIn other peer_wish → Holds core agent x cell own
    → close_in run cell ≡ Some after
    → Rests packages core agent place (place x own other) other (core.silent x) after.cell None
gives_from side x (Some h) other run after (Cell.Asked command body true) k holds e =
    rw (given_up run after (Cell.Asked command body false) e) (record {
      goes = record {
        own = Some (record h { live = false });
        leads = side.give x h other k holds.stands.live_is;
        holds = record { stands = record { said = holds.stands.said; reply = holds.stands.reply; live_is = refl }; wished = λ f. absurd (cc); is_for = holds.is_for };
      };
      waiting = refl;
    })
gives_from side x (Some h) other run after (Cell.Answered command body reply true) k holds e =
    rw (given_up run after (Cell.Answered command body reply false) e) (record {
      goes = record {
        own = Some (record h { live = false });
        leads = side.give x h other k holds.stands.live_is;
        holds = record {
          stands = record { said = holds.stands.said; answer = holds.stands.answer; reply_is = holds.stands.reply_is; reads = holds.stands.reads; live_is = refl };
          wished = λ f. absurd (cc);
          is_for = holds.is_for;
        };
      };
      waiting = refl;
    })
gives_from side x own other run after (Cell.Asked command body false) k holds e = absurd (cc)
gives_from side x own other run after (Cell.Answered command body reply false) k holds e = absurd (cc)
gives_from side x own other run after Cell.Empty k holds e = absurd (cc)
gives_from side x None other run after (Cell.Asked command body true) k holds e = absurd holds.stands
gives_from side x None other run after (Cell.Answered command body reply true) k holds e = absurd holds.stands

-- the core after a row of the tick
abbrev after_row : {C : Type 0} → CoreOf C → C → AskerTick → C
after_row core x (AskerTick.Waits a) = after_hearing (a.deaf == 0) core x
after_row core x (AskerTick.Resends a m) = after_hearing (a.deaf == 0) core x
after_row core x (AskerTick.GivesUp a) = after_hearing (a.deaf == 0) core (core.silent x)

-- a part in which a cell is dropped or a request given up, and the last part
then_hears : {C : Type 0} {packages : List PackageText} {core : CoreOf C} {agent : Bool} {place : Place C} {peer_wish : Option CommandOf} {notes : Notes C} (side : Sided packages core agent place peer_wish notes)
    (m : PairOf) (other : Option CellContentOf) (x : C) (w : LaneOf) (run last : CellRun) (waits : Option (ℕ × List ℕ)) (hears : Bool) (caller : CallerState) → WritesCommands → IsWishedIn other peer_wish
    → (hears ≡ true → IfSome (core.wish (after_hearing hears core x)) CommandRoundTrips)
    → Rests packages core agent place m other x run.cell waits → option_map request_of_open caller.asked ≡ waits
    → cells_along w (hearing_steps hears core x caller) (Some run) ≡ Some last
    → CoreGoes packages core agent place m other (after_hearing hears core x) last.cell
then_hears side m other x w run last waits hears caller written k spoken r is e =
    goes_on r.goes.leads (hears_from side hears caller x r.goes.own other w run last written k spoken r.goes.holds (r.waiting ∙ sym is) e)

calls_from : {C : Type 0} {packages : List PackageText} {core : CoreOf C} {agent : Bool} {place : Place C} {peer_wish : Option CommandOf} {notes : Notes C} (side : Sided packages core agent place peer_wish notes)
    (row : AskerTick) (x : C) (own other : Option CellContentOf) (w : LaneOf) (run mid last : CellRun) → WritesCommands → IsWishedIn other peer_wish → (hears_then row ≡ true → IfSome (core.wish (after_row core x row)) CommandRoundTrips)
    → Holds core agent x run.cell own → RowWaits row (awaited_request run.cell) → cell_ticks row run ≡ Some mid
    → cells_along w (called_steps core x row) (Some mid) ≡ Some last
    → CoreGoes packages core agent place (place x own other) other (after_row core x row) last.cell
calls_from {C} {packages} {core} {agent} {place} side (AskerTick.Waits a) x own other w run mid last written k spoken holds waits rests e =
    then_hears side (place x own other) other x w mid last (awaited_request run.cell) (a.deaf == 0) a.caller written k spoken (rests_if side x own other run mid (is_asker_quiet a) k holds rests) waits e
calls_from {C} {packages} {core} {agent} {place} side (AskerTick.Resends a m) x own other w run mid last written k spoken holds waits rests e =
    then_hears side (place x own other) other x w mid last (awaited_request run.cell) (a.deaf == 0) a.caller written k spoken (unmoved x own other run mid holds rests) waits e
calls_from {C} {packages} {core} {agent} {place} side (AskerTick.GivesUp a) x own other w run mid last written k spoken holds waits gives e =
    then_hears side (place x own other) other (core.silent x) w mid last None (a.deaf == 0) a.caller written k spoken (gives_from side x own other run mid run.cell k holds gives) (ap (option_map request_of_open) waits) e

-- the core of a half after a tick
core_begun : {C : Type 0} (may : Bool) (h : HalfOf C) (c : CommandOf) (ms : List MessageOf) → (begins_if may h c ms).half.core ≡ h.core
core_begun true h c ms = refl
core_begun false h c ms = refl

core_stays : {C : Type 0} (wish : Option CommandOf) (h : HalfOf C) (ms : List MessageOf) → (begins_wish wish h ms).half.core ≡ h.core
core_stays None h ms = refl
core_stays (Some c) h ms = core_begun (may_begin h.asker.caller) h c ms

core_hears : {C : Type 0} (hears : Bool) (core : CoreOf C) (h : HalfOf C) (ms : List MessageOf) → (tick_if hears core h ms).half.core ≡ after_hearing hears core h.core
core_hears true core h ms =
    core_stays (core.wish (core.ticked h.core)) (with_caller (record h { core = core.ticked h.core }) (unwished_abandoned (core.wish (core.ticked h.core)) h.asker.caller)) ms
core_hears false core h ms = refl

core_called : {C : Type 0} (core : CoreOf C) (h : HalfOf C) (row : AskerTick) → (half_tick_by_row core h row).half.core ≡ after_row core h.core row
core_called core h (AskerTick.Waits a) = core_hears (a.deaf == 0) core (record h { asker = a }) []
core_called core h (AskerTick.Resends a m) = core_hears (a.deaf == 0) core (record h { asker = a }) (m ∷ [])
core_called core h (AskerTick.GivesUp a) = core_hears (a.deaf == 0) core (record h { asker = a; core = core.silent h.core }) []

core_ticked : {C : Type 0} (core : CoreOf C) (h : HalfOf C) → (half_ticks core true h).half.core ≡ after_row core h.core (asker_counts h.asker)
core_ticked core h = core_called core (record h { taker = taker_counts h.taker }) (asker_counts h.asker)

-- A tick of a half that counts it, by its row and its cell.
counts_on : {C : Type 0} {packages : List PackageText} {core : CoreOf C} {agent : Bool} {place : Place C} {peer_wish : Option CommandOf} {notes : Notes C} (side : Sided packages core agent place peer_wish notes)
    (h : HalfOf C) (own other : Option CellContentOf) (w : LaneOf) (run last : CellRun) → WritesCommands → IsWishedIn other peer_wish → PendingRoundTrips core h
    → Holds core agent h.core run.cell own → awaited_request run.cell ≡ option_map request_of_open h.asker.caller.asked
    → cells_along w (counted_steps core true h) (cell_ticks (asker_counts h.asker) run) ≡ Some last
    → CoreGoes packages core agent place (place h.core own other) other (half_ticks core true h).half.core last.cell
counts_on {C} {packages} {core} {agent} {place} side h own other w run last written k spoken holds waits e =
    let on = went w (counted_steps core true h) (cell_ticks (asker_counts h.asker) run) last e in
    subst (λ x. CoreGoes packages core agent place (place h.core own other) other x last.cell) (sym (core_ticked core h))
    (calls_from side (asker_counts h.asker) h.core own other w run on.run last written k
    (λ hears. subst (λ x. IfSome (core.wish x) CommandRoundTrips) (core_ticked core h) (spoken (deaf_before h.asker hears))) holds
    (subst (RowWaits (asker_counts h.asker)) (sym waits) (row_waits h.asker))
    on.is (ap (cells_along w (counted_steps core true h)) (sym on.is) ∙ e))

-- A tick of a half, whether it counts it or not.
pub half_ticks_on : {C : Type 0} {packages : List PackageText} {core : CoreOf C} {agent : Bool} {place : Place C} {peer_wish : Option CommandOf} {notes : Notes C} (side : Sided packages core agent place peer_wish notes)
    (counts : Bool) (h : HalfOf C) (own other : Option CellContentOf) (w : LaneOf) (run last : CellRun) → WritesCommands → IsWishedIn other peer_wish → (counts ≡ true → PendingRoundTrips core h)
    → Holds core agent h.core run.cell own → awaited_request run.cell ≡ option_map request_of_open h.asker.caller.asked
    → cells_along w (counted_steps core counts h) (cell_ticks (asker_tick counts h.asker) run) ≡ Some last
    → CoreGoes packages core agent place (place h.core own other) other (half_ticks core counts h).half.core last.cell
half_ticks_on side true h own other w run last written k spoken holds waits e = counts_on side h own other w run last written k (spoken refl) holds waits e
half_ticks_on side false h own other w run last written k spoken holds waits e = (rests_if side h.core own other run last (is_asker_quiet h.asker) k holds e).goes
