-- The last part of a half's tick, as steps of its pair: time passes for the core, a request that is
-- no longer the pending command is given up, and the pending command is asked.
use Rattle.std.proofs.Common.{◌≡◌, Bool, true, false, List, [], ◌∷◌, ◌++◌, Option, Some, None, IfSome, refl, sym, ap, subst}
use Rattle.std.specs.Option.{option_map}
use Rattle.pldm_exch.specs.Caller.{CallerState, request_of_open, may_begin}
use Rattle.exch_lane.specs.Cells.{Cell, CellRun, ask_in, cells_along}
use Rattle.exch_lane.specs.Lanes.{LaneEntryOf, LaneOf}
use Rattle.exch_lane.specs.Laws.{awaited_request}
use Rattle.fw_package.specs.Package.{PackageText}
use Rattle.fwup_wire.specs.Commands.{CommandRoundTrips, command_bytes, command_code}
use Rattle.fwup_wire.specs.Laws.{WritesCommands}
use Rattle.fwup_wire.specs.Values.{CommandOf}
use Rattle.fw_message.specs.Pairs.{CellContentOf, PairOf, closed_unless, fresh_cell, is_wished}
use Rattle.fwup_wire.proofs.SameCommands.{same_self}
use Rattle.fw_node.specs.Halves.{CoreOf, unwished_abandoned}
use Rattle.fw_steps.specs.Joins.{IsAskedAs, IsWishedIn, MatchesCell}
use Rattle.fw_steps.specs.Lanes.{begin_steps, hearing_steps, wish_steps}
use Rattle.fw_steps.proofs.LinksAreMessages.Holding.{CoreGoes, Holds, abandoned, settles}
use Rattle.fw_steps.proofs.LinksAreMessages.Sides.{PairLeads, Notes, Place, Sided, leads_on, no_step}

-- one part after another
pub goes_on : {C : Type 0} {packages : List PackageText} {core : CoreOf C} {agent : Bool} {place : Place C} {m mid : PairOf} {other : Option CellContentOf} {x : C} {cell : Cell}
    → PairLeads packages m [] mid → CoreGoes packages core agent place mid other x cell → CoreGoes packages core agent place m other x cell
goes_on a g = record { own = g.own; leads = leads_on a g.leads; holds = g.holds }

-- no step is taken
stays_so : {C : Type 0} {packages : List PackageText} {core : CoreOf C} {agent : Bool} {place : Place C} (x : C) (own other : Option CellContentOf) (run last : CellRun)
    → Holds core agent x run.cell own → Some run ≡ Some last → CoreGoes packages core agent place (place x own other) other x last.cell
stays_so {C} {packages} {core} {agent} {place} x own other run last holds e =
    let same : run ≡ last = cc in
    subst (λ r. CoreGoes packages core agent place (place x own other) other x r.cell) same (record { own = own; leads = no_step packages (place x own other); holds = holds })

-- the command asked is the one in the cell
asked_as : (c : CommandOf) → WritesCommands → CommandRoundTrips c → IsAskedAs (command_code c) (command_bytes c) true (fresh_cell c)
asked_as c written spoken = record { said = record { code = refl; reads = written c spoken.widths spoken.writable }; reply = refl; live_is = refl }

wished_self : (c : CommandOf) (wish : Option CommandOf) → wish ≡ Some c → is_wished c wish ≡ true
wished_self c wish e = rw e (same_self c)

asks_from : {C : Type 0} {packages : List PackageText} {core : CoreOf C} {agent : Bool} {place : Place C} {peer_wish : Option CommandOf} {notes : Notes C} (side : Sided packages core agent place peer_wish notes)
    (c : CommandOf) (x : C) (own other : Option CellContentOf) (run last : CellRun) (cell : Cell) → WritesCommands → IsWishedIn other peer_wish → core.wish x ≡ Some c → CommandRoundTrips c → MatchesCell cell own
    → ask_in run (command_code c) (command_bytes c) cell ≡ Some last → CoreGoes packages core agent place (place x own other) other x last.cell
asks_from {core = core} side c x None other run last Cell.Empty written k wish spoken stands e =
    let is : ◌≡◌ {A = CellRun} (record { cell = Cell.Asked (command_code c) (command_bytes c) true; entries = run.entries ++ LaneEntryOf.Asked (command_code c) (command_bytes c) ∷ [] }) last = cc in
    let cell : last.cell ≡ Cell.Asked (command_code c) (command_bytes c) true = sym (ap (λ r. r.cell) is) in
    rw cell (record {
      own = Some (fresh_cell c);
      leads = side.ask x c other k wish;
      holds = record { stands = asked_as c written spoken; wished = λ live. wished_self c (core.wish x) wish; is_for = side.wishes x c wish };
    })
asks_from side c x (Some h) other run last Cell.Empty written k wish spoken stands e = absurd stands
asks_from side c x own other run last (Cell.Asked command body live) written k wish spoken stands e = absurd (cc)
asks_from side c x own other run last (Cell.Answered command body reply live) written k wish spoken stands e = absurd (cc)

begins_from : {C : Type 0} {packages : List PackageText} {core : CoreOf C} {agent : Bool} {place : Place C} {peer_wish : Option CommandOf} {notes : Notes C} (side : Sided packages core agent place peer_wish notes)
    (may : Bool) (c : CommandOf) (x : C) (own other : Option CellContentOf) (w : LaneOf) (run last : CellRun) → WritesCommands → IsWishedIn other peer_wish → core.wish x ≡ Some c → CommandRoundTrips c → Holds core agent x run.cell own
    → cells_along w (begin_steps may c) (Some run) ≡ Some last → CoreGoes packages core agent place (place x own other) other x last.cell
begins_from side true c x own other w run last written k wish spoken holds e = asks_from side c x own other run last run.cell written k wish spoken holds.stands e
begins_from side false c x own other w run last written k wish spoken holds e = stays_so x own other run last holds e

wishes_from : {C : Type 0} {packages : List PackageText} {core : CoreOf C} {agent : Bool} {place : Place C} {peer_wish : Option CommandOf} {notes : Notes C} (side : Sided packages core agent place peer_wish notes)
    (wish : Option CommandOf) (caller : CallerState) (x : C) (own other : Option CellContentOf) (w : LaneOf) (run last : CellRun) → WritesCommands → IsWishedIn other peer_wish → core.wish x ≡ wish → IfSome wish CommandRoundTrips → Holds core agent x run.cell own
    → cells_along w (wish_steps wish caller) (Some run) ≡ Some last → CoreGoes packages core agent place (place x own other) other x last.cell
wishes_from side None caller x own other w run last written k wish spoken holds e = stays_so x own other run last holds e
wishes_from side (Some c) caller x own other w run last written k wish spoken holds e =
    begins_from side (may_begin caller) c x own other w run last written k wish spoken holds e

-- the core after the last part
abbrev pub after_hearing : {C : Type 0} → Bool → CoreOf C → C → C
after_hearing true core x = core.ticked x
after_hearing false core x = x

-- The last part of a tick.
pub hears_from : {C : Type 0} {packages : List PackageText} {core : CoreOf C} {agent : Bool} {place : Place C} {peer_wish : Option CommandOf} {notes : Notes C} (side : Sided packages core agent place peer_wish notes)
    (hears : Bool) (caller : CallerState) (x : C) (own other : Option CellContentOf) (w : LaneOf) (run last : CellRun) → WritesCommands → IsWishedIn other peer_wish → (hears ≡ true → IfSome (core.wish (after_hearing hears core x)) CommandRoundTrips)
    → Holds core agent x run.cell own → awaited_request run.cell ≡ option_map request_of_open caller.asked
    → cells_along w (hearing_steps hears core x caller) (Some run) ≡ Some last
    → CoreGoes packages core agent place (place x own other) other (after_hearing hears core x) last.cell
hears_from {C} {packages} {core} {agent} {place} side true caller x own other w run last written k spoken holds waits e =
    let a = abandoned (core.wish (core.ticked x)) caller.asked w (wish_steps (core.wish (core.ticked x)) (unwished_abandoned (core.wish (core.ticked x)) caller)) run last e in
    let settled = settles core agent (core.ticked x) caller.asked run.cell a.mid.cell own waits holds.stands holds.is_for a.cell in
    goes_on (side.tick x own other k holds.wished)
    (wishes_from side (core.wish (core.ticked x)) (unwished_abandoned (core.wish (core.ticked x)) caller) (core.ticked x) (closed_unless (core.wish (core.ticked x)) own) other a.lane a.mid last written k refl (spoken refl) settled a.along)
hears_from side false caller x own other w run last written k spoken holds waits e = stays_so x own other run last holds e
