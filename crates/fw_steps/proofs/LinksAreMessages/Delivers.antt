-- A packet that is delivered to a side of a link, as steps of its pair.
use Rattle.std.proofs.Common.{◌≡◌, ◌≢◌, ◌⊎◌, ◌∙◌, ℕ, not, Bool, true, false, List, [], ◌∷◌, Option, Some, sym, ap, subst, inl, inr}
use Rattle.std.specs.Option.{option_map}
use Rattle.pldm_exch.specs.Caller.{request_of_open, is_quiet}
use Rattle.pldm_exch.specs.Sides.{asker_row, taker_row}
use Rattle.exch_lane.specs.Cells.{Cell, CellRun, cell_at_asker, cell_at_taker, cell_delivers, cells_along}
use Rattle.exch_lane.specs.Lanes.{Sent, LaneStepOf, item_numbered}
use Rattle.exch_lane.specs.Lanes.{LaneEntryOf as LaneEntry}
use Rattle.exch_lane.specs.Laws.{awaited_request, in_lane}
use Rattle.exch_lane.specs.Steps.{lane_after}
use Rattle.exch_lane.specs.declared.step.End.TheVariants as ends
use Rattle.fw_package.specs.Package.{PackageText}
use Rattle.fwup_wire.specs.Values.{CommandOf}
use Rattle.fw_message.specs.Pairs.{CellContentOf}
use Rattle.fw_node.specs.Halves.{CoreOf, HalfOf, half_on_packet, half_on_rows, half_takes}
use Rattle.fw_node.specs.Nodes.{TakenAnswerRoundTrips}
use Rattle.fw_steps.specs.Lanes.{Times, turned_times, answer_steps, ask_steps, is_of, learn_steps, number_in, reply_in, take_steps, way_of}
use Rattle.fw_steps.proofs.LinksAreMessages.Holding.{Holds}
use Rattle.fw_steps.proofs.LinksAreMessages.Learns.{HeardGoes, Others, hears_reply, row_answers, RowAnswers}
use Rattle.fw_steps.proofs.LinksAreMessages.Rows.{IsOneDeaf}
use Rattle.fw_steps.proofs.LinksAreMessages.Sides.{Notes, Place, Sided}
use Rattle.fw_steps.proofs.LinksAreMessages.Takes.{hears_request, row_hears}
use Rattle.fw_steps.proofs.LinksAreLanes.Comings.{same_row}
use Rattle.fw_steps.proofs.LinksAreLanes.Routes.{answers_nothing, asks_nothing, other_lane}
use Rattle.fw_steps.proofs.LinksAreLanes.Sorted.{lane_number}

-- a reply
reply_comes : {A B : Type 0} {packages : List PackageText} {core : CoreOf A} {agent : Bool} {place : Place A} {peer_wish : Option CommandOf} {notes : Notes A} (side : Sided packages core agent place peer_wish notes)
    (works : Bool) (now : Times) (a : HalfOf A) (b : HalfOf B) (ps : List Sent) (past later : List LaneEntry) (number : ℕ) (s : Sent) (own other : Option CellContentOf) (run last other_run other_last : CellRun)
    → b.unit ≡ a.unit → a.own ≢ b.own → a.peer ≡ b.own → item_numbered ps number ≡ Some s → is_of a.unit a.own b.own s ≡ true
    → Holds core agent a.core run.cell own → Others (not agent) peer_wish other_run.cell other → IsOneDeaf a → awaited_request run.cell ≡ option_map request_of_open a.asker.caller.asked
    → cells_along (way_of now a b ps past) (ask_steps core works a (is_of a.unit a.own b.own s) (number_in (is_of a.unit a.own b.own) ps number) s.bytes) (Some run) ≡ Some last
    → cells_along (way_of (turned_times now) b a ps later) (answer_steps core works a (is_of b.unit b.own a.own s) (number_in (is_of b.unit b.own a.own) ps number) s.bytes) (Some other_run) ≡ Some other_last
    → HeardGoes packages core agent place peer_wish notes (place a.core own other) a.core (is_quiet a.asker.caller) works (half_on_packet core works a s.bytes) last.cell other_last.cell
reply_comes {A} {B} {packages} {core} {agent} {place} {peer_wish} {notes} side works now a b ps past later number s own other run last other_run other_last unit differ peer is mine holds theirs deaf waits e f =
    let row = asker_row a.unit a.own a.peer a.asker s.bytes in
    let n = number_in (is_of a.unit a.own b.own) ps number in
    let w = way_of now a b ps past in
    let apart : a.own ≢ a.peer = λ z. differ (z ∙ peer) in
    let from : in_lane a.unit a.own a.peer s.bytes ≡ true = rw peer mine in
    let far : is_of b.unit b.own a.own s ≡ false = subst (λ u. is_of u b.own a.own s ≡ false) (sym unit) (other_lane a.unit a.own b.own s.bytes differ mine) in
    let silent = answers_nothing a.unit a.taker a.own a.peer s.bytes apart from in
    let steps : cells_along w (LaneStepOf.Deliver n ends.Asker [] ∷ learn_steps core works a row) (Some run) ≡ Some last =
    subst (λ m. cells_along w (ask_steps core works a m n s.bytes) (Some run) ≡ Some last) mine e in
    let comes : cell_delivers w ends.Asker [] (item_numbered w.packets n) run ≡ cell_at_asker row run =
    ap (λ o. cell_delivers w ends.Asker [] o run) (lane_number (is_of a.unit a.own b.own) ps number s is mine) in
    let along : cells_along (lane_after w (LaneStepOf.Deliver n ends.Asker [])) (learn_steps core works a row) (cell_at_asker row run) ≡ Some last =
    subst (λ o. cells_along (lane_after w (LaneStepOf.Deliver n ends.Asker [])) (learn_steps core works a row) o ≡ Some last) comes steps in
    let still : Some other_run ≡ Some other_last =
    subst (λ m. cells_along (way_of (turned_times now) b a ps later) (answer_steps core works a m (number_in (is_of b.unit b.own a.own) ps number) s.bytes) (Some other_run) ≡ Some other_last) far f in
    subst (λ t. HeardGoes packages core agent place peer_wish notes (place a.core own other) a.core (is_quiet a.asker.caller) works (half_on_rows core works a row t) last.cell other_last.cell)
    (sym silent)
    (hears_reply side works a row own other (lane_after w (LaneStepOf.Deliver n ends.Asker [])) run last other_run other_last holds theirs deaf
    (subst (RowAnswers row) (sym waits) (row_answers a.unit a.own a.peer a.asker s.bytes)) along still)

-- a request
request_comes : {A B : Type 0} {packages : List PackageText} {core : CoreOf A} {agent : Bool} {place : Place A} {peer_wish : Option CommandOf} {notes : Notes A} (side : Sided packages core agent place peer_wish notes)
    (works : Bool) (now : Times) (a : HalfOf A) (b : HalfOf B) (ps : List Sent) (past later : List LaneEntry) (number : ℕ) (s : Sent) (own other : Option CellContentOf) (run last other_run other_last : CellRun)
    → b.unit ≡ a.unit → a.own ≢ b.own → a.peer ≡ b.own → b.peer ≡ a.own → item_numbered ps number ≡ Some s → is_of b.unit b.own a.own s ≡ true
    → Holds core agent a.core run.cell own → Others (not agent) peer_wish other_run.cell other → IsOneDeaf a → awaited_request run.cell ≡ option_map request_of_open a.asker.caller.asked
    → (a.asker.deaf ≡ 0 → is_quiet a.asker.caller ≡ true → run.cell ≡ Cell.Empty) → TakenAnswerRoundTrips (core.unit a.core) (half_on_packet core works a s.bytes)
    → cells_along (way_of now a b ps past) (ask_steps core works a (is_of a.unit a.own b.own s) (number_in (is_of a.unit a.own b.own) ps number) s.bytes) (Some run) ≡ Some last
    → cells_along (way_of (turned_times now) b a ps later) (answer_steps core works a (is_of b.unit b.own a.own s) (number_in (is_of b.unit b.own a.own) ps number) s.bytes) (Some other_run) ≡ Some other_last
    → HeardGoes packages core agent place peer_wish notes (place a.core own other) a.core (is_quiet a.asker.caller) works (half_on_packet core works a s.bytes) last.cell other_last.cell
request_comes {A} {B} {packages} {core} {agent} {place} {peer_wish} {notes} side works now a b ps past later number s own other run last other_run other_last unit differ peer back is mine holds theirs deaf waits rests told e f =
    let row = taker_row a.unit a.own a.peer a.taker s.bytes in
    let n = number_in (is_of b.unit b.own a.own) ps number in
    let w = way_of now a b ps past in
    let v = way_of (turned_times now) b a ps later in
    let reply = reply_in core works a row in
    let apart : a.peer ≢ a.own = λ z. differ (sym z ∙ peer) in
    let from : in_lane a.unit a.peer a.own s.bytes ≡ true = subst (λ u. in_lane u a.peer a.own s.bytes ≡ true) unit (rw peer mine) in
    let far : is_of a.unit a.own b.own s ≡ false = subst (λ u. is_of u a.own b.own s ≡ false) unit (other_lane b.unit b.own a.own s.bytes (λ z. differ (sym z)) mine) in
    let heard : half_on_packet core works a s.bytes ≡ half_takes core works a row = ap (λ r. half_on_rows core works a r row) (asks_nothing a.unit a.asker a.own a.peer s.bytes apart from) in
    let along : cells_along w (take_steps core works a row) (Some run) ≡ Some last =
    subst (λ m. cells_along w (ask_steps core works a m (number_in (is_of a.unit a.own b.own) ps number) s.bytes) (Some run) ≡ Some last) far e in
    let steps : cell_delivers v ends.Taker reply (item_numbered v.packets n) other_run ≡ Some other_last =
    subst (λ m. cells_along v (answer_steps core works a m n s.bytes) (Some other_run) ≡ Some other_last) mine f in
    let comes : cell_delivers v ends.Taker reply (item_numbered v.packets n) other_run ≡ cell_at_taker reply row other_run =
    ap (λ o. cell_delivers v ends.Taker reply o other_run) (lane_number (is_of b.unit b.own a.own) ps number s is mine)
    ∙ ap (λ r. cell_at_taker reply r other_run) (same_row a b s.bytes unit peer back) in
    subst (λ x. HeardGoes packages core agent place peer_wish notes (place a.core own other) a.core (is_quiet a.asker.caller) works x last.cell other_last.cell)
    (sym heard)
    (hears_request side works a row own other w run last other_run other_last holds theirs deaf waits rests (row_hears a.unit a.own a.peer a.taker s.bytes) (subst (TakenAnswerRoundTrips (core.unit a.core)) heard told) along (sym comes ∙ steps))

-- A packet of the link is delivered to a half.
pub half_comes : {A B : Type 0} {packages : List PackageText} {core : CoreOf A} {agent : Bool} {place : Place A} {peer_wish : Option CommandOf} {notes : Notes A} (side : Sided packages core agent place peer_wish notes)
    (works : Bool) (now : Times) (a : HalfOf A) (b : HalfOf B) (ps : List Sent) (past later : List LaneEntry) (number : ℕ) (s : Sent) (own other : Option CellContentOf) (run last other_run other_last : CellRun)
    → b.unit ≡ a.unit → a.own ≢ b.own → a.peer ≡ b.own → b.peer ≡ a.own → item_numbered ps number ≡ Some s → (is_of a.unit a.own b.own s ≡ true) ⊎ (is_of b.unit b.own a.own s ≡ true)
    → Holds core agent a.core run.cell own → Others (not agent) peer_wish other_run.cell other → IsOneDeaf a → awaited_request run.cell ≡ option_map request_of_open a.asker.caller.asked
    → (a.asker.deaf ≡ 0 → is_quiet a.asker.caller ≡ true → run.cell ≡ Cell.Empty) → TakenAnswerRoundTrips (core.unit a.core) (half_on_packet core works a s.bytes)
    → cells_along (way_of now a b ps past) (ask_steps core works a (is_of a.unit a.own b.own s) (number_in (is_of a.unit a.own b.own) ps number) s.bytes) (Some run) ≡ Some last
    → cells_along (way_of (turned_times now) b a ps later) (answer_steps core works a (is_of b.unit b.own a.own s) (number_in (is_of b.unit b.own a.own) ps number) s.bytes) (Some other_run) ≡ Some other_last
    → HeardGoes packages core agent place peer_wish notes (place a.core own other) a.core (is_quiet a.asker.caller) works (half_on_packet core works a s.bytes) last.cell other_last.cell
half_comes side works now a b ps past later number s own other run last other_run other_last unit differ peer back is (inl mine) holds theirs deaf waits rests told e f =
    reply_comes side works now a b ps past later number s own other run last other_run other_last unit differ peer is mine holds theirs deaf waits e f
half_comes side works now a b ps past later number s own other run last other_run other_last unit differ peer back is (inr mine) holds theirs deaf waits rests told e f =
    request_comes side works now a b ps past later number s own other run last other_run other_last unit differ peer back is mine holds theirs deaf waits rests told e f
