-- A request that a half takes, as a step of its pair.
use Rattle.std.proofs.Common.{◌≡◌, ◌∙◌, ℕ, ◌==◌, ◌&&◌, not, Bool, true, false, if◌then◌else◌, List, [], ◌∷◌, ◌++◌, Option, Some, None, Ok, Result, refl, sym, ap, subst, inl, inr}
use Rattle.std.specs.Option.{option_map}
use Rattle.std.proofs.lemmas.Bool.Decides.{eqb_tells}
use Rattle.mctp_wire.specs.declared.unit.Unit.{«Unit»}
use Rattle.mctp_reasm.specs.Held.{Held}
use Rattle.mctp_reasm.specs.Inboxes.{packet_for}
use Rattle.mctp_reasm.specs.Pieces.{MessageOf, PacketOf}
use Rattle.pldm_base.specs.declared.header.PldmHead.{PldmHead}
use Rattle.pldm_exch.specs.Caller.{request_of_open, is_quiet}
use Rattle.pldm_exch.specs.Ends.{TakerOf}
use Rattle.pldm_exch.specs.Sides.{TakerRow, taker_packet, taker_row}
use Rattle.exch_lane.specs.Cells.{Cell, CellRun, cell_at_taker, cell_take, cells_along, same_bytes, take_in, cell_run_with_entry}
use Rattle.exch_lane.specs.Lanes.{LaneEntryOf, LaneOf}
use Rattle.exch_lane.specs.Laws.{awaited_request}
use Rattle.fw_package.specs.Package.{PackageText}
use Rattle.fwup_wire.specs.Answers.{answer_bytes, answer_in}
use Rattle.fwup_wire.specs.Commands.{command_code, command_read}
use Rattle.fwup_wire.specs.Values.{AnswerOf, CommandOf}
use Rattle.fw_message.specs.Pairs.{CellContentOf, closed_unless, is_empty}
use Rattle.fw_node.specs.Halves.{CoreOf, HalfOutcome, HalfOf, half_after_answer, half_takes, read_by, reply_read, half_after_settle, takes_if}
use Rattle.fw_node.specs.Nodes.{AnswerRoundTrips, TakenAnswerRoundTrips}
use Rattle.fw_steps.specs.Joins.{IsCommandFor, IsCellFor, IsWishedIn, MatchesCell, cell_unless}
use Rattle.fw_steps.specs.Lanes.{replied_by, reply_in, settle_steps, take_steps}
use Rattle.fw_steps.proofs.LinksAreMessages.Cells.{bytes_are, numbers_are}
use Rattle.fw_steps.proofs.LinksAreMessages.Holding.{Holds, holds_still, settled_cell, settles}
use Rattle.fw_steps.proofs.LinksAreMessages.Learns.{HeardGoes, IsHeardAs, Others, others_still}
use Rattle.fw_steps.proofs.LinksAreMessages.Rows.{IsOneDeaf}
use Rattle.fw_steps.proofs.LinksAreMessages.Sides.{PairLeads, Notes, Place, Sided, no_step}
use Rattle.fw_steps.proofs.LinksAreLanes.Routes.{both_hold}

-- A NODE THAT TAKES HEARS

-- a row that takes a request is of a node that hears
abbrev pub RowHears : TakerRow → TakerOf → Type 0
RowHears (TakerRow.TakesUp requests m head body) t = t.deaf ≡ 0
RowHears row t = Prim.Unit {0}

heard_row : (t : TakerOf) (row : TakerRow) → t.deaf ≡ 0 → RowHears row t
heard_row t (TakerRow.Silent requests) e = tt
heard_row t (TakerRow.Repeats requests answer) e = tt
heard_row t (TakerRow.TakesUp requests m head body) e = e
heard_row t (TakerRow.Strays requests m) e = tt

hearing_row : (u : «Unit») (hears : Bool) (t : TakerOf) (p : Option PacketOf) → (t.deaf == 0) ≡ hears → RowHears (if hears then taker_packet u t p else TakerRow.Silent t.requests) t
hearing_row u true t p e = elim (eqb_tells t.deaf 0) [ inl same ↦ heard_row t (taker_packet u t p) same.1 | inr other ↦ absurd (let o = other.0 in cc) ]
hearing_row u false t p e = tt

pub row_hears : (u : «Unit») (own peer : ℕ) (t : TakerOf) (bytes : List ℕ) → RowHears (taker_row u own peer t bytes) t
row_hears u own peer t bytes = hearing_row u (t.deaf == 0) t (packet_for u own peer true bytes) refl

-- a quiet half has an empty cell, so `quiet` may be true for it
asks_none : (own : Option CellContentOf) → MatchesCell Cell.Empty own → is_empty own ≡ true
asks_none None k = refl
asks_none (Some h) k = absurd k

is_told_so : (quiet : Bool) (cell : Cell) (own : Option CellContentOf) → MatchesCell cell own → (quiet ≡ true → cell ≡ Cell.Empty) → (quiet && not (is_empty own)) ≡ false
is_told_so true cell own k rests =
    let none : MatchesCell Cell.Empty own = subst (λ c. MatchesCell c own) (rests refl) k in
    rw (asks_none own none) refl
is_told_so false cell own k rests = refl

-- THE COMMAND TAKEN IS THE ONE ASKED

-- A request in a cell: it is the command in the pair's cell.
record Taken (held : Option CellContentOf) (command : ℕ) (body reply : List ℕ) (after : CellRun) : Type 0 where
  asked : CellContentOf
  is : held ≡ Some asked
  new : asked.reply ≡ None
  code : command ≡ command_code asked.command
  reads : command_read command body ≡ Ok asked.command
  stands : (a : AnswerOf) → answer_in command reply ≡ Some a → MatchesCell after.cell (Some (record asked { reply = Some a }))

taken_if : (same : Bool) (run after : CellRun) (cell : Cell) (entry : LaneEntryOf) → (if same then cell_run_with_entry run cell entry else None) ≡ Some after → (same ≡ true) × (after.cell ≡ cell)
taken_if true run after cell entry e =
    let is : ◌≡◌ {A = CellRun} (record { cell = cell; entries = run.entries ++ entry ∷ [] }) after = cc in
    (refl, sym (ap (λ r. r.cell) is))
taken_if false run after cell entry e = absurd (cc)

takes_from : (run after : CellRun) (command : ℕ) (body reply : List ℕ) (cell : Cell) (held : Option CellContentOf) → MatchesCell cell held → take_in run command body reply cell ≡ Some after
    → Taken held command body reply after
takes_from run after command body reply (Cell.Asked asked data_of live) (Some h) k e =
    let is = taken_if ((command == asked) && same_bytes body data_of) run after (Cell.Answered asked data_of reply live) (LaneEntryOf.Taken command body reply) e in
    let both = both_hold (command == asked) (same_bytes body data_of) is.0 in
    let code : command ≡ asked = numbers_are command asked both.0 in
    let bytes : body ≡ data_of = bytes_are body data_of both.1 in
    record {
      asked = h;
      is = refl;
      new = k.reply;
      code = code ∙ k.said.code;
      reads = rw (code, bytes) k.said.reads;
      stands = λ a reads. rw is.1 (record { said = k.said; answer = a; reply_is = refl; reads = rw code at reads; live_is = k.live_is });
    }
takes_from run after command body reply (Cell.Answered asked data_of old live) held k e = absurd (cc)
takes_from run after command body reply Cell.Empty held k e = absurd (cc)
takes_from run after command body reply (Cell.Asked asked data_of live) None k e = absurd k

-- a command that is taken is of PLDM type 5
five_if : (five : Bool) (o : Option CellRun) (after : CellRun) → (if five then o else None) ≡ Some after → (five ≡ true) × (o ≡ Some after)
five_if true o after e = (refl, e)
five_if false o after e = absurd (cc)

-- a command that a core serves is decoded
read_as : {C : Type 0} (core : CoreOf C) (command : ℕ) (body : List ℕ) (c : CommandOf) → command ≡ command_code c → core.serves (command_code c) ≡ true → command_read command body ≡ Ok c
    → read_by core command body ≡ Ok c
read_as core command body c code serves reads =
    let served : core.serves command ≡ true = rw code serves in
    rw (served, reads) refl

-- A half that took a command.
abbrev taker_after : {C : Type 0} → CoreOf C → Bool → HalfOf C → List (Option Held) → MessageOf → PldmHead → CommandOf → HalfOf C
taker_after core works h requests m head c =
    half_after_settle core (half_after_answer (record h { core = (core.take h.core c (is_quiet h.asker.caller) works).core }) requests m head (answer_bytes (core.take h.core c (is_quiet h.asker.caller) works).answer))

heard_as : {C : Type 0} (core : CoreOf C) (notes : Notes C) (works : Bool) (h : HalfOf C) (requests : List (Option Held)) (m : MessageOf) (head : PldmHead) (body : List ℕ) (c : CommandOf) (five : Bool) (r : Result CommandOf ℕ)
    → five ≡ true → r ≡ Ok c → read_by core head.command body ≡ r
    → IsHeardAs notes h.core (is_quiet h.asker.caller) works (takes_if five core works h requests m head body) (taker_after core works h requests m head c) (notes h.core c (is_quiet h.asker.caller) works)
heard_as core notes works h requests m head body c five r is_five is reads = rw (is_five, reads, is) (refl, refl)

told_as : {C : Type 0} (core : CoreOf C) (works : Bool) (h : HalfOf C) (requests : List (Option Held)) (m : MessageOf) (head : PldmHead) (body : List ℕ) (c : CommandOf) (five : Bool)
    → five ≡ true → read_by core head.command body ≡ Ok c → TakenAnswerRoundTrips (core.unit h.core) (takes_if five core works h requests m head body)
    → AnswerRoundTrips (core.unit h.core) c (core.take h.core c (is_quiet h.asker.caller) works).answer
told_as core works h requests m head body c five is_five reads told = rw (is_five, reads) at told

-- nothing is taken
nothing : {C : Type 0} {packages : List PackageText} {core : CoreOf C} {agent : Bool} {place : Place C} {peer_wish : Option CommandOf} {notes : Notes C}
    (works : Bool) (h : HalfOf C) (requests : List (Option Held)) (sent : List MessageOf) (own other : Option CellContentOf) (run last other_run other_last : CellRun)
    → Holds core agent h.core run.cell own → Others (not agent) peer_wish other_run.cell other → IsOneDeaf h
    → Some run ≡ Some last → Some other_run ≡ Some other_last
    → HeardGoes packages core agent place peer_wish notes (place h.core own other) h.core (is_quiet h.asker.caller) works (HalfOutcome.Went (record h { taker = record h.taker { requests = requests } }) sent) last.cell other_last.cell
nothing {C} {packages} {core} {agent} {place} {peer_wish} works h requests sent own other run last other_run other_last holds theirs deaf e f = record {
  half = record h { taker = record h.taker { requests = requests } };
  es = [];
  own = own;
  other = other;
  is = (refl, refl);
  leads = no_step packages (place h.core own other);
  holds = holds_still core agent h.core run last own e holds;
  theirs = others_still (not agent) peer_wish other_run other_last other f theirs;
  deaf = deaf;
}

-- a command is taken
takes_up : {C : Type 0} {packages : List PackageText} {core : CoreOf C} {agent : Bool} {place : Place C} {peer_wish : Option CommandOf} {notes : Notes C} (side : Sided packages core agent place peer_wish notes)
    (works : Bool) (h : HalfOf C) (requests : List (Option Held)) (m : MessageOf) (head : PldmHead) (body : List ℕ) (own other : Option CellContentOf) (w : LaneOf) (run last other_run other_last : CellRun)
    → Holds core agent h.core run.cell own → Others (not agent) peer_wish other_run.cell other → IsOneDeaf h → awaited_request run.cell ≡ option_map request_of_open h.asker.caller.asked
    → (is_quiet h.asker.caller ≡ true → run.cell ≡ Cell.Empty) → TakenAnswerRoundTrips (core.unit h.core) (takes_if (head.pldm_type == 5) core works h requests m head body)
    → cells_along w (settle_steps core h.asker.caller.asked (replied_by core works h head body).core) (Some run) ≡ Some last
    → (head.pldm_type == 5) ≡ true → Taken other head.command body (replied_by core works h head body).reply other_last
    → HeardGoes packages core agent place peer_wish notes (place h.core own other) h.core (is_quiet h.asker.caller) works (takes_if (head.pldm_type == 5) core works h requests m head body) last.cell other_last.cell
takes_up {C} {packages} {core} {agent} {place} {peer_wish} {notes} side works h requests m head body own other w run last other_run other_last holds theirs deaf waits rests told e five t =
    let quiet = is_quiet h.asker.caller in
    let c = t.asked.command in
    let taken = core.take h.core c quiet works in
    let is_for : IsCommandFor (not agent) c = subst (IsCellFor (not agent)) t.is theirs.is_for in
    let wished : IsWishedIn (Some t.asked) peer_wish = subst (λ o. IsWishedIn o peer_wish) t.is theirs.wished in
    let reads : read_by core head.command body ≡ Ok c = read_as core head.command body c t.code (side.serves c is_for) t.reads in
    let replied : replied_by core works h head body ≡ record { core = taken.core; reply = answer_bytes taken.answer } = ap (reply_read core quiet works h.core) reads in
    let again = told_as core works h requests m head body c (head.pldm_type == 5) five reads told in
    let cell : last.cell ≡ cell_unless (core.wish taken.core) h.asker.caller.asked run.cell =
    settled_cell (core.wish taken.core) h.asker.caller.asked w run last
    (subst (λ r. cells_along w (settle_steps core h.asker.caller.asked r.core) (Some run) ≡ Some last) replied e) in
    let answered : answer_in head.command (replied_by core works h head body).reply ≡ Some taken.answer =
    ap (λ r. answer_in head.command r.reply) replied ∙ ap (λ n. answer_in n (answer_bytes taken.answer)) t.code ∙ again.reads in
    record {
      half = taker_after core works h requests m head c;
      es = notes h.core c quiet works;
      own = closed_unless (core.wish taken.core) own;
      other = Some (record t.asked { reply = Some taken.answer });
      is = heard_as core notes works h requests m head body c (head.pldm_type == 5) (Ok c) five refl reads;
      leads = subst (λ o. PairLeads packages (place h.core own o) (notes h.core c quiet works)
          (place taken.core (closed_unless (core.wish taken.core) own) (Some (record t.asked { reply = Some taken.answer })))) (sym t.is)
          (side.take h.core own t.asked quiet works wished t.new (is_told_so quiet run.cell own holds.stands rests));
      holds = settles core agent taken.core h.asker.caller.asked run.cell last.cell own waits holds.stands holds.is_for cell;
      theirs = record { stands = t.stands taken.answer answered; wished = wished; is_for = is_for };
      deaf = deaf;
    }

-- A packet at a half, in the lane in which it answers.
pub hears_request : {C : Type 0} {packages : List PackageText} {core : CoreOf C} {agent : Bool} {place : Place C} {peer_wish : Option CommandOf} {notes : Notes C} (side : Sided packages core agent place peer_wish notes)
    (works : Bool) (h : HalfOf C) (row : TakerRow) (own other : Option CellContentOf) (w : LaneOf) (run last other_run other_last : CellRun)
    → Holds core agent h.core run.cell own → Others (not agent) peer_wish other_run.cell other → IsOneDeaf h → awaited_request run.cell ≡ option_map request_of_open h.asker.caller.asked
    → (h.asker.deaf ≡ 0 → is_quiet h.asker.caller ≡ true → run.cell ≡ Cell.Empty) → RowHears row h.taker → TakenAnswerRoundTrips (core.unit h.core) (half_takes core works h row)
    → cells_along w (take_steps core works h row) (Some run) ≡ Some last → cell_at_taker (reply_in core works h row) row other_run ≡ Some other_last
    → HeardGoes packages core agent place peer_wish notes (place h.core own other) h.core (is_quiet h.asker.caller) works (half_takes core works h row) last.cell other_last.cell
hears_request side works h (TakerRow.Silent requests) own other w run last other_run other_last holds theirs deaf waits rests hears told e f =
    nothing works h requests [] own other run last other_run other_last holds theirs deaf e f
hears_request side works h (TakerRow.Repeats requests answer) own other w run last other_run other_last holds theirs deaf waits rests hears told e f =
    nothing works h requests (answer ∷ []) own other run last other_run other_last holds theirs deaf e f
hears_request side works h (TakerRow.Strays requests m) own other w run last other_run other_last holds theirs deaf waits rests hears told e f = absurd (cc)
hears_request {C} {packages} {core} {agent} {place} {peer_wish} {notes} side works h (TakerRow.TakesUp requests m head body) own other w run last other_run other_last holds theirs deaf waits rests hears told e f =
    let five = five_if (head.pldm_type == 5) (cell_take head.command body (replied_by core works h head body).reply other_run) other_last f in
    let t = takes_from other_run other_last head.command body (replied_by core works h head body).reply other_run.cell other theirs.stands five.1 in
    takes_up side works h requests m head body own other w run last other_run other_last holds theirs deaf waits (λ quiet. rests (deaf ∙ hears) quiet) told e five.0 t
