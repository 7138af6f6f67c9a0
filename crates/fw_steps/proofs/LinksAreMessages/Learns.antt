-- A reply that a half learns, as a step of its pair.
use Rattle.std.proofs.Common.{◌≡◌, ◌∙◌, ℕ, ◌==◌, not, Bool, true, false, if◌then◌else◌, List, [], ◌∷◌, ◌++◌, Option, Some, None, refl, sym, ap, subst}
use Rattle.std.specs.Option.{option_map}
use Rattle.mctp_wire.specs.declared.unit.Unit.{«Unit»}
use Rattle.mctp_reasm.specs.Held.{Held}
use Rattle.mctp_reasm.specs.Inboxes.{feed_outcome_at, held_with, packet_for}
use Rattle.mctp_reasm.specs.Pieces.{MessageOf, PacketOf}
use Rattle.mctp_reasm.specs.declared.outcomes.Fed.{Fed}
use Rattle.mctp_reasm.specs.declared.outcomes.Fed.TheVariants as outcomes
use Rattle.pldm_exch.specs.Caller.{CallerState, ReplyInOf, Open, answer_body, answer_outcome, request_of_open, closed_by, answer_outcome_for, is_quiet}
use Rattle.pldm_exch.specs.Ends.{AskerOf}
use Rattle.pldm_exch.specs.Sides.{AskerRow, TakerRow, asker_answered, asker_fed, asker_packet, asker_row}
use Rattle.exch_lane.specs.Cells.{Cell, CellRun, cell_at_asker, cell_learn, cells_along, learn_in, same_bytes, cell_run_with_entry}
use Rattle.exch_lane.specs.Lanes.{LaneEntryOf, LaneOf}
use Rattle.exch_lane.specs.Laws.{awaited_request}
use Rattle.fw_package.specs.Package.{PackageText}
use Rattle.fwup_wire.specs.Answers.{answer_in, answer_read, ok_or_malformed}
use Rattle.fwup_wire.specs.Values.{AnswerOf, CommandOf}
use Rattle.fw_message.specs.Headline.{EntryOf as NoteOf}
use Rattle.fw_message.specs.Pairs.{CellContentOf, PairOf}
use Rattle.fw_node.specs.Halves.{CoreOf, HalfOutcome, HalfOf, half_on_rows, half_after_settle}
use Rattle.fw_steps.specs.Joins.{IsCellFor, IsWishedIn, MatchesCell}
use Rattle.fw_steps.specs.Lanes.{learn_steps, settle_steps}
use Rattle.fw_steps.proofs.LinksAreMessages.Cells.{bytes_are}
use Rattle.fw_steps.proofs.LinksAreMessages.Holding.{Holds, holds_still, settled_cell, unless_empty, went}
use Rattle.fw_steps.proofs.LinksAreMessages.Rows.{IsOneDeaf}
use Rattle.fw_steps.proofs.LinksAreMessages.Sides.{PairLeads, Notes, Place, Sided, no_step}

-- A REPLY ANSWERS THE OPEN REQUEST

-- the reply of a row is the answer to the open request
pub record Answers (o : Option (ℕ × List ℕ)) (heard : ReplyInOf) : Type 0 where
  pub body : List ℕ
  pub is : o ≡ Some (heard.command, body)

abbrev pub RowAnswers : AskerRow → Option (ℕ × List ℕ) → Type 0
RowAnswers (AskerRow.Ignores replies) o = Prim.Unit {0}
RowAnswers (AskerRow.Learns replies caller heard) o = Answers o heard

abbrev HeardAnswers : Option ReplyInOf → Option (ℕ × List ℕ) → Type 0
HeardAnswers None o = Prim.Unit {0}
HeardAnswers (Some heard) o = Answers o heard

closed_answers : (c : CallerState) (o : Open) (body : Option (List ℕ)) → HeardAnswers (closed_by c o body).1 (Some (request_of_open o))
closed_answers c o None = tt
closed_answers c o (Some body) = record { body = (request_of_open o).1; is = refl }

heard_answers : (c : CallerState) (o : Option Open) (m : MessageOf) → HeardAnswers (answer_outcome_for c o m).1 (option_map request_of_open o)
heard_answers c None m = tt
heard_answers c (Some o) m = closed_answers c o (answer_body o m)

answered_row : (replies : List (Option Held)) (caller : CallerState) (heard : Option ReplyInOf) (o : Option (ℕ × List ℕ)) → HeardAnswers heard o → RowAnswers (asker_answered replies caller heard) o
answered_row replies caller None o k = tt
answered_row replies caller (Some heard) o k = k

fed_row : (replies : List (Option Held)) (caller : CallerState) (f : Fed) → RowAnswers (asker_fed replies caller f) (option_map request_of_open caller.asked)
fed_row replies caller (outcomes.Whole m) =
    answered_row replies (answer_outcome caller m).0 (answer_outcome caller m).1 (option_map request_of_open caller.asked) (heard_answers caller caller.asked m)
fed_row replies caller outcomes.Open = tt
fed_row replies caller (outcomes.Dropped cause) = tt

packet_row : (u : «Unit») (a : AskerOf) (p : Option PacketOf) → RowAnswers (asker_packet u a p) (option_map request_of_open a.caller.asked)
packet_row u a None = tt
packet_row u a (Some p) = fed_row (held_with u a.replies p) a.caller (feed_outcome_at u a.replies p)

hearing_row : (u : «Unit») (hears : Bool) (a : AskerOf) (p : Option PacketOf) → RowAnswers (if hears then asker_packet u a p else AskerRow.Ignores a.replies) (option_map request_of_open a.caller.asked)
hearing_row u true a p = packet_row u a p
hearing_row u false a p = tt

pub row_answers : (u : «Unit») (own peer : ℕ) (a : AskerOf) (bytes : List ℕ) → RowAnswers (asker_row u own peer a bytes) (option_map request_of_open a.caller.asked)
row_answers u own peer a bytes = hearing_row u (a.deaf == 0) a (packet_for u own peer false bytes)

-- A HALF AFTER A REPLY

-- the other half's command, in its cell
pub record Others (agent : Bool) (wish : Option CommandOf) (cell : Cell) (held : Option CellContentOf) : Type 0 where
  pub stands : MatchesCell cell held
  pub wished : IsWishedIn held wish
  pub is_for : IsCellFor agent held

pub others_still : (agent : Bool) (wish : Option CommandOf) (run last : CellRun) (held : Option CellContentOf) → Some run ≡ Some last → Others agent wish run.cell held → Others agent wish last.cell held
others_still agent wish run last held e k =
    let same : run ≡ last = cc in
    subst (λ r. Others agent wish r.cell held) same k

-- the outcome is this half, with these entries
abbrev pub IsHeardAs : {C : Type 0} → Notes C → C → (quiet works : Bool) → HalfOutcome C → HalfOf C → List NoteOf → Type 0
IsHeardAs notes x quiet works (HalfOutcome.Went half sent) h es = (half ≡ h) × (es ≡ [])
IsHeardAs notes x quiet works (HalfOutcome.Took half sent command answer) h es = (half ≡ h) × (es ≡ notes x command quiet works)
IsHeardAs notes x quiet works heard h es = ⊥

-- The outcome of a half is steps of its pair.
pub record HeardGoes {C : Type 0} (packages : List PackageText) (core : CoreOf C) (agent : Bool) (place : Place C) (peer_wish : Option CommandOf) (notes : Notes C)
    (m : PairOf) (x : C) (quiet works : Bool) (heard : HalfOutcome C) (cell other_cell : Cell) : Type 0 where
  pub half : HalfOf C
  pub es : List NoteOf
  pub own : Option CellContentOf
  pub other : Option CellContentOf
  pub is : IsHeardAs notes x quiet works heard half es
  pub leads : PairLeads packages m es (place half.core own other)
  pub holds : Holds core agent half.core cell own
  pub theirs : Others (not agent) peer_wish other_cell other
  pub deaf : IsOneDeaf half

-- A reply in a cell: it is the answer in the pair's cell.
record Learnt (own : Option CellContentOf) (heard : ReplyInOf) (after : CellRun) : Type 0 where
  held : CellContentOf
  answer : AnswerOf
  own_is : own ≡ Some held
  live : held.live ≡ true
  reply : held.reply ≡ Some answer
  reads : answer_in heard.command heard.reply ≡ Some answer
  cell : after.cell ≡ Cell.Empty

learnt_if : (same : Bool) (run after : CellRun) (entry : LaneEntryOf) → (if same then cell_run_with_entry run Cell.Empty entry else None) ≡ Some after → (same ≡ true) × (after.cell ≡ Cell.Empty)
learnt_if true run after entry e =
    let is : ◌≡◌ {A = CellRun} (record { cell = Cell.Empty; entries = run.entries ++ entry ∷ [] }) after = cc in
    (refl, sym (ap (λ r. r.cell) is))
learnt_if false run after entry e = absurd (cc)

learns_from : (run after : CellRun) (heard : ReplyInOf) (cell : Cell) (own : Option CellContentOf) → MatchesCell cell own → Answers (awaited_request cell) heard → learn_in run heard.reply cell ≡ Some after → Learnt own heard after
learns_from run after heard (Cell.Answered command body reply true) (Some h) k o e =
    let l = learnt_if (same_bytes heard.reply reply) run after (LaneEntryOf.Learnt heard.reply) e in
    let bytes : heard.reply ≡ reply = bytes_are heard.reply reply l.0 in
    let there = o.is in
    let pair : ◌≡◌ {A = ℕ × List ℕ} (command, body) (heard.command, o.body) = cc in
    let code : command ≡ heard.command = ap (λ p. p.0) pair in
    record {
      held = h;
      answer = k.answer;
      own_is = refl;
      live = k.live_is;
      reply = k.reply_is;
      reads = rw (bytes, sym code) k.reads;
      cell = l.1;
    }
learns_from run after heard (Cell.Answered command body reply false) own k o e = absurd (cc)
learns_from run after heard (Cell.Asked command body live) own k o e = absurd (cc)
learns_from run after heard Cell.Empty own k o e = absurd (cc)
learns_from run after heard (Cell.Answered command body reply true) None k o e = absurd k

learns_by : {C : Type 0} {packages : List PackageText} {core : CoreOf C} {agent : Bool} {place : Place C} {peer_wish : Option CommandOf} {notes : Notes C} (side : Sided packages core agent place peer_wish notes)
    (works : Bool) (x : C) (heard : ReplyInOf) (own other : Option CellContentOf) (after : CellRun) → IsWishedIn other peer_wish → Learnt own heard after
    → PairLeads packages (place x own other) [] (place (core.learn x (answer_read heard.command heard.reply) works) None other)
learns_by {C} {packages} {core} {agent} {place} side works x heard own other after k l =
    rw (l.own_is, ap ok_or_malformed l.reads) (side.learn x l.held l.answer works other k l.live l.reply)

empty_holds : {C : Type 0} (core : CoreOf C) (agent : Bool) (x : C) (cell : Cell) → cell ≡ Cell.Empty → Holds core agent x cell None
empty_holds core agent x cell e = rw e (record { stands = tt; wished = tt; is_for = tt })

-- A packet at a half, in the lane in which it asks.
pub hears_reply : {C : Type 0} {packages : List PackageText} {core : CoreOf C} {agent : Bool} {place : Place C} {peer_wish : Option CommandOf} {notes : Notes C} (side : Sided packages core agent place peer_wish notes)
    (works : Bool) (h : HalfOf C) (row : AskerRow) (own other : Option CellContentOf) (w : LaneOf) (run last other_run other_last : CellRun)
    → Holds core agent h.core run.cell own → Others (not agent) peer_wish other_run.cell other → IsOneDeaf h → RowAnswers row (awaited_request run.cell)
    → cells_along w (learn_steps core works h row) (cell_at_asker row run) ≡ Some last → Some other_run ≡ Some other_last
    → HeardGoes packages core agent place peer_wish notes (place h.core own other) h.core (is_quiet h.asker.caller) works (half_on_rows core works h row (TakerRow.Silent h.taker.requests)) last.cell other_last.cell
hears_reply {C} {packages} {core} {agent} {place} {peer_wish} side works h (AskerRow.Ignores replies) own other w run last other_run other_last holds theirs deaf answers e f = record {
  half = record h { asker = record h.asker { replies = replies } };
  es = [];
  own = own;
  other = other;
  is = (refl, refl);
  leads = no_step packages (place h.core own other);
  holds = holds_still core agent h.core run last own e holds;
  theirs = others_still (not agent) peer_wish other_run other_last other f theirs;
  deaf = deaf;
}
hears_reply {C} {packages} {core} {agent} {place} {peer_wish} side works h (AskerRow.Learns replies caller heard) own other w run last other_run other_last holds theirs deaf answers e f =
    let x = core.learn h.core (answer_read heard.command heard.reply) works in
    let on = went w (settle_steps core caller.asked x) (cell_learn heard.reply run) last e in
    let l = learns_from run on.run heard run.cell own holds.stands answers on.is in
    let cell = settled_cell (core.wish x) caller.asked w on.run last (ap (cells_along w (settle_steps core caller.asked x)) (sym on.is) ∙ e) in
    record {
      half = half_after_settle core (record h { core = x; asker = record h.asker { caller = caller; replies = replies } });
      es = [];
      own = None;
      other = other;
      is = (refl, refl);
      leads = learns_by side works h.core heard own other on.run theirs.wished l;
      holds = empty_holds core agent x last.cell (cell ∙ rw l.cell (unless_empty (core.wish x) caller.asked));
      theirs = others_still (not agent) peer_wish other_run other_last other f theirs;
      deaf = deaf;
    }
