-- The outcome of a packet for a half that hears, and whether it calls the bank, from its content.
use Rattle.std.proofs.Common.{◌≡◌, ◌∙◌, ◌==◌, ℕ, Bool, true, false, List, Option, Result, Ok, Err, refl, sym, ap}
use Rattle.mctp_reasm.specs.Held.{Held}
use Rattle.mctp_reasm.specs.Pieces.{MessageOf}
use Rattle.pldm_base.specs.declared.header.PldmHead.{PldmHead}
use Rattle.pldm_exch.specs.Caller.{is_quiet}
use Rattle.fwup_wire.specs.Values.{CommandOf}
use Rattle.mctp_reasm.specs.Inboxes.{packet_for}
use Rattle.pldm_exch.specs.Ends.{AnsweringOf, taker_of}
use Rattle.pldm_exch.specs.Sides.{AskerRow, TakerRow, answering_row, asking_after, asking_row, taker_packet, taker_row}
use Rattle.fw_node.specs.BankCalls.{incoming_calls_bank, packet_calls_bank}
use Rattle.fw_node.specs.BothEnds.{EndsOf}
use Rattle.fw_node.specs.Halves.{CoreOf, HalfOf, IncomingOf, answering_after, half_on_incoming, half_on_packet, half_on_rows, incoming, read_by, takes_if, takes_read}
use Rattle.mctp_wire.specs.declared.unit.Unit.{«Unit»}
use Rattle.fw_node.specs.Nodes.{half_of}

-- the ends after a packet with these rows
abbrev pub ends_after : EndsOf → AskerRow → TakerRow → EndsOf
ends_after e asker taker = record { asking = asking_after e.asking asker; answering = answering_after asker e.answering taker }

-- setting the held requests twice is setting them once
read_alike : {C : Type 0} (core : CoreOf C) (quiet works : Bool) (h : HalfOf C) (requests : List (Option Held)) (m : MessageOf) (head : PldmHead) (read : Result CommandOf ℕ)
    → takes_read core quiet works h requests m head read ≡ takes_read core quiet works (record h { taker = record h.taker { requests = requests } }) requests m head read
read_alike core quiet works h requests m head (Ok c) = refl
read_alike core quiet works h requests m head (Err code) = refl

takes_alike : {C : Type 0} (b : Bool) (core : CoreOf C) (works : Bool) (h : HalfOf C) (requests : List (Option Held)) (m : MessageOf) (head : PldmHead) (body : List ℕ)
    → takes_if b core works h requests m head body ≡ takes_if b core works (record h { taker = record h.taker { requests = requests } }) requests m head body
takes_alike true core works h requests m head body = read_alike core (is_quiet h.asker.caller) works h requests m head (read_by core head.command body)
takes_alike false core works h requests m head body = refl

rows_bring : {C : Type 0} (core : CoreOf C) (works : Bool) (deaf : ℕ) (c : C) (e : EndsOf) (asker : AskerRow) (taker : TakerRow)
    → half_on_rows core works (half_of deaf c e) asker taker ≡ half_on_incoming core works (half_of deaf c (ends_after e asker taker)) (incoming asker taker)
rows_bring core works deaf c e (AskerRow.Learns replies caller heard) taker = refl
rows_bring core works deaf c e (AskerRow.Ignores replies) (TakerRow.Silent requests) = refl
rows_bring core works deaf c e (AskerRow.Ignores replies) (TakerRow.Repeats requests answer) = refl
rows_bring core works deaf c e (AskerRow.Ignores replies) (TakerRow.TakesUp requests m head body) =
    takes_alike (head.pldm_type == 5) core works (half_of deaf c (record e { asking = asking_after e.asking (AskerRow.Ignores replies) })) requests m head body
rows_bring core works deaf c e (AskerRow.Ignores replies) (TakerRow.Strays requests m) = refl

-- both ends have the same endpoints
taker_is : (u : «Unit») (own peer : ℕ) (t : AnsweringOf) (bytes : List ℕ) → t.unit ≡ u → t.own ≡ own → t.peer ≡ peer → taker_row u own peer (taker_of 0 t) bytes ≡ answering_row t bytes
taker_is u own peer t bytes v o p =
    sym (ap (λ n. taker_packet n (taker_of 0 t) (packet_for n t.own t.peer true bytes)) v ∙ ap (λ n. taker_packet u (taker_of 0 t) (packet_for u n t.peer true bytes)) o
    ∙ ap (λ n. taker_packet u (taker_of 0 t) (packet_for u own n true bytes)) p)

-- a half that hears
pub hearing_brings : {C : Type 0} (core : CoreOf C) (works : Bool) (c : C) (e : EndsOf) (bytes : List ℕ) → e.answering.unit ≡ e.asking.unit → e.answering.own ≡ e.asking.own → e.answering.peer ≡ e.asking.peer
    → half_on_packet core works (half_of 0 c e) bytes
    ≡ half_on_incoming core works (half_of 0 c (ends_after e (asking_row e.asking bytes) (answering_row e.answering bytes))) (incoming (asking_row e.asking bytes) (answering_row e.answering bytes))
hearing_brings core works c e bytes unit own peer =
    ap (half_on_rows core works (half_of 0 c e) (asking_row e.asking bytes)) (taker_is e.asking.unit e.asking.own e.asking.peer e.answering bytes unit own peer)
    ∙ rows_bring core works 0 c e (asking_row e.asking bytes) (answering_row e.answering bytes)

-- the same, from the content that its ends found
pub hears_brings : {C : Type 0} (core : CoreOf C) (works : Bool) (c : C) (e new : EndsOf) (bytes : List ℕ) (i : IncomingOf)
    → e.answering.unit ≡ e.asking.unit → e.answering.own ≡ e.asking.own → e.answering.peer ≡ e.asking.peer
    → i ≡ incoming (asking_row e.asking bytes) (answering_row e.answering bytes)
    → new.asking ≡ asking_after e.asking (asking_row e.asking bytes)
    → new.answering ≡ answering_after (asking_row e.asking bytes) e.answering (answering_row e.answering bytes)
    → half_on_packet core works (half_of 0 c e) bytes ≡ half_on_incoming core works (half_of 0 c new) i
hears_brings core works c e new bytes i unit own peer brings asking answering =
    let arow = asking_row e.asking bytes in
    let trow = answering_row e.answering bytes in
    hearing_brings core works c e bytes unit own peer
    ∙ ap (λ x. half_on_incoming core works (half_of 0 c (record { asking = x; answering = answering_after arow e.answering trow })) (incoming arow trow)) (sym asking)
    ∙ ap (λ y. half_on_incoming core works (half_of 0 c (record { asking = new.asking; answering = y })) (incoming arow trow)) (sym answering)
    ∙ ap (half_on_incoming core works (half_of 0 c new)) (sym brings)

-- whether the bank is called doesn't depend on the packets that the ends hold
rows_call : {C : Type 0} (core : CoreOf C) (deaf : ℕ) (c : C) (e : EndsOf) (asker : AskerRow) (taker : TakerRow)
    → incoming_calls_bank core (half_of deaf c e) (incoming asker taker) ≡ incoming_calls_bank core (half_of deaf c (ends_after e asker taker)) (incoming asker taker)
rows_call core deaf c e (AskerRow.Learns replies caller heard) taker = refl
rows_call core deaf c e (AskerRow.Ignores replies) (TakerRow.Silent requests) = refl
rows_call core deaf c e (AskerRow.Ignores replies) (TakerRow.Repeats requests answer) = refl
rows_call core deaf c e (AskerRow.Ignores replies) (TakerRow.TakesUp requests m head body) = refl
rows_call core deaf c e (AskerRow.Ignores replies) (TakerRow.Strays requests m) = refl

calling_brings : {C : Type 0} (core : CoreOf C) (c : C) (e : EndsOf) (bytes : List ℕ) → e.answering.unit ≡ e.asking.unit → e.answering.own ≡ e.asking.own → e.answering.peer ≡ e.asking.peer
    → packet_calls_bank core (half_of 0 c e) bytes
    ≡ incoming_calls_bank core (half_of 0 c (ends_after e (asking_row e.asking bytes) (answering_row e.answering bytes))) (incoming (asking_row e.asking bytes) (answering_row e.answering bytes))
calling_brings core c e bytes unit own peer =
    ap (λ row. incoming_calls_bank core (half_of 0 c e) (incoming (asking_row e.asking bytes) row)) (taker_is e.asking.unit e.asking.own e.asking.peer e.answering bytes unit own peer)
    ∙ rows_call core 0 c e (asking_row e.asking bytes) (answering_row e.answering bytes)

-- nor on the answers that they keep
caller_alone : {C : Type 0} (core : CoreOf C) (c : C) (e : EndsOf) (answering : AnsweringOf) (i : IncomingOf)
    → incoming_calls_bank core (half_of 0 c (record e { answering = answering })) i ≡ incoming_calls_bank core (half_of 0 c e) i
caller_alone core c e answering IncomingOf.Nothing = refl
caller_alone core c e answering (IncomingOf.Learnt heard) = refl
caller_alone core c e answering (IncomingOf.Again answer) = refl
caller_alone core c e answering (IncomingOf.New r) = refl
caller_alone core c e answering (IncomingOf.Strays m) = refl

-- the same, from the content that its ends found
pub calls_brings : {C : Type 0} (core : CoreOf C) (c : C) (e new : EndsOf) (bytes : List ℕ) (i : IncomingOf)
    → e.answering.unit ≡ e.asking.unit → e.answering.own ≡ e.asking.own → e.answering.peer ≡ e.asking.peer
    → i ≡ incoming (asking_row e.asking bytes) (answering_row e.answering bytes)
    → new.asking ≡ asking_after e.asking (asking_row e.asking bytes)
    → packet_calls_bank core (half_of 0 c e) bytes ≡ incoming_calls_bank core (half_of 0 c new) i
calls_brings core c e new bytes i unit own peer brings asking =
    let arow = asking_row e.asking bytes in
    let trow = answering_row e.answering bytes in
    calling_brings core c e bytes unit own peer
    ∙ ap (λ x. incoming_calls_bank core (half_of 0 c (record { asking = x; answering = answering_after arow e.answering trow })) (incoming arow trow)) (sym asking)
    ∙ caller_alone core c new (answering_after arow e.answering trow) (incoming arow trow)
    ∙ ap (incoming_calls_bank core (half_of 0 c new)) (sym brings)
