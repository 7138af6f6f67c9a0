-- What no packet and no tick changes of a half: the nodes that it is between, and what its core
-- keeps in each of its functions.
use Rattle.std.proofs.Common.{◌≡◌, ◌∙◌, ◌==◌, ℕ, Bool, true, false, List, [], ◌∷◌, Option, Some, None, Result, Ok, Err, ap, refl}
use Rattle.fw_node.specs.Halves.{CoreOf, HalfOf, begins_if, begins_wish, half_on_packet, half_on_rows, half_takes, half_tick_by_row, half_ticks, read_by, takes_if, takes_read, tick_if, unwished_abandoned, with_caller}
use Rattle.fw_steps.proofs.LinksAreLanes.Hears.{half_in}
use Rattle.fw_steps.proofs.LinksAreLanes.Ticks.{core_stays}
use Rattle.fwup_wire.specs.Values.{AnswerOf, CommandOf}
use Rattle.fwup_wire.specs.declared.answer.Malformed.{Malformed}
use Rattle.mctp_reasm.specs.Held.{Held}
use Rattle.mctp_reasm.specs.Pieces.{MessageOf}
use Rattle.pldm_base.specs.declared.header.PldmHead.{PldmHead}
use Rattle.pldm_exch.specs.Caller.{is_quiet, may_begin}
use Rattle.pldm_exch.specs.Sides.{AskerRow, AskerTick, TakerRow, asker_counts, asker_row, taker_counts, taker_row}

-- one half after another, between the same nodes, with the same transmission unit
pub record AreBetween {C : Type 0} (h g : HalfOf C) : Type 0 where
  pub unit : g.unit ≡ h.unit
  pub own : g.own ≡ h.own
  pub peer : g.peer ≡ h.peer

between : {C : Type 0} (h g : HalfOf C) → g.unit ≡ h.unit → g.own ≡ h.own → g.peer ≡ h.peer → AreBetween h g
between h g unit own peer = record { unit = unit; own = own; peer = peer }

-- a packet
read_between : {C : Type 0} (core : CoreOf C) (quiet works : Bool) (h : HalfOf C) (requests : List (Option Held)) (m : MessageOf) (head : PldmHead) (read : Result CommandOf ℕ)
    → AreBetween h (half_in (takes_read core quiet works h requests m head read))
read_between core quiet works h requests m head (Ok c) = between h _ refl refl refl
read_between core quiet works h requests m head (Err code) = between h _ refl refl refl

takes_if_between : {C : Type 0} (core : CoreOf C) (five works : Bool) (h : HalfOf C) (requests : List (Option Held)) (m : MessageOf) (head : PldmHead) (body : List ℕ)
    → AreBetween h (half_in (takes_if five core works h requests m head body))
takes_if_between core true works h requests m head body = read_between core (is_quiet h.asker.caller) works h requests m head (read_by core head.command body)
takes_if_between core false works h requests m head body = between h _ refl refl refl

takes_between : {C : Type 0} (core : CoreOf C) (works : Bool) (h : HalfOf C) (row : TakerRow) → AreBetween h (half_in (half_takes core works h row))
takes_between core works h (TakerRow.Silent requests) = between h _ refl refl refl
takes_between core works h (TakerRow.Repeats requests answer) = between h _ refl refl refl
takes_between core works h (TakerRow.TakesUp requests m head body) = takes_if_between core (head.pldm_type == 5) works h requests m head body
takes_between core works h (TakerRow.Strays requests m) = between h _ refl refl refl

rows_between : {C : Type 0} (core : CoreOf C) (works : Bool) (h : HalfOf C) (asks : AskerRow) (answers : TakerRow) → AreBetween h (half_in (half_on_rows core works h asks answers))
rows_between core works h (AskerRow.Ignores replies) answers =
    let b = takes_between core works (record h { asker = record h.asker { replies = replies } }) answers in between h _ b.unit b.own b.peer
rows_between core works h (AskerRow.Learns replies caller heard) answers = between h _ refl refl refl

pub packet_between : {C : Type 0} (core : CoreOf C) (works : Bool) (h : HalfOf C) (bytes : List ℕ) → AreBetween h (half_in (half_on_packet core works h bytes))
packet_between core works h bytes = rows_between core works h (asker_row h.unit h.own h.peer h.asker bytes) (taker_row h.unit h.own h.peer h.taker bytes)

-- the pending command begins
begun_between : {C : Type 0} (may : Bool) (h : HalfOf C) (c : CommandOf) (ms : List MessageOf) → AreBetween h (begins_if may h c ms).half
begun_between true h c ms = between h _ refl refl refl
begun_between false h c ms = between h _ refl refl refl

pub wish_between : {C : Type 0} (wish : Option CommandOf) (h : HalfOf C) (ms : List MessageOf) → AreBetween h (begins_wish wish h ms).half
wish_between None h ms = between h _ refl refl refl
wish_between (Some c) h ms = begun_between (may_begin h.asker.caller) h c ms

-- A CORE

-- a core keeps a fact in all its functions
pub record KeepsFact {C X : Type 0} (core : CoreOf C) (fact : C → X) : Type 0 where
  pub take : (x : C) (c : CommandOf) (quiet works : Bool) → fact (core.take x c quiet works).core ≡ fact x
  pub learn : (x : C) (a : Result AnswerOf Malformed) (works : Bool) → fact (core.learn x a works) ≡ fact x
  pub silent : (x : C) → fact (core.silent x) ≡ fact x
  pub ticked : (x : C) → fact (core.ticked x) ≡ fact x

-- a tick of its half
hears_if_keeps : {C X : Type 0} (core : CoreOf C) (fact : C → X) → KeepsFact core fact → (hearing : Bool) (h : HalfOf C) (ms : List MessageOf) → fact (tick_if hearing core h ms).half.core ≡ fact h.core
hears_if_keeps core fact k true h ms =
    ap fact (core_stays (core.wish (core.ticked h.core)) (with_caller (record h { core = core.ticked h.core }) (unwished_abandoned (core.wish (core.ticked h.core)) h.asker.caller)) ms)
    ∙ k.ticked h.core
hears_if_keeps core fact k false h ms = refl

called_keeps : {C X : Type 0} (core : CoreOf C) (fact : C → X) → KeepsFact core fact → (h : HalfOf C) (row : AskerTick) → fact (half_tick_by_row core h row).half.core ≡ fact h.core
called_keeps core fact k h (AskerTick.Waits a) = hears_if_keeps core fact k (a.deaf == 0) (record h { asker = a }) []
called_keeps core fact k h (AskerTick.Resends a m) = hears_if_keeps core fact k (a.deaf == 0) (record h { asker = a }) (m ∷ [])
called_keeps core fact k h (AskerTick.GivesUp a) = hears_if_keeps core fact k (a.deaf == 0) (record h { asker = a; core = core.silent h.core }) [] ∙ k.silent h.core

pub tick_keeps : {C X : Type 0} (core : CoreOf C) (fact : C → X) → KeepsFact core fact → (h : HalfOf C) → fact (half_ticks core true h).half.core ≡ fact h.core
tick_keeps core fact k h = called_keeps core fact k (record h { taker = taker_counts h.taker }) (asker_counts h.asker)

-- a packet
read_keeps : {C X : Type 0} (core : CoreOf C) (fact : C → X) → KeepsFact core fact → (quiet works : Bool) (h : HalfOf C) (requests : List (Option Held)) (m : MessageOf) (head : PldmHead)
    (read : Result CommandOf ℕ) → fact (half_in (takes_read core quiet works h requests m head read)).core ≡ fact h.core
read_keeps core fact k quiet works h requests m head (Ok c) = k.take h.core c quiet works
read_keeps core fact k quiet works h requests m head (Err code) = refl

takes_if_keeps : {C X : Type 0} (core : CoreOf C) (fact : C → X) → KeepsFact core fact → (five works : Bool) (h : HalfOf C) (requests : List (Option Held)) (m : MessageOf) (head : PldmHead) (body : List ℕ)
    → fact (half_in (takes_if five core works h requests m head body)).core ≡ fact h.core
takes_if_keeps core fact k true works h requests m head body = read_keeps core fact k (is_quiet h.asker.caller) works h requests m head (read_by core head.command body)
takes_if_keeps core fact k false works h requests m head body = refl

takes_keep : {C X : Type 0} (core : CoreOf C) (fact : C → X) → KeepsFact core fact → (works : Bool) (h : HalfOf C) (row : TakerRow) → fact (half_in (half_takes core works h row)).core ≡ fact h.core
takes_keep core fact k works h (TakerRow.Silent requests) = refl
takes_keep core fact k works h (TakerRow.Repeats requests answer) = refl
takes_keep core fact k works h (TakerRow.TakesUp requests m head body) = takes_if_keeps core fact k (head.pldm_type == 5) works h requests m head body
takes_keep core fact k works h (TakerRow.Strays requests m) = refl

rows_keep : {C X : Type 0} (core : CoreOf C) (fact : C → X) → KeepsFact core fact → (works : Bool) (h : HalfOf C) (asks : AskerRow) (answers : TakerRow)
    → fact (half_in (half_on_rows core works h asks answers)).core ≡ fact h.core
rows_keep core fact k works h (AskerRow.Ignores replies) answers = takes_keep core fact k works (record h { asker = record h.asker { replies = replies } }) answers
rows_keep core fact k works h (AskerRow.Learns replies caller heard) answers = k.learn h.core _ works

pub packet_keeps : {C X : Type 0} (core : CoreOf C) (fact : C → X) → KeepsFact core fact → (works : Bool) (h : HalfOf C) (bytes : List ℕ) → fact (half_in (half_on_packet core works h bytes)).core ≡ fact h.core
packet_keeps core fact k works h bytes = rows_keep core fact k works h (asker_row h.unit h.own h.peer h.asker bytes) (taker_row h.unit h.own h.peer h.taker bytes)
