-- A session keeps its transmission unit in all steps of a half.
use Rattle.std.proofs.Common.{◌≡◌, ◌∙◌, ◌+◌, ◌==◌, ℕ, not, Bool, true, false, if◌then◌else◌, List, [], ◌∷◌, Option, Some, None, IfSome, Ok, Err, Result, refl, ap}
use Rattle.mctp_reasm.specs.Held.{Held}
use Rattle.mctp_reasm.specs.Pieces.{MessageOf}
use Rattle.pldm_base.specs.declared.header.PldmHead.{PldmHead}
use Rattle.fwup_wire.specs.Values.{AnswerOf, CommandOf}
use Rattle.fwup_wire.specs.declared.answer.Malformed.{Malformed}
use Rattle.pldm_exch.specs.Caller.{is_quiet}
use Rattle.pldm_exch.specs.Sides.{AskerRow, AskerTick, TakerRow, asker_counts, asker_row, taker_counts, taker_row}
use Rattle.fw_package.specs.Package.{PackageText}
use Rattle.ua_core.specs.Calls.{activated_stage, agent_activated, agent_cancelled, may_cancel, times_out}
use Rattle.ua_core.specs.Learn.{SessionLearnRow, learn_by, learn_row}
use Rattle.ua_core.specs.Serve.{ServeRow, after_by, serve_row}
use Rattle.ua_core.specs.Session.{SessionOf, Stage, TimedOf, at_stage}
use Rattle.fw_node.specs.Cores.{package_of, session_core}
use Rattle.fw_node.specs.Halves.{CoreOf, HalfOf, half_tick_by_row, half_on_packet, half_on_rows, half_takes, half_ticks, tick_if, read_by, takes_if, takes_read, unwished_abandoned, with_caller}
use Rattle.fw_steps.proofs.LinksAreLanes.Hears.{half_in}
use Rattle.fw_steps.proofs.LinksAreLanes.Ticks.{core_stays}

-- a core keeps its unit in all its functions
pub record KeepsUnit {C : Type 0} (core : CoreOf C) : Type 0 where
  pub take : (x : C) (c : CommandOf) (quiet works : Bool) → core.unit (core.take x c quiet works).core ≡ core.unit x
  pub learn : (x : C) (a : Result AnswerOf Malformed) (works : Bool) → core.unit (core.learn x a works) ≡ core.unit x
  pub silent : (x : C) → core.unit (core.silent x) ≡ core.unit x
  pub ticked : (x : C) → core.unit (core.ticked x) ≡ core.unit x

-- a tick of its half
hears_if_keeps : {C : Type 0} (core : CoreOf C) → KeepsUnit core → (hearing : Bool) (h : HalfOf C) (ms : List MessageOf) → core.unit (tick_if hearing core h ms).half.core ≡ core.unit h.core
hears_if_keeps core k true h ms =
    ap core.unit (core_stays (core.wish (core.ticked h.core)) (with_caller (record h { core = core.ticked h.core }) (unwished_abandoned (core.wish (core.ticked h.core)) h.asker.caller)) ms)
    ∙ k.ticked h.core
hears_if_keeps core k false h ms = refl

called_keeps : {C : Type 0} (core : CoreOf C) → KeepsUnit core → (h : HalfOf C) (row : AskerTick) → core.unit (half_tick_by_row core h row).half.core ≡ core.unit h.core
called_keeps core k h (AskerTick.Waits a) = hears_if_keeps core k (a.deaf == 0) (record h { asker = a }) []
called_keeps core k h (AskerTick.Resends a m) = hears_if_keeps core k (a.deaf == 0) (record h { asker = a }) (m ∷ [])
called_keeps core k h (AskerTick.GivesUp a) = hears_if_keeps core k (a.deaf == 0) (record h { asker = a; core = core.silent h.core }) [] ∙ k.silent h.core

pub ticks_keep : {C : Type 0} (core : CoreOf C) → KeepsUnit core → (counts : Bool) (h : HalfOf C) → core.unit (half_ticks core counts h).half.core ≡ core.unit h.core
ticks_keep core k true h = called_keeps core k (record h { taker = taker_counts h.taker }) (asker_counts h.asker)
ticks_keep core k false h = refl

-- a packet that it handles
read_keeps : {C : Type 0} (core : CoreOf C) → KeepsUnit core → (quiet works : Bool) (h : HalfOf C) (requests : List (Option Held)) (m : MessageOf) (head : PldmHead) (read : Result CommandOf ℕ)
    → core.unit (half_in (takes_read core quiet works h requests m head read)).core ≡ core.unit h.core
read_keeps core k quiet works h requests m head (Ok c) = k.take h.core c quiet works
read_keeps core k quiet works h requests m head (Err code) = refl

takes_if_keeps : {C : Type 0} (core : CoreOf C) → KeepsUnit core → (five works : Bool) (h : HalfOf C) (requests : List (Option Held)) (m : MessageOf) (head : PldmHead) (body : List ℕ)
    → core.unit (half_in (takes_if five core works h requests m head body)).core ≡ core.unit h.core
takes_if_keeps core k true works h requests m head body = read_keeps core k (is_quiet h.asker.caller) works h requests m head (read_by core head.command body)
takes_if_keeps core k false works h requests m head body = refl

takes_keep : {C : Type 0} (core : CoreOf C) → KeepsUnit core → (works : Bool) (h : HalfOf C) (row : TakerRow) → core.unit (half_in (half_takes core works h row)).core ≡ core.unit h.core
takes_keep core k works h (TakerRow.Silent requests) = refl
takes_keep core k works h (TakerRow.Repeats requests answer) = refl
takes_keep core k works h (TakerRow.TakesUp requests m head body) = takes_if_keeps core k (head.pldm_type == 5) works h requests m head body
takes_keep core k works h (TakerRow.Strays requests m) = refl

hears_by_keeps : {C : Type 0} (core : CoreOf C) → KeepsUnit core → (works : Bool) (h : HalfOf C) (asks : AskerRow) (answers : TakerRow)
    → core.unit (half_in (half_on_rows core works h asks answers)).core ≡ core.unit h.core
hears_by_keeps core k works h (AskerRow.Ignores replies) answers = takes_keep core k works (record h { asker = record h.asker { replies = replies } }) answers
hears_by_keeps core k works h (AskerRow.Learns replies caller heard) answers = k.learn h.core _ works

pub hears_keeps : {C : Type 0} (core : CoreOf C) → KeepsUnit core → (works : Bool) (h : HalfOf C) (bytes : List ℕ) → core.unit (half_in (half_on_packet core works h bytes)).core ≡ core.unit h.core
hears_keeps core k works h bytes = hears_by_keeps core k works h (asker_row h.unit h.own h.peer h.asker bytes) (taker_row h.unit h.own h.peer h.taker bytes)

-- a session by its rows
learn_keeps : (s : SessionOf) (row : SessionLearnRow) → (learn_by s row).unit ≡ s.unit
learn_keeps s SessionLearnRow.Stay = refl
learn_keeps s (SessionLearnRow.Go g) = refl

after_keeps : (s : SessionOf) (row : ServeRow) → (after_by s row).unit ≡ s.unit
after_keeps s (ServeRow.Say a) = refl
after_keeps s (ServeRow.Give bytes) = refl
after_keeps s (ServeRow.Move g a) = refl
after_keeps s (ServeRow.Record t) = refl

idle_keeps : (stays ends : Bool) (s a b : TimedOf) → a.session.unit ≡ s.session.unit → b.session.unit ≡ s.session.unit → (if stays then s else if ends then a else b).session.unit ≡ s.session.unit
idle_keeps true ends s a b one other = refl
idle_keeps false true s a b one other = one
idle_keeps false false s a b one other = other

pub session_keeps : (packages : List PackageText) → KeepsUnit (session_core packages)
session_keeps packages = record {
  take = λ x c quiet works. after_keeps x.session (serve_row x.session.unit (package_of packages x.session) x.session.stage c);
  learn = λ x a works. learn_keeps x.session (learn_row (package_of packages x.session) x.session.stage a);
  silent = λ x. refl;
  ticked = λ x. idle_keeps (not (times_out x.session.stage)) (x.idle + 1 == 240) x _ _ refl refl;
}

-- and by the operator's calls
cancel_keeps : (may : Bool) (s : SessionOf) (g : Stage) → (if may then at_stage s g else s).unit ≡ s.unit
cancel_keeps true s g = refl
cancel_keeps false s g = refl

pub cancelled_keeps : (s : SessionOf) → (agent_cancelled s).unit ≡ s.unit
cancelled_keeps s = cancel_keeps (may_cancel s.stage) s Stage.Cancelling

activated_from : (s : SessionOf) (g : Option Stage) → activated_stage s.stage ≡ g → IfSome (agent_activated s) (λ t. t.unit ≡ s.unit)
activated_from s None e = rw e tt
activated_from s (Some g) e = rw e refl

pub activated_keeps : (s : SessionOf) → IfSome (agent_activated s) (λ t. t.unit ≡ s.unit)
activated_keeps s = activated_from s (activated_stage s.stage) refl
