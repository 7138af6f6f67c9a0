-- A packet at a half, in the lane in which it asks and in the lane in which it answers.
use Rattle.std.proofs.Common.{◌≡◌, ℕ, ◌==◌, ◌≤◌, Bool, true, false, List, [], ◌∷◌, ◌++◌, length, Option, Some, None, Ok, Err, Result, is_some, refl, arith}
use Rattle.std.proofs.lemmas.List.{append-nil}
use Rattle.mctp_wire.specs.declared.unit.Unit.{«Unit»}
use Rattle.mctp_wire.specs.declared.unit.Unit.TheVariants.{U64, U128}
use Rattle.mctp_reasm.specs.Held.{Held}
use Rattle.mctp_reasm.specs.Pieces.{MessageOf}
use Rattle.pldm_base.specs.Limits.{reply_limit}
use Rattle.pldm_base.specs.declared.header.PldmHead.{PldmHead}
use Rattle.pldm_exch.specs.Caller.{Open, is_quiet}
use Rattle.pldm_exch.specs.Sides.{AskerRow, TakerRow}
use Rattle.fwup_wire.specs.Answers.{answer_bytes, answer_read}
use Rattle.fwup_wire.specs.Values.{CommandOf}
use Rattle.exch_lane.specs.Lanes.{LaneEntryOf, LaneOf, Sent, LaneStepOf}
use Rattle.exch_lane.specs.Steps.{MayRun, asker_does, lane_run, taker_does}
use Rattle.fw_node.specs.Halves.{CoreOf, HalfOutcome, HalfOf, half_on_rows, half_takes, kept_if, read_by, reply_read, half_after_settle, still_wished, takes_if, takes_read, unwished_for, with_caller}
use Rattle.fw_node.specs.Nodes.{TakenAnswerRoundTrips}
use Rattle.fw_steps.specs.Lanes.{Times, turned_times, abandon_steps, lane_of, learn_steps, reply_in, settle_steps, take_steps, unless_wished}
use Rattle.fw_steps.specs.Links.{packets_with_messages}

-- a half after its outcome, and the messages that it sends
abbrev pub half_in : {C : Type 0} → HalfOutcome C → HalfOf C
half_in (HalfOutcome.Went h sent) = h
half_in (HalfOutcome.Took h sent c answer) = h
half_in (HalfOutcome.Asks h m head body) = h
half_in (HalfOutcome.Strayed h m) = h

abbrev pub sent_in : {C : Type 0} → HalfOutcome C → List MessageOf
sent_in (HalfOutcome.Went h sent) = sent
sent_in (HalfOutcome.Took h sent c answer) = sent
sent_in heard = []

-- an outcome that is no request of another PLDM type, and no stray
abbrev pub IsPassed : {C : Type 0} → HalfOutcome C → Type 0
IsPassed (HalfOutcome.Went h sent) = Prim.Unit {0}
IsPassed (HalfOutcome.Took h sent c answer) = Prim.Unit {0}
IsPassed heard = ⊥

-- a request that is no longer the pending command is given up
abandoned_run : {A B : Type 0} (wished : Bool) (now : Times) (a : HalfOf A) (b : HalfOf B) (ps : List Sent) (es : List LaneEntryOf)
    → lane_run (lane_of now a b ps es) (unless_wished wished []) ≡ lane_of now (with_caller a (kept_if wished a.asker.caller)) b ps es
abandoned_run true now a b ps es = refl
abandoned_run false now a b ps es = refl

abandons_run : {A B : Type 0} (wish : Option CommandOf) (asked : Option Open) (now : Times) (a : HalfOf A) (b : HalfOf B) (ps : List Sent) (es : List LaneEntryOf)
    → lane_run (lane_of now a b ps es) (abandon_steps wish asked []) ≡ lane_of now (with_caller a (unwished_for wish a.asker.caller asked)) b ps es
abandons_run wish None now a b ps es = refl
abandons_run wish (Some o) now a b ps es = abandoned_run (still_wished wish o) now a b ps es

abandoned_may : (wished : Bool) (w : LaneOf) → is_some w.asker.caller.asked ≡ true → MayRun w (unless_wished wished [])
abandoned_may true w asked = tt
abandoned_may false w asked = (record { lawful = tt; may = rw asked refl }, tt)

abandons_may : (wish : Option CommandOf) (asked : Option Open) (w : LaneOf) → w.asker.caller.asked ≡ asked → MayRun w (abandon_steps wish asked [])
abandons_may wish None w is = tt
abandons_may wish (Some o) w is = abandoned_may (still_wished wish o) w (rw is refl)

-- if a call changes a half's core, its lane gives up a request that is no longer the pending
-- command
pub settles_in_lane : {A B : Type 0} (core : CoreOf A) (x : A) (now : Times) (a : HalfOf A) (b : HalfOf B) (ps : List Sent) (es : List LaneEntryOf)
    → lane_run (lane_of now a b ps es) (settle_steps core a.asker.caller.asked x) ≡ lane_of now (half_after_settle core (record a { core = x })) b ps es
settles_in_lane core x now a b ps es = abandons_run (core.wish x) a.asker.caller.asked now (record a { core = x }) b ps es

pub may_settle : {A B : Type 0} (core : CoreOf A) (x : A) (now : Times) (a : HalfOf A) (b : HalfOf B) (ps : List Sent) (es : List LaneEntryOf)
    → MayRun (lane_of now a b ps es) (settle_steps core a.asker.caller.asked x)
may_settle core x now a b ps es = abandons_may (core.wish x) a.asker.caller.asked (lane_of now a b ps es) refl

-- a length that fits the smaller transmission unit fits each
pub fits_each : (u : «Unit») (n : ℕ) → n ≤ reply_limit U64 → n ≤ reply_limit u
fits_each U64 n fits = fits
fits_each U128 n fits = omega (arith, fits)

-- A request at a half: in the lane in which it answers, it is taken with the half's reply; in the
-- lane in which it asks, a request that is no longer the pending command is given up.
pub record TakesIn {A B : Type 0} (now : Times) (a : HalfOf A) (b : HalfOf B) (row : TakerRow) (reply : List ℕ) (settles : List LaneStepOf) (heard : HalfOutcome A) : Type 0 where
  pub passed : IsPassed heard
  pub unit : (half_in heard).unit ≡ a.unit
  pub own : (half_in heard).own ≡ a.own
  pub peer : (half_in heard).peer ≡ a.peer
  pub few : length reply ≤ reply_limit a.unit
  pub more : List LaneEntryOf
  pub answers : (ps : List Sent) (es : List LaneEntryOf) → taker_does (lane_of (turned_times now) b a ps es) reply row ≡ lane_of (turned_times now) b (half_in heard) (packets_with_messages b.unit now.now ps (sent_in heard)) (es ++ more)
  pub asks : (ps : List Sent) (es : List LaneEntryOf) → lane_run (lane_of now a b ps es) settles ≡ lane_of now (half_in heard) b ps es
  pub may : (ps : List Sent) (es : List LaneEntryOf) → MayRun (lane_of now a b ps es) settles

takes_read_in : {A B : Type 0} (core : CoreOf A) (quiet works : Bool) (now : Times) (a : HalfOf A) (b : HalfOf B)
    (requests : List (Option Held)) (m : MessageOf) (head : PldmHead) (body : List ℕ) (c : Result CommandOf ℕ)
    → TakenAnswerRoundTrips a.unit (takes_read core quiet works a requests m head c)
    → TakesIn now a b (TakerRow.TakesUp requests m head body) (reply_read core quiet works a.core c).reply
    (settle_steps core a.asker.caller.asked (reply_read core quiet works a.core c).core) (takes_read core quiet works a requests m head c)
takes_read_in core quiet works now a b requests m head body (Ok c) told = record {
  passed = tt;
  unit = refl;
  own = refl;
  peer = refl;
  few = told.fits;
  more = LaneEntryOf.Taken head.command body (answer_bytes (core.take a.core c quiet works).answer) ∷ [];
  answers = λ ps es. refl;
  asks = λ ps es. settles_in_lane core (core.take a.core c quiet works).core now a b ps es;
  may = λ ps es. may_settle core (core.take a.core c quiet works).core now a b ps es;
}
takes_read_in core quiet works now a b requests m head body (Err code) told = record {
  passed = tt;
  unit = refl;
  own = refl;
  peer = refl;
  few = fits_each a.unit 1 (omega arith);
  more = LaneEntryOf.Taken head.command body (code ∷ []) ∷ [];
  answers = λ ps es. refl;
  asks = λ ps es. settles_in_lane core a.core now a b ps es;
  may = λ ps es. may_settle core a.core now a b ps es;
}

takes_if_in : {A B : Type 0} (five : Bool) (core : CoreOf A) (works : Bool) (now : Times) (a : HalfOf A) (b : HalfOf B)
    (requests : List (Option Held)) (m : MessageOf) (head : PldmHead) (body : List ℕ)
    → five ≡ true → TakenAnswerRoundTrips a.unit (takes_if five core works a requests m head body)
    → TakesIn now a b (TakerRow.TakesUp requests m head body) (reply_read core (is_quiet a.asker.caller) works a.core (read_by core head.command body)).reply
    (settle_steps core a.asker.caller.asked (reply_read core (is_quiet a.asker.caller) works a.core (read_by core head.command body)).core)
    (takes_if five core works a requests m head body)
takes_if_in true core works now a b requests m head body five told =
    takes_read_in core (is_quiet a.asker.caller) works now a b requests m head body (read_by core head.command body) told
takes_if_in false core works now a b requests m head body five told = absurd (cc)

-- the row is one that a link knows
abbrev pub IsServed : TakerRow → Type 0
IsServed (TakerRow.Silent requests) = Prim.Unit {0}
IsServed (TakerRow.Repeats requests answer) = Prim.Unit {0}
IsServed (TakerRow.TakesUp requests m head body) = (head.pldm_type == 5) ≡ true
IsServed (TakerRow.Strays requests m) = ⊥

pub takes_in : {A B : Type 0} (core : CoreOf A) (works : Bool) (now : Times) (a : HalfOf A) (b : HalfOf B) (row : TakerRow)
    → IsServed row → TakenAnswerRoundTrips a.unit (half_takes core works a row)
    → TakesIn now a b row (reply_in core works a row) (take_steps core works a row) (half_takes core works a row)
takes_in core works now a b (TakerRow.Silent requests) served told = record {
  passed = tt;
  unit = refl;
  own = refl;
  peer = refl;
  few = omega arith;
  more = [];
  answers = λ ps es. rw (append-nil es) refl;
  asks = λ ps es. refl;
  may = λ ps es. tt;
}
takes_in core works now a b (TakerRow.Repeats requests answer) served told = record {
  passed = tt;
  unit = refl;
  own = refl;
  peer = refl;
  few = omega arith;
  more = [];
  answers = λ ps es. rw (append-nil es) refl;
  asks = λ ps es. refl;
  may = λ ps es. tt;
}
takes_in core works now a b (TakerRow.TakesUp requests m head body) served told =
    takes_if_in (head.pldm_type == 5) core works now a b requests m head body served told
takes_in core works now a b (TakerRow.Strays requests m) served told = absurd served

-- A reply at a half: in the lane in which it asks, it is learned, and a request that is no longer
-- the pending command is given up; in the lane in which it answers, nothing changes.
pub record LearnsIn {A B : Type 0} (now : Times) (a : HalfOf A) (b : HalfOf B) (row : AskerRow) (settles : List LaneStepOf) (heard : HalfOutcome A) : Type 0 where
  pub passed : IsPassed heard
  pub unit : (half_in heard).unit ≡ a.unit
  pub own : (half_in heard).own ≡ a.own
  pub peer : (half_in heard).peer ≡ a.peer
  pub none : sent_in heard ≡ []
  pub more : List LaneEntryOf
  pub asks : (ps : List Sent) (es : List LaneEntryOf) → lane_run (asker_does (lane_of now a b ps es) row) settles ≡ lane_of now (half_in heard) b ps (es ++ more)
  pub may : (ps : List Sent) (es : List LaneEntryOf) → MayRun (asker_does (lane_of now a b ps es) row) settles
  pub answers : (ps : List Sent) (es : List LaneEntryOf) → lane_of (turned_times now) b a ps es ≡ lane_of (turned_times now) b (half_in heard) ps es

pub learns_in : {A B : Type 0} (core : CoreOf A) (works : Bool) (now : Times) (a : HalfOf A) (b : HalfOf B) (row : AskerRow)
    → LearnsIn now a b row (learn_steps core works a row) (half_on_rows core works a row (TakerRow.Silent a.taker.requests))
learns_in core works now a b (AskerRow.Ignores replies) = record {
  passed = tt;
  unit = refl;
  own = refl;
  peer = refl;
  none = refl;
  more = [];
  asks = λ ps es. rw (append-nil es) refl;
  may = λ ps es. tt;
  answers = λ ps es. refl;
}
learns_in core works now a b (AskerRow.Learns replies caller heard) = record {
  passed = tt;
  unit = refl;
  own = refl;
  peer = refl;
  none = refl;
  more = LaneEntryOf.Learnt heard.reply ∷ [];
  asks = λ ps es. settles_in_lane core (core.learn a.core (answer_read heard.command heard.reply) works) now
      (record a { asker = record a.asker { caller = caller; replies = replies } }) b ps (es ++ LaneEntryOf.Learnt heard.reply ∷ []);
  may = λ ps es. may_settle core (core.learn a.core (answer_read heard.command heard.reply) works) now
      (record a { asker = record a.asker { caller = caller; replies = replies } }) b ps (es ++ LaneEntryOf.Learnt heard.reply ∷ []);
  answers = λ ps es. refl;
}
