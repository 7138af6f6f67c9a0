-- A tick of a half, in the lane in which it asks.
use Rattle.std.proofs.Common.{◌≡◌, ◌<◌, ◌&&◌, nat_lt, ◌^◌, ◌-◌, ℕ, ◌==◌, Bool, true, false, List, [], ◌∷◌, ◌++◌, length, nat_le, Option, Some, None, IfSome, is_some, refl, subst, arith, inl, inr}
use Rattle.std.proofs.lemmas.Bool.{cases_lt, le-leb, le-ltb, lt-leb, lt-ltb, ne_eqb}
use Rattle.std.proofs.lemmas.List.{append-nil}
use Rattle.mctp_wire.specs.declared.unit.Unit.{«Unit»}
use Rattle.pldm_base.specs.Limits.{reply_limit}
use Rattle.mctp_reasm.specs.Pieces.{MessageOf}
use Rattle.pldm_exch.specs.Caller.{Open, may_begin}
use Rattle.pldm_exch.specs.Ends.{AskerOf}
use Rattle.pldm_exch.specs.Sides.{AskerTick, asker_counts, taker_counts, taker_tick}
use Rattle.fwup_wire.specs.Commands.{CommandRoundTrips, command_bytes, command_code}
use Rattle.fwup_wire.specs.Values.{CommandOf}
use Rattle.exch_lane.specs.Clocks.{may_beat}
use Rattle.exch_lane.specs.Lanes.{LaneEntryOf, LaneOf, Sent, LaneStepOf}
use Rattle.exch_lane.specs.Steps.{MayRun, MayTake, asker_ticks, lane_run, packets_of_message, tick_begins}
use Rattle.fw_node.specs.Halves.{CoreOf, HalfOf, Ticked, begins_if, begins_wish, half_tick_by_row, half_ticks, tick_if, kept_if, still_wished, unwished_abandoned, unwished_for, with_caller}
use Rattle.fw_steps.specs.Lanes.{Times, times_after_unit, abandon_steps, begin_steps, called_steps, hearing_steps, lane_of, tick_steps, unless_wished, wish_steps}
use Rattle.fw_steps.specs.Links.{packets_with_messages}
use Rattle.fw_steps.proofs.LinksAreLanes.Hears.{fits_each}

-- A lane after these steps is that of a half after its own.
pub record LaneLeads {A B : Type 0} (w : LaneOf) (ss : List LaneStepOf) (now : Times) (a : Ticked A) (b : HalfOf B) (ps : List Sent) (es : List LaneEntryOf) : Type 0 where
  pub more : List LaneEntryOf
  pub leads : lane_run w ss ≡ lane_of now a.half b (packets_with_messages a.half.unit now.now ps a.sent) (es ++ more)
  pub may : MayRun w ss

pub posted_more : (u : «Unit») (now : ℕ) (ps : List Sent) (ms : List MessageOf) (m : MessageOf) → packets_with_messages u now ps (ms ++ m ∷ []) ≡ packets_with_messages u now ps ms ++ packets_of_message u now m
posted_more u now ps [] m = refl
posted_more u now ps (n ∷ ms) m = posted_more u now (ps ++ packets_of_message u now n) ms m

-- the pending command begins
begins : {A B : Type 0} (may : Bool) (now : Times) (a : HalfOf A) (b : HalfOf B) (c : CommandOf) (ms : List MessageOf) (ps : List Sent) (es : List LaneEntryOf)
    → may_begin a.asker.caller ≡ may → (a.asker.deaf == 0) ≡ true → CommandRoundTrips c
    → LaneLeads (lane_of now a b (packets_with_messages a.unit now.now ps ms) es) (begin_steps may c) now (begins_if may a c ms) b ps es
begins true now a b c ms ps es begin hears fits = record {
  more = LaneEntryOf.Asked (command_code c) (command_bytes c) ∷ [];
  leads = rw (posted_more a.unit now.now ps ms _) refl;
  may = (record { lawful = fits_each a.unit _ fits.writable; may = rw (le-ltb (reply_limit a.unit) (length (command_bytes c)) (fits_each a.unit _ fits.writable), hears, begin) refl }, tt);
}
begins false now a b c ms ps es begin hears fits = record {
  more = [];
  leads = rw (append-nil es) refl;
  may = tt;
}

wishes : {A B : Type 0} (wish : Option CommandOf) (now : Times) (a : HalfOf A) (b : HalfOf B) (ms : List MessageOf) (ps : List Sent) (es : List LaneEntryOf)
    → (a.asker.deaf == 0) ≡ true → IfSome wish CommandRoundTrips
    → LaneLeads (lane_of now a b (packets_with_messages a.unit now.now ps ms) es) (wish_steps wish a.asker.caller) now (begins_wish wish a ms) b ps es
wishes None now a b ms ps es hears fits = record { more = []; leads = rw (append-nil es) refl; may = tt }
wishes (Some c) now a b ms ps es hears fits = begins (may_begin a.asker.caller) now a b c ms ps es refl hears fits

-- a step before others
first_step : {A B : Type 0} (w : LaneOf) (s : LaneStepOf) (ss : List LaneStepOf) (now : Times) (a : Ticked A) (b : HalfOf B) (ps : List Sent) (es : List LaneEntryOf)
    → MayTake w s → LaneLeads (lane_run w (s ∷ [])) ss now a b ps es → LaneLeads w (s ∷ ss) now a b ps es
first_step w s ss now a b ps es may l = record { more = l.more; leads = l.leads; may = (may, l.may) }

-- a request that is no longer the pending command is given up first
abandons_unless : {A B : Type 0} (wished : Bool) (wish : Option CommandOf) (now : Times) (a : HalfOf A) (b : HalfOf B) (ms : List MessageOf) (ps : List Sent) (es : List LaneEntryOf)
    → is_some a.asker.caller.asked ≡ true → (a.asker.deaf == 0) ≡ true → IfSome wish CommandRoundTrips
    → LaneLeads (lane_of now a b (packets_with_messages a.unit now.now ps ms) es) (unless_wished wished (wish_steps wish (kept_if wished a.asker.caller))) now
    (begins_wish wish (with_caller a (kept_if wished a.asker.caller)) ms) b ps es
abandons_unless true wish now a b ms ps es asked hears fits = wishes wish now a b ms ps es hears fits
abandons_unless false wish now a b ms ps es asked hears fits =
    first_step (lane_of now a b (packets_with_messages a.unit now.now ps ms) es) LaneStepOf.Abandon (wish_steps wish (kept_if false a.asker.caller)) now
    (begins_wish wish (with_caller a (kept_if false a.asker.caller)) ms) b ps es
    (record { lawful = tt; may = rw asked refl })
    (wishes wish now (with_caller a (kept_if false a.asker.caller)) b ms ps es hears fits)

abandons : {A B : Type 0} (asked : Option Open) (wish : Option CommandOf) (now : Times) (a : HalfOf A) (b : HalfOf B) (ms : List MessageOf) (ps : List Sent) (es : List LaneEntryOf)
    → a.asker.caller.asked ≡ asked → (a.asker.deaf == 0) ≡ true → IfSome wish CommandRoundTrips
    → LaneLeads (lane_of now a b (packets_with_messages a.unit now.now ps ms) es) (abandon_steps wish asked (wish_steps wish (unwished_for wish a.asker.caller asked))) now
    (begins_wish wish (with_caller a (unwished_for wish a.asker.caller asked)) ms) b ps es
abandons None wish now a b ms ps es is hears fits = wishes wish now a b ms ps es hears fits
abandons (Some o) wish now a b ms ps es is hears fits = abandons_unless (still_wished wish o) wish now a b ms ps es (rw is refl) hears fits

-- the core stays if a request begins
core_begun : {A : Type 0} (may : Bool) (h : HalfOf A) (c : CommandOf) (ms : List MessageOf) → (begins_if may h c ms).half.core ≡ h.core
core_begun true h c ms = refl
core_begun false h c ms = refl

pub core_stays : {A : Type 0} (wish : Option CommandOf) (h : HalfOf A) (ms : List MessageOf) → (begins_wish wish h ms).half.core ≡ h.core
core_stays None h ms = refl
core_stays (Some c) h ms = core_begun (may_begin h.asker.caller) h c ms

-- the last parts of a tick, if the half hears
hears : {A B : Type 0} (hearing : Bool) (f : CoreOf A) (now : Times) (a : HalfOf A) (b : HalfOf B) (ms : List MessageOf) (ps : List Sent) (es : List LaneEntryOf)
    → (a.asker.deaf == 0) ≡ hearing → (hearing ≡ true → IfSome (f.wish (tick_if hearing f a ms).half.core) CommandRoundTrips)
    → LaneLeads (lane_of now a b (packets_with_messages a.unit now.now ps ms) es) (hearing_steps hearing f a.core a.asker.caller) now (tick_if hearing f a ms) b ps es
hears true f now a b ms ps es is fits =
    abandons a.asker.caller.asked (f.wish (f.ticked a.core)) now (record a { core = f.ticked a.core }) b ms ps es refl is
    (subst (λ x. IfSome (f.wish x) CommandRoundTrips) (core_stays (f.wish (f.ticked a.core)) (with_caller (record a { core = f.ticked a.core }) (unwished_abandoned (f.wish (f.ticked a.core)) a.asker.caller)) ms) (fits refl))
hears false f now a b ms ps es is fits = record { more = []; leads = rw (append-nil es) refl; may = tt }

-- the other half hears the tick too
taker_begun : {A : Type 0} (may : Bool) (h : HalfOf A) (c : CommandOf) (ms : List MessageOf) → (begins_if may h c ms).half.taker ≡ h.taker
taker_begun true h c ms = refl
taker_begun false h c ms = refl

taker_wishes : {A : Type 0} (wish : Option CommandOf) (h : HalfOf A) (ms : List MessageOf) → (begins_wish wish h ms).half.taker ≡ h.taker
taker_wishes None h ms = refl
taker_wishes (Some c) h ms = taker_begun (may_begin h.asker.caller) h c ms

taker_hears : {A : Type 0} (hearing : Bool) (f : CoreOf A) (h : HalfOf A) (ms : List MessageOf) → (tick_if hearing f h ms).half.taker ≡ h.taker
taker_hears true f h ms =
    taker_wishes (f.wish (f.ticked h.core)) (with_caller (record h { core = f.ticked h.core }) (unwished_abandoned (f.wish (f.ticked h.core)) h.asker.caller)) ms
taker_hears false f h ms = refl

taker_called : {A : Type 0} (f : CoreOf A) (h : HalfOf A) (row : AskerTick) → (half_tick_by_row f h row).half.taker ≡ h.taker
taker_called f h (AskerTick.Waits a) = taker_hears (a.deaf == 0) f (record h { asker = a }) []
taker_called f h (AskerTick.Resends a m) = taker_hears (a.deaf == 0) f (record h { asker = a }) (m ∷ [])
taker_called f h (AskerTick.GivesUp a) = taker_hears (a.deaf == 0) f (record h { asker = a; core = f.silent h.core }) []

taker_goes : {A : Type 0} (f : CoreOf A) (h : HalfOf A) → (half_ticks f true h).half.taker ≡ taker_counts h.taker
taker_goes f h = taker_called f (record h { taker = taker_counts h.taker }) (asker_counts h.asker)

-- the half stays between the same two nodes, with their transmission unit
abbrev pub IsBetween : {A : Type 0} → (u : «Unit») (own peer : ℕ) → HalfOf A → Type 0
IsBetween u own peer h = (h.unit ≡ u) × (h.own ≡ own) × (h.peer ≡ peer)

same_begun : {A : Type 0} (may : Bool) (h : HalfOf A) (c : CommandOf) (ms : List MessageOf) → IsBetween h.unit h.own h.peer (begins_if may h c ms).half
same_begun true h c ms = (refl, refl, refl)
same_begun false h c ms = (refl, refl, refl)

same_wishes : {A : Type 0} (wish : Option CommandOf) (h : HalfOf A) (ms : List MessageOf) → IsBetween h.unit h.own h.peer (begins_wish wish h ms).half
same_wishes None h ms = (refl, refl, refl)
same_wishes (Some c) h ms = same_begun (may_begin h.asker.caller) h c ms

same_hears : {A : Type 0} (hearing : Bool) (f : CoreOf A) (h : HalfOf A) (ms : List MessageOf) → IsBetween h.unit h.own h.peer (tick_if hearing f h ms).half
same_hears true f h ms =
    same_wishes (f.wish (f.ticked h.core)) (with_caller (record h { core = f.ticked h.core }) (unwished_abandoned (f.wish (f.ticked h.core)) h.asker.caller)) ms
same_hears false f h ms = (refl, refl, refl)

same_called : {A : Type 0} (f : CoreOf A) (h : HalfOf A) (row : AskerTick) → IsBetween h.unit h.own h.peer (half_tick_by_row f h row).half
same_called f h (AskerTick.Waits a) = same_hears (a.deaf == 0) f (record h { asker = a }) []
same_called f h (AskerTick.Resends a m) = same_hears (a.deaf == 0) f (record h { asker = a }) (m ∷ [])
same_called f h (AskerTick.GivesUp a) = same_hears (a.deaf == 0) f (record h { asker = a; core = f.silent h.core }) []

pub same_ticked : {A : Type 0} (f : CoreOf A) (h : HalfOf A) → IsBetween h.unit h.own h.peer (half_ticks f true h).half
same_ticked f h = same_called f (record h { taker = taker_counts h.taker }) (asker_counts h.asker)

-- whether the half hears after the tick
abbrev pub hears_then : AskerTick → Bool
hears_then (AskerTick.Waits a) = a.deaf == 0
hears_then (AskerTick.Resends a m) = a.deaf == 0
hears_then (AskerTick.GivesUp a) = a.deaf == 0

-- a half that hears after a tick was deaf for one tick at most
pub deaf_before : (a : AskerOf) → hears_then (asker_counts a) ≡ true → nat_le a.deaf 1 ≡ true
deaf_before a e = elim (cases_lt 1 a.deaf) [
  | inl deaf ↦
      let more : nat_le a.deaf 1 ≡ false = lt-leb a.deaf 1 deaf in
      let left : (a.deaf - 1 == 0) ≡ false = ne_eqb (a.deaf - 1) 0 (λ z. absurd (omega (arith, deaf, z))) in
      let hears : (a.deaf - 1 == 0) ≡ true = rw more at e in
      absurd (cc)
  | inr soon ↦ le-leb a.deaf 1 soon
]

-- after the lane's tick
calls : {A B : Type 0} (f : CoreOf A) (row : AskerTick) (w : LaneOf) (now : Times) (a : HalfOf A) (b : HalfOf B) (ps : List Sent) (es : List LaneEntryOf)
    → w ≡ lane_of now a b ps es → (hears_then row ≡ true → IfSome (f.wish (half_tick_by_row f a row).half.core) CommandRoundTrips)
    → LaneLeads (asker_ticks w row) (called_steps f a.core row) now (half_tick_by_row f a row) b ps es
calls f (AskerTick.Waits x) w now a b ps es is fits = rw is (hears (x.deaf == 0) f now (record a { asker = x }) b [] ps es refl fits)
calls f (AskerTick.Resends x m) w now a b ps es is fits = rw is (hears (x.deaf == 0) f now (record a { asker = x }) b (m ∷ []) ps es refl fits)
calls f (AskerTick.GivesUp x) w now a b ps es is fits = rw is (hears (x.deaf == 0) f now (record a { asker = x; core = f.silent a.core }) b [] ps es refl fits)

-- the other half, whether it counts the tick or not
taker_ticks : {A : Type 0} (f : CoreOf A) (counts : Bool) (h : HalfOf A) → (half_ticks f counts h).half.taker ≡ taker_tick counts h.taker
taker_ticks f true h = taker_goes f h
taker_ticks f false h = refl

-- the tick is allowed
may_tick : (now : Times) (asker taker : Bool) → now.now < 2 ^ 32 - 1 → may_beat asker now.asker_since_miss ≡ true → may_beat taker now.taker_since_miss ≡ true
    → (nat_lt now.now (2 ^ 32 - 1) && (may_beat asker now.asker_since_miss && may_beat taker now.taker_since_miss)) ≡ true
may_tick now asker taker soon may allowed = rw (lt-ltb now.now (2 ^ 32 - 1) soon, may, allowed) refl

pub tick_in_lane : {A B : Type 0} (f : CoreOf A) (g : CoreOf B) (asker taker : Bool) (now : Times) (a : HalfOf A) (b : HalfOf B) (ps : List Sent) (es : List LaneEntryOf)
    → now.now < 2 ^ 32 - 1 → may_beat asker now.asker_since_miss ≡ true → may_beat taker now.taker_since_miss ≡ true
    → (asker ≡ true → nat_le a.asker.deaf 1 ≡ true → IfSome (f.wish (half_ticks f true a).half.core) CommandRoundTrips)
    → LaneLeads (lane_of now a b ps es) (tick_steps f asker taker a) (times_after_unit now asker taker) (half_ticks f asker a) (half_ticks g taker b).half ps es
tick_in_lane f g true taker now a b ps es soon may allowed fits =
    first_step (lane_of now a b ps es) (LaneStepOf.Tick true taker) (called_steps f a.core (asker_counts a.asker)) (times_after_unit now true taker) (half_ticks f true a) (half_ticks g taker b).half ps es
    (record { lawful = tt; may = rw (may_tick now true taker soon may allowed) refl })
    (calls f (asker_counts a.asker) (tick_begins (lane_of now a b ps es) true taker) (times_after_unit now true taker) (record a { taker = taker_counts a.taker }) (half_ticks g taker b).half ps es
    (rw (taker_ticks g taker b) refl) (λ e. fits refl (deaf_before a.asker e)))
tick_in_lane f g false taker now a b ps es soon may allowed fits = record {
  more = [];
  leads = rw (append-nil es, taker_ticks g taker b) refl;
  may = (record { lawful = tt; may = rw (may_tick now false taker soon may allowed) refl }, tt);
}

pub same_ticks : {A : Type 0} (f : CoreOf A) (counts : Bool) (h : HalfOf A) → IsBetween h.unit h.own h.peer (half_ticks f counts h).half
same_ticks f true h = same_ticked f h
same_ticks f false h = (refl, refl, refl)
