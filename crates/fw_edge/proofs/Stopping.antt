-- Parts of a turn that stop, and the steps taken before.
use Rattle.std.proofs.Common.{◌≡◌, ◌≢◌, ◌<◌, ◌+◌, ◌++◌, ◌-◌, ◌^◌, ◌∙◌, ℕ, zero, suc, Bool, List, [], ◌∷◌, Some, drop, inl, inr, length, map, slice_get, take, append_assoc, refl, sym, ap, subst, arith}
use Rattle.std.proofs.lemmas.List.{length-append, map-append}
use Rattle.fw_message.specs.declared.side.Side.{Side}
use Rattle.fw_message.specs.declared.side.Side.TheVariants as sides
use Rattle.fw_steps.specs.Worlds.{WorldOf, eids_of}
use Rattle.fw_steps.specs.declared.step.Step.{Step}
use Rattle.fw_edge.specs.Drives.{Drives, ticks_in}
use Rattle.fw_edge.specs.Links.{AsksForFrame, LinkBytes, FailsCall, LinksOf, CountsOne}
use Rattle.fw_edge.specs.Ledgers.{RefusesPacket, TakesPackets}
use Rattle.fw_edge.specs.Hearing.{IsKnown}
use Rattle.fw_edge.specs.Outcomes.{LinkReadOk, LinkReadErr, StepErr, link_view, read_at}
use Rattle.fw_edge.specs.Turns.{Ask, AsksSome, ReadsAllEnds, HandlesFrames, RoundStops, both_ends, eid_in, round_ends}
use Rattle.fw_edge.specs.declared.driving.EdgeFault.{EdgeFault}
use Rattle.fw_edge.specs.declared.driving.EdgeFault.TheVariants as faults
use Rattle.fw_edge.specs.declared.tally.Tally.{Tally}
use Rattle.fw_edge.proofs.Gaining.{as_many_sites}
use Rattle.fw_edge.proofs.Going.{drives_none, drives_same, goes_off}
use Rattle.fw_edge.proofs.Naming.{drives_eids, eid_there}
use Rattle.fw_edge.proofs.Rising.{map_length}
use Rattle.fw_edge.proofs.Turning.{hears_append}

-- a packet is refused after `k` were taken
pub refuses_then : (k : ℕ) (o m n : Tally) → TakesPackets k o m → FailsCall m n → RefusesPacket k o n
refuses_then k o m n h f = record {
  failures = subst (λ x. CountsOne x n.failures) h.failures f.failures;
  sent_rise = λ lt. f.sent ∙ h.sent_rise (subst (λ x. x < 2 ^ 64 - 1) f.sent lt);
  asked = f.asked ∙ h.asked;
  given = f.given ∙ h.given;
}

-- no end was asked
abbrev asks_none : (e : EdgeFault) (w : WorldOf) (ss : List Step) (device : ℕ) (side : Side) → e ≡ faults.Frame → AsksSome e ((device, side) ∷ []) w ss w ss
asks_none e w ss device side is = record { asks = []; failed = (device, side); rest = []; are = refl; hears = (refl, refl); known = λ other. absurd (other is) }

-- or some ends were asked, of a longer list
abbrev pub asks_wider : (e : EdgeFault) (ends more : List (ℕ × Side)) (w v : WorldOf) (before after : List Step) → AsksSome e ends w before v after → AsksSome e (ends ++ more) w before v after
asks_wider e ends more w v before after h = record {
  asks = h.asks;
  failed = h.failed;
  rest = h.rest ++ more;
  are = ap (λ xs. xs ++ more) h.are ∙ append_assoc (map (λ a. (a.device, a.side)) h.asks) (h.failed ∷ h.rest) more;
  hears = h.hears;
  known = h.known;
}

-- after other ends
abbrev pub asks_on : (e : EdgeFault) (asks : List Ask) (ends more : List (ℕ × Side)) (w u v : WorldOf) (before mid after : List Step) → map (λ a. (a.device, a.side)) asks ≡ ends → HandlesFrames w before asks u mid
    → AsksSome e more u mid v after → AsksSome e (ends ++ more) w before v after
asks_on e asks ends more w u v before mid after are hears k = record {
  asks = asks ++ k.asks;
  failed = k.failed;
  rest = k.rest;
  are =
      ap (λ xs. ends ++ xs) k.are ∙ sym (append_assoc ends (map (λ a. (a.device, a.side)) k.asks) (k.failed ∷ k.rest))
      ∙ ap (λ xs. xs ++ k.failed ∷ k.rest) (ap (λ xs. xs ++ map (λ a. (a.device, a.side)) k.asks) (sym are) ∙ sym (map-append (λ a. (a.device, a.side)) asks k.asks));
  hears = hears_append w u v before mid after asks k.asks hears k.hears;
  known = k.known;
}

-- in a round
round_split : (es : List ℕ) (i e : ℕ) → slice_get es i ≡ Some e → round_ends es ≡ (round_ends (take i es) ++ both_ends e) ++ round_ends (drop (suc i) es)
round_split [] i e there = absurd (cc)
round_split (x ∷ es) zero e there = let same : x ≡ e = cc in ap (λ n. both_ends n ++ round_ends es) same
round_split (x ∷ es) (suc i) e there = ap (λ xs. both_ends x ++ xs) (round_split es i e there)

pub asks_round : (told : EdgeFault) (asks : List Ask) (es : List ℕ) (i e : ℕ) (w u v : WorldOf) (before mid after : List Step) → slice_get es i ≡ Some e
    → map (λ a. (a.device, a.side)) asks ≡ round_ends (take i es) → HandlesFrames w before asks u mid → AsksSome told (both_ends e) u mid v after → AsksSome told (round_ends es) w before v after
asks_round told asks es i e w u v before mid after there are hears k =
    subst (λ xs. AsksSome told xs w before v after) (sym (round_split es i e there))
    (asks_wider told (round_ends (take i es) ++ both_ends e) (round_ends (drop (suc i) es)) w v before after (asks_on told asks (round_ends (take i es)) (both_ends e) w u v before mid after are hears k))

pub asks_at : (e : EdgeFault) (i n device : ℕ) (w u v : WorldOf) (before mid after : List Step) (old new : LinksOf) → Drives w before u mid → i < length w.sites → device ≡ eid_in (slice_get u.sites i)
    → ReadsAllEnds i (eids_of w.sites) w before old u mid new n → AsksSome e (both_ends device) u mid v after → AsksSome e (round_ends (eids_of w.sites)) w before v after
asks_at e i n device w u v before mid after old new d lt is h k =
    asks_round e h.asks (eids_of w.sites) i device w u v before mid after
    (ap (λ es. slice_get es i) (sym (drives_eids w before u mid d)) ∙ eid_there u.sites i (let same = as_many_sites w before u mid d in omega arith) ∙ ap Some (sym is)) h.ends_are h.hears k

-- the fault isn't the clock's
frame_is_no_step : (e : EdgeFault) → e ≡ faults.Frame → e ≢ faults.Step
frame_is_no_step e is other = absurd (cc)

memory_is_no_step : (e : EdgeFault) → e ≡ faults.Memory → e ≢ faults.Step
memory_is_no_step e is other = absurd (cc)

memory_is_no_frame : {A : Type 0} (e : EdgeFault) → e ≡ faults.Memory → e ≡ faults.Frame → A
memory_is_no_frame e is other = absurd (cc)

-- an end gives no answer
pub link_failed : {A : Type 0} (t : A → Tally) (e : EdgeFault) (device : ℕ) (side : Side) (w : WorldOf) (ss : List Step) (old new : A) → e ≡ faults.Frame → FailsCall (t old) (t new)
    → LinkReadErr t e ((device, side) ∷ []) (read_at w ss old) (read_at w ss new)
link_failed t e device side w ss old new is f = record {
  drives = drives_none w ss;
  no_tick = refl;
  fault = frame_is_no_step e is;
  failed = (λ same. f.failures, λ other. absurd (other is));
  some = asks_none e w ss device side is;
  sent = f.sent;
  answered = 0;
  fewer = λ same. omega arith;
  few = omega arith;
  asked_rise = λ lt. f.asked ∙ more (t old).asked;
  unanswered = λ same. refl;
  unhanded = λ other. absurd (other is);
}
  where
    more : (k : ℕ) → k ≡ k + 0
    more k = omega arith

-- a count that rises
rises_by : (o n : ℕ) → CountsOne o n → n < 2 ^ 64 - 1 → n ≡ o + 1
rises_by o n (inl e) lt = e
rises_by o n (inr h) lt = absurd (let a = h.0 in let b = h.1 in omega arith)

-- or a frame that can't be delivered
pub link_refused : {A : Type 0} (t : A → Tally) (e : EdgeFault) (device : ℕ) (side : Side) (w v : WorldOf) (before after : List Step) (gave : Bool) (old new : A) → StepErr e w before v after
    → (bytes : List ℕ) → IsKnown w device bytes → AsksForFrame gave (t old) (t new) → LinkReadErr t e ((device, side) ∷ []) (read_at w before old) (read_at v after new)
link_refused t e device side w v before after gave old new r bytes known a = record {
  drives = drives_same w w v before before after (drives_none w before) r.same r.unlisted;
  no_tick = ap ticks_in r.unlisted;
  fault = memory_is_no_step e r.fault;
  failed = (λ is. memory_is_no_frame e r.fault is, λ other. a.failures);
  some = record {
    asks = [];
    failed = (device, side);
    rest = [];
    are = refl;
    hears = (r.same, r.unlisted);
    known = λ other. (bytes, subst (λ x. IsKnown x device bytes) (sym r.same) known);
  };
  sent = a.sent;
  answered = 1;
  fewer = λ is. memory_is_no_frame e r.fault is;
  few = omega arith;
  asked_rise = λ lt. rises_by (t old).asked (t new).asked a.asked lt;
  unanswered = λ is. memory_is_no_frame e r.fault is;
  unhanded = λ other. refl;
}

-- the first of both ends
pub link_first : {A : Type 0} (t : A → Tally) (e : EdgeFault) (device : ℕ) (w v : WorldOf) (before after : List Step) (old new : A) → LinkReadErr t e ((device, sides.Device) ∷ []) (read_at w before old) (read_at v after new)
    → LinkReadErr t e (both_ends device) (read_at w before old) (read_at v after new)
link_first t e device w v before after old new h = record {
  drives = h.drives;
  no_tick = h.no_tick;
  fault = h.fault;
  failed = h.failed;
  some = asks_wider e ((device, sides.Device) ∷ []) ((device, sides.Agent) ∷ []) w v before after h.some;
  sent = h.sent;
  answered = h.answered;
  fewer = λ is. (let less = h.fewer is in omega arith);
  few = let less = h.few in omega arith;
  asked_rise = h.asked_rise;
  unanswered = h.unanswered;
  unhanded = h.unhanded;
}

-- and the second
pub link_second : {A : Type 0} (t : A → Tally) (taken gave : A → LinkBytes) (e : EdgeFault) (device : ℕ) (w u v : WorldOf) (before mid after : List Step) (old between new : A) (known foreign : ℕ)
    → LinkReadOk (link_view t taken gave) ((device, sides.Device) ∷ []) 1 (read_at w before old) (read_at u mid between) known foreign → LinkReadErr t e ((device, sides.Agent) ∷ []) (read_at u mid between) (read_at v after new)
    → LinkReadErr t e (both_ends device) (read_at w before old) (read_at v after new)
link_second t taken gave e device w u v before mid after old between new known foreign h k = record {
  drives = goes_off w u v before mid after 0 known h.goes k.drives;
  no_tick = (let first = h.goes.ticks_rise in let second = k.no_tick in omega arith);
  fault = k.fault;
  failed = rw h.reads.failures at k.failed;
  some = asks_on e h.came.asks ((device, sides.Device) ∷ []) ((device, sides.Agent) ∷ []) w u v before mid after h.came.ends_are h.came.hears k.some;
  sent = k.sent ∙ h.reads.sent;
  answered = 1 + k.answered;
  fewer = λ is. (let less = k.fewer is in omega arith);
  few = let less = k.few in omega arith;
  asked_rise = both;
  unanswered = λ is. (let last = k.unanswered is in omega (arith, all));
  unhanded = λ other. (let last = k.unhanded other in omega (arith, all));
}
  where
    all : length (h.came.asks ++ k.some.asks) ≡ 1 + length k.some.asks
    all = length-append h.came.asks k.some.asks ∙ ap (λ n. n + length k.some.asks) (sym (map_length (λ a. (a.device, a.side)) h.came.asks) ∙ ap length h.came.ends_are)

    sum : (a b c n : ℕ) → n ≡ b + c → b ≡ a + 1 → n ≡ a + (1 + c)
    sum a b c n f g = omega arith

    below : (b c n : ℕ) → n ≡ b + c → n < 2 ^ 64 - 1 → b < 2 ^ 64 - 1
    below b c n f lt = omega arith

    both : (t new).asked < 2 ^ 64 - 1 → (t new).asked ≡ (t old).asked + (1 + k.answered)
    both lt =
        let last : (t new).asked ≡ (t between).asked + k.answered = k.asked_rise lt in
        sum (t old).asked (t between).asked k.answered (t new).asked last (h.reads.asked_rise (below (t between).asked k.answered (t new).asked last lt))

-- the devices of a round that stops are those of the first world
pub same_stops : (e : EdgeFault) (w u v : WorldOf) (before mid after : List Step) (old : LinksOf) → Drives w before u mid → RoundStops e (eids_of u.sites) u mid old v after → RoundStops e (eids_of w.sites) u mid old v after
same_stops e w u v before mid after old d h = subst (λ es. RoundStops e es u mid old v after) (drives_eids w before u mid d) h
