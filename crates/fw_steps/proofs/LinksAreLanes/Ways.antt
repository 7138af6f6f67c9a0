-- Both ways between two halves, whichever of them is the agent's.
use Rattle.std.proofs.Common.{◌≡◌, ◌≢◌, ◌⊎◌, ◌≤◌, ◌+◌, ◌∙◌, ℕ, true, false, List, ◌++◌, map, Some, inl, inr, refl, sym, ap, subst, arith}
use Rattle.std.specs.List.{AllByRecursion, filter}
use Rattle.mctp_wire.specs.declared.unit.Unit.{«Unit»}
use Rattle.mctp_reasm.specs.Pieces.{MessageOf}
use Rattle.exch_lane.specs.Cells.{cells_along, no_cell_yet}
use Rattle.exch_lane.specs.Lanes.{AreEnds, LaneEntryOf, LaneOf, Sent, LaneStepOf, lane_new}
use Rattle.exch_lane.specs.Laws.{IsCellOf, LaneIsACell, in_lane}
use Rattle.exch_lane.specs.Steps.{MayRun, lane_run, sent_at}
use Rattle.fw_node.specs.Halves.{HalfOf}
use Rattle.fw_node.specs.Packets.{all_packets}
use Rattle.fw_steps.specs.Lanes.{Explained, Times, is_of, lane_of, turned_times, way_of}
use Rattle.fw_steps.specs.LinksAreLanes.{StepsLane}
use Rattle.fw_steps.specs.Links.{packets_with_messages}
use Rattle.fw_steps.proofs.LinksAreLanes.Following.{LaneGoes, follows, goes_on}
use Rattle.fw_steps.proofs.LinksAreLanes.Routes.{other_lane}
use Rattle.fw_steps.proofs.LinksAreLanes.Sorted.{both_all, each_all, posted_behind, sent_in_lane, sorted_in, sorted_out}

-- a packet that can still be received is of one way or the other, each of which has a transmission
-- unit
abbrev pub IsOfEither : (u v : «Unit») (now x y : ℕ) → Sent → Type 0
IsOfEither u v now x y s = now ≤ s.date + 8 → (is_of u x y s ≡ true) ⊎ (is_of v y x s ≡ true)

-- Both ways between two halves are explained.
pub record BothWays {A B : Type 0} (now : Times) (a : HalfOf A) (b : HalfOf B) (ps : List Sent) : Type 0 where
  pub unit : b.unit ≡ a.unit
  pub ends : AreEnds a.own b.own
  pub peer : a.peer ≡ b.own
  pub back : b.peer ≡ a.own
  pub asks : Explained a.unit a.own b.own (way_of now a b ps)
  pub answers : Explained b.unit b.own a.own (way_of (turned_times now) b a ps)
  pub packets : AllByRecursion (IsOfEither a.unit b.unit now.now a.own b.own) ps

pub ends_turned : (x y : ℕ) → AreEnds x y → AreEnds y x
ends_turned x y e = record { asker = e.taker; taker = e.asker; differ = λ z. e.differ (sym z) }

pub either_turned : (u v : «Unit») (now x y : ℕ) (s : Sent) → (is_of u x y s ≡ true) ⊎ (is_of v y x s ≡ true) → (is_of v y x s ≡ true) ⊎ (is_of u x y s ≡ true)
either_turned u v now x y s (inl e) = inr e
either_turned u v now x y s (inr e) = inl e

abbrev pub turned : {A B : Type 0} (now : Times) (a : HalfOf A) (b : HalfOf B) (ps : List Sent) → BothWays now a b ps → BothWays (turned_times now) b a ps
turned now a b ps h = record {
  unit = sym h.unit;
  ends = ends_turned a.own b.own h.ends;
  peer = h.back;
  back = h.peer;
  asks = h.answers;
  answers = h.asks;
  packets = each_all (IsOfEither a.unit b.unit now.now a.own b.own) (IsOfEither b.unit a.unit now.now b.own a.own) ps h.packets (λ s k soon. either_turned a.unit b.unit now.now a.own b.own s (k soon));
}

-- the same two halves, still each other's peers
pub record AreSame {A B : Type 0} (a x : HalfOf A) (b y : HalfOf B) : Type 0 where
  pub unit : x.unit ≡ a.unit
  pub own : x.own ≡ a.own
  pub peer : x.peer ≡ a.peer
  pub other_unit : y.unit ≡ b.unit
  pub other : y.own ≡ b.own
  pub back : y.peer ≡ b.peer

-- Both ways after their steps: the halves and the packets are these, and both are explained again.
pub record WaysGo {A B : Type 0} (now then : Times) (a x : HalfOf A) (b y : HalfOf B) (ps qs : List Sent) (asked answered : List LaneStepOf) (before : BothWays now a b ps) : Type 0 where
  pub same : AreSame a x b y
  pub explained : BothWays then x y qs
  pub asks : StepsLane (way_of now a b ps) (way_of then x y qs) asked before.asks.run explained.asks.run
  pub answers : StepsLane (way_of (turned_times now) b a ps) (way_of (turned_times then) y x qs) answered before.answers.run explained.answers.run

-- The result of a way's steps, before the packets that the half sends are sorted.
pub record Comes {A B : Type 0} (now then : Times) (a x : HalfOf A) (b y : HalfOf B) (ps : List Sent) (ms : List MessageOf) (es : List LaneEntryOf) (ss : List LaneStepOf) : Type 0 where
  pub may : MayRun (way_of now a b ps es) ss
  pub more : List LaneEntryOf
  pub leads : lane_run (way_of now a b ps es) ss ≡ lane_of then x y (packets_with_messages a.unit then.now (filter (is_of a.unit a.own b.own) ps) ms) (es ++ more)

-- the packets sent on a way are of this way
sent_mine : {A B : Type 0} (law : LaneIsACell) (now then : Times) (a x : HalfOf A) (b y : HalfOf B) (ps : List Sent) (ms : List MessageOf) (ss : List LaneStepOf)
    (h : BothWays now a b ps) → AreSame a x b y → Comes now then a x b y ps ms h.asks.run.entries ss
    → AllByRecursion (λ s. is_of a.unit a.own b.own s ≡ true) (map (sent_at then.now) (all_packets a.unit ms))
sent_mine law now then a x b y ps ms ss h same c =
    let f = follows law a.unit a.own b.own (way_of now a b ps) h.asks ss h.ends c.may in
    let w = lane_of then x y (packets_with_messages a.unit then.now (filter (is_of a.unit a.own b.own) ps) ms) (h.asks.run.entries ++ c.more) in
    let cell : IsCellOf w f.run = subst (λ v. IsCellOf v f.run) c.leads f.cell in
    let unit : x.unit ≡ a.unit = same.unit in
    let mine : AllByRecursion (λ s. in_lane x.unit x.own x.peer s.bytes ≡ true) (map (sent_at then.now) (all_packets x.unit ms)) =
    sent_in_lane w then.now (filter (is_of a.unit a.own b.own) ps) ms (omega arith) (ap (λ u. packets_with_messages u then.now (filter (is_of a.unit a.own b.own) ps) ms) (sym unit)) cell.packets in
    let own : x.own ≡ a.own = same.own in
    let peer : x.peer ≡ b.own = same.peer ∙ h.peer in
    subst (λ e. AllByRecursion (λ s. in_lane a.unit a.own e s.bytes ≡ true) (map (sent_at then.now) (all_packets a.unit ms))) peer
    (subst (λ e. AllByRecursion (λ s. in_lane a.unit e x.peer s.bytes ≡ true) (map (sent_at then.now) (all_packets a.unit ms))) own
    (subst (λ u. AllByRecursion (λ s. in_lane u x.own x.peer s.bytes ≡ true) (map (sent_at then.now) (all_packets u ms))) unit mine))

-- and not of the other
sent_theirs : (u v : «Unit») (x y : ℕ) (ps : List Sent) → v ≡ u → x ≢ y → AllByRecursion (λ s. is_of u x y s ≡ true) ps → AllByRecursion (λ s. is_of v y x s ≡ false) ps
sent_theirs u v x y ps same differ h =
    subst (λ n. AllByRecursion (λ s. is_of n y x s ≡ false) ps) (sym same)
    (each_all (λ s. is_of u x y s ≡ true) (λ s. is_of u y x s ≡ false) ps h (λ s e. other_lane u x y s.bytes differ e))

-- the packets after it
packets_after : (u v : «Unit») (now then x y : ℕ) (ps : List Sent) (ms ns : List MessageOf) → now ≤ then → AllByRecursion (IsOfEither u v now x y) ps
    → AllByRecursion (λ s. is_of u x y s ≡ true) (map (sent_at then) (all_packets u ms)) → AllByRecursion (λ s. is_of v y x s ≡ true) (map (sent_at then) (all_packets v ns))
    → AllByRecursion (IsOfEither u v then x y) (packets_with_messages v then (packets_with_messages u then ps ms) ns)
packets_after u v now then x y ps ms ns later old mine theirs =
    let sent = map (sent_at then) (all_packets u ms) in
    let sent_back = map (sent_at then) (all_packets v ns) in
    let still : AllByRecursion (IsOfEither u v then x y) ps = each_all (IsOfEither u v now x y) (IsOfEither u v then x y) ps old (λ s k soon. k (omega (arith, later, soon))) in
    let more : AllByRecursion (IsOfEither u v then x y) sent = each_all (λ s. is_of u x y s ≡ true) (IsOfEither u v then x y) sent mine (λ s e soon. inl e) in
    let back : AllByRecursion (IsOfEither u v then x y) sent_back = each_all (λ s. is_of v y x s ≡ true) (IsOfEither u v then x y) sent_back theirs (λ s e soon. inr e) in
    subst (AllByRecursion (IsOfEither u v then x y)) (sym (posted_behind v then (packets_with_messages u then ps ms) ns))
    (both_all (IsOfEither u v then x y) (packets_with_messages u then ps ms) sent_back
    (subst (AllByRecursion (IsOfEither u v then x y)) (sym (posted_behind u then ps ms)) (both_all (IsOfEither u v then x y) ps sent still more)) back)

-- a way's packets among all after it
first_sorted : (u v : «Unit») (then x y : ℕ) (ps : List Sent) (ms ns : List MessageOf)
    → AllByRecursion (λ s. is_of u x y s ≡ true) (map (sent_at then) (all_packets u ms)) → AllByRecursion (λ s. is_of u x y s ≡ false) (map (sent_at then) (all_packets v ns))
    → filter (is_of u x y) (packets_with_messages v then (packets_with_messages u then ps ms) ns) ≡ packets_with_messages u then (filter (is_of u x y) ps) ms
first_sorted u v then x y ps ms ns mine theirs = sorted_out v (is_of u x y) then (packets_with_messages u then ps ms) ns theirs ∙ sorted_in u (is_of u x y) then ps ms mine

second_sorted : (u v : «Unit») (then x y : ℕ) (ps : List Sent) (ms ns : List MessageOf)
    → AllByRecursion (λ s. is_of v x y s ≡ false) (map (sent_at then) (all_packets u ms)) → AllByRecursion (λ s. is_of v x y s ≡ true) (map (sent_at then) (all_packets v ns))
    → filter (is_of v x y) (packets_with_messages v then (packets_with_messages u then ps ms) ns) ≡ packets_with_messages v then (filter (is_of v x y) ps) ns
second_sorted u v then x y ps ms ns theirs mine =
    sorted_in v (is_of v x y) then (packets_with_messages u then ps ms) ns mine ∙ ap (λ qs. packets_with_messages v then qs ns) (sorted_out u (is_of v x y) then ps ms theirs)

ends_as : (x y u v : ℕ) → u ≡ x → v ≡ y → AreEnds x y → AreEnds u v
ends_as x y u v own other e = rw (own, other) e

either_as : (m n k l : «Unit») (now x y u v : ℕ) (ps : List Sent) → k ≡ m → l ≡ n → u ≡ x → v ≡ y → AllByRecursion (IsOfEither m n now x y) ps → AllByRecursion (IsOfEither k l now u v) ps
either_as m n k l now x y u v ps unit other_unit own other h = rw (unit, other_unit, own, other) h

-- the same lane, of the same ends
new_same : (m n : «Unit») (x y u v : ℕ) → n ≡ m → u ≡ x → v ≡ y → lane_new m x y ≡ lane_new n u v
new_same m n x y u v unit own other = rw (unit, own, other) refl

abbrev explained_as : {m n : «Unit»} {x y u v : ℕ} {lane : List LaneEntryOf → LaneOf} → lane_new m x y ≡ lane_new n u v → Explained m x y lane → Explained n u v lane
explained_as same e = record {
  steps = e.steps;
  may = subst (λ w. MayRun w e.steps) same e.may;
  run = e.run;
  along = subst (λ w. cells_along w e.steps (Some no_cell_yet) ≡ Some e.run) same e.along;
  is = ap (λ w. lane_run w e.steps) (sym same) ∙ e.is;
}

-- One way takes its steps.
way_goes : {A B : Type 0} (law : LaneIsACell) (now then : Times) (a x : HalfOf A) (b y : HalfOf B) (ps qs : List Sent) (ms : List MessageOf) (ss : List LaneStepOf)
    (h : BothWays now a b ps) → x.unit ≡ a.unit → x.own ≡ a.own → y.own ≡ b.own → filter (is_of a.unit a.own b.own) qs ≡ packets_with_messages a.unit then.now (filter (is_of a.unit a.own b.own) ps) ms
    → Comes now then a x b y ps ms h.asks.run.entries ss
    → LaneGoes a.unit a.own b.own (way_of now a b ps) (way_of then x y qs) ss h.asks.run
way_goes law now then a x b y ps qs ms ss h unit own other is c =
    goes_on law a.unit a.own b.own (way_of now a b ps) (way_of then x y qs) h.asks ss (h.asks.run.entries ++ c.more) h.ends c.may
    (c.leads ∙ ap (λ r. lane_of then x y r (h.asks.run.entries ++ c.more)) (sym is ∙ sym (rw (unit, own, other) refl)))
    (λ z. refl)

-- Both ways take their steps.
pub ways_go : {A B : Type 0} (law : LaneIsACell) (now then : Times) (a x : HalfOf A) (b y : HalfOf B) (ps : List Sent) (ms ns : List MessageOf) (asked answered : List LaneStepOf)
    (h : BothWays now a b ps) → now.now ≤ then.now → AreSame a x b y
    → Comes now then a x b y ps ms h.asks.run.entries asked → Comes (turned_times now) (turned_times then) b y a x ps ns h.answers.run.entries answered
    → WaysGo now then a x b y ps (packets_with_messages b.unit then.now (packets_with_messages a.unit then.now ps ms) ns) asked answered h
ways_go law now then a x b y ps ms ns asked answered h later same c d =
    let differ : a.own ≢ b.own = h.ends.differ in
    let mine = sent_mine law now then a x b y ps ms asked h same c in
    let theirs = sent_mine law (turned_times now) (turned_times then) b y a x ps ns answered (turned now a b ps h)
    (record { unit = same.other_unit; own = same.other; peer = same.back; other_unit = same.unit; other = same.own; back = same.peer }) d in
    let qs = packets_with_messages b.unit then.now (packets_with_messages a.unit then.now ps ms) ns in
    let there = way_goes law now then a x b y ps qs ms asked h same.unit same.own same.other
    (first_sorted a.unit b.unit then.now a.own b.own ps ms ns mine (sent_theirs b.unit a.unit b.own a.own (map (sent_at then.now) (all_packets b.unit ns)) (sym h.unit) (λ z. differ (sym z)) theirs)) c in
    let back = way_goes law (turned_times now) (turned_times then) b y a x ps qs ns answered (turned now a b ps h) same.other_unit same.other same.own
    (second_sorted a.unit b.unit then.now b.own a.own ps ms ns (sent_theirs a.unit b.unit a.own b.own (map (sent_at then.now) (all_packets a.unit ms)) h.unit differ mine) theirs) d in
    record {
      same = same;
      explained = record {
        unit = same.other_unit ∙ h.unit ∙ sym same.unit;
        ends = ends_as a.own b.own x.own y.own same.own same.other h.ends;
        peer = same.peer ∙ h.peer ∙ sym same.other;
        back = same.back ∙ h.back ∙ sym same.own;
        asks = explained_as (new_same a.unit x.unit a.own b.own x.own y.own same.unit same.own same.other) there.explained;
        answers = explained_as (new_same b.unit y.unit b.own a.own y.own x.own same.other_unit same.other same.own) back.explained;
        packets = either_as a.unit b.unit x.unit y.unit then.now a.own b.own x.own y.own qs same.unit same.other_unit same.own same.other (packets_after a.unit b.unit now.now then.now a.own b.own ps ms ns later h.packets mine theirs);
      };
      asks = there.goes;
      answers = back.goes;
    }
