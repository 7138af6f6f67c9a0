-- A packet is delivered to a half, on both ways between it and the other.
use Rattle.pldm_base.specs.Limits.{reply_limit}
use Rattle.std.proofs.Common.{◌≡◌, ◌≢◌, ◌⊎◌, ◌≤◌, ◌+◌, ◌==◌, ◌∙◌, ℕ, zero, suc, length, Bool, true, false, if◌then◌else◌, List, [], ◌∷◌, ◌++◌, slice_get, Option, Some, None, inl, inr, refl, sym, ap, subst, arith}
use Rattle.std.specs.List.{AllByRecursion, filter}
use Rattle.std.proofs.lemmas.List.{append-nil}
use Rattle.std.proofs.lemmas.Bool.{le-ltb}
use Rattle.pldm_exch.specs.Sides.{AskerRow, TakerRow, asker_row, taker_row}
use Rattle.exch_lane.specs.Cells.{CellRun, cell_at_taker, cell_delivers, cell_take}
use Rattle.exch_lane.specs.Lanes.{LaneOf, Sent, LaneStepOf, item_numbered}
use Rattle.exch_lane.specs.Laws.{LaneIsACell, in_lane}
use Rattle.exch_lane.specs.Steps.{MayRun, MayTake, asker_does, lane_after_deliver, lane_after, lane_run, may_step, taker_does}
use Rattle.exch_lane.specs.declared.step.End.{End}
use Rattle.exch_lane.specs.declared.step.End.TheVariants as ends
use Rattle.fw_node.specs.Halves.{CoreOf, HalfOutcome, HalfOf, half_on_packet, half_on_rows, half_takes}
use Rattle.fw_node.specs.Nodes.{TakenAnswerRoundTrips}
use Rattle.fw_steps.specs.Lanes.{Times, turned_times, answer_steps, ask_steps, is_of, lane_of, learn_steps, number_in, reply_in, take_steps, way_of}
use Rattle.fw_steps.specs.Links.{packets_with_messages}
use Rattle.fw_steps.proofs.LinksAreLanes.Following.{follows}
use Rattle.fw_steps.proofs.LinksAreLanes.Hears.{IsPassed, IsServed, half_in, learns_in, sent_in, takes_in}
use Rattle.fw_steps.proofs.LinksAreLanes.Routes.{answers_nothing, asks_nothing, other_lane}
use Rattle.fw_steps.proofs.LinksAreLanes.Sorted.{lane_number, numbered_at}
use Rattle.fw_steps.proofs.LinksAreLanes.Ways.{BothWays, IsOfEither, WaysGo, ways_go}

-- a living packet may be delivered in its lane
may_come : (w : LaneOf) (number : ℕ) (end : End) (reply : List ℕ) (s : Sent) → length reply ≤ reply_limit w.unit → item_numbered w.packets number ≡ Some s → w.now ≤ s.date + 8
    → may_step w (LaneStepOf.Deliver number end reply) ≡ None
may_come w number end reply s few is soon = rw (le-ltb (reply_limit w.unit) (length reply) few, is) (rw (le-ltb (s.date + 8) w.now soon) refl)

-- a request that a cell has is served
served_if : (five : Bool) (o : Option CellRun) (after : CellRun) → (if five then o else None) ≡ Some after → five ≡ true
served_if true o after e = refl
served_if false o after e = absurd (cc)

served_row : (row : TakerRow) (run after : CellRun) → cell_at_taker [] row run ≡ Some after → IsServed row
served_row (TakerRow.Silent requests) run after e = tt
served_row (TakerRow.Repeats requests answer) run after e = tt
served_row (TakerRow.TakesUp requests m head body) run after e = served_if (head.pldm_type == 5) (cell_take head.command body [] run) after e
served_row (TakerRow.Strays requests m) run after e = absurd (cc)

-- the row of the half, and the row of its end of the lane
pub same_row : {A B : Type 0} (a : HalfOf A) (b : HalfOf B) (bytes : List ℕ) → b.unit ≡ a.unit → a.peer ≡ b.own → b.peer ≡ a.own → taker_row b.unit b.peer b.own a.taker bytes ≡ taker_row a.unit a.own a.peer a.taker bytes
same_row a b bytes unit peer back = rw (unit, peer, back) refl

served_here : {A B : Type 0} (law : LaneIsACell) (now : Times) (a : HalfOf A) (b : HalfOf B) (ps : List Sent) (h : BothWays now a b ps) (n : ℕ) (s : Sent)
    → item_numbered (filter (is_of b.unit b.own a.own) ps) n ≡ Some s → now.now ≤ s.date + 8 → IsServed (taker_row a.unit a.own a.peer a.taker s.bytes)
served_here law now a b ps h n s is soon =
    let w = way_of (turned_times now) b a ps h.answers.run.entries in
    let none : 0 ≤ reply_limit b.unit = omega arith in
    let may : MayTake w (LaneStepOf.Deliver n ends.Taker []) = record { lawful = none; may = may_come w n ends.Taker [] s none is soon } in
    let f = follows law b.unit b.own a.own (way_of (turned_times now) b a ps) h.answers (LaneStepOf.Deliver n ends.Taker [] ∷ [])
    (record { asker = h.ends.taker; taker = h.ends.asker; differ = λ z. h.ends.differ (sym z) }) (may, tt) in
    let goes : cell_delivers w ends.Taker [] (Some s) h.answers.run ≡ Some f.run =
    subst (λ o. cell_delivers w ends.Taker [] o h.answers.run ≡ Some f.run) is f.along in
    subst IsServed (same_row a b s.bytes h.unit h.peer h.back) (served_row (taker_row b.unit b.peer b.own a.taker s.bytes) h.answers.run f.run goes)

-- A half's outcome of a packet, on both ways.
pub record HearsAs {A B : Type 0} (now : Times) (a : HalfOf A) (b : HalfOf B) (ps : List Sent) (h : BothWays now a b ps) (heard : HalfOutcome A) (asked answered : List LaneStepOf) : Type 0 where
  pub passed : IsPassed heard
  pub ways : WaysGo now now a (half_in heard) b b ps (packets_with_messages a.unit now.now ps (sent_in heard)) asked answered h

-- a request
request_comes : {A B : Type 0} (law : LaneIsACell) (core : CoreOf A) (works : Bool) (now : Times) (a : HalfOf A) (b : HalfOf B) (ps : List Sent) (h : BothWays now a b ps)
    (row : TakerRow) (n : ℕ) (s : Sent) → row ≡ taker_row a.unit a.own a.peer a.taker s.bytes → item_numbered (filter (is_of b.unit b.own a.own) ps) n ≡ Some s → now.now ≤ s.date + 8
    → TakenAnswerRoundTrips a.unit (half_takes core works a row)
    → HearsAs now a b ps h (half_takes core works a row) (take_steps core works a row) (LaneStepOf.Deliver n ends.Taker (reply_in core works a row) ∷ [])
request_comes law core works now a b ps h row n s same is soon told =
    let t = takes_in core works now a b row (subst IsServed (sym same) (served_here law now a b ps h n s is soon)) told in
    let heard = half_takes core works a row in
    let reply = reply_in core works a row in
    let mine = filter (is_of a.unit a.own b.own) ps in
    let w = way_of (turned_times now) b a ps h.answers.run.entries in
    let few : length reply ≤ reply_limit b.unit = subst (λ u. length reply ≤ reply_limit u) (sym h.unit) t.few in
    let at : taker_row b.unit b.peer b.own a.taker s.bytes ≡ row = same_row a b s.bytes h.unit h.peer h.back ∙ sym same in
    record {
      passed = t.passed;
      ways = subst (λ u. WaysGo now now a (half_in heard) b b ps (packets_with_messages u now.now ps (sent_in heard)) (take_steps core works a row) (LaneStepOf.Deliver n ends.Taker reply ∷ []) h) h.unit
          (ways_go law now now a (half_in heard) b b ps [] (sent_in heard) (take_steps core works a row) (LaneStepOf.Deliver n ends.Taker reply ∷ []) h (omega arith)
          (record { unit = t.unit; own = t.own; peer = t.peer; other_unit = refl; other = refl; back = refl })
          (record {
            may = t.may mine h.asks.run.entries;
            more = [];
            leads = t.asks mine h.asks.run.entries ∙ ap (lane_of now (half_in heard) b mine) (sym (append-nil h.asks.run.entries));
          })
          (record {
            may = (record { lawful = few; may = may_come w n ends.Taker reply s few is soon }, tt);
            more = t.more;
            leads = ap (lane_after_deliver w ends.Taker reply) is ∙ ap (taker_does w reply) at ∙ t.answers (filter (is_of b.unit b.own a.own) ps) h.answers.run.entries;
          }));
    }

-- a reply
reply_comes : {A B : Type 0} (law : LaneIsACell) (core : CoreOf A) (works : Bool) (now : Times) (a : HalfOf A) (b : HalfOf B) (ps : List Sent) (h : BothWays now a b ps)
    (row : AskerRow) (n : ℕ) (s : Sent) → row ≡ asker_row a.unit a.own a.peer a.asker s.bytes → item_numbered (filter (is_of a.unit a.own b.own) ps) n ≡ Some s → now.now ≤ s.date + 8
    → HearsAs now a b ps h (half_on_rows core works a row (TakerRow.Silent a.taker.requests)) (LaneStepOf.Deliver n ends.Asker [] ∷ learn_steps core works a row) []
reply_comes law core works now a b ps h row n s same is soon =
    let t = learns_in core works now a b row in
    let heard = half_on_rows core works a row (TakerRow.Silent a.taker.requests) in
    let mine = filter (is_of a.unit a.own b.own) ps in
    let theirs = filter (is_of b.unit b.own a.own) ps in
    let w = way_of now a b ps h.asks.run.entries in
    let none : 0 ≤ reply_limit a.unit = omega arith in
    let comes : lane_after w (LaneStepOf.Deliver n ends.Asker []) ≡ asker_does w row = ap (lane_after_deliver w ends.Asker []) is ∙ ap (asker_does w) (sym same) in
    record {
      passed = t.passed;
      ways = subst (λ u. WaysGo now now a (half_in heard) b b ps (packets_with_messages u now.now ps (sent_in heard)) (LaneStepOf.Deliver n ends.Asker [] ∷ learn_steps core works a row) [] h) h.unit
          (ways_go law now now a (half_in heard) b b ps [] (sent_in heard) (LaneStepOf.Deliver n ends.Asker [] ∷ learn_steps core works a row) [] h (omega arith)
          (record { unit = t.unit; own = t.own; peer = t.peer; other_unit = refl; other = refl; back = refl })
          (record {
            may = (record { lawful = none; may = may_come w n ends.Asker [] s none is soon }, subst (λ v. MayRun v (learn_steps core works a row)) (sym comes) (t.may mine h.asks.run.entries));
            more = t.more;
            leads = ap (λ v. lane_run v (learn_steps core works a row)) comes ∙ t.asks mine h.asks.run.entries;
          })
          (record {
            may = tt;
            more = [];
            leads = t.answers theirs h.answers.run.entries
                ∙ ap (lane_of (turned_times now) b (half_in heard) theirs) (sym (append-nil h.answers.run.entries))
                ∙ ap (λ ms. lane_of (turned_times now) b (half_in heard) (packets_with_messages b.unit now.now theirs ms) (h.answers.run.entries ++ [])) (sym t.none);
          }));
    }

hears_same : {A B : Type 0} (now : Times) (a : HalfOf A) (b : HalfOf B) (ps : List Sent) (h : BothWays now a b ps) (x u : HalfOutcome A) (y v z w : List LaneStepOf)
    → u ≡ x → v ≡ y → w ≡ z → HearsAs now a b ps h x y z → HearsAs now a b ps h u v w
hears_same now a b ps h x u y v z w heard asked answered k = rw (heard, asked, answered) k

-- The outcome of a packet of the link for a half.
abbrev pub HearsIt : {A B : Type 0} (core : CoreOf A) (works : Bool) (now : Times) (a : HalfOf A) (b : HalfOf B) (ps : List Sent) (h : BothWays now a b ps) (number : ℕ) (s : Sent) → Type 0
HearsIt core works now a b ps h number s =
    HearsAs now a b ps h (half_on_packet core works a s.bytes)
    (ask_steps core works a (is_of a.unit a.own b.own s) (number_in (is_of a.unit a.own b.own) ps number) s.bytes)
    (answer_steps core works a (is_of b.unit b.own a.own s) (number_in (is_of b.unit b.own a.own) ps number) s.bytes)

comes_as_request : {A B : Type 0} (law : LaneIsACell) (core : CoreOf A) (works : Bool) (now : Times) (a : HalfOf A) (b : HalfOf B) (ps : List Sent) (h : BothWays now a b ps)
    (number : ℕ) (s : Sent) → item_numbered ps number ≡ Some s → now.now ≤ s.date + 8 → TakenAnswerRoundTrips a.unit (half_on_packet core works a s.bytes) → is_of b.unit b.own a.own s ≡ true
    → HearsIt core works now a b ps h number s
comes_as_request law core works now a b ps h number s is soon told mine =
    let row = taker_row a.unit a.own a.peer a.taker s.bytes in
    let n = number_in (is_of b.unit b.own a.own) ps number in
    let differ : a.peer ≢ a.own = λ z. h.ends.differ (sym z ∙ h.peer) in
    let from : in_lane a.unit a.peer a.own s.bytes ≡ true = subst (λ u. in_lane u a.peer a.own s.bytes ≡ true) h.unit (rw h.peer mine) in
    let heard : half_on_packet core works a s.bytes ≡ half_takes core works a row = ap (λ r. half_on_rows core works a r row) (asks_nothing a.unit a.asker a.own a.peer s.bytes differ from) in
    let far : is_of a.unit a.own b.own s ≡ false = subst (λ u. is_of u a.own b.own s ≡ false) h.unit (other_lane b.unit b.own a.own s.bytes (λ z. h.ends.differ (sym z)) mine) in
    hears_same now a b ps h
    (half_takes core works a row) (half_on_packet core works a s.bytes)
    (take_steps core works a row) (ask_steps core works a (is_of a.unit a.own b.own s) (number_in (is_of a.unit a.own b.own) ps number) s.bytes)
    (LaneStepOf.Deliver n ends.Taker (reply_in core works a row) ∷ []) (answer_steps core works a (is_of b.unit b.own a.own s) n s.bytes)
    heard
    (ap (λ m. ask_steps core works a m (number_in (is_of a.unit a.own b.own) ps number) s.bytes) far)
    (ap (λ m. answer_steps core works a m n s.bytes) mine)
    (request_comes law core works now a b ps h row n s refl (lane_number (is_of b.unit b.own a.own) ps number s is mine) soon (subst (TakenAnswerRoundTrips a.unit) heard told))

comes_as_reply : {A B : Type 0} (law : LaneIsACell) (core : CoreOf A) (works : Bool) (now : Times) (a : HalfOf A) (b : HalfOf B) (ps : List Sent) (h : BothWays now a b ps)
    (number : ℕ) (s : Sent) → item_numbered ps number ≡ Some s → now.now ≤ s.date + 8 → is_of a.unit a.own b.own s ≡ true
    → HearsIt core works now a b ps h number s
comes_as_reply law core works now a b ps h number s is soon mine =
    let row = asker_row a.unit a.own a.peer a.asker s.bytes in
    let n = number_in (is_of a.unit a.own b.own) ps number in
    let differ : a.own ≢ a.peer = λ z. h.ends.differ (z ∙ h.peer) in
    let from : in_lane a.unit a.own a.peer s.bytes ≡ true = rw h.peer mine in
    let far : is_of b.unit b.own a.own s ≡ false = subst (λ u. is_of u b.own a.own s ≡ false) (sym h.unit) (other_lane a.unit a.own b.own s.bytes h.ends.differ mine) in
    hears_same now a b ps h
    (half_on_rows core works a row (TakerRow.Silent a.taker.requests)) (half_on_packet core works a s.bytes)
    (LaneStepOf.Deliver n ends.Asker [] ∷ learn_steps core works a row) (ask_steps core works a (is_of a.unit a.own b.own s) n s.bytes)
    [] (answer_steps core works a (is_of b.unit b.own a.own s) (number_in (is_of b.unit b.own a.own) ps number) s.bytes)
    (ap (half_on_rows core works a row) (answers_nothing a.unit a.taker a.own a.peer s.bytes differ from))
    (ap (λ m. ask_steps core works a m n s.bytes) mine)
    (ap (λ m. answer_steps core works a m (number_in (is_of b.unit b.own a.own) ps number) s.bytes) far)
    (reply_comes law core works now a b ps h row n s refl (lane_number (is_of a.unit a.own b.own) ps number s is mine) soon)

-- a fact of all packets, for one of them
pub fact_at : {A : Type 0} (P : A → Type 0) (xs : List A) (i : ℕ) (x : A) → AllByRecursion P xs → slice_get xs i ≡ Some x → P x
fact_at P [] i x h e = absurd (cc)
fact_at P (y ∷ ys) zero x h e = let is : y ≡ x = cc in rw is at h.0
fact_at P (y ∷ ys) (suc i) x h e = fact_at P ys i x h.1 e

pub fact_of : {A : Type 0} (P : A → Type 0) (xs : List A) (number : ℕ) (x : A) → AllByRecursion P xs → item_numbered xs number ≡ Some x → P x
fact_of P xs zero x h e = absurd (cc)
fact_of P xs (suc i) x h e = fact_at P xs i x h (sym (numbered_at xs i) ∙ e)

comes_in : {A B : Type 0} (law : LaneIsACell) (core : CoreOf A) (works : Bool) (now : Times) (a : HalfOf A) (b : HalfOf B) (ps : List Sent) (h : BothWays now a b ps)
    (number : ℕ) (s : Sent) → item_numbered ps number ≡ Some s → now.now ≤ s.date + 8 → TakenAnswerRoundTrips a.unit (half_on_packet core works a s.bytes)
    → (is_of a.unit a.own b.own s ≡ true) ⊎ (is_of b.unit b.own a.own s ≡ true) → HearsIt core works now a b ps h number s
comes_in law core works now a b ps h number s is soon told (inl mine) = comes_as_reply law core works now a b ps h number s is soon mine
comes_in law core works now a b ps h number s is soon told (inr mine) = comes_as_request law core works now a b ps h number s is soon told mine

-- A packet that is delivered to a half goes through, and both ways take their steps.
pub hears_in_lane : {A B : Type 0} (law : LaneIsACell) (core : CoreOf A) (works : Bool) (now : Times) (a : HalfOf A) (b : HalfOf B) (ps : List Sent) (h : BothWays now a b ps)
    (number : ℕ) (s : Sent) → item_numbered ps number ≡ Some s → now.now ≤ s.date + 8 → TakenAnswerRoundTrips a.unit (half_on_packet core works a s.bytes)
    → HearsIt core works now a b ps h number s
hears_in_lane law core works now a b ps h number s is soon told =
    comes_in law core works now a b ps h number s is soon told (fact_of (IsOfEither a.unit b.unit now.now a.own b.own) ps number s h.packets is soon)
