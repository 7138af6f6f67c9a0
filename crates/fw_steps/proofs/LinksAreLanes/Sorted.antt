-- The packets that are sent are of their own lane only; and a packet's number in its lane.
use Rattle.std.proofs.Common.{◌≡◌, ◌∙◌, ◌≤◌, ◌-◌, ℕ, zero, suc, Bool, true, false, if◌then◌else◌, List, [], ◌∷◌, ◌++◌, length, map, take, nat_lt, slice_get, Some, refl, sym, ap, subst, arith}
use Rattle.std.specs.List.{AllByRecursion, filter}
use Rattle.std.proofs.lemmas.Bool.{lt-ltb}
use Rattle.std.proofs.lemmas.List.{append-nil, append_assoc, map-append}
use Rattle.std.proofs.lemmas.List.Elements.{filter-append}
use Rattle.mctp_wire.specs.declared.unit.Unit.{«Unit»}
use Rattle.mctp_reasm.specs.Pieces.{MessageOf}
use Rattle.exch_lane.specs.Lanes.{LaneOf, Sent, item_numbered}
use Rattle.exch_lane.specs.Laws.{IsOfLane, in_lane}
use Rattle.exch_lane.specs.Steps.{packets_of_message, sent_at}
use Rattle.fw_node.specs.Packets.{all_packets, packets_of}
use Rattle.fw_steps.specs.Lanes.{number_in}
use Rattle.fw_steps.specs.Links.{packets_with_messages}

-- Messages add their packets, dated.
pub posted_behind : (u : «Unit») (now : ℕ) (ps : List Sent) (ms : List MessageOf) → packets_with_messages u now ps ms ≡ ps ++ map (sent_at now) (all_packets u ms)
posted_behind u now ps [] = sym (append-nil ps)
posted_behind u now ps (m ∷ ms) =
    posted_behind u now (ps ++ packets_of_message u now m) ms ∙ append_assoc ps (packets_of_message u now m) (map (sent_at now) (all_packets u ms))
    ∙ ap (λ qs. ps ++ qs) (sym (map-append (sent_at now) (packets_of u m) (all_packets u ms)))

-- facts of the elements of two lists
pub all_behind : {A : Type 0} (P : A → Type 0) (xs ys : List A) → AllByRecursion P (xs ++ ys) → AllByRecursion P ys
all_behind P [] ys h = h
all_behind P (x ∷ xs) ys h = all_behind P xs ys h.1

pub both_all : {A : Type 0} (P : A → Type 0) (xs ys : List A) → AllByRecursion P xs → AllByRecursion P ys → AllByRecursion P (xs ++ ys)
both_all P [] ys h k = k
both_all P (x ∷ xs) ys h k = (h.0, both_all P xs ys h.1 k)

pub each_all : {A : Type 0} (P Q : A → Type 0) (xs : List A) → AllByRecursion P xs → ((x : A) → P x → Q x) → AllByRecursion Q xs
each_all P Q [] h f = tt
each_all P Q (x ∷ xs) h f = (f x h.0, each_all P Q xs h.1 f)

-- a packet that is sent now can still be received
living_sent : (w : LaneOf) (now : ℕ) (bs : List (List ℕ)) → w.now ≤ now → AllByRecursion (IsOfLane w) (map (sent_at now) bs)
    → AllByRecursion (λ s. in_lane w.unit w.asker_eid w.taker_eid s.bytes ≡ true) (map (sent_at now) bs)
living_sent w now [] soon h = tt
living_sent w now (b ∷ bs) soon h = (h.0 (omega (arith, soon)), living_sent w now bs soon h.1)

-- so the packets that a lane sent are of the lane
pub sent_in_lane : (w : LaneOf) (now : ℕ) (ps : List Sent) (ms : List MessageOf) → w.now ≤ now → w.packets ≡ packets_with_messages w.unit now ps ms
    → AllByRecursion (IsOfLane w) w.packets → AllByRecursion (λ s. in_lane w.unit w.asker_eid w.taker_eid s.bytes ≡ true) (map (sent_at now) (all_packets w.unit ms))
sent_in_lane w now ps ms soon is h =
    living_sent w now (all_packets w.unit ms) soon
    (all_behind (IsOfLane w) ps (map (sent_at now) (all_packets w.unit ms)) (subst (AllByRecursion (IsOfLane w)) (is ∙ posted_behind w.unit now ps ms) h))

-- a list of which all elements pass a test, or none does
all_pass : {A : Type 0} (test : A → Bool) (xs : List A) → AllByRecursion (λ x. test x ≡ true) xs → filter test xs ≡ xs
all_pass test [] h = refl
all_pass test (x ∷ xs) h = rw (h.0) (ap (λ ys. x ∷ ys) (all_pass test xs h.1))

none_passes : {A : Type 0} (test : A → Bool) (xs : List A) → AllByRecursion (λ x. test x ≡ false) xs → filter test xs ≡ []
none_passes test [] h = refl
none_passes test (x ∷ xs) h = rw (h.0) (none_passes test xs h.1)

-- The packets sent in a lane are appended to the lane's packets, and to no other lane's.
pub sorted_in : (u : «Unit») (test : Sent → Bool) (now : ℕ) (ps : List Sent) (ms : List MessageOf) → AllByRecursion (λ s. test s ≡ true) (map (sent_at now) (all_packets u ms))
    → filter test (packets_with_messages u now ps ms) ≡ packets_with_messages u now (filter test ps) ms
sorted_in u test now ps ms h =
    ap (filter test) (posted_behind u now ps ms) ∙ filter-append test ps (map (sent_at now) (all_packets u ms))
    ∙ ap (λ qs. filter test ps ++ qs) (all_pass test (map (sent_at now) (all_packets u ms)) h) ∙ sym (posted_behind u now (filter test ps) ms)

pub sorted_out : (u : «Unit») (test : Sent → Bool) (now : ℕ) (ps : List Sent) (ms : List MessageOf) → AllByRecursion (λ s. test s ≡ false) (map (sent_at now) (all_packets u ms))
    → filter test (packets_with_messages u now ps ms) ≡ filter test ps
sorted_out u test now ps ms h =
    ap (filter test) (posted_behind u now ps ms) ∙ filter-append test ps (map (sent_at now) (all_packets u ms))
    ∙ ap (λ qs. filter test ps ++ qs) (none_passes test (map (sent_at now) (all_packets u ms)) h) ∙ append-nil (filter test ps)

-- the first is number 1
pub numbered_at : {A : Type 0} (xs : List A) (n : ℕ) → item_numbered xs (suc n) ≡ slice_get xs n
numbered_at xs n =
    let some : nat_lt 0 (suc n) ≡ true = lt-ltb 0 (suc n) (omega arith) in
    let less : suc n - 1 ≡ n = omega arith in
    rw (some, less) refl

-- one more in front
numbered_more : {A : Type 0} (x : A) (xs : List A) (n : ℕ) (y : A) → item_numbered xs n ≡ Some y → item_numbered (x ∷ xs) (suc n) ≡ Some y
numbered_more x xs zero y e = absurd (cc)
numbered_more x xs (suc n) y e = numbered_at (x ∷ xs) (suc n) ∙ sym (numbered_at xs n) ∙ e

count_more : {A : Type 0} (passes : Bool) (x : A) (front back : List A) (y : A) → item_numbered back (length front) ≡ Some y
    → item_numbered (if passes then x ∷ back else back) (length (if passes then x ∷ front else front)) ≡ Some y
count_more true x front back y e = numbered_more x back (length front) y e
count_more false x front back y e = e

placed : {A : Type 0} (test : A → Bool) (xs : List A) (i : ℕ) (y : A) → slice_get xs i ≡ Some y → test y ≡ true
    → item_numbered (filter test xs) (length (filter test (take (suc i) xs))) ≡ Some y
placed test [] i y e passes = absurd (cc)
placed test (x ∷ xs) zero y e passes = let is : x ≡ y = cc in rw is (rw passes refl)
placed test (x ∷ xs) (suc i) y e passes = count_more (test x) x (filter test (take (suc i) xs)) (filter test xs) y (placed test xs i y e passes)

-- A packet's number in its lane is the number of the lane's packets up to it.
pub lane_number : (test : Sent → Bool) (ps : List Sent) (number : ℕ) (s : Sent) → item_numbered ps number ≡ Some s → test s ≡ true
    → item_numbered (filter test ps) (number_in test ps number) ≡ Some s
lane_number test ps zero s e passes = absurd (cc)
lane_number test ps (suc i) s e passes = placed test ps i s (sym (numbered_at ps i) ∙ e) passes
