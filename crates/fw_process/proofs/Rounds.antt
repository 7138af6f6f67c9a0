-- What a process does while it is served: deeds one after another, and what they send over its
-- line.
use Rattle.std.proofs.Common.{◌≡◌, ◌∙◌, ◌+◌, ◌-◌, ◌++◌, ◌≤◌, ◌<◌, ◌⊎◌, Bool, false, inl, inr, true, ℕ, zero, suc, List, [], ◌∷◌, Option, None, Some, append-nil, append_assoc, ◌^◌, Result, Ok, Err, OnErr, OnOk, ap, arith, length, map, refl, subst, sym}
use Rattle.std.proofs.lemmas.Bool.{false≢true, le-leb, lt-leb}
use Rattle.std.proofs.lemmas.List.{length-append, map-append}
use Rattle.std.specs.List.{AllByRecursion}
use Rattle.std.specs.Option.{option_map}
use Rattle.exch_lane.specs.Lanes.{Sent}
use Rattle.fw_process.specs.Processes.{AroundOf, Deed, Does, DoesAll, FailsAt, IsRound, LineCall, LineOf, RoundOf, Serves, ServesCome, ServesRounds, ServesUntil, deed_with, deeds_for, deeds_for_all, deeds_to, line_with, round_calls, round_deeds, rounds_calls, rounds_deeds, shows, taking, turns, unit_after_deed, unit_after_deeds}

-- LINES

known_none : {X : Type 0} (o : Option (List X)) → option_map (λ ps. ps ++ []) o ≡ o
known_none None = refl
known_none (Some ps) = ap Some (append-nil ps)

known_more : {X : Type 0} (o : Option (List X)) (a b : List X) → option_map (λ ps. ps ++ b) (option_map (λ ps. ps ++ a) o) ≡ option_map (λ ps. ps ++ (a ++ b)) o
known_more None a b = refl
known_more (Some ps) a b = ap Some (append_assoc ps a b)

line_is : (a b : Option (List LineCall)) (c d : Option (List Sent)) → a ≡ b → c ≡ d → ◌≡◌ {A = LineOf} (record { calls = a; sent = c }) (record { calls = b; sent = d })
line_is a b c d e f = λ i. record { calls = e i; sent = f i }

pub line_none : (l : LineOf) → line_with l [] [] ≡ l
line_none l = line_is _ _ _ _ (known_none l.calls) (known_none l.sent)

pub line_more : (l : LineOf) (a : List LineCall) (b : List Sent) (c : List LineCall) (d : List Sent) → line_with (line_with l a b) c d ≡ line_with l (a ++ c) (b ++ d)
line_more l a b c d = line_is _ _ _ _ (known_more l.calls a c) (known_more l.sent b d)

-- a packet is sent, of those that are to be sent
pub sends_next : (l m n : LineOf) (p : Sent) (ps : List Sent) → n ≡ line_with m [] (p ∷ []) → line_with m [] (p ∷ ps) ≡ l → line_with n [] ps ≡ l
sends_next l m n p ps sent rest = ap (λ x. line_with x [] ps) sent ∙ line_more m [] (p ∷ []) [] ps ∙ rest

-- DEEDS

pub units_on : (u : ℕ) (ds es : List Deed) → unit_after_deeds u (ds ++ es) ≡ unit_after_deeds (unit_after_deeds u ds) es
units_on u [] es = refl
units_on u (d ∷ ds) es = units_on (unit_after_deed u d) ds es

pub does_on : {P : Type 0} (does : P → Deed → P → List Sent → Type 0) (s t v : P) (ds es : List Deed) (a b : List Sent)
    → DoesAll does s ds t a → DoesAll does t es v b → DoesAll does s (ds ++ es) v (a ++ b)
does_on does s t v [] es a b h k =
    subst (λ x. DoesAll does s es v (x ++ b)) (sym h.1) (subst (λ x. DoesAll does x es v b) h.0 k)
does_on does s t v (d ∷ ds) es a b h k =
    let rest = does_on does h.0 t v ds es h.2 b h.4 k in
    (h.0, h.1, h.2 ++ b, h.3, rest, ap (λ x. x ++ b) h.5 ∙ append_assoc h.1 h.2 b)

pub does_one : {P : Type 0} (does : P → Deed → P → List Sent → Type 0) (s t : P) (d : Deed) (a : List Sent) → Does does s d t a → DoesAll does s (d ∷ []) t a
does_one does s t d a h = (t, a, [], h, (refl, refl), sym (append-nil a))

-- SERVICE

-- nothing
pub serves_none : {P : Type 0} (does : P → Deed → P → List Sent → Type 0) (unit : P → ℕ) (s : P) (l : LineOf) → Serves does unit [] [] s l s l
serves_none does unit s l = record { sent = []; done = (refl, refl); counted = refl; line = sym (line_none l) }

-- one deed
pub serves_one : {P : Type 0} (does : P → Deed → P → List Sent → Type 0) (unit : P → ℕ) (s t : P) (d : Deed) (a : List Sent) (l m : LineOf) → Does does s d t a → unit t ≡ unit_after_deed (unit s) d
    → m ≡ line_with l [] a → Serves does unit [] (d ∷ []) s l t m
serves_one does unit s t d a l m h counted line = record { sent = a; done = does_one does s t d a h; counted = counted; line = line }

-- deeds after deeds
pub serves_on : {P : Type 0} (does : P → Deed → P → List Sent → Type 0) (unit : P → ℕ) (s t v : P) (l m n : LineOf) (cs more : List LineCall) (ds es : List Deed)
    → Serves does unit cs ds s l t m → Serves does unit more es t m v n → Serves does unit (cs ++ more) (ds ++ es) s l v n
serves_on does unit s t v l m n cs more ds es h k = record {
  sent = h.sent ++ k.sent;
  done = does_on does s t v ds es h.sent k.sent h.done k.done;
  counted = k.counted ∙ ap (λ u. unit_after_deeds u es) h.counted ∙ sym (units_on (unit s) ds es);
  line = k.line ∙ ap (λ x. line_with x more k.sent) h.line ∙ line_more l cs h.sent more k.sent;
}

plus_one : (n : ℕ) → n + 1 ≡ suc n
plus_one n = omega arith

-- turns, and one more
turns_more : (n : ℕ) → turns (n + 1) ≡ turns n ++ Deed.Turns ∷ []
turns_more zero = refl
turns_more (suc n) = ap turns (plus_one (suc n)) ∙ ap (λ k. Deed.Turns ∷ turns k) (sym (plus_one n)) ∙ ap (λ ds. Deed.Turns ∷ ds) (turns_more n)

pub serves_turn : {P : Type 0} (does : P → Deed → P → List Sent → Type 0) (unit : P → ℕ) (s t v : P) (l m n : LineOf) (made : ℕ)
    → Serves does unit [] (turns made) s l t m → Serves does unit [] (Deed.Turns ∷ []) t m v n → Serves does unit [] (turns (made + 1)) s l v n
serves_turn does unit s t v l m n made h k =
    subst (λ ds. Serves does unit [] ds s l v n) (sym (turns_more made)) (serves_on does unit s t v l m n [] [] (turns made) (Deed.Turns ∷ []) h k)

-- a packet that is timely
pub serves_timely : {P : Type 0} {E : Type 0} (does : P → Deed → P → List Sent → Type 0) (unit : P → ℕ) (s t : P) (p : Sent) (l m : LineOf) (r : Result (Prim.Unit {0}) E) → unit s - p.date ≤ 8
    → OnOk r (Serves does unit [] (Deed.Receives p ∷ []) s l t m) → OnOk r (Serves does unit [] (deed_with (unit s) p ∷ []) s l t m)
serves_timely does unit s t p l m r timely h = rw (le-leb (unit s - p.date) 8 timely) h

-- a packet for which the process went on
pub serves_for : {P : Type 0} {E : Type 0} (does : P → Deed → P → List Sent → Type 0) (unit : P → ℕ) (s t v : P) (l m n : LineOf) (p : Sent) (r : Result (Prim.Unit {0}) E) → p.date ≤ unit s + 2 ^ 20
    → Serves does unit [] (deeds_to (unit s) p.date) s l t m → OnOk r (Serves does unit [] (deed_with (unit t) p ∷ []) t m v n) → OnOk r (Serves does unit [] (deeds_for (unit s) p) s l v n)
serves_for does unit s t v l m n p (Err e) near h k = tt
serves_for does unit s t v l m n p (Ok done) near h k =
    rw (le-leb p.date (unit s + 2 ^ 20) near)
    (subst (λ u. Serves does unit [] (deeds_to (unit s) p.date ++ deed_with u p ∷ []) s l v n) h.counted
    (serves_on does unit s t v l m n [] [] (deeds_to (unit s) p.date) (deed_with (unit t) p ∷ []) h k))

-- packets, and one more
all_more : (u : ℕ) (ps : List Sent) (p : Sent) → deeds_for_all u (ps ++ p ∷ []) ≡ deeds_for_all u ps ++ deeds_for (unit_after_deeds u (deeds_for_all u ps)) p
all_more u [] p = append-nil (deeds_for u p)
all_more u (q ∷ ps) p =
    let v = unit_after_deeds u (deeds_for u q) in
    ap (λ ds. deeds_for u q ++ ds) (all_more v ps p ∙ ap (λ w. deeds_for_all v ps ++ deeds_for w p) (sym (units_on u (deeds_for u q) (deeds_for_all v ps))))
    ∙ sym (append_assoc (deeds_for u q) (deeds_for_all v ps) (deeds_for (unit_after_deeds u (deeds_for_all u (q ∷ ps))) p))

-- THE PACKETS OF A ROUND

-- A process has taken this number of packets in a round.
pub record TakesSome {P : Type 0} (does : P → Deed → P → List Sent → Type 0) (unit : P → ℕ) (made : ℕ) (s : P) (before : LineOf) (t : P) (after : LineOf) : Type 0 where
  pub came : List Sent
  pub many : length came ≡ made
  pub serves : Serves does unit (map (λ p. LineCall.Takes p) came) (deeds_for_all (unit s) came) s before t after

pub takes_none : {P : Type 0} (does : P → Deed → P → List Sent → Type 0) (unit : P → ℕ) (s : P) (l : LineOf) → TakesSome does unit 0 s l s l
takes_none does unit s l = record { came = []; many = refl; serves = serves_none does unit s l }

-- one more, and the deeds for it
pub takes_packet : {P : Type 0} (does : P → Deed → P → List Sent → Type 0) (unit : P → ℕ) (made : ℕ) (s t v : P) (l m m' n : LineOf) (p : Sent)
    → TakesSome does unit made s l t m → m' ≡ line_with m (LineCall.Takes p ∷ []) [] → Serves does unit [] (deeds_for (unit t) p) t m' v n
    → TakesSome does unit (made + 1) s l v n
takes_packet does unit made s t v l m m' n p h come k =
    let here : Serves does unit (LineCall.Takes p ∷ []) (deeds_for (unit t) p) t m v n = record {
      sent = k.sent;
      done = k.done;
      counted = k.counted;
      line = k.line ∙ ap (λ x. line_with x [] k.sent) come ∙ line_more m (LineCall.Takes p ∷ []) [] [] k.sent;
    } in
    record {
      came = h.came ++ p ∷ [];
      many = length-append h.came (p ∷ []) ∙ ap (λ n. n + 1) h.many;
      serves = subst (λ cs. Serves does unit cs (deeds_for_all (unit s) (h.came ++ p ∷ [])) s l v n) (sym (map-append (λ p. LineCall.Takes p) h.came (p ∷ [])))
          (subst (λ ds. Serves does unit (map (λ p. LineCall.Takes p) h.came ++ LineCall.Takes p ∷ []) ds s l v n)
          (ap (λ u. deeds_for_all (unit s) h.came ++ deeds_for u p) h.serves.counted ∙ sym (all_more (unit s) h.came p))
          (serves_on does unit s t v l m n (map (λ p. LineCall.Takes p) h.came) (LineCall.Takes p ∷ []) (deeds_for_all (unit s) h.came) (deeds_for (unit t) p) h.serves here));
    }

-- none is left
pub takes_fewer : {P : Type 0} (does : P → Deed → P → List Sent → Type 0) (unit : P → ℕ) (made : ℕ) (s t : P) (l m n : LineOf)
    → TakesSome does unit made s l t m → made < 1024 → n ≡ line_with m (LineCall.FindsNone ∷ []) [] → ServesCome does unit taking (deeds_for_all (unit s)) s l t n
takes_fewer does unit made s t l m n h fewer none =
    let short : length h.came < 1024 = subst (λ n. n < 1024) (sym h.many) fewer in
    let calls : List LineCall = map (λ p. LineCall.Takes p) h.came in
    record {
      came = h.came;
      most = omega (arith, short);
      serves = rw (lt-leb 1024 (length h.came) short) (record {
        sent = h.serves.sent;
        done = h.serves.done;
        counted = h.serves.counted;
        line = none ∙ ap (λ x. line_with x (LineCall.FindsNone ∷ []) []) h.serves.line ∙ line_more l calls h.serves.sent (LineCall.FindsNone ∷ []) []
            ∙ ap (λ ps. line_with l (calls ++ LineCall.FindsNone ∷ []) ps) (append-nil h.serves.sent);
      });
    }

-- all that a round may take
pub takes_most : {P : Type 0} (does : P → Deed → P → List Sent → Type 0) (unit : P → ℕ) (made : ℕ) (s t : P) (l m : LineOf)
    → TakesSome does unit made s l t m → made ≡ 1024 → ServesCome does unit taking (deeds_for_all (unit s)) s l t m
takes_most does unit made s t l m h all =
    let calls : List LineCall = map (λ p. LineCall.Takes p) h.came in
    let most : length h.came ≡ 1024 = h.many ∙ all in
    record {
      came = h.came;
      most = omega (arith, most);
      serves = rw (le-leb 1024 (length h.came) (omega (arith, most)))
          (subst (λ cs. Serves does unit cs (deeds_for_all (unit s) h.came) s l t m) (sym (append-nil calls)) h.serves);
    }

-- A ROUND

-- a round begins
pub serves_begun : {P : Type 0} (does : P → Deed → P → List Sent → Type 0) (unit : P → ℕ) (s t : P) (ds : List Deed) (l m n : LineOf)
    → Serves does unit [] ds s l t m → n ≡ line_with m (LineCall.Begins (unit t) ∷ []) [] → Serves does unit (LineCall.Begins (unit_after_deeds (unit s) ds) ∷ []) ds s l t n
serves_begun does unit s t ds l m n h begun = record {
  sent = h.sent;
  done = h.done;
  counted = h.counted;
  line = begun ∙ ap (λ x. line_with x (LineCall.Begins (unit t) ∷ []) []) h.line ∙ line_more l [] h.sent (LineCall.Begins (unit t) ∷ []) []
      ∙ ap (λ ps. line_with l (LineCall.Begins (unit t) ∷ []) ps) (append-nil h.sent) ∙ ap (λ u. line_with l (LineCall.Begins u ∷ []) h.sent) h.counted;
}

pub serves_round : {P : Type 0} {E : Type 0} (does : P → Deed → P → List Sent → Type 0) (unit : P → ℕ) (s t v : P) (l m n : LineOf) (shown : ℕ) (r : Result (Prim.Unit {0}) E)
    → Serves does unit (LineCall.Begins (unit_after_deeds (unit s) (deeds_to (unit s) shown)) ∷ []) (deeds_to (unit s) shown) s l t m
    → OnOk r (ServesCome does unit taking (deeds_for_all (unit t)) t m v n)
    → OnOk r (ServesCome does unit (λ came. round_calls (unit s) (record { shown = shown; came = came })) (λ came. round_deeds (unit s) (record { shown = shown; came = came })) s l v n)
serves_round does unit s t v l m n shown (Err e) h k = tt
serves_round does unit s t v l m n shown (Ok done) h k =
    let begins : List LineCall = LineCall.Begins (unit_after_deeds (unit s) (deeds_to (unit s) shown)) ∷ [] in
    record {
      came = k.came;
      most = k.most;
      serves = subst (λ u. Serves does unit (begins ++ taking k.came) (deeds_to (unit s) shown ++ deeds_for_all u k.came) s l v n) h.counted
          (serves_on does unit s t v l m n begins (taking k.came) (deeds_to (unit s) shown) (deeds_for_all (unit t) k.came) h k.serves);
    }

-- rounds, and one more
rounds_more : (u : ℕ) (rs : List RoundOf) (r : RoundOf) → rounds_deeds u (rs ++ r ∷ []) ≡ rounds_deeds u rs ++ round_deeds (unit_after_deeds u (rounds_deeds u rs)) r
rounds_more u [] r = append-nil (round_deeds u r)
rounds_more u (q ∷ rs) r =
    let v = unit_after_deeds u (round_deeds u q) in
    ap (λ ds. round_deeds u q ++ ds) (rounds_more v rs r ∙ ap (λ w. rounds_deeds v rs ++ round_deeds w r) (sym (units_on u (round_deeds u q) (rounds_deeds v rs))))
    ∙ sym (append_assoc (round_deeds u q) (rounds_deeds v rs) (round_deeds (unit_after_deeds u (rounds_deeds u (q ∷ rs))) r))

calls_more : (u : ℕ) (rs : List RoundOf) (r : RoundOf) → rounds_calls u (rs ++ r ∷ []) ≡ rounds_calls u rs ++ round_calls (unit_after_deeds u (rounds_deeds u rs)) r
calls_more u [] r = append-nil (round_calls u r)
calls_more u (q ∷ rs) r =
    let v = unit_after_deeds u (round_deeds u q) in
    ap (λ cs. round_calls u q ++ cs) (calls_more v rs r ∙ ap (λ w. rounds_calls v rs ++ round_calls w r) (sym (units_on u (round_deeds u q) (rounds_deeds v rs))))
    ∙ sym (append_assoc (round_calls u q) (rounds_calls v rs) (round_calls (unit_after_deeds u (rounds_deeds u (q ∷ rs))) r))

are_more : (rs : List RoundOf) (r : RoundOf) → AllByRecursion IsRound rs → IsRound r → AllByRecursion IsRound (rs ++ r ∷ [])
are_more [] r h is = (is, tt)
are_more (q ∷ rs) r (first, rest) is = (first, are_more rs r rest is)

pub rounds_none : {P : Type 0} (does : P → Deed → P → List Sent → Type 0) (unit : P → ℕ) (s : P) (a : AroundOf) → ServesRounds does unit s a s a
rounds_none does unit s a = record { rounds = []; are = tt; shown = sym (known_none a.shown); serves = serves_none does unit s a.line }

pub rounds_on : {P : Type 0} (does : P → Deed → P → List Sent → Type 0) (unit : P → ℕ) (s t v : P) (a b c : AroundOf) (shown : ℕ)
    → ServesRounds does unit s a t b
    → ServesCome does unit (λ came. round_calls (unit t) (record { shown = shown; came = came })) (λ came. round_deeds (unit t) (record { shown = shown; came = came })) t b.line v c.line
    → c.shown ≡ shows b.shown (shown ∷ []) → ServesRounds does unit s a v c
rounds_on does unit s t v a b c shown h k clock =
    let r : RoundOf = record { shown = shown; came = k.came } in
    record {
      rounds = h.rounds ++ r ∷ [];
      are = are_more h.rounds r h.are k.most;
      shown = clock ∙ ap (λ x. shows x (shown ∷ [])) h.shown ∙ known_more a.shown (map (λ q. q.shown) h.rounds) (shown ∷ [])
          ∙ ap (shows a.shown) (sym (map-append (λ (q : RoundOf). q.shown) h.rounds (r ∷ [])));
      serves = subst (λ ds. Serves does unit (rounds_calls (unit s) (h.rounds ++ r ∷ [])) ds s a.line v c.line)
          (ap (λ u. rounds_deeds (unit s) h.rounds ++ round_deeds u r) h.serves.counted ∙ sym (rounds_more (unit s) h.rounds r))
          (subst (λ cs. Serves does unit cs (rounds_deeds (unit s) h.rounds ++ round_deeds (unit t) r) s a.line v c.line)
          (ap (λ u. rounds_calls (unit s) h.rounds ++ round_calls u r) h.serves.counted ∙ sym (calls_more (unit s) h.rounds r))
          (serves_on does unit s t v a.line b.line c.line (rounds_calls (unit s) h.rounds) (round_calls (unit t) r) (rounds_deeds (unit s) h.rounds) (round_deeds (unit t) r) h.serves k.serves));
    }

-- A process that was over, or past the end, did nothing: it can't be one that goes on.
pub rests_on : {P : Type 0} {X : Type 0} (is_over : P → Bool) (unit : P → ℕ) (end : ℕ) (s t : P) → ((is_over s ≡ true) ⊎ (end ≤ unit s) → t ≡ s) → is_over t ≡ false → unit t < end
    → (is_over s ≡ true) ⊎ (end ≤ unit s) → X
rests_on is_over unit end s t rests going early (inl over) = absurd (false≢true (sym going ∙ ap is_over (rests (inl over)) ∙ over))
rests_on is_over unit end s t rests going early (inr past) =
    let same : unit t ≡ unit s = ap unit (rests (inr past)) in
    absurd (omega (arith, same, early, past))

-- FAILURE

-- a deed fails
pub stops_at : {P : Type 0} {E : Type 0} (does : P → Deed → P → List Sent → Type 0) (fails : P → Deed → P → Type 0) (d : Deed) (s t : P) (l m : LineOf) (r : Result (Prim.Unit {0}) E)
    → OnErr r (FailsAt fails d s l t m) → OnErr r (ServesUntil does fails s l t m)
stops_at does fails d s t l m (Ok done) h = tt
stops_at does fails d s t l m (Err e) h =
    record { calls = []; deeds = []; last = s; sent = []; done = (refl, refl); line = h.silent ∙ sym (line_none l); failed = d; leaves = h.leaves }

-- a deed fails after others
pub until_on : {P : Type 0} (does : P → Deed → P → List Sent → Type 0) (fails : P → Deed → P → Type 0) (unit : P → ℕ) (s t v : P) (l m n : LineOf) (cs : List LineCall) (ds : List Deed)
    → Serves does unit cs ds s l t m → ServesUntil does fails t m v n → ServesUntil does fails s l v n
until_on does fails unit s t v l m n cs ds h k = record {
  calls = cs ++ k.calls;
  deeds = ds ++ k.deeds;
  last = k.last;
  sent = h.sent ++ k.sent;
  done = does_on does s t k.last ds k.deeds h.sent k.sent h.done k.done;
  line = k.line ∙ ap (λ x. line_with x k.calls k.sent) h.line ∙ line_more l cs h.sent k.calls k.sent;
  failed = k.failed;
  leaves = k.leaves;
}

pub stops_on : {P : Type 0} {E : Type 0} (does : P → Deed → P → List Sent → Type 0) (fails : P → Deed → P → Type 0) (unit : P → ℕ) (s t v : P) (l m n : LineOf) (cs : List LineCall) (ds : List Deed) (r : Result (Prim.Unit {0}) E)
    → Serves does unit cs ds s l t m → OnErr r (ServesUntil does fails t m v n) → OnErr r (ServesUntil does fails s l v n)
stops_on does fails unit s t v l m n cs ds (Ok done) h k = tt
stops_on does fails unit s t v l m n cs ds (Err e) h k = until_on does fails unit s t v l m n cs ds h k

-- calls of the line, and no deed
pub comes : {P : Type 0} (does : P → Deed → P → List Sent → Type 0) (unit : P → ℕ) (s : P) (calls : List LineCall) (l m : LineOf) → m ≡ line_with l calls [] → Serves does unit calls [] s l s m
comes does unit s calls l m line = record { sent = []; done = (refl, refl); counted = refl; line = line }
