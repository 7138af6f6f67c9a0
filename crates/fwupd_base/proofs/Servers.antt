-- Lemmas on lines that a server serves, and on the served part of a text.
use Rattle.std.proofs.Common.{◌-◌, min, inl, inr, ◌≡◌, ◌≢◌, ◌≤◌, ◌+◌, ◌∙◌, ℕ, List, [], ◌∷◌, ◌++◌, length, refl, sym, ap, subst, take, drop, append_assoc, append-nil, length-append, arith, IfErr, IsOk, OnErr, OnOk, Result, Ok, Err, Bool, true, Option, Some, None}
use Rattle.std.proofs.lemmas.List.{drop_more, take_all, take-append-drop, length-take-le}
use Rattle.std.specs.Io.KnownBytes.{Appends, Consumes, IsAtEnd, Keeps}
use Rattle.std.proofs.KnownBytes.{Consumes-nil, Consumes-trans, Consumes-kept, Appends-nil, Appends-trans, Appends-kept}
use Rattle.memchr.specs.Find.{IsFirstByte, is_byte}
use Rattle.fwupd_base.specs.Lines.{lines_with_ends, IsOneLine}
use Rattle.fwupd_base.specs.Serving.{BreaksOffLine, BreaksOffText, HasServedLines, ServeErr, ServeOk, ServesLines, ServesPart, ServesText, ServeWriteErr, StopsAtLine, WritesLine}
use Rattle.fwupd_base.specs.Stream.{IsAtLineEnd}
use Rattle.fwupd_base.specs.declared.stream.AnswerFault.{AnswerFault}
use Rattle.fwupd_base.specs.declared.stream.AnswerFault.TheVariants.{Read}
use Rattle.fwupd_base.proofs.Streams.{AreLines-push, IsOneLine-append, IsOneLine-before, ended-push, length_rest, line_feed, line_taken, lines_of-ended, lines_of-part, nonempty, taken}

-- what holds whatever a result is
pub on_ok : {T E : Type 0} (r : Result T E) (P : Type 0) → P → OnOk r P
on_ok (Ok x) P p = p
on_ok (Err x) P p = tt

pub if_err : {T E : Type 0} (r : Result T E) (P : E → Type 0) → ((e : E) → P e) → IfErr r P
if_err (Ok x) P p = tt
if_err (Err x) P p = p x

pub never_err : {T E : Type 0} (r : Result T E) (P : Type 0) → IsOk r → OnErr r P
never_err (Ok x) P ok = tt
never_err (Err x) P ok = absurd (cc)

pub map_ok : {T E : Type 0} (r : Result T E) (P Q : Type 0) → (P → Q) → OnOk r P → OnOk r Q
map_ok (Ok x) P Q f p = f p
map_ok (Err x) P Q f p = tt

pub map_err : {T E : Type 0} (r : Result T E) (P Q R : E → Type 0) → ((e : E) → P e → Q e → R e) → IfErr r P → IfErr r Q → IfErr r R
map_err (Ok x) P Q R f p q = tt
map_err (Err x) P Q R f p q = f x p q

-- one more line is served after the others
serves-push : {S : Type 0} (f : S → List ℕ → S → List ℕ → Type 0) (s t u : S) (ls : List (List ℕ)) (l p q : List ℕ)
    → ServesLines f s ls t p → f t l u q → ServesLines f s (ls ++ l ∷ []) u (p ++ q)
serves-push f s t u [] l p q h k = (u, q, [], subst (λ x. f x l u q) h.0 k, (refl, refl), (rw h.1 (sym (append-nil q))))
serves-push f s t u (x ∷ ls) l p q h k =
    (h.0, h.1, h.2 ++ q, h.3, serves-push f h.0 t u ls l h.2 q h.4 k, ap (λ y. y ++ q) h.5 ∙ append_assoc h.1 h.2 q)

-- nothing is read yet
pub stands_start : {S : Type 0} (f : S → List ℕ → S → List ℕ → Type 0) (s : S) (w : Option (List ℕ)) → HasServedLines f s s [] w w []
stands_start f s w = record { lines = []; each = tt; one = tt; is = refl; printed = []; served = (refl, refl); written = Appends-nil w }

-- more of a line
pub stands_part : {S : Type 0} (f : S → List ℕ → S → List ℕ → Type 0) (s t : S) (text : List ℕ) (a w : Option (List ℕ)) (part more : List ℕ) → HasServedLines f s t text a w part → IsOneLine more
    → HasServedLines f s t (text ++ more) a w (part ++ more)
stands_part f s t text a w part more h one = record {
  lines = h.lines;
  each = h.each;
  one = IsOneLine-append part more h.one one;
  is = rw h.is (append_assoc (lines_with_ends h.lines) part more);
  printed = h.printed;
  served = h.served;
  written = h.written;
}

-- a line ends, and is served
pub stands_line : {S : Type 0} (f : S → List ℕ → S → List ℕ → Type 0) (s t u : S) (text : List ℕ) (a w v : Option (List ℕ)) (part : List ℕ) → HasServedLines f s t text a w part → WritesLine f t part u w v
    → HasServedLines f s u (text ++ 10 ∷ []) a v []
stands_line f s t u text a w v part h k = record {
  lines = h.lines ++ part ∷ [];
  each = AreLines-push h.lines part h.each h.one;
  one = tt;
  is = rw h.is (append_assoc (lines_with_ends h.lines) part (10 ∷ []) ∙ sym (ended-push h.lines part) ∙ sym (append-nil (lines_with_ends (h.lines ++ part ∷ []))));
  printed = h.printed ++ k.text;
  served = serves-push f s t u h.lines part h.printed k.text h.served k.served;
  written = Appends-trans a w v h.printed k.text h.written k.written;
}

-- a write of what a line prints fell short
pub broken_line : {S : Type 0} (f : S → List ℕ → S → List ℕ → Type 0) (s t u : S) (text rest : List ℕ) (a w v : Option (List ℕ)) (part : List ℕ) → HasServedLines f s t text a w part → BreaksOffLine f t part u w v → IsAtLineEnd rest
    → BreaksOffText f s u (text ++ rest) a v
broken_line f s t u text rest a w v part h k whole = record {
  lines = h.lines;
  each = h.each;
  rest = part ++ rest;
  is = rw h.is (append_assoc (lines_with_ends h.lines) part rest);
  mid = t;
  printed = h.printed;
  served = h.served;
  off = inr (record {
    line = part;
    one = h.one;
    rest = rest;
    whole = whole;
    is = refl;
    last = k.text;
    next = k.served;
    count = k.count;
    written = Appends-trans a w v h.printed (take k.count k.text) h.written k.written;
  });
}

-- memory for a line was refused
pub stopped_line : {S : Type 0} (f : S → List ℕ → S → List ℕ → Type 0) (s t : S) (text rest : List ℕ) (a w v : Option (List ℕ)) (part : List ℕ) → HasServedLines f s t text a w part → Keeps w v
    → StopsAtLine f s (text ++ rest) a v
stopped_line f s t text rest a w v part h kept = record {
  lines = h.lines;
  each = h.each;
  rest = part ++ rest;
  is = rw h.is (append_assoc (lines_with_ends h.lines) part rest);
  after = t;
  printed = h.printed;
  served = h.served;
  written = Appends-kept a w v h.printed h.written kept;
}

-- a piece ends a line at its first line feed after a place
pub piece_line : {S : Type 0} (f : S → List ℕ → S → List ℕ → Type 0) (s t u : S) (text piece : List ℕ) (i n : ℕ) (a w v : Option (List ℕ)) (part : List ℕ) → HasServedLines f s t (text ++ take i piece) a w part
    → IsFirstByte (is_byte 10) (drop i piece) (Some n)
    → WritesLine f t (part ++ take n (drop i piece)) u w v → HasServedLines f s u (text ++ take (i + (n + 1)) piece) a v []
piece_line f s t u text piece i n a w v part h found wrote =
    let more = take n (drop i piece) in
    let line = stands_part f s t (text ++ take i piece) a w part more h (IsOneLine-before (drop i piece) n found.0.before) in
    subst (λ x. HasServedLines f s u x a v []) (sym (line_taken text piece i n found.0.high found.1))
    (stands_line f s t u ((text ++ take i piece) ++ more) a w v (part ++ more) line wrote)

whole_piece : (text piece : List ℕ) (i n : ℕ) → ((text ++ take i piece) ++ take n (drop i piece)) ++ drop n (drop i piece) ≡ text ++ piece
whole_piece text piece i n =
    append_assoc (text ++ take i piece) (take n (drop i piece)) (drop n (drop i piece)) ∙ ap (λ x. (text ++ take i piece) ++ x) (take-append-drop n (drop i piece))
    ∙ append_assoc text (take i piece) (drop i piece) ∙ ap (λ x. text ++ x) (take-append-drop i piece)

pub piece_broken : {S : Type 0} (f : S → List ℕ → S → List ℕ → Type 0) (s t u : S) (text piece : List ℕ) (i n : ℕ) (a w v : Option (List ℕ)) (part : List ℕ) → HasServedLines f s t (text ++ take i piece) a w part
    → IsFirstByte (is_byte 10) (drop i piece) (Some n)
    → BreaksOffLine f t (part ++ take n (drop i piece)) u w v → BreaksOffText f s u (text ++ piece) a v
piece_broken f s t u text piece i n a w v part h found began =
    let rest = drop i piece in
    let more = take n rest in
    let line = stands_part f s t (text ++ take i piece) a w part more h (IsOneLine-before rest n found.0.before) in
    subst (λ x. BreaksOffText f s u x a v) (whole_piece text piece i n)
    (broken_line f s t u ((text ++ take i piece) ++ more) (drop n rest) a w v (part ++ more) line began (subst IsAtLineEnd (sym (drop_more rest n 0 found.0.high)) (line_feed rest n found.1)))

pub piece_stopped : {S : Type 0} (f : S → List ℕ → S → List ℕ → Type 0) (s t : S) (text piece : List ℕ) (i : ℕ) (a w v : Option (List ℕ)) (part : List ℕ) → HasServedLines f s t (text ++ take i piece) a w part
    → Keeps w v → StopsAtLine f s (text ++ piece) a v
piece_stopped f s t text piece i a w v part h kept =
    subst (λ x. StopsAtLine f s x a v) (append_assoc text (take i piece) (drop i piece) ∙ ap (λ x. text ++ x) (take-append-drop i piece))
    (stopped_line f s t (text ++ take i piece) (drop i piece) a w v part h kept)

-- the bytes after the last line feed of a piece
pub piece_part : {S : Type 0} (f : S → List ℕ → S → List ℕ → Type 0) (s t : S) (text piece : List ℕ) (i : ℕ) (a w : Option (List ℕ)) (part : List ℕ) → HasServedLines f s t (text ++ take i piece) a w part
    → IsFirstByte (is_byte 10) (drop i piece) None → HasServedLines f s t (text ++ piece) a w (part ++ drop i piece)
piece_part f s t text piece i a w part h none =
    let one = subst IsOneLine (take_all (length (drop i piece)) (drop i piece) (omega arith)) (IsOneLine-before (drop i piece) (length (drop i piece)) none) in
    subst (λ x. HasServedLines f s t x a w (part ++ drop i piece)) (append_assoc text (take i piece) (drop i piece) ∙ ap (λ x. text ++ x) (take-append-drop i piece))
    (stands_part f s t (text ++ take i piece) a w part (drop i piece) h one)

-- there are no bytes after the last line feed
pub finish_empty : {S : Type 0} (f : S → List ℕ → S → List ℕ → Type 0) (s t : S) (text : List ℕ) (a w : Option (List ℕ)) (part : List ℕ) → HasServedLines f s t text a w part → length part ≡ 0 → ServesText f s t text a w
finish_empty f s t text a w [] h none =
    subst (λ x. ServesText f s t x a w) (sym h.is)
    (record { printed = h.printed; served = subst (λ ls. ServesLines f s ls t h.printed) (sym (lines_of-ended h.lines [] h.each ∙ append-nil h.lines)) h.served; written = h.written })
finish_empty f s t text a w (x ∷ part) h none = absurd (omega arith)

-- the bytes after it are served
pub finish_line : {S : Type 0} (f : S → List ℕ → S → List ℕ → Type 0) (s t u : S) (text : List ℕ) (a w v z : Option (List ℕ)) (part : List ℕ) → HasServedLines f s t text a w part → length part ≢ 0 → WritesLine f t part u w v → Keeps v z
    → ServesText f s u text a z
finish_line f s t u text a w v z [] h some wrote kept = absurd (some refl)
finish_line f s t u text a w v z (x ∷ part) h some wrote kept =
    subst (λ y. ServesText f s u y a z) (sym h.is)
    (record {
      printed = h.printed ++ wrote.text;
      served = subst (λ ls. ServesLines f s ls u (h.printed ++ wrote.text)) (sym (lines_of-ended h.lines (x ∷ part) h.each ∙ ap (λ ps. h.lines ++ ps) (lines_of-part x part h.one)))
          (serves-push f s t u h.lines (x ∷ part) h.printed wrote.text h.served wrote.served);
      written = Appends-kept a v z (h.printed ++ wrote.text) (Appends-trans a w v h.printed wrote.text h.written wrote.written) kept;
    })

-- a failed write at the end
pub finish_broken : {S : Type 0} (f : S → List ℕ → S → List ℕ → Type 0) (s t u : S) (text : List ℕ) (a w v : Option (List ℕ)) (part : List ℕ) → HasServedLines f s t text a w part → BreaksOffLine f t part u w v → BreaksOffText f s u text a v
finish_broken f s t u text a w v part h k = subst (λ x. BreaksOffText f s u x a v) (append-nil text) (broken_line f s t u text [] a w v part h k tt)

-- it is written and not flushed
pub finish_unflushed : {S : Type 0} (f : S → List ℕ → S → List ℕ → Type 0) (s t u : S) (text : List ℕ) (a w v z : Option (List ℕ)) (part : List ℕ) → HasServedLines f s t text a w part → WritesLine f t part u w v → Keeps v z → BreaksOffText f s u text a z
finish_unflushed f s t u text a w v z part h wrote kept =
    finish_broken f s t u text a w z part h (record {
      text = wrote.text;
      served = wrote.served;
      count = length wrote.text;
      written = subst (Appends w z) (sym (take_all (length wrote.text) wrote.text (omega arith))) (Appends-kept w v z wrote.text wrote.written kept);
    })

pub finish_stopped : {S : Type 0} (f : S → List ℕ → S → List ℕ → Type 0) (s t : S) (text : List ℕ) (a w v : Option (List ℕ)) (part : List ℕ) → HasServedLines f s t text a w part → Keeps w v → StopsAtLine f s text a v
finish_stopped f s t text a w v part h kept = subst (λ x. StopsAtLine f s x a v) (append-nil text) (stopped_line f s t text [] a w v part h kept)

-- a flush changes nothing
pub stands_kept : {S : Type 0} (f : S → List ℕ → S → List ℕ → Type 0) (s t : S) (text : List ℕ) (a w v : Option (List ℕ)) (part : List ℕ) → HasServedLines f s t text a w part → Keeps w v → HasServedLines f s t text a v part
stands_kept f s t text a w v part h kept = record {
  lines = h.lines;
  each = h.each;
  one = h.one;
  is = h.is;
  printed = h.printed;
  served = h.served;
  written = Appends-kept a w v h.printed h.written kept;
}

-- all lines are written and not flushed
pub unflushed : {S : Type 0} (f : S → List ℕ → S → List ℕ → Type 0) (s t : S) (text : List ℕ) (a w v : Option (List ℕ)) (part : List ℕ) → HasServedLines f s t text a w part → Keeps w v → BreaksOffText f s t text a v
unflushed f s t text a w v part h kept = record {
  lines = h.lines;
  each = h.each;
  rest = part;
  is = h.is;
  mid = t;
  printed = h.printed;
  served = h.served;
  off = inl (h.one, refl, Appends-kept a w v h.printed h.written kept);
}

pub reads_start : {S : Type 0} (f : S → List ℕ → S → List ℕ → Type 0) (m : ℕ) (s : S) (a w : Option (List ℕ)) → ServesPart f m s s 0 a a w w []
reads_start f m s a w = record { text = []; past = []; within = omega arith; limit = λ n. absurd (n refl); size = refl; read = Consumes-nil a; stands = stands_start f s w }

-- within the limit there is no byte past it
none_past : (text past : List ℕ) (count m : ℕ) → (past ≢ [] → (length past ≡ 1) × (length text ≡ m)) → length text + length past ≡ count → count ≤ m → past ≡ []
none_past text [] count m limit size within = refl
none_past text (x ∷ past) count m limit size within = let both = limit (λ e. absurd (cc)) in let h = both.1 in absurd (omega arith)

read_text : {S : Type 0} (f : S → List ℕ → S → List ℕ → Type 0) (m : ℕ) (s t : S) (count : ℕ) (a b c w v : Option (List ℕ)) (part more : List ℕ) (r : ServesPart f m s t count a b w v part) → count ≤ m → Consumes b c more → Consumes a c (r.text ++ more)
read_text f m s t count a b c w v part more r within read =
    let none : r.text ++ r.past ≡ r.text = ap (λ p. r.text ++ p) (none_past r.text r.past count m r.limit r.size within) ∙ append-nil r.text in
    subst (λ p. Consumes a c (p ++ more)) none (Consumes-trans a b c (r.text ++ r.past) more r.read read)

-- a run that stops before a read, or whose reader fails
pub stopped_within : {S : Type 0} (f : S → List ℕ → S → List ℕ → Type 0) (m : ℕ) (s t : S) (count : ℕ) (a b c w v : Option (List ℕ)) (part : List ℕ) (fault : AnswerFault) (lacks : Bool) → ServesPart f m s t count a b w v part → count ≤ m → Keeps b c → ServeErr f lacks m s t fault a c w v
stopped_within f m s t count a b c w v part fault lacks r within kept = record {
  lines = r.stands.lines;
  each = r.stands.each;
  rest = part;
  past = [];
  within = subst (λ x. length x ≤ m) r.stands.is r.within;
  most = omega arith;
  limit = λ n. absurd (n refl);
  read = subst (λ x. Consumes a c (x ++ [])) r.stands.is (read_text f m s t count a b c w v part [] r within (Consumes-kept b b c [] (Consumes-nil b) kept));
  mid = t;
  printed = r.stands.printed;
  served = r.stands.served;
  written = r.stands.written;
  all = λ _. (r.stands.one, refl, λ n. absurd (n refl));
}

past_most : (past text : List ℕ) (m : ℕ) → (past ≢ [] → (length past ≡ 1) × (length text ≡ m)) → length past ≤ 1
past_most [] text m limit = omega arith
past_most (x ∷ past) text m limit = let both = limit (λ e. absurd (cc)) in let h = both.0 in omega arith

pub stopped_past : {S : Type 0} (f : S → List ℕ → S → List ℕ → Type 0) (m : ℕ) (s t : S) (count : ℕ) (a b w v : Option (List ℕ)) (part : List ℕ) (lacks : Bool) → ServesPart f m s t count a b w v part → ServeErr f lacks m s t Read a b w v
stopped_past f m s t count a b w v part lacks r = record {
  lines = r.stands.lines;
  each = r.stands.each;
  rest = part;
  past = r.past;
  within = subst (λ x. length x ≤ m) r.stands.is r.within;
  most = past_most r.past r.text m r.limit;
  limit = λ n. subst (λ x. length x ≡ m) r.stands.is (r.limit n).1;
  read = subst (λ x. Consumes a b (x ++ r.past)) r.stands.is r.read;
  mid = t;
  printed = r.stands.printed;
  served = r.stands.served;
  written = r.stands.written;
  all = λ _. (r.stands.one, refl, λ _. refl);
}

-- a flush before a read changes nothing
pub part_kept : {S : Type 0} (f : S → List ℕ → S → List ℕ → Type 0) (m : ℕ) (s t : S) (count : ℕ) (a b w v z : Option (List ℕ)) (part : List ℕ) → ServesPart f m s t count a b w v part → Keeps v z → ServesPart f m s t count a b w z part
part_kept f m s t count a b w v z part r kept = record {
  text = r.text;
  past = r.past;
  within = r.within;
  limit = r.limit;
  size = r.size;
  read = r.read;
  stands = stands_kept f s t r.text w v z part r.stands kept;
}

-- a flush between two reads failed
pub part_broken : {S : Type 0} (f : S → List ℕ → S → List ℕ → Type 0) (m : ℕ) (s t : S) (count : ℕ) (a b w v z : Option (List ℕ)) (part : List ℕ) → ServesPart f m s t count a b w v part → Keeps v z → ServeWriteErr f m s t a b w z
part_broken f m s t count a b w v z part r kept = record {
  text = r.text;
  past = r.past;
  within = r.within;
  most = past_most r.past r.text m r.limit;
  read = r.read;
  off = unflushed f s t r.text w v z part r.stands kept;
}

-- a reader at its end gave all bytes that were read
pub finished : {S : Type 0} (f : S → List ℕ → S → List ℕ → Type 0) (m : ℕ) (s t u : S) (count : ℕ) (a b c w v z : Option (List ℕ)) (part : List ℕ) (r : ServesPart f m s t count a b w v part) → count ≤ m → Consumes b c [] → IsAtEnd c
    → ServesText f s u r.text w z → ServeOk f m s u a c w z
finished f m s t u count a b c w v z part r within read end h = record {
  text = r.text;
  most = r.within;
  read = subst (Consumes a c) (append-nil r.text) (read_text f m s t count a b c w v part [] r within read);
  end = end;
  served = h;
}

pub end_broken : {S : Type 0} (f : S → List ℕ → S → List ℕ → Type 0) (m : ℕ) (s t u : S) (count : ℕ) (a b c w v z : Option (List ℕ)) (part : List ℕ) (r : ServesPart f m s t count a b w v part) → count ≤ m → Consumes b c []
    → BreaksOffText f s u r.text w z → ServeWriteErr f m s u a c w z
end_broken f m s t u count a b c w v z part r within read h =
    record { text = r.text; past = []; within = r.within; most = omega arith; read = read_text f m s t count a b c w v part [] r within read; off = h }

-- a run that stops at a line, whose memory was refused
stopped_at : {S : Type 0} (f : S → List ℕ → S → List ℕ → Type 0) (m : ℕ) (s t : S) (fault : AnswerFault) (lacks : Bool) (text past : List ℕ) (a c w z : Option (List ℕ)) → fault ≢ Read → lacks ≡ true → length text ≤ m → length past ≤ 1 → (past ≢ [] → length text ≡ m)
    → Consumes a c (text ++ past) → StopsAtLine f s text w z → ServeErr f lacks m s t fault a c w z
stopped_at f m s t fault lacks text past a c w z not lack within most limit read h = record {
  lines = h.lines;
  each = h.each;
  rest = h.rest;
  past = past;
  within = subst (λ x. length x ≤ m) h.is within;
  most = most;
  limit = λ n. subst (λ x. length x ≡ m) h.is (limit n);
  read = subst (λ x. Consumes a c (x ++ past)) h.is read;
  mid = h.after;
  printed = h.printed;
  served = h.served;
  written = h.written;
  all = λ e. elim e [ inl is ↦ absurd (not is) | inr never ↦ absurd (cc) ];
}

pub end_stopped : {S : Type 0} (f : S → List ℕ → S → List ℕ → Type 0) (m : ℕ) (s t u : S) (count : ℕ) (a b c w v z : Option (List ℕ)) (part : List ℕ) (fault : AnswerFault) (lacks : Bool) (r : ServesPart f m s t count a b w v part) → fault ≢ Read → lacks ≡ true → count ≤ m → Consumes b c []
    → StopsAtLine f s r.text w z → ServeErr f lacks m s u fault a c w z
end_stopped f m s t u count a b c w v z part fault lacks r not lack within read h =
    stopped_at f m s u fault lacks r.text [] a c w z not lack r.within (omega arith) (λ n. absurd (n refl)) (read_text f m s t count a b c w v part [] r within read) h

-- `n` bytes were read, of which `k` are within the limit
read_on : {S : Type 0} (f : S → List ℕ → S → List ℕ → Type 0) (m : ℕ) (s t : S) (count : ℕ) (a b c w v : Option (List ℕ)) (part got : List ℕ) (n k : ℕ) (r : ServesPart f m s t count a b w v part) → count ≤ m → Consumes b c (take n got) → k ≤ n
    → Consumes a c ((r.text ++ take k got) ++ drop k (take n got))
read_on f m s t count a b c w v part got n k r within read le =
    let parted : take n got ≡ take k got ++ drop k (take n got) = sym (take-append-drop k (take n got)) ∙ ap (λ x. x ++ drop k (take n got)) (taken k n got le) in
    subst (Consumes a c) (sym (append_assoc r.text (take k got) (drop k (take n got))))
    (subst (λ x. Consumes a c (r.text ++ x)) parted (read_text f m s t count a b c w v part (take n got) r within read))

-- the bytes of a turn: those within the limit, and the byte past it
pub record TurnSizes (m n k : ℕ) (text got : List ℕ) (count : ℕ) : Type 0 where
  pub within : length (text ++ take k got) ≤ m
  pub most : length (drop k (take n got)) ≤ 1
  pub limit : drop k (take n got) ≢ [] → (length (drop k (take n got)) ≡ 1) × (length (text ++ take k got) ≡ m)
  pub size : length (text ++ take k got) + length (drop k (take n got)) ≡ count + n

pub turn_sizes : (m n k : ℕ) (text past got : List ℕ) (count : ℕ) → (past ≢ [] → (length past ≡ 1) × (length text ≡ m)) → length text + length past ≡ count → count ≤ m
    → n + count ≤ m + 1 → k ≡ min n (m - count) → n ≤ length got → TurnSizes m n k text got count
turn_sizes m n k text past got count limit size within most is room =
    let none = ap length (none_past text past count m limit size within) in
    let rest = length_rest k n got room in
    let first : length (take k got) ≡ k = length-take-le k got (omega (arith, is)) in
    let joined : length (text ++ take k got) ≡ length text + length (take k got) = length-append text (take k got) in
    record {
      within = omega (arith, is, joined, first, size, none);
      most = omega (arith, rest, is);
      limit = λ some. (let more = nonempty (drop k (take n got)) some in (omega (arith, more, rest, is), omega (arith, more, rest, is, joined, first, size, none)));
      size = omega (arith, rest, is, joined, first, size, none);
    }

-- a turn ends: `n` more bytes were read and are served
pub reads_more : {S : Type 0} (f : S → List ℕ → S → List ℕ → Type 0) (m : ℕ) (s t u : S) (count : ℕ) (a b c w v z : Option (List ℕ)) (part after got : List ℕ) (n k : ℕ) (r : ServesPart f m s t count a b w v part) → count ≤ m → Consumes b c (take n got)
    → n + count ≤ m + 1 → k ≡ min n (m - count) → n ≤ length got → HasServedLines f s u (r.text ++ take k got) w z after → ServesPart f m s u (count + n) a c w z after
reads_more f m s t u count a b c w v z part after got n k r within read most is room stands =
    let sizes = turn_sizes m n k r.text r.past got count r.limit r.size within most is room in
    record {
      text = r.text ++ take k got;
      past = drop k (take n got);
      within = sizes.within;
      limit = sizes.limit;
      size = sizes.size;
      read = read_on f m s t count a b c w v part got n k r within read (omega (arith, is));
      stands = stands;
    }

-- a write failed in a turn
pub turn_broken : {S : Type 0} (f : S → List ℕ → S → List ℕ → Type 0) (m : ℕ) (s t u : S) (count : ℕ) (a b c w v z : Option (List ℕ)) (part got : List ℕ) (n k : ℕ) (r : ServesPart f m s t count a b w v part) → count ≤ m → Consumes b c (take n got)
    → n + count ≤ m + 1 → k ≡ min n (m - count) → n ≤ length got → BreaksOffText f s u (r.text ++ take k got) w z → ServeWriteErr f m s u a c w z
turn_broken f m s t u count a b c w v z part got n k r within read most is room off =
    let sizes = turn_sizes m n k r.text r.past got count r.limit r.size within most is room in
    record {
      text = r.text ++ take k got;
      past = drop k (take n got);
      within = sizes.within;
      most = sizes.most;
      read = read_on f m s t count a b c w v part got n k r within read (omega (arith, is));
      off = off;
    }

-- memory was refused in a turn
pub turn_stopped : {S : Type 0} (f : S → List ℕ → S → List ℕ → Type 0) (m : ℕ) (s t u : S) (count : ℕ) (a b c w v z : Option (List ℕ)) (part got : List ℕ) (n k : ℕ) (fault : AnswerFault) (lacks : Bool) (r : ServesPart f m s t count a b w v part) → fault ≢ Read → lacks ≡ true → count ≤ m
    → Consumes b c (take n got) → n + count ≤ m + 1 → k ≡ min n (m - count) → n ≤ length got → StopsAtLine f s (r.text ++ take k got) w z → ServeErr f lacks m s u fault a c w z
turn_stopped f m s t u count a b c w v z part got n k fault lacks r not lack within read most is room h =
    let sizes = turn_sizes m n k r.text r.past got count r.limit r.size within most is room in
    stopped_at f m s u fault lacks (r.text ++ take k got) (drop k (take n got)) a c w z not lack sizes.within sizes.most (λ some. (sizes.limit some).1)
    (read_on f m s t count a b c w v part got n k r within read (omega (arith, is))) h
