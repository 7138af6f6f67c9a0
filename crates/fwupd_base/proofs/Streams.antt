-- Lemmas on lines, and on pieces of a text.
use Rattle.std.proofs.Common.{IsOk, is_ok, if◌then◌else◌, ◌-◌, min, get_or, OnErr, IfErr, zero, suc, ◌≡◌, ◌≢◌, ◌<◌, ◌≤◌, ◌+◌, ◌∙◌, ℕ, List, [], ◌∷◌, ◌++◌, length, refl, sym, ap, subst, take, drop, append_assoc, append-nil, length-append, arith, OnOk, Result, Ok, Err, Option, Some, None}
use Rattle.std.proofs.lemmas.Bool.{eqb-true, ne_eqb}
use Rattle.std.proofs.lemmas.List.{take_more, drop_more, take_all, take-append-drop, length-drop, length-take-le}
use Rattle.std.proofs.Math.Seq.{take-add}
use Rattle.std.specs.Io.KnownBytes.{Appends, Consumes, IsAtEnd, Keeps}
use Rattle.std.proofs.KnownBytes.{Consumes-nil, Consumes-trans, Consumes-kept, Appends-nil, Appends-trans, Appends-kept}
use Rattle.memchr.specs.Find.{IsFirstByte, Nowhere, Passes, is_byte}
use Rattle.fwupd_base.specs.Lines.{lines_of, lines_with_ends, AreLines, IsOneLine}

pub IsOneLine-append : (xs ys : List ℕ) → IsOneLine xs → IsOneLine ys → IsOneLine (xs ++ ys)
IsOneLine-append [] ys h n = n
IsOneLine-append (x ∷ xs) ys h n = (h.0, IsOneLine-append xs ys h.1 n)

-- there is no line feed before the first line feed
pub IsOneLine-before : (xs : List ℕ) (n : ℕ) → Nowhere (Passes (is_byte 10) xs) 0 n → IsOneLine (take n xs)
IsOneLine-before xs zero none = tt
IsOneLine-before [] (suc n) none = tt
IsOneLine-before (x ∷ xs) (suc n) none =
    (λ is. none 0 (omega arith) (omega arith) (rw is refl), IsOneLine-before xs n (λ k low high found. none (suc k) (omega arith) (omega arith) found))

pub AreLines-push : (ls : List (List ℕ)) (l : List ℕ) → AreLines ls → IsOneLine l → AreLines (ls ++ l ∷ [])
AreLines-push [] l h n = (n, tt)
AreLines-push (x ∷ ls) l h n = (h.0, AreLines-push ls l h.1 n)

pub ended-push : (ls : List (List ℕ)) (l : List ℕ) → lines_with_ends (ls ++ l ∷ []) ≡ lines_with_ends ls ++ (l ++ 10 ∷ [])
ended-push [] l = append-nil _
ended-push (x ∷ ls) l = ap (λ t. (x ++ 10 ∷ []) ++ t) (ended-push ls l) ∙ sym (append_assoc (x ++ 10 ∷ []) (lines_with_ends ls) (l ++ 10 ∷ []))

-- a line and its line feed come first
lines_of-line : (l t : List ℕ) → IsOneLine l → lines_of ((l ++ 10 ∷ []) ++ t) ≡ l ∷ lines_of t
lines_of-line [] t h = refl
lines_of-line (b ∷ l) t h = rw (ne_eqb b 10 h.0, lines_of-line l t h.1)

pub lines_of-ended : (ls : List (List ℕ)) (t : List ℕ) → AreLines ls → lines_of (lines_with_ends ls ++ t) ≡ ls ++ lines_of t
lines_of-ended [] t h = refl
lines_of-ended (l ∷ ls) t h = rw (append_assoc (l ++ 10 ∷ []) (lines_with_ends ls) t, lines_of-line l (lines_with_ends ls ++ t) h.0, lines_of-ended ls t h.1)

-- the bytes after the last line feed are a line
pub lines_of-part : (b : ℕ) (l : List ℕ) → IsOneLine (b ∷ l) → lines_of (b ∷ l) ≡ (b ∷ l) ∷ []
lines_of-part b [] h = rw (ne_eqb b 10 h.0)
lines_of-part b (x ∷ l) h = rw (ne_eqb b 10 h.0, lines_of-part x l h.1)

pub taken : (m n : ℕ) (xs : List ℕ) → m ≤ n → take m (take n xs) ≡ take m xs
taken zero n xs le = refl
taken (suc m) zero xs le = absurd (omega arith)
taken (suc m) (suc n) [] le = refl
taken (suc m) (suc n) (x ∷ xs) le = ap (λ l. x ∷ l) (taken m n xs (omega arith))

-- the rest of a list, taken whole
pub slice_rest : (i : ℕ) (xs : List ℕ) → take (length xs - i) (drop i xs) ≡ drop i xs
slice_rest i xs = take_all (length xs - i) (drop i xs) (rw (length-drop i xs) (omega arith))

pub within_more : (i n : ℕ) (xs : List ℕ) → i ≤ length xs → n ≤ length (take (length xs - i) (drop i xs)) → i + n ≤ length xs
within_more i n xs le more = let here : n ≤ length xs - i = rw (slice_rest i xs, length-drop i xs) at more in omega (arith, here)

-- one more piece is written
pub appends_more : (a b c : Option (List ℕ)) (xs : List ℕ) (i n : ℕ) → Appends a b (take i xs) → Appends b c (take n (drop i xs)) → Appends a c (take (i + n) xs)
appends_more a b c xs i n first second = subst (Appends a c) (sym (take-add i n xs)) (Appends-trans a b c (take i xs) (take n (drop i xs)) first second)

-- the first line feed of a list, if there is one
pub line_feed : (xs : List ℕ) (n : ℕ) → Passes (is_byte 10) xs n → get_or xs n 0 ≡ 10
line_feed xs n found = eqb-true (get_or xs n 0) 10 found

pub line_taken : (text piece : List ℕ) (i n : ℕ) → n < length (drop i piece) → Passes (is_byte 10) (drop i piece) n
    → text ++ take (i + (n + 1)) piece ≡ ((text ++ take i piece) ++ take n (drop i piece)) ++ 10 ∷ []
line_taken text piece i n below found =
    let rest = drop i piece in
    let more : take (n + 1) rest ≡ take n rest ++ 10 ∷ [] = take_more rest n 0 below ∙ ap (λ b. take n rest ++ b ∷ []) (line_feed rest n found) in
    ap (λ t. text ++ t) (take-add i (n + 1) piece ∙ ap (λ t. take i piece ++ t) more)
    ∙ sym (append_assoc text (take i piece) (take n rest ++ 10 ∷ []))
    ∙ sym (append_assoc (text ++ take i piece) (take n rest) (10 ∷ []))

-- a part of a list's rest
pub span : (i n : ℕ) (xs : List ℕ) → take (i + n - i) (drop i xs) ≡ take n (drop i xs)
span i n xs = ap (λ k. take k (drop i xs)) (omega arith)

-- the byte after the first line feed of a list's rest is at most the list's end
pub found_within : (i n : ℕ) (xs : List ℕ) → i ≤ length xs → IsFirstByte (is_byte 10) (drop i xs) (Some n) → i + (n + 1) ≤ length xs
found_within i n xs within found = let below : n < length xs - i = rw (length-drop i xs) at found.0.high in omega (arith, below)

pub length_rest : (m n : ℕ) (got : List ℕ) → n ≤ length got → length (drop m (take n got)) ≡ n - m
length_rest m n got le = let size : length (take n got) ≡ n = length-take-le n got le in rw (length-drop m (take n got), size) refl

pub nonempty : (xs : List ℕ) → xs ≢ [] → 1 ≤ length xs
nonempty [] some = absurd (some refl)
nonempty (x ∷ xs) some = omega arith

-- the appended bytes, if there is room
pub joined : {T E : Type 0} (r : Result T E) (old new more : List ℕ) → IsOk r → new ≡ (if is_ok r then old ++ more else old) → new ≡ old ++ more
joined (Ok x) old new more ok is = is
joined (Err e) old new more ok is = absurd (cc)
