-- Words joined by spaces split into the same words, and their line is the first line of the text
-- that it begins.
use Rattle.std.proofs.Common.{◌≡◌, ◌∙◌, ◌<◌, ◌≤◌, ◌^◌, ◌==◌, ◌&&◌, ℕ, Bool, true, false, List, [], ◌∷◌, ◌++◌, Some, length, map, decimal, nat_lt, ap, refl, append_assoc, append-nil, arith}
use Rattle.std.specs.List.{AllByRecursion, flat_map, list_all, list_any}
use Rattle.std.specs.Str.Parse.{AllDigits}
use Rattle.std.proofs.lemmas.Bool.{and_parts, ltb-true, ne_eqb, or_from}
use Rattle.std.proofs.lemmas.Fmt.{decimal_is_IsNumeral}
use Rattle.std.proofs.lemmas.Grind.{common_steps}
use Rattle.std.proofs.lemmas.List.Elements.{All-from_recursion}
use Rattle.std.proofs.lemmas.List.Splits.{slice_split_at, slice_split_none}
use Rattle.std.proofs.lemmas.Str.Parse.{digit_from_value}
use Rattle.fw_script.specs.Lines.{fields_in, is_nothing, lines_of, words_of}
use Rattle.fw_script.specs.ScheduleTexts.{line_of, words_with_spaces}
use Rattle.fw_script.proofs.Cuts.{more_lines}

-- bytes above the space's code: neither a space nor a line feed
abbrev pub AreShown : List ℕ → Type 0
AreShown bytes = AllByRecursion (λ b. 32 < b) bytes

-- a word: one byte or more, each above the space's code
pub record IsWord (word : List ℕ) : Type 0 where
  pub some : 0 < length word
  pub shown : AreShown word

abbrev pub AreWords : List (List ℕ) → Type 0
AreWords words = AllByRecursion IsWord words

-- a literal word is a word
shown_from : (bytes : List ℕ) → list_all (λ b. nat_lt 32 b) bytes ≡ true → AreShown bytes
shown_from [] h = tt
shown_from (b ∷ bytes) h =
    let parts = and_parts (nat_lt 32 b) (list_all (λ c. nat_lt 32 c) bytes) h in
    (ltb-true 32 b parts.0, shown_from bytes parts.1)

abbrev pub is_word : List ℕ → Bool
is_word word = nat_lt 0 (length word) && list_all (λ b. nat_lt 32 b) word

pub known_word : (word : List ℕ) → is_word word ≡ true → IsWord word
known_word word h =
    let parts = and_parts (nat_lt 0 (length word)) (list_all (λ b. nat_lt 32 b) word) h in
    record { some = ltb-true 0 (length word) parts.0; shown = shown_from word parts.1 }

-- so is a decimal number
shown_digits : (digits : List ℕ) → AllDigits 10 digits → AreShown digits
shown_digits [] h = tt
shown_digits (d ∷ digits) h = (omega (arith, digit_from_value d h.0), shown_digits digits h.1)

pub number_word : (n : ℕ) → n < 2 ^ 64 → IsWord (decimal n)
number_word n small =
    let numeral = decimal_is_IsNumeral n small in
    record { some = numeral.0.0; shown = shown_digits (decimal n) numeral.0.1 }

pub number_words : (ns : List ℕ) → AllByRecursion (λ n. n < 2 ^ 64) ns → AreWords (map decimal ns)
number_words [] h = tt
number_words (n ∷ ns) h = (number_word n h.0, number_words ns h.1)

-- WORDS OF A LINE

-- a property of all bytes of two texts holds for the joined text
all_append : (P : ℕ → Type 0) (xs ys : List ℕ) → AllByRecursion P xs → AllByRecursion P ys → AllByRecursion P (xs ++ ys)
all_append P [] ys h k = k
all_append P (x ∷ xs) ys h k = (h.0, all_append P xs ys h.1 k)

-- no byte above the space's code equals `c`
none_is : (c : ℕ) (bytes : List ℕ) → c ≤ 32 → AreShown bytes → AllByRecursion (λ b. (b == c) ≡ false) bytes
none_is c [] low h = tt
none_is c (b ∷ bytes) low h = let past = h.0 in (ne_eqb b c (λ e. omega arith), none_is c bytes low h.1)

pub words_spaced : (word : List ℕ) (words : List (List ℕ)) → AreWords (word ∷ words) → words_of (words_with_spaces (word ∷ words)) ≡ word ∷ words
unfolding words_with_spaces
words_spaced word [] h =
    ap words_of (append-nil word) ∙ slice_split_none (λ b. b == 32) word (All-from_recursion _ word (none_is 32 word (omega arith) h.0.shown))
words_spaced word (next ∷ words) h =
    slice_split_at (λ b. b == 32) word 32 (next ++ flat_map (λ w. 32 ∷ w) words) (All-from_recursion _ word (none_is 32 word (omega arith) h.0.shown)) refl
    ∙ ap (λ ws. word ∷ ws) (words_spaced next words h.1)

-- THE LINE

-- words contain no line feed
whole_words : (words : List (List ℕ)) → AreWords words → AllByRecursion (λ b. (b == 10) ≡ false) (flat_map (λ w. 32 ∷ w) words)
whole_words [] h = tt
whole_words (word ∷ words) h =
    (refl, all_append (λ b. (b == 10) ≡ false) word (flat_map (λ w. 32 ∷ w) words) (none_is 10 word (omega arith) h.0.shown) (whole_words words h.1))

whole_line : (words : List (List ℕ)) → AreWords words → AllByRecursion (λ b. (b == 10) ≡ false) (words_with_spaces words)
unfolding words_with_spaces
whole_line [] h = tt
whole_line (word ∷ words) h =
    all_append (λ b. (b == 10) ≡ false) word (flat_map (λ w. 32 ∷ w) words) (none_is 10 word (omega arith) h.0.shown) (whole_words words h.1)

pub first_of_lines : (words : List (List ℕ)) (rest : List ℕ) → AreWords words → lines_of (line_of words ++ rest) ≡ words_with_spaces words ∷ lines_of rest
first_of_lines words rest h =
    ap lines_of (append_assoc (words_with_spaces words) (10 ∷ []) rest)
    ∙ more_lines (words_with_spaces words ++ 10 ∷ rest) (words_with_spaces words) rest
    (slice_split_at (λ b. b == 10) (words_with_spaces words) 10 rest (All-from_recursion _ (words_with_spaces words) (whole_line words h)) refl)

-- FIELDS

none_empty : (words : List (List ℕ)) → AreWords words → list_any is_nothing words ≡ false
none_empty [] h = refl
none_empty (word ∷ words) h =
    let some : 0 < length word = h.0.some in
    or_from (is_nothing word) (list_any is_nothing words) (ne_eqb (length word) 0 (λ e. omega arith)) (none_empty words h.1)

pub all_fields : (most : ℕ) (words : List (List ℕ)) → length words ≤ most → AreWords words → fields_in most words ≡ Some words
all_fields most words few h =
    let none = none_empty words h in
    grind (arith, common_steps)
