-- An encoded list of images reads back.
use Rattle.std.proofs.Common.{◌≡◌, ◌∙◌, ◌<◌, ◌≤◌, ◌^◌, ◌-◌, ◌/◌, ◌%◌, ◌==◌, ◌++◌, take, ℕ, zero, suc, Bool, true, false, List, [], ◌∷◌, Ok, Option, Some, None, codes, decimal, if◌then◌else◌, length, length-append, slice_index, append_assoc, append-nil, ap, refl, sym, subst, arith}
use Rattle.std.specs.Char.{is_ascii_digit}
use Rattle.std.specs.Int.{from_be_bytes, w32}
use Rattle.std.specs.List.{AllByRecursion, list_all}
use Rattle.std.specs.Str.{bytes_eq}
use Rattle.std.specs.Str.Parse.{AllDigits}
use Rattle.std.proofs.Math.Seq.{take-append_seam}
use Rattle.std.proofs.lemmas.Bool.{and_parts, and_right, eq-eqb, eqb-true, le-leb, ne_eqb}
use Rattle.std.proofs.lemmas.Bool.Decides.{nat_tests}
use Rattle.std.proofs.lemmas.Fmt.{decimal_is_IsNumeral}
use Rattle.std.proofs.lemmas.Grind.{common_steps}
use Rattle.std.proofs.lemmas.Str.Parse.{digit_from_value}
use Rattle.hex.proofs.HexLemmas.{IsDigits-upper_digits, decode_of-encode_upper, decode_sized-twice, length-encode_with}
use Rattle.hex.specs.Hex.{IsBytes, decode_sized, encode_upper, encode_with, hex_digit_value, upper_digits}
use Rattle.fw_package.specs.Crc.{crc_of}
use Rattle.fw_text.specs.Printing.{data_text, in_eight, word_and_number}
use Rattle.fd_core.specs.Images.{LabelOf}
use Rattle.fwup_wire.specs.declared.values.Key.{Key}
use Rattle.fw_store.specs.Active.{ImageEntryOf, IsImageEntry, NothingElseIsRead, WhatIsWrittenIsRead, active_text, lines_with_checksum, lines_in, lines_text, checksum_at, checksum_in, data_in, digits_in, entries_from, entry_at, if_written, image_name, key_at, label_at, label_text, line_of, name_at, number_at, number_in}
use Rattle.fw_store.specs.Keeping.{IsKey}
use Rattle.fw_store.proofs.Fields.{HasNone, field_back}
use Rattle.fw_store.proofs.EachLine.{mapped_id, read_more, with_front}

-- DIGITS

-- bytes after the stops
abbrev AreDigits : List ℕ → Type 0
AreDigits bytes = AllByRecursion (λ b. 46 < b) bytes

pub none_of : (stop : ℕ) (bytes : List ℕ) → stop ≤ 46 → AreDigits bytes → HasNone stop bytes
none_of stop [] low are = tt
none_of stop (b ∷ bytes) low are = let past = are.0 in (ne_eqb b stop (λ e. omega arith), none_of stop bytes low are.1)

are_digits : (digits : List ℕ) → AllDigits 10 digits → AreDigits digits
are_digits [] h = tt
are_digits (d ∷ digits) h = (omega (arith, digit_from_value d h.0), are_digits digits h.1)

digits_pass : (digits : List ℕ) → AllDigits 10 digits → list_all is_ascii_digit digits ≡ true
digits_pass [] h = refl
digits_pass (d ∷ digits) h =
    let within = digit_from_value d h.0 in
    let here : is_ascii_digit d ≡ true = grind (arith, common_steps) in
    let rest = digits_pass digits h.1 in
    grind (arith, common_steps)

number_in_back : (most n : ℕ) → n ≤ most → n < 2 ^ 64 → number_in most (decimal n) ≡ Some n
unfolding number_in
number_in_back most n high small =
    let numeral = decimal_is_IsNumeral n small in
    rw (digits_pass (decimal n) numeral.0.1, numeral.1, le-leb n most high) refl

pub number_back : (stop most n : ℕ) (rest : List ℕ) → stop ≤ 46 → n ≤ most → n < 2 ^ 64 → number_at stop most (decimal n ++ stop ∷ rest) ≡ Some (n, rest)
unfolding number_at
number_back stop most n rest low high small =
    rw (field_back stop (decimal n) rest (none_of stop (decimal n) low (are_digits (decimal n) (decimal_is_IsNumeral n small).0.1)), number_in_back most n high small) refl

pub key_back : (first second : ℕ) (key : Key) (rest : List ℕ) → first ≤ 46 → second ≤ 46 → IsKey key
    → key_at first second (decimal key.classification ++ first ∷ (decimal key.identifier ++ second ∷ rest)) ≡ Some (key, rest)
unfolding key_at
key_back first second key rest low lower h =
    let class = h.class in
    let ident = h.ident in
    rw (
      number_back first 0xFFFF key.classification (decimal key.identifier ++ second ∷ rest) low (omega arith) (omega arith),
      number_back second 0xFFFF key.identifier rest lower (omega arith) (omega arith),
    ) refl

pub name_back : (key : Key) (n : ℕ) (rest : List ℕ) → IsKey key → n < 2 ^ 32
    → name_at (decimal key.classification ++ 45 ∷ (decimal key.identifier ++ 46 ∷ (decimal n ++ 46 ∷ rest))) ≡ Some ((key, n), rest)
unfolding name_at
name_back key n rest h small =
    rw (key_back 45 46 key (decimal n ++ 46 ∷ rest) (omega arith) (omega arith) h, number_back 46 0xFFFFFFFF n rest (omega arith) (omega arith) (omega arith)) refl

-- BYTES IN DIGITS

digit_past : (c d : ℕ) → hex_digit_value c ≡ Some d → 46 < c
digit_past c d h = grind (arith, nat_tests)

past_digit : (d : ℕ) → d < 16 → 46 < slice_index upper_digits d
past_digit d small = digit_past (slice_index upper_digits d) d (IsDigits-upper_digits d small)

pub encoded : (bytes : List ℕ) → IsBytes bytes → AreDigits (encode_upper bytes)
unfolding encode_with
encoded [] h = tt
encoded (b ∷ bytes) h =
    let byte : b < 256 = h 0 in
    (past_digit (b / 16) (omega arith), (past_digit (b % 16) (omega arith), encoded bytes (λ i. h (suc i))))

none_in_data : (bytes : List ℕ) → IsBytes bytes → HasNone 32 (data_text bytes)
none_in_data [] h = (refl, tt)
none_in_data (b ∷ bytes) h = none_of 32 (encode_upper (b ∷ bytes)) (omega arith) (encoded (b ∷ bytes) h)

no_dash : (b : ℕ) (bytes : List ℕ) → bytes_eq (encode_upper (b ∷ bytes)) (codes "-") ≡ false
unfolding encode_with
no_dash b bytes = and_right _ _ refl

pub sized : (bytes : List ℕ) → IsBytes bytes → decode_sized (encode_upper bytes) (length bytes) ≡ Ok bytes
sized bytes h = decode_sized-twice (encode_upper bytes) (length bytes) (length-encode_with upper_digits bytes) ∙ decode_of-encode_upper bytes h

half : (bytes : List ℕ) → length (encode_upper bytes) / 2 ≡ length bytes
half bytes = omega (arith, length-encode_with upper_digits bytes)

data_back : (bytes : List ℕ) → IsBytes bytes → length bytes ≤ 12 → data_in (data_text bytes) ≡ Some bytes
unfolding data_in
data_back [] h short = refl
data_back (b ∷ bytes) h short =
    rw (no_dash b bytes, le-leb (length (encode_upper (b ∷ bytes))) 24 (omega (arith, length-encode_with upper_digits (b ∷ bytes))))
    (ap digits_in (ap (decode_sized (encode_upper (b ∷ bytes))) (half (b ∷ bytes)) ∙ sized (b ∷ bytes) h))

label_back : (label : LabelOf) (rest : List ℕ) → label.stamp < 2 ^ 32 → label.text_type < 2 ^ 8 → IsBytes label.text → length label.text ≤ 12
    → label_at (decimal label.stamp ++ 32 ∷ (decimal label.text_type ++ 32 ∷ (data_text label.text ++ 32 ∷ rest))) ≡ Some (label, rest)
unfolding label_at
label_back label rest stamp kind bytes short =
    rw (
      number_back 32 0xFFFFFFFF label.stamp (decimal label.text_type ++ 32 ∷ (data_text label.text ++ 32 ∷ rest)) (omega arith) (omega arith) (omega arith),
      number_back 32 0xFF label.text_type (data_text label.text ++ 32 ∷ rest) (omega arith) (omega arith) (omega arith),
      field_back 32 (data_text label.text) rest (none_in_data label.text bytes),
      data_back label.text bytes short,
    ) refl

-- the bytes of a number of four, the high one first
abbrev four : ℕ → List ℕ
four n = n / 16777216 ∷ n / 65536 % 256 ∷ n / 256 % 256 ∷ n % 256 ∷ []

are_bytes : (n : ℕ) → n < 2 ^ 32 → IsBytes (four n)
are_bytes n small zero = omega arith
are_bytes n small (suc zero) = omega arith
are_bytes n small (suc (suc zero)) = omega arith
are_bytes n small (suc (suc (suc zero))) = omega arith
are_bytes n small (suc (suc (suc (suc i)))) = omega arith

four_back : (n : ℕ) → n < 2 ^ 32 → from_be_bytes w32 (four n) ≡ n
four_back n small = omega arith

checksum_back : (n : ℕ) (rest : List ℕ) → n < 2 ^ 32 → checksum_at (encode_upper (four n) ++ 10 ∷ rest) ≡ Some (n, rest)
unfolding checksum_at checksum_in
checksum_back n rest small =
    rw (field_back 10 (encode_upper (four n)) rest (none_of 10 (encode_upper (four n)) (omega arith) (encoded (four n) (are_bytes n small))), sized (four n) (are_bytes n small), four_back n small) refl

-- A LINE

-- the text after a line's first word
abbrev behind_name : ImageEntryOf → List ℕ → List ℕ
behind_name e rest = codes "image" ++ 32 ∷ (decimal e.size ++ 32 ∷ (encode_upper (four e.checksum) ++ 10 ∷ rest))

abbrev behind_label : ImageEntryOf → List ℕ → List ℕ
behind_label e rest = decimal e.key.classification ++ 45 ∷ (decimal e.key.identifier ++ 46 ∷ (decimal e.number ++ 46 ∷ behind_name e rest))

abbrev behind_key : ImageEntryOf → List ℕ → List ℕ
behind_key e rest = decimal e.label.stamp ++ 32 ∷ (decimal e.label.text_type ++ 32 ∷ (data_text e.label.text ++ 32 ∷ behind_label e rest))

abbrev apart : ImageEntryOf → List ℕ → List ℕ
apart e rest = decimal e.key.classification ++ 32 ∷ (decimal e.key.identifier ++ 32 ∷ behind_key e rest)

pub four_apart : (a b c d rest : List ℕ) → (a ++ b ++ c ++ d) ++ rest ≡ a ++ (b ++ (c ++ (d ++ rest)))
four_apart a b c d rest = append_assoc (a ++ b ++ c) d rest ∙ append_assoc (a ++ b) c (d ++ rest) ∙ append_assoc a b (c ++ (d ++ rest))

eight_apart : (a b c d x y z w rest : List ℕ) → (a ++ b ++ c ++ d ++ x ++ y ++ z ++ w) ++ rest ≡ a ++ (b ++ (c ++ (d ++ (x ++ (y ++ (z ++ (w ++ rest)))))))
eight_apart a b c d x y z w rest =
    four_apart (a ++ b ++ c ++ d ++ x) y z w rest
    ∙ append_assoc (a ++ b ++ c ++ d) x (y ++ (z ++ (w ++ rest)))
    ∙ four_apart a b c d (x ++ (y ++ (z ++ (w ++ rest))))

pub name_apart : (key : Key) (n : ℕ) (rest : List ℕ)
    → image_name key n ++ rest ≡ decimal key.classification ++ 45 ∷ (decimal key.identifier ++ 46 ∷ (decimal n ++ 46 ∷ (codes "image" ++ rest)))
unfolding image_name word_and_number
name_apart key n rest = four_apart (decimal key.classification) (45 ∷ decimal key.identifier) (46 ∷ decimal n) (codes ".image") rest

label_apart : (label : LabelOf) (rest : List ℕ) → label_text label ++ rest ≡ 32 ∷ (decimal label.stamp ++ 32 ∷ (decimal label.text_type ++ 32 ∷ (data_text label.text ++ rest)))
unfolding label_text word_and_number
label_apart label rest = four_apart (32 ∷ decimal label.stamp) (32 ∷ decimal label.text_type) (codes " ") (data_text label.text) rest

line_apart : (e : ImageEntryOf) (rest : List ℕ) → line_of e ++ rest ≡ apart e rest
unfolding line_of word_and_number in_eight
line_apart e rest =
    eight_apart (decimal e.key.classification) (32 ∷ decimal e.key.identifier) (label_text e.label) (codes " ") (image_name e.key e.number) (32 ∷ decimal e.size)
    (32 ∷ encode_upper (four e.checksum)) (codes "\n") rest
    ∙ ap (λ t. decimal e.key.classification ++ 32 ∷ (decimal e.key.identifier ++ (label_text e.label ++ 32 ∷ t)))
    (name_apart e.key e.number (32 ∷ (decimal e.size ++ 32 ∷ (encode_upper (four e.checksum) ++ 10 ∷ rest))))
    ∙ ap (λ t. decimal e.key.classification ++ 32 ∷ (decimal e.key.identifier ++ t)) (label_apart e.label (32 ∷ behind_label e rest))

apart_back : (e : ImageEntryOf) (rest : List ℕ) → IsImageEntry e → entry_at (apart e rest) ≡ Some (e, rest)
unfolding entry_at
apart_back e rest h =
    let key : IsKey e.key = record { class = h.class; ident = h.ident } in
    let size = h.size in
    rw (
      key_back 32 32 e.key (behind_key e rest) (omega arith) (omega arith) key,
      label_back e.label (behind_label e rest) h.stamp h.kind h.text h.short,
      name_back e.key e.number (behind_name e rest) key h.number,
      field_back 32 (codes "image") (decimal e.size ++ 32 ∷ (encode_upper (four e.checksum) ++ 10 ∷ rest)) (refl, (refl, (refl, (refl, (refl, tt))))),
      number_back 32 0xFFFFFFFF e.size (encode_upper (four e.checksum) ++ 10 ∷ rest) (omega arith) (omega arith) (omega arith),
      checksum_back e.checksum rest h.checksum,
    ) refl

pub entry_back : (e : ImageEntryOf) (rest : List ℕ) → IsImageEntry e → entry_at (line_of e ++ rest) ≡ Some (e, rest)
entry_back e rest h = ap entry_at (line_apart e rest) ∙ apart_back e rest h

-- ALL LINES

pub some_text : (xs ys : List ℕ) (b : ℕ) → 0 < length (xs ++ b ∷ ys)
some_text xs ys b = omega (arith, length-append xs (b ∷ ys))

some_line : (e : ImageEntryOf) → 0 < length (line_of e)
some_line e =
    subst (λ (t : List ℕ). 0 < length t) (sym (sym (append-nil (line_of e)) ∙ line_apart e []))
    (some_text (decimal e.key.classification) (decimal e.key.identifier ++ 32 ∷ behind_key e []) 32)

entries_back : (es : List ImageEntryOf) (most : ℕ) → AllByRecursion IsImageEntry es → length (lines_text es) ≤ most → entries_from most (lines_text es) ≡ Some es
entries_back [] zero are enough = refl
entries_back [] (suc most) are enough = refl
entries_back (e ∷ es) zero are enough = let some = some_line e in absurd (omega (arith, length-append (line_of e) (lines_text es)))
entries_back (e ∷ es) (suc most) are enough =
    let some = some_line e in
    let longer = length-append (line_of e) (lines_text es) in
    sym (mapped_id (entries_from (suc most) (line_of e ++ lines_text es)))
    ∙ read_more most [] (line_of e ++ lines_text es) e (lines_text es) (omega arith) (entry_back e (lines_text es) are.0)
    ∙ ap (λ o. with_front (e ∷ []) o) (entries_back es most are.1 (omega arith))

-- the lines before the last one
pub front_back : (lines : List ℕ) → lines_in (lines_with_checksum lines) ≡ lines
unfolding lines_with_checksum in_eight
front_back lines =
    let end : List ℕ = encode_upper (four (crc_of lines)) ++ codes "\n" in
    let whole : lines ++ encode_upper (four (crc_of lines)) ++ codes "\n" ≡ lines ++ end = append_assoc lines (encode_upper (four (crc_of lines))) (codes "\n") in
    let long : length end ≡ 9 = omega (arith, length-append (encode_upper (four (crc_of lines))) (codes "\n"), length-encode_with upper_digits (four (crc_of lines))) in
    let front : length (lines ++ end) - 9 ≡ length lines = omega (arith, length-append lines end) in
    ap lines_in whole ∙ ap (λ n. take n (lines ++ end)) front ∙ take-append_seam lines end

pub bytes_same : (xs : List ℕ) → bytes_eq xs xs ≡ true
bytes_same [] = refl
bytes_same (x ∷ xs) = rw (eq-eqb x x refl, bytes_same xs) refl

pub bytes_equal : (xs ys : List ℕ) → bytes_eq xs ys ≡ true → xs ≡ ys
bytes_equal [] [] same = refl
bytes_equal [] (y ∷ ys) same = absurd (cc)
bytes_equal (x ∷ xs) [] same = absurd (cc)
bytes_equal (x ∷ xs) (y ∷ ys) same =
    let parts = and_parts (x == y) (bytes_eq xs ys) same in
    ap (λ z. z ∷ xs) (eqb-true x y parts.0) ∙ ap (λ zs. y ∷ zs) (bytes_equal xs ys parts.1)

pub written_is_read : WhatIsWrittenIsRead
written_is_read es are =
    ap (λ lines. if_written (active_text es) (entries_from (length lines) lines)) (front_back (lines_text es))
    ∙ ap (λ o. if_written (active_text es) o) (entries_back es (length (lines_text es)) are (omega arith))
    ∙ rw (bytes_same (active_text es)) refl

the_same : (xs es : List ImageEntryOf) → Some xs ≡ Some es → xs ≡ es
the_same xs es is = cc

if_same : (b : Bool) (text : List ℕ) (xs es : List ImageEntryOf) → bytes_eq (active_text xs) text ≡ b → (if b then Some xs else None) ≡ Some es → text ≡ active_text es
if_same true text xs es same is = sym (bytes_equal (active_text xs) text same) ∙ ap active_text (the_same xs es is)
if_same false text xs es same is = absurd (cc)

only_written : (text : List ℕ) (o : Option (List ImageEntryOf)) (es : List ImageEntryOf) → if_written text o ≡ Some es → text ≡ active_text es
only_written text None es is = absurd (cc)
only_written text (Some xs) es is = if_same (bytes_eq (active_text xs) text) text xs es refl is

pub nothing_else : NothingElseIsRead
nothing_else text es is = only_written text (entries_from (length (lines_in text)) (lines_in text)) es is
