-- The text `active`: the active image of each component, and its file.
use Rattle.std.specs.Prelude.{ℕ, zero, suc, [], ◌∷◌, ◌++◌, ◌+◌, ◌-◌, ◌/◌, ◌<◌, ◌≤◌, ◌≡◌, ◌^◌, ◌&&◌, ◌==◌, List, None, Option, Result, Ok, Err, Some, codes, drop, if◌then◌else◌, length, nat_le, max, option_map, option_and_then, take}
use Rattle.std.specs.Char.{is_ascii_digit}
use Rattle.std.specs.Int.{from_be_bytes, w32}
use Rattle.std.specs.List.{AllByRecursion, flat_map, list_all, position}
use Rattle.std.specs.Str.{bytes_eq}
use Rattle.std.specs.Str.Parse.{digits_value}
use Rattle.hex.specs.Hex.{IsBytes, decode_sized}
use Rattle.hex.specs.declared.error.FromHexError.{FromHexError}
use Rattle.fw_package.specs.Crc.{crc_of}
use Rattle.fw_text.specs.Printing.{data_text, in_eight, word_and_number}
use Rattle.fd_core.specs.Images.{LabelOf}
use Rattle.fwup_wire.specs.declared.values.Key.{Key}

-- an image that is kept in a file: its component, its label, the number in its file's name, and the
-- size and the CRC-32 of its bytes
pub record ImageEntryOf : Type 0 where
  pub key : Key
  pub label : LabelOf
  pub number : ℕ
  pub size : ℕ
  pub checksum : ℕ

-- THE TEXT

-- the name of an image's file: `CLASS-IDENT.NUMBER.image`
unfoldable pub image_name : Key → ℕ → List ℕ
image_name key number = word_and_number (codes "") key.classification ++ word_and_number (codes "-") key.identifier ++ word_and_number (codes ".") number ++ codes ".image"

-- a label's stamp, its text type and its text in digits
unfoldable pub label_text : LabelOf → List ℕ
label_text label = word_and_number (codes " ") label.stamp ++ word_and_number (codes " ") label.text_type ++ codes " " ++ data_text label.text

-- an image's line: class, ident, stamp, text type, text in digits, the name of its file, size,
-- CRC-32
unfoldable pub line_of : ImageEntryOf → List ℕ
line_of e =
    word_and_number (codes "") e.key.classification ++ word_and_number (codes " ") e.key.identifier ++ label_text e.label ++ codes " " ++ image_name e.key e.number
    ++ word_and_number (codes " ") e.size ++ in_eight (codes " ") e.checksum ++ codes "\n"

abbrev pub lines_text : List ImageEntryOf → List ℕ
lines_text es = flat_map line_of es

-- lines, and the line of their CRC-32 after them
unfoldable pub lines_with_checksum : List ℕ → List ℕ
lines_with_checksum lines = lines ++ in_eight (codes "") (crc_of lines) ++ codes "\n"

abbrev pub active_text : List ImageEntryOf → List ℕ
active_text es = lines_with_checksum (lines_text es)

-- the number after the greatest one of the lines, counted from `next` at least
abbrev pub number_from : (next : ℕ) → List ImageEntryOf → ℕ
number_from next [] = next
number_from next (e ∷ es) = number_from (max next (e.number + 1)) es

-- the number of the next files: the first one is 1
abbrev pub next_number : List ImageEntryOf → ℕ
next_number es = number_from 1 es

-- ITS READING

-- the bytes before the first `stop` byte, and those after it
unfoldable pub field_at : (stop : ℕ) → List ℕ → Option (List ℕ × List ℕ)
field_at stop text = option_map (λ i. (take i text, drop (i + 1) text)) (position (λ b. b == stop) text)

-- a decimal number of at most `most`
unfoldable pub number_in : (most : ℕ) → List ℕ → Option ℕ
number_in most word = if list_all is_ascii_digit word && nat_le (digits_value 10 word) most then Some (digits_value 10 word) else None

unfoldable pub number_at : (stop most : ℕ) → List ℕ → Option (ℕ × List ℕ)
number_at stop most text = option_and_then (λ f. option_map (λ n. (n, f.1)) (number_in most f.0)) (field_at stop text)

-- two numbers of two bytes
unfoldable pub key_at : (first second : ℕ) → List ℕ → Option (Key × List ℕ)
key_at first second text =
    option_and_then (λ class. option_map (λ ident. (record { classification = class.0; identifier = ident.0 }, ident.1)) (number_at second 0xFFFF class.1))
    (number_at first 0xFFFF text)

-- a file's name up to the word `image`
unfoldable pub name_at : List ℕ → Option ((Key × ℕ) × List ℕ)
name_at text =
    option_and_then (λ key. option_map (λ number. ((key.0, number.0), number.1)) (number_at 46 0xFFFFFFFF key.1))
    (key_at 45 46 text)

abbrev pub digits_in : Result (List ℕ) FromHexError → Option (List ℕ)
digits_in (Ok bytes) = Some bytes
digits_in (Err fault) = None

-- a label's text, of at most twelve bytes
unfoldable pub data_in : List ℕ → Option (List ℕ)
data_in word = if bytes_eq word (codes "-") then Some [] else if nat_le (length word) 24 then digits_in (decode_sized word (length word / 2)) else None

unfoldable pub label_at : List ℕ → Option (LabelOf × List ℕ)
label_at text =
    option_and_then (λ stamp.
    option_and_then (λ kind.
    option_and_then (λ f.
    option_map (λ bytes. (record { stamp = stamp.0; text_type = kind.0; text = bytes }, f.1)) (data_in f.0))
    (field_at 32 kind.1))
    (number_at 32 0xFF stamp.1))
    (number_at 32 0xFFFFFFFF text)

abbrev pub four_bytes : Result (List ℕ) FromHexError → Option ℕ
four_bytes (Ok bytes) = Some (from_be_bytes w32 bytes)
four_bytes (Err fault) = None

-- a checksum in eight digits
unfoldable pub checksum_in : List ℕ → Option ℕ
checksum_in word = four_bytes (decode_sized word 4)

unfoldable pub checksum_at : List ℕ → Option (ℕ × List ℕ)
checksum_at text = option_and_then (λ f. option_map (λ n. (n, f.1)) (checksum_in f.0)) (field_at 10 text)

-- the image of a line
unfoldable pub entry_at : List ℕ → Option (ImageEntryOf × List ℕ)
entry_at text =
    option_and_then (λ key.
    option_and_then (λ label.
    option_and_then (λ name.
    option_and_then (λ word.
    option_and_then (λ size.
    option_map (λ sum. (record { key = key.0; label = label.0; number = name.0.1; size = size.0; checksum = sum.0 }, sum.1)) (checksum_at size.1))
    (number_at 32 0xFFFFFFFF word.1))
    (field_at 32 name.1))
    (name_at label.1))
    (label_at key.1))
    (key_at 32 32 text)

abbrev pub entries_after : (List ℕ → Option (List ImageEntryOf)) → Option (ImageEntryOf × List ℕ) → Option (List ImageEntryOf)
entries_after more None = None
entries_after more (Some first) = option_map (λ es. first.0 ∷ es) (more first.1)

-- the images of at most `most` lines, and no more text
abbrev pub entries_from : (most : ℕ) → List ℕ → Option (List ImageEntryOf)
entries_from most [] = Some []
entries_from zero (b ∷ text) = None
entries_from (suc most) (b ∷ text) = entries_after (λ rest. entries_from most rest) (entry_at (b ∷ text))

-- the images whose text is the given one
abbrev pub if_written : List ℕ → Option (List ImageEntryOf) → Option (List ImageEntryOf)
if_written text None = None
if_written text (Some es) = if bytes_eq (active_text es) text then Some es else None

-- the text before the last line, which has nine bytes
abbrev pub lines_in : List ℕ → List ℕ
lines_in text = take (length text - 9) text

-- The images of a text, if there are such: each text is that of one list of images, or of none.
abbrev pub entries_of : List ℕ → Option (List ImageEntryOf)
entries_of text = if_written text (entries_from (length (lines_in text)) (lines_in text))

-- AN ENCODED TEXT IS READ, AND NO OTHER

-- an image whose numbers have their widths
pub record IsImageEntry (e : ImageEntryOf) : Type 0 where
  pub class : e.key.classification < 2 ^ 16
  pub ident : e.key.identifier < 2 ^ 16
  pub stamp : e.label.stamp < 2 ^ 32
  pub kind : e.label.text_type < 2 ^ 8
  pub short : length e.label.text ≤ 12
  pub text : IsBytes e.label.text
  pub number : e.number < 2 ^ 32
  pub size : e.size < 2 ^ 32
  pub checksum : e.checksum < 2 ^ 32

abbrev pub WhatIsWrittenIsRead : Type 0
WhatIsWrittenIsRead = (es : List ImageEntryOf) → AllByRecursion IsImageEntry es → entries_of (active_text es) ≡ Some es

abbrev pub NothingElseIsRead : Type 0
NothingElseIsRead = (text : List ℕ) (es : List ImageEntryOf) → entries_of text ≡ Some es → text ≡ active_text es
