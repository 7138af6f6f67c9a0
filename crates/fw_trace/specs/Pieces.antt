-- Pieces of a packet's line.
use Rattle.std.specs.Prelude.{ℕ, ◌==◌, if◌then◌else◌, List, [], ◌∷◌, ◌++◌, codes}
use Rattle.hex.specs.Hex.{encode_upper}
use Rattle.fw_text.specs.Printing.{data_text, word_and_quoted}
use Rattle.fwup_wire.specs.Values.{TypedTextOf}

-- a word, then a byte in two hexadecimal digits
unfoldable pub in_two : List ℕ → ℕ → List ℕ
in_two word n = word ++ encode_upper (n ∷ [])

-- a word, then data in hexadecimal digits; empty data is a dash
unfoldable pub in_digits : List ℕ → List ℕ → List ℕ
in_digits word bytes = word ++ data_text bytes

-- bytes that aren't decoded: their digits after a space, or nothing if there are none
unfoldable pub rest_text : List ℕ → List ℕ
rest_text [] = []
rest_text (b ∷ bytes) = codes " " ++ encode_upper (b ∷ bytes)

-- the name of an encoding other than ASCII, or its two digits if it has none
abbrev pub encoding_text : ℕ → List ℕ
encoding_text n =
    if n == 0 then codes "unknown"
    else if n == 2 then codes "utf-8"
    else if n == 3 then codes "utf-16"
    else if n == 4 then codes "utf-16le"
    else if n == 5 then codes "utf-16be"
    else in_two (codes "encoding ") n

-- a text that isn't ASCII: its encoding and its bytes in digits
unfoldable pub encoded_text : List ℕ → TypedTextOf → List ℕ
encoded_text word t = word ++ encoding_text t.text_type ++ in_digits (codes " ") t.bytes

-- a word, then a text: ASCII is in quotes
abbrev pub text_field : List ℕ → TypedTextOf → List ℕ
text_field word t = if t.text_type == 1 then word_and_quoted word t.bytes else encoded_text word t
