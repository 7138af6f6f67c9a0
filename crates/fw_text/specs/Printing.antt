-- Pieces of printed text.
use Rattle.std.specs.Prelude.{◌≡◌, ℕ, ◌/◌, ◌%◌, ◌==◌, ◌&&◌, nat_le, not, Bool, if◌then◌else◌, List, [], ◌∷◌, ◌++◌, codes, decimal}
use Rattle.std.specs.List.{flat_map}
use Rattle.hex.specs.Hex.{encode_upper}

-- the new bytes are the old ones, then the piece
pub record AppendsText (old new piece : List ℕ) : Type 0 where
  pub is : new ≡ old ++ piece

-- a word, then a number in decimal digits
unfoldable pub word_and_number : List ℕ → ℕ → List ℕ
word_and_number word n = word ++ decimal n

-- a word, then a number of two bytes in four hexadecimal digits
unfoldable pub in_four : List ℕ → ℕ → List ℕ
in_four word n = word ++ encode_upper (n / 256 ∷ n % 256 ∷ [])

-- a word, then a number of four bytes in eight hexadecimal digits
unfoldable pub in_eight : List ℕ → ℕ → List ℕ
in_eight word n = word ++ encode_upper (n / 16777216 ∷ n / 65536 % 256 ∷ n / 256 % 256 ∷ n % 256 ∷ [])

-- a byte is printed unescaped: it is in 0x20 to 0x7E, and neither a quote nor a backslash
abbrev pub is_plain : ℕ → Bool
is_plain b = (nat_le 0x20 b && nat_le b 0x7E) && (not (b == 0x22) && not (b == 0x5C))

-- a plain byte is printed unescaped; another byte is printed as \x and two hexadecimal digits
abbrev pub escaped_byte : ℕ → List ℕ
escaped_byte b = if is_plain b then b ∷ [] else codes "\\x" ++ encode_upper (b ∷ [])

-- a word, then a text in quotes
unfoldable pub word_and_quoted : List ℕ → List ℕ → List ℕ
word_and_quoted word text = word ++ 0x22 ∷ flat_map escaped_byte text ++ 0x22 ∷ []

-- data in hexadecimal digits; empty data is a dash
abbrev pub data_text : List ℕ → List ℕ
data_text [] = codes "-"
data_text (b ∷ bytes) = encode_upper (b ∷ bytes)
