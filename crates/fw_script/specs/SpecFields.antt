-- Field values that only package descriptions have.
use Rattle.std.specs.Prelude.{ℕ, ◌*◌, ◌+◌, ◌-◌, ◌==◌, ◌&&◌, nat_le, nat_lt, Bool, List, [], ◌∷◌, Option, None, Some, Result, Ok, Err, if◌then◌else◌, length}
use Rattle.std.specs.Char.{is_ascii_digit}
use Rattle.std.specs.List.{list_all, list_any}
use Rattle.fw_script.specs.declared.faults.ScriptCause.{ScriptCause}
use Rattle.fw_script.specs.declared.faults.ScriptCause.TheVariants as causes
use Rattle.fw_script.specs.Configs.{mapped_value, path_of}
use Rattle.fw_script.specs.Lines.{is_nothing}
use Rattle.fw_script.specs.Values.{is_dash, number_in}

-- the fields after a line's first word, in any number; none is empty
abbrev pub whole_fields : List (List ℕ) → Result (List (List ℕ)) ScriptCause
whole_fields words = if list_any is_nothing words then Err causes.Fields else Ok words

-- an upper-case hexadecimal digit
abbrev pub upper_digit_of : ℕ → Option ℕ
upper_digit_of b =
    if nat_le 48 b && nat_le b 57 then Some (b - 48)
    else if nat_le 65 b && nat_le b 70 then Some (b - 55)
    else None

abbrev pub two_digits : Option ℕ → Option ℕ → Option ℕ
two_digits (Some high) (Some low) = Some (high * 16 + low)
two_digits high low = None

-- the byte that `\xNN` encodes, given what follows the backslash
abbrev pub byte_escaped : ℕ → ℕ → ℕ → Option ℕ
byte_escaped x high low = if x == 120 then two_digits (upper_digit_of high) (upper_digit_of low) else None

abbrev pub with_byte : Option ℕ → Option (List ℕ) → Option (List ℕ)
with_byte (Some b) (Some bytes) = Some (b ∷ bytes)
with_byte b bytes = None

-- the bytes that a word encodes: each backslash begins a `\xNN`
abbrev pub unescaped_word : List ℕ → Option (List ℕ)
unescaped_word [] = Some []
unescaped_word (b ∷ x ∷ high ∷ low ∷ rest) =
    if b == 92 then with_byte (byte_escaped x high low) (unescaped_word rest) else with_byte (Some b) (unescaped_word (x ∷ high ∷ low ∷ rest))
unescaped_word (b ∷ rest) = if b == 92 then None else with_byte (Some b) (unescaped_word rest)

-- a text of a package: at most 255 bytes
abbrev pub short_text : Option (List ℕ) → Result (List ℕ) ScriptCause
short_text None = Err causes.Hex
short_text (Some bytes) = if nat_lt 255 (length bytes) then Err causes.Limit else Ok bytes

unfoldable pub package_text_of : List ℕ → Result (List ℕ) ScriptCause
package_text_of word = short_text (if is_dash word then Some [] else unescaped_word word)

-- The components that a record uses. In the text they are counted from 1, and each number is
-- greater than the one before it; the description counts them from 0.
abbrev pub then_use : Result ℕ ScriptCause → (ℕ → Result (List ℕ) ScriptCause) → Result (List ℕ) ScriptCause
then_use (Ok n) next = mapped_value (λ uses. (n - 1) ∷ uses) (next (n + 1))
then_use (Err cause) next = Err cause

abbrev pub uses_from : ℕ → List (List ℕ) → Result (List ℕ) ScriptCause
uses_from least [] = Ok []
uses_from least (word ∷ words) = then_use (number_in least 65535 word) (λ next. uses_from next words)

abbrev pub are_numbers : List (List ℕ) → Bool
are_numbers words = list_all (λ word. list_all is_ascii_digit word) words

abbrev pub numbers_used : List (List ℕ) → Result (List ℕ) ScriptCause
numbers_used words = if are_numbers words then uses_from 1 words else Err causes.Number

abbrev pub uses_of : List (List ℕ) → Result (List ℕ) ScriptCause
uses_of (word ∷ []) = if is_dash word then Ok [] else numbers_used (word ∷ [])
uses_of words = numbers_used words

-- the path of an image's file, if there is one
abbrev pub image_path_of : List ℕ → Result (Option (List ℕ)) ScriptCause
image_path_of word = if is_dash word then Ok None else mapped_value Some (path_of word)
