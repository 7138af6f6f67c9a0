-- The values of fields.
use Rattle.std.specs.Prelude.{ℕ, ◌*◌, ◌+◌, ◌&&◌, nat_le, Bool, List, [], ◌∷◌, Option, None, Some, Result, Ok, Err, if◌then◌else◌}
use Rattle.std.specs.List.{list_all}
use Rattle.std.specs.Char.{is_ascii_digit}
use Rattle.std.specs.Str.{bytes_eq}
use Rattle.std.specs.Str.Parse.{digits_value}
use Rattle.std.specs.Prelude.{codes}
use Rattle.hex.specs.Hex.{decode_of, decode_sized}
use Rattle.hex.specs.declared.error.FromHexError.{FromHexError}
use Rattle.uuid.specs.Text.{parsed}
use Rattle.fw_script.specs.declared.faults.ScriptCause.{ScriptCause}
use Rattle.fw_script.specs.declared.faults.ScriptCause.TheVariants as causes

-- a decimal number within its bounds
unfoldable pub number_in : (least most : ℕ) → List ℕ → Result ℕ ScriptCause
number_in least most word =
    if list_all is_ascii_digit word
    then (if nat_le least (digits_value 10 word) && nat_le (digits_value 10 word) most then Ok (digits_value 10 word) else Err causes.Range)
    else Err causes.Number

-- an endpoint identifier
abbrev pub eid_of : List ℕ → Result ℕ ScriptCause
eid_of word = number_in 8 254 word

abbrev pub some_or : {A : Type 0} → ScriptCause → Option A → Result A ScriptCause
some_or cause None = Err cause
some_or cause (Some a) = Ok a

-- the bytes of a UUID
unfoldable pub uuid_of : List ℕ → Result (List ℕ) ScriptCause
uuid_of word = some_or causes.Number (parsed word)

-- a field that is a dash, which is an empty value
abbrev pub is_dash : List ℕ → Bool
is_dash word = bytes_eq word (codes "-")

-- a text: its bytes
unfoldable pub text_of : List ℕ → List ℕ
text_of word = if is_dash word then [] else word

abbrev pub decoded_digits : Result (List ℕ) FromHexError → Result (List ℕ) ScriptCause
decoded_digits (Ok bytes) = Ok bytes
decoded_digits (Err fault) = Err causes.Hex

-- bytes: two hexadecimal digits each
unfoldable pub bytes_of : List ℕ → Result (List ℕ) ScriptCause
bytes_of word = if is_dash word then Ok [] else decoded_digits (decode_of word)

-- a descriptor's type: four hexadecimal digits
abbrev pub kind_in : Result (List ℕ) FromHexError → Result ℕ ScriptCause
kind_in (Ok (high ∷ low ∷ [])) = Ok (high * 256 + low)
kind_in (Ok bytes) = Err causes.Hex
kind_in (Err fault) = Err causes.Hex

unfoldable pub kind_of : List ℕ → Result ℕ ScriptCause
kind_of word = kind_in (decode_sized word 2)
