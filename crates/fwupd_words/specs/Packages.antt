-- The values of the option `--package` of `run`: N, or EID=N. N is the number of the package of
-- each device without one of its own, and EID=N that of the device EID.
use Rattle.std.specs.Prelude.{ℕ, ◌==◌, ◌&&◌, ◌||◌, nat_le, nat_lt, if◌then◌else◌, Bool, false, true, is_none, is_some, length, List, [], ◌∷◌, Option, None, Some, unwrap_or}
use Rattle.std.specs.List.{find, list_any}
use Rattle.std.specs.Option.{option_or}
use Rattle.std.specs.Str.{all_ascii_digits}
use Rattle.std.specs.Str.Parse.{digits_value, without_leading_plus}
use Rattle.clap.specs.Lexer.{name_and_value}
use Rattle.clap.specs.Words.{Text}

-- ---- one value

-- The digits write a decimal number from `low` to `high`.
abbrev pub is_within : (low high : ℕ) → (digits : Text) → Bool
is_within low high digits =
    (nat_lt 0 (length digits) && all_ascii_digits digits)
    && (nat_le low (digits_value 10 digits) && nat_le (digits_value 10 digits) high)

-- The decimal number from `low` to `high` that a text is, maybe after a plus.
abbrev pub number_within : (low high : ℕ) → Text → Option ℕ
number_within low high text =
    if is_within low high (without_leading_plus text) then Some (digits_value 10 (without_leading_plus text)) else None

-- The endpoint identifier of a device, and the number of a package.
abbrev pub eid_of : Text → Option ℕ
eid_of = number_within 8 254

abbrev pub number_of_package : Text → Option ℕ
number_of_package = number_within 1 4294967295

-- What a value says: the device that it names, or `None` for N, and the number of the package. A
-- malformed text says nothing.
abbrev pub common_value : (number : Option ℕ) → Option (Option ℕ × ℕ)
common_value (Some number) = Some (None, number)
common_value None = None

abbrev pub own_value : (eid number : Option ℕ) → Option (Option ℕ × ℕ)
own_value (Some eid) (Some number) = Some (Some eid, number)
own_value (Some eid) None = None
own_value None number = None

-- by the part before the first `=`, and the part after it if there is one
abbrev pub value_of_parts : Text × Option Text → Option (Option ℕ × ℕ)
value_of_parts (text, None) = common_value (number_of_package text)
value_of_parts (device, Some number) = own_value (eid_of device) (number_of_package number)

abbrev pub value_of : Text → Option (Option ℕ × ℕ)
value_of text = value_of_parts (name_and_value text)

-- ---- all values

-- The first malformed text.
abbrev pub first_malformed : List Text → Option Text
first_malformed = find (λ text. is_none (value_of text))

-- The number that a value gives for a device, or for `None` if it is N.
abbrev pub is_same : (device other : Option ℕ) → Bool
is_same None None = true
is_same None (Some other) = false
is_same (Some eid) None = false
is_same (Some eid) (Some other) = eid == other

abbrev pub number_by : (device : Option ℕ) → Option (Option ℕ × ℕ) → Option ℕ
number_by device None = None
number_by device (Some value) = if is_same device value.0 then Some value.1 else None

-- The number that the values give for a device, or for `None`: that of the last one.
abbrev pub number_given : (device : Option ℕ) → List Text → Option ℕ
number_given device [] = None
number_given device (text ∷ more) = option_or (number_given device more) (number_by device (value_of text))

-- Two values are N, or two name the same device.
abbrev pub is_given_in : List Text → Option (Option ℕ × ℕ) → Bool
is_given_in texts None = false
is_given_in texts (Some value) = is_some (number_given value.0 texts)

abbrev pub has_twice : List Text → Bool
has_twice [] = false
has_twice (text ∷ more) = is_given_in more (value_of text) || has_twice more

-- The number of a device's package: its own, or else N, or else 1.
abbrev pub package_of : List Text → (eid : ℕ) → ℕ
package_of texts eid = unwrap_or (number_given (Some eid) texts) (unwrap_or (number_given None texts) 1)

-- A device has a package of its own; and some device has one.
abbrev pub has_own : List Text → (eid : ℕ) → Bool
has_own texts eid = is_some (number_given (Some eid) texts)

abbrev pub names_device : Option (Option ℕ × ℕ) → Bool
names_device None = false
names_device (Some value) = is_some value.0

abbrev pub has_any_own : List Text → Bool
has_any_own = list_any (λ text. names_device (value_of text))
