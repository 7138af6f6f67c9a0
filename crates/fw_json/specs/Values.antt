-- JSON values, and the line of a value.
use Rattle.std.specs.Prelude.{◌≡◌, ℕ, ◌+◌, List, [], ◌∷◌, ◌++◌, decimal, Option, Some, None}
use Rattle.std.specs.List.{flat_map}
use Rattle.hex.specs.Hex.{encode_upper}
use Rattle.json.specs.Json.{Json, document, null, number, string, object, Items, no_items, item, Members, no_members, member}
use Rattle.json.specs.Print.{print}
use Rattle.json.specs.Token.{Token, key}
use Rattle.json.specs.Tree.{json_tokens}
use Rattle.fw_text.specs.Printing.{escaped_byte}

-- the members of an object, in their order
abbrev pub members : List (List ℕ × Json) → Members
members [] = no_members
members (m ∷ ms) = member m.0 m.1 (members ms)

abbrev pub object_of : List (List ℕ × Json) → Json
object_of ms = object (members ms)

-- the tokens of members, without the end of the object
abbrev pub field_tokens : List (List ℕ × Json) → List Token
field_tokens [] = []
field_tokens (m ∷ ms) = key m.0 ∷ (json_tokens m.1 ++ field_tokens ms)

-- the items of an array: the values of the listed things, in order
abbrev pub items : {A : Type 0} → (A → Json) → List A → Items
items f [] = no_items
items f (x ∷ xs) = item (f x) (items f xs)

-- the same for things numbered from n
abbrev pub numbered_items : {A : Type 0} → (ℕ → A → Json) → ℕ → List A → Items
numbered_items f n [] = no_items
numbered_items f n (x ∷ xs) = item (f n x) (numbered_items f (n + 1) xs)

-- a number in decimal digits
abbrev pub number_value : ℕ → Json
number_value n = number (decimal n)

-- bytes in upper-case hexadecimal digits, two each
abbrev pub in_digits : List ℕ → Json
in_digits bytes = string (encode_upper bytes)

-- a text, escaped as between quotes
abbrev pub text_value : List ℕ → Json
text_value text = string (flat_map escaped_byte text)

-- an absent value is null
abbrev pub optional_value : {A : Type 0} → (A → Json) → Option A → Json
optional_value f None = null
optional_value f (Some x) = f x

-- a value's line: its bytes, and a line feed
abbrev pub line_of : Json → List ℕ
line_of j = print (json_tokens j) ++ 10 ∷ []

-- the value's line, without its line feed, decodes to the value
abbrev pub ReadsBack : Json → Type 0
ReadsBack j = document (print (json_tokens j)) ≡ Some j
