-- The fields of messages. Integers are little-endian.
use Rattle.std.specs.Prelude.{nat_le, take, [], ◌++◌, ◌==◌, ◌∷◌, ◌≡◌, Bool, List, None, Option, false, true, ◌<◌, ◌^◌, Some, if◌then◌else◌, length, ℕ}
use Rattle.byteorder.specs.Endian.{little_bytes, little_number}
use Rattle.fwup_wire.specs.Values.{TypedTextOf}
use Rattle.fwup_wire.specs.declared.values.Key.{Key}
use Rattle.fwup_wire.specs.declared.values.TransferFlag.{TransferFlag}
use Rattle.fwup_wire.specs.declared.values.TransferFlag.TheVariants as flags

-- the number in two bytes, the lowest first
abbrev pub u16_of : ℕ → ℕ → ℕ
u16_of a b = little_number 2 (a ∷ b ∷ [])

-- the number in four bytes, the lowest first
abbrev pub u32_of : ℕ → ℕ → ℕ → ℕ → ℕ
u32_of a b c d = little_number 4 (a ∷ b ∷ c ∷ d ∷ [])

-- a truth value as a bit
abbrev pub bit : Bool → ℕ
bit true = 1
bit false = 0

-- the place of an entry in the component table
abbrev pub flag_byte : TransferFlag → ℕ
flag_byte flags.Start = 1
flag_byte flags.Middle = 2
flag_byte flags.End = 4
flag_byte flags.StartAndEnd = 5

abbrev pub flag_of : ℕ → Option TransferFlag
flag_of byte =
    if byte == 1 then Some flags.Start
    else if byte == 2 then Some flags.Middle
    else if byte == 4 then Some flags.End
    else if byte == 5 then Some flags.StartAndEnd
    else None

-- the field at the beginning of the bytes, if they have it
abbrev pub first_byte : List ℕ → Option ℕ
first_byte (a ∷ _) = Some a
first_byte _ = None

abbrev pub first_u16 : List ℕ → Option ℕ
first_u16 (a ∷ b ∷ _) = Some (u16_of a b)
first_u16 _ = None

abbrev pub first_u32 : List ℕ → Option ℕ
first_u32 (a ∷ b ∷ c ∷ d ∷ _) = Some (u32_of a b c d)
first_u32 _ = None

abbrev pub first_key : List ℕ → Option Key
first_key (c0 ∷ c1 ∷ i0 ∷ i1 ∷ _) = Some (record { classification = u16_of c0 c1; identifier = u16_of i0 i1 })
first_key _ = None

abbrev pub first_component : List ℕ → Option (Key × ℕ × ℕ)
first_component (c0 ∷ c1 ∷ i0 ∷ i1 ∷ index ∷ s0 ∷ s1 ∷ s2 ∷ s3 ∷ _) =
    Some (record { classification = u16_of c0 c1; identifier = u16_of i0 i1 }, index, u32_of s0 s1 s2 s3)
first_component _ = None

-- the first bytes of the given number, if there are as many
abbrev pub first_bytes : ℕ → List ℕ → Option (List ℕ)
first_bytes count bytes = if nat_le count (length bytes) then Some (take count bytes) else None

-- The bytes are this text: its type, its length and exactly as many bytes.
abbrev pub IsText : List ℕ → TypedTextOf → Type 0
IsText (text_type ∷ size ∷ bytes) t = (text_type ≡ t.text_type) × (size ≡ length bytes) × (bytes ≡ t.bytes)
IsText _ t = ⊥

-- the text with these bytes
abbrev pub last_text : List ℕ → Option TypedTextOf
last_text (text_type ∷ size ∷ bytes) =
    if size == length bytes then Some (record { text_type = text_type; bytes = bytes }) else None
last_text _ = None

-- the encoded form of a text
abbrev pub text_bytes : TypedTextOf → List ℕ
text_bytes t = t.text_type ∷ length t.bytes ∷ t.bytes

-- the encoded form of key, index and comparison stamp
abbrev pub component_bytes : Key → ℕ → ℕ → List ℕ
component_bytes key index stamp =
    little_bytes 2 key.classification ++ little_bytes 2 key.identifier ++ index ∷ little_bytes 4 stamp

-- they fit their fields
abbrev pub HasComponentWidths : Key → ℕ → Type 0
HasComponentWidths key stamp =
    (key.classification < 256 ^ 2) × (key.identifier < 256 ^ 2) × (stamp < 256 ^ 4)
