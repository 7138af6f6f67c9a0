-- The packets of lines and of captures.
use Rattle.std.specs.Prelude.{ℕ, zero, suc, ◌+◌, ◌-◌, ◌*◌, ◌==◌, ◌&&◌, ◌||◌, nat_le, nat_lt, not, Bool, if◌then◌else◌, List, [], ◌∷◌, codes, length, drop, take, map, slice_index, Option, None, Some, Result, Ok, Err}
use Rattle.std.specs.Char.{digit_value, is_ascii_digit}
use Rattle.std.specs.List.{position, slice_split}
use Rattle.std.specs.Str.{bytes_eq}
use Rattle.byteorder.specs.Endian.{big_number, little_number}
use Rattle.hex.specs.Hex.{decode_of}
use Rattle.hex.specs.declared.error.FromHexError.{FromHexError}
use Rattle.fw_trace.specs.declared.inputs.InputFault.{InputFault}
use Rattle.fw_trace.specs.declared.inputs.InputFault.TheVariants as faults
use Rattle.fw_trace.specs.declared.capture_reading.ByteOrder.{ByteOrder}
use Rattle.fw_trace.specs.declared.capture_reading.ByteOrder.TheVariants as orders

-- A packet to decode: the tick of sending and the device of its link, if they are known, and its
-- bytes.
pub record SeenOf : Type 0 where
  pub turn : Option ℕ
  pub device : Option ℕ
  pub bytes : List ℕ

-- an input: a packet, or why there is none
abbrev pub Input : Type 0
Input = Result SeenOf InputFault

-- ---- lines

-- The place of a packet's digits in a line: the tick and the device before them, if there are any.
pub record PlacedOf : Type 0 where
  pub turn : Option ℕ
  pub device : Option ℕ
  pub digits : List ℕ

-- the bytes before the first space and those after it, if there is one
abbrev pub cut_at : List ℕ → Option ℕ → Option (List ℕ × List ℕ)
cut_at bytes None = None
cut_at bytes (Some place) = Some (take place bytes, drop (place + 1) bytes)

abbrev pub cut_word : List ℕ → Option (List ℕ × List ℕ)
cut_word bytes = cut_at bytes (position (λ b. b == 32) bytes)

-- The number that digits encode after those that encode `n`, if all are decimal digits and the
-- number is at most `most`.
abbrev pub number_after : (most n : ℕ) → List ℕ → Option ℕ
number_after most n [] = Some n
number_after most n (d ∷ ds) =
    if is_ascii_digit d && nat_le (n * 10 + digit_value d) most then number_after most (n * 10 + digit_value d) ds else None

-- a number in decimal digits, at most `most`
abbrev pub number_up_to : (most : ℕ) → List ℕ → Option ℕ
number_up_to most [] = None
number_up_to most (d ∷ ds) = number_after most 0 (d ∷ ds)

-- a packet's direction, as a trace has it
abbrev pub is_way : List ℕ → Bool
is_way word = bytes_eq word (codes "to-device") || bytes_eq word (codes "to-agent")

abbrev pub placed_by : Option ℕ → Option ℕ → List ℕ → Result PlacedOf InputFault
placed_by (Some turn) (Some device) digits = Ok (record { turn = Some turn; device = Some device; digits = digits })
placed_by turn device digits = Err faults.Number

-- what follows the device: the direction and the digits
abbrev pub place_after_device : (turn device : List ℕ) → Option (List ℕ × List ℕ) → Result PlacedOf InputFault
place_after_device turn device None = Err faults.Fields
place_after_device turn device (Some p) =
    if is_way p.0 then placed_by (number_up_to 4294967295 turn) (number_up_to 255 device) p.1 else Err faults.Fields

abbrev pub place_after_turn : (turn : List ℕ) → Option (List ℕ × List ℕ) → Result PlacedOf InputFault
place_after_turn turn None = Err faults.Fields
place_after_turn turn (Some p) = place_after_device turn p.0 (cut_word p.1)

abbrev pub place_by : (line : List ℕ) → Option (List ℕ × List ℕ) → Result PlacedOf InputFault
place_by line None = Ok (record { turn = None; device = None; digits = line })
place_by line (Some p) = place_after_turn p.0 (cut_word p.1)

-- a line is digits alone, or the turn, the device, the direction and the digits
abbrev pub place_in_line : List ℕ → Result PlacedOf InputFault
place_in_line line = place_by line (cut_word line)

abbrev pub decoded_input : PlacedOf → Result (List ℕ) FromHexError → Input
decoded_input p (Ok bytes) = Ok (record { turn = p.turn; device = p.device; bytes = bytes })
decoded_input p (Err fault) = Err faults.Hex

abbrev pub placed_input : Result PlacedOf InputFault → Input
placed_input (Ok p) = decoded_input p (decode_of p.digits)
placed_input (Err fault) = Err fault

-- the input of a line
unfoldable pub line_input : List ℕ → Input
line_input line = placed_input (place_in_line line)

-- the parts without the last one, if that is empty
abbrev pub less_empty_end : List (List ℕ) → List (List ℕ)
less_empty_end [] = []
less_empty_end (part ∷ []) = if length part == 0 then [] else part ∷ []
less_empty_end (part ∷ next ∷ parts) = part ∷ less_empty_end (next ∷ parts)

-- The lines of a text, each ended by a line feed. What follows the last line feed is a line too,
-- unless it is empty.
abbrev pub lines_of_text : List ℕ → List (List ℕ)
lines_of_text text = less_empty_end (slice_split (λ b. b == 10) text)

-- ---- captures

-- The order of bytes in a capture's own numbers, by the number in its first four bytes, lowest
-- first. Its times have a fraction in microseconds or in nanoseconds.
abbrev pub order_by_magic : ℕ → Option ByteOrder
order_by_magic magic =
    if magic == 0xA1B2C3D4 || magic == 0xA1B23C4D then Some orders.Little
    else if magic == 0xD4C3B2A1 || magic == 0x4D3CB2A1 then Some orders.Big
    else None

-- the bytes are a capture if they begin with one of these
abbrev pub order_of : List ℕ → Option ByteOrder
order_of bytes = if nat_lt (length bytes) 4 then None else order_by_magic (little_number 4 bytes)

-- the number in four bytes
abbrev pub number_in : ByteOrder → List ℕ → ℕ
number_in orders.Little bytes = little_number 4 bytes
number_in orders.Big bytes = big_number 4 bytes

-- the captured size in a record's header
abbrev pub captured_size_in : ByteOrder → List ℕ → ℕ
captured_size_in order bytes = number_in order (drop 8 bytes)

-- the bytes hold no whole record
abbrev pub lacks_record : ByteOrder → List ℕ → Bool
lacks_record order bytes = nat_lt (length bytes) 16 || nat_lt (length bytes) (16 + captured_size_in order bytes)

-- a record has captured the whole packet, after a cooked-mode header of 16 bytes
abbrev pub is_whole : ByteOrder → List ℕ → Bool
is_whole order bytes =
    nat_le 16 (captured_size_in order bytes) && (captured_size_in order bytes == number_in order (drop 12 bytes))

-- the last two bytes of that header, high byte first, are the protocol MCTP
abbrev pub is_mctp : List ℕ → Bool
is_mctp bytes = (slice_index bytes 30 == 0x00) && (slice_index bytes 31 == 0xFA)

-- the packet of a record: its time in seconds is the tick
abbrev pub seen_in : ByteOrder → List ℕ → SeenOf
seen_in order bytes =
    record { turn = Some (number_in order bytes); device = None; bytes = take (captured_size_in order bytes - 16) (drop 32 bytes) }

-- the input of a record, of bytes that hold a whole one
unfoldable pub record_input : ByteOrder → List ℕ → Input
record_input order bytes =
    if not (is_whole order bytes) then Err faults.Cut
    else if not (is_mctp bytes) then Err faults.Protocol
    else Ok (seen_in order bytes)

-- the inputs of records, up to one that isn't whole; `fuel` bounds their number
unfoldable pub record_inputs : ℕ → ByteOrder → List ℕ → List Input
record_inputs fuel order [] = []
record_inputs zero order (b ∷ bytes) = Err faults.Cut ∷ []
record_inputs (suc fuel) order (b ∷ bytes) =
    if lacks_record order (b ∷ bytes) then Err faults.Cut ∷ []
    else record_input order (b ∷ bytes) ∷ record_inputs fuel order (drop (16 + captured_size_in order (b ∷ bytes)) (b ∷ bytes))

abbrev pub all_record_inputs : ByteOrder → List ℕ → List Input
all_record_inputs order bytes = record_inputs (length bytes) order bytes

-- The inputs of a capture: its header has 24 bytes, and the link type is in the last four.
abbrev pub capture_inputs : ByteOrder → List ℕ → List Input
capture_inputs order bytes =
    if nat_lt (length bytes) 24 then Err faults.Cut ∷ []
    else if not (number_in order (drop 20 bytes) == 113) then Err faults.LinkType ∷ []
    else all_record_inputs order (drop 24 bytes)

-- the inputs of a file: of a capture, or of the lines of a text
abbrev pub inputs_by : Option ByteOrder → List ℕ → List Input
inputs_by (Some order) bytes = capture_inputs order bytes
inputs_by None bytes = map line_input (lines_of_text bytes)

abbrev pub inputs_of : List ℕ → List Input
inputs_of bytes = inputs_by (order_of bytes) bytes
