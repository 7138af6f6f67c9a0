-- The base commands of DSP0240, one definition for each command: the terminus' answer, and its
-- identifier afterwards.
use Rattle.std.specs.Prelude.{[], ◌+◌, ◌==◌, ◌^◌, ◌||◌, ◌∷◌, List, if◌then◌else◌, suc, zero, ℕ}
use Rattle.std.specs.List.{list_any}
use Rattle.pldm_base.specs.Codes.{invalid_data, invalid_length, invalid_type_in_request, success, unsupported_command}
use Rattle.pldm_base.specs.declared.terminus.Role.{Role}
use Rattle.pldm_base.specs.declared.terminus.Role.TheVariants.{Agent, Device}

-- bit k of a byte, which is set if the number is in the list
abbrev pub bit_where : List ℕ → ℕ → ℕ → ℕ
bit_where numbers n k = if list_any (λ x. x == n) numbers then 2 ^ k else 0

-- the byte of the bits of the eight numbers from n on
abbrev pub byte_of_bits : List ℕ → ℕ → ℕ
byte_of_bits numbers n =
    bit_where numbers n 0 + bit_where numbers (n + 1) 1 + bit_where numbers (n + 2) 2 + bit_where numbers (n + 3) 3
    + bit_where numbers (n + 4) 4 + bit_where numbers (n + 5) 5 + bit_where numbers (n + 6) 6
    + bit_where numbers (n + 7) 7

-- `size` bytes of bits, for the numbers from n on: number n is bit n mod 8 of byte n / 8
abbrev pub bits_from : ℕ → ℕ → List ℕ → List ℕ
bits_from n zero numbers = []
bits_from n (suc size) numbers = byte_of_bits numbers n ∷ bits_from (n + 8) size numbers

-- the PLDM types that a terminus has: base and firmware update
abbrev pub types : List ℕ
types = 0 ∷ 5 ∷ []

-- the base commands of a terminus
abbrev pub base_commands : List ℕ
base_commands = 1 ∷ 2 ∷ 4 ∷ 5 ∷ []

-- the firmware update commands of a terminus, by its role
abbrev pub update_commands : Role → List ℕ
update_commands Device = 0x01 ∷ 0x02 ∷ 0x10 ∷ 0x13 ∷ 0x14 ∷ 0x1A ∷ 0x1B ∷ 0x1C ∷ 0x1D ∷ []
update_commands Agent = 0x15 ∷ 0x16 ∷ 0x17 ∷ 0x18 ∷ []

-- SetTID: one byte, and neither 0 nor 255
abbrev pub set_tid_reply : List ℕ → List ℕ
set_tid_reply (tid ∷ []) = (if (tid == 0) || (tid == 255) then invalid_data else success) ∷ []
set_tid_reply _ = invalid_length ∷ []

abbrev pub tid_set : ℕ → List ℕ → ℕ
tid_set old (tid ∷ []) = if (tid == 0) || (tid == 255) then old else tid
tid_set old _ = old

-- GetTID
abbrev pub get_tid_reply : ℕ → List ℕ → List ℕ
get_tid_reply tid [] = success ∷ tid ∷ []
get_tid_reply tid (_ ∷ _) = invalid_length ∷ []

-- GetPLDMTypes: eight bytes of bits
abbrev pub get_types_reply : List ℕ → List ℕ
get_types_reply [] = success ∷ bits_from 0 8 types
get_types_reply (_ ∷ _) = invalid_length ∷ []

-- GetPLDMCommands: a PLDM type and four bytes of version, which are ignored; 32 bytes of bits
abbrev pub get_commands_reply : Role → List ℕ → List ℕ
get_commands_reply role (pldm_type ∷ _ ∷ _ ∷ _ ∷ _ ∷ []) =
    if pldm_type == 0 then success ∷ bits_from 0 32 base_commands
    else if pldm_type == 5 then success ∷ bits_from 0 32 (update_commands role)
    else invalid_type_in_request ∷ []
get_commands_reply role _ = invalid_length ∷ []

-- the answer of a terminus with this role and this identifier to a base command: the code and the
-- fields
abbrev pub base_reply : Role → ℕ → ℕ → List ℕ → List ℕ
base_reply role tid command fields =
    if command == 1 then set_tid_reply fields
    else if command == 2 then get_tid_reply tid fields
    else if command == 4 then get_types_reply fields
    else if command == 5 then get_commands_reply role fields
    else unsupported_command ∷ []

-- its identifier afterwards
abbrev pub tid_after : ℕ → ℕ → List ℕ → ℕ
tid_after tid command fields = if command == 1 then tid_set tid fields else tid
