-- The reflected CRC-32: polynomial 0x04C11DB7, start and final sum all ones.
use Rattle.std.specs.Prelude.{ℕ, zero, suc, ◌/◌, ◌%◌, ◌==◌, if◌then◌else◌, List, [], ◌∷◌, bit_xor}

-- The register after one bit leaves it at its low end. A bit that is 1 subtracts the polynomial,
-- which is 0xEDB88320 with its bits in reflected order.
unfoldable pub after_bit : ℕ → ℕ
after_bit register = if register % 2 == 1 then bit_xor (register / 2) 0xEDB88320 else register / 2

-- the register after the given number of bits
unfoldable pub after_bits : ℕ → ℕ → ℕ
after_bits zero register = register
after_bits (suc n) register = after_bits n (after_bit register)

-- the register after a byte of the text is added to its low end and its eight bits leave
unfoldable pub after_byte : ℕ → ℕ → ℕ
after_byte register byte = after_bits 8 (bit_xor register byte)

-- the register after the given bytes
abbrev pub after_bytes : ℕ → List ℕ → ℕ
after_bytes register [] = register
after_bytes register (byte ∷ bytes) = after_bytes (after_byte register byte) bytes

-- the checksum of a text
abbrev pub crc_of : List ℕ → ℕ
crc_of bytes = bit_xor (after_bytes 0xFFFFFFFF bytes) 0xFFFFFFFF
