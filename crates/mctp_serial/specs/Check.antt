-- The frame check sequence (DSP0253): the 16-bit FCS of RFC 1662, with the start value FFFF, and
-- not complemented at the end.
use Rattle.std.specs.Prelude.{ℕ, ◌/◌, ◌%◌, ◌==◌, if◌then◌else◌, List, [], ◌∷◌, length}
use Rattle.std.specs.Int.RustNames.{bit_xor}

-- the check sequence after one bit: the low bit first, and the polynomial reflected
unfoldable pub check_after_bit : ℕ → ℕ
check_after_bit c = if c % 2 == 1 then bit_xor (c / 2) 0x8408 else c / 2

abbrev pub check_after_four_bits : ℕ → ℕ
check_after_four_bits c = check_after_bit (check_after_bit (check_after_bit (check_after_bit c)))

unfoldable pub check_after_byte : ℕ → ℕ → ℕ
check_after_byte c b = check_after_four_bits (check_after_four_bits (bit_xor c b))

unfoldable pub check_after : ℕ → List ℕ → ℕ
check_after c [] = c
check_after c (b ∷ bs) = check_after (check_after_byte c b) bs

-- The check sequence of a packet's frame: over the revision, the byte count and the packet, before
-- bytes are escaped.
abbrev pub check_of : List ℕ → ℕ
check_of packet = check_after 0xFFFF (1 ∷ length packet ∷ packet)
