-- The table of byte steps is eight bit steps.
use Rattle.std.proofs.Common.{◌≡◌, ℕ, zero, suc, ◌+◌, ◌*◌, ◌/◌, ◌%◌, ◌^◌, ◌<◌, ◌==◌, ◌∙◌, if◌then◌else◌, Bool, true, false, map, get_or, refl, sym, ap, arith, add-one, zero-add, mul_comm, mul_assoc}
use Rattle.std.specs.List.{range_with_len}
use Rattle.std.specs.Prelude.{bit_xor, bit_and}
use Rattle.std.proofs.lemmas.Nat.{xor_comm, xor_shr, xor_mod, xor_block, and_mask}
use Rattle.std.proofs.lemmas.Grind.{pow_more}
use Rattle.std.proofs.lemmas.List.FromFn.{get_or-map-range_with_len}
use lib.Bits.{xor_assoc, xor_zero_r}
use Rattle.fw_package.specs.Crc.{after_bit, after_bits, after_byte}
use Rattle.fw_package.specs.declared.crc_table.TheConstants.{BYTE_STEPS}

-- adding `high` commutes with a bit step
bit_added : (b : Bool) (low high : ℕ) → (if b then bit_xor (bit_xor low high) 0xEDB88320 else bit_xor low high) ≡ bit_xor (if b then bit_xor low 0xEDB88320 else low) high
bit_added true low high = xor_assoc low high 0xEDB88320 ∙ ap (bit_xor low) (xor_comm high 0xEDB88320) ∙ sym (xor_assoc low 0xEDB88320 high)
bit_added false low high = refl

after_bit_added : (low high : ℕ) → after_bit (bit_xor low (2 * high)) ≡ bit_xor (after_bit low) high
unfolding after_bit
after_bit_added low high =
    let none : 2 * high % 2 ≡ 0 = omega arith in
    let half : 2 * high / 2 ≡ high = omega arith in
    let same : bit_xor low (2 * high) % 2 ≡ low % 2 = xor_mod low (2 * high) 1 ∙ (rw none (xor_zero_r (low % 2))) in
    let down : bit_xor low (2 * high) / 2 ≡ bit_xor (low / 2) high = xor_shr low (2 * high) 1 ∙ (rw half refl) in
    rw (same, down) (bit_added (low % 2 == 1) (low / 2) high)

after_bits_added : (n low high : ℕ) → after_bits n (bit_xor low (2 ^ n * high)) ≡ bit_xor (after_bits n low) high
unfolding after_bits
after_bits_added zero low high = let one : 2 ^ 0 * high ≡ high = omega arith in rw one refl
after_bits_added (suc n) low high =
    let power : 2 ^ suc n ≡ 2 * 2 ^ n = (sym (ap (λ k. 2 ^ k) (add-one n)) ∙ pow_more 2 n) ∙ mul_comm (2 ^ n) 2 in
    let twice : 2 ^ suc n * high ≡ 2 * (2 ^ n * high) = ap (λ x. x * high) power ∙ mul_assoc 2 (2 ^ n) high in
    rw (twice, after_bit_added low (2 ^ n * high)) (after_bits_added n (after_bit low) high)

-- a register is its low byte and the rest above it
parts : (register : ℕ) → bit_xor (register % 256) (256 * (register / 256)) ≡ register
parts register =
    let whole : register % 256 ≡ 0 * 2 ^ 8 + register % 256 = omega arith in
    let above : 256 * (register / 256) ≡ register / 256 * 2 ^ 8 + 0 = omega arith in
    ap (λ x. bit_xor x (256 * (register / 256))) whole ∙ ap (bit_xor (0 * 2 ^ 8 + register % 256)) above
    ∙ xor_block 8 0 (register / 256) (register % 256) 0 (omega arith) (omega arith) ∙ (rw (xor_zero_r (register % 256)) (omega arith))

pub eight_steps : (register : ℕ) → after_bits 8 register ≡ bit_xor (after_bits 8 (register % 256)) (register / 256)
eight_steps register = sym (ap (after_bits 8) (parts register)) ∙ after_bits_added 8 (register % 256) (register / 256)

table_is : BYTE_STEPS ≡ map (after_bits 8) (range_with_len 0 256)
unfolding after_bit after_bits
table_is = refl

-- each entry of the table is eight bit steps
pub byte_steps_at : (byte : ℕ) → byte < 256 → get_or BYTE_STEPS byte 0 ≡ after_bits 8 byte
byte_steps_at byte lt = ap (λ xs. get_or xs byte 0) table_is ∙ get_or-map-range_with_len (after_bits 8) 0 256 byte byte 0 lt (zero-add byte)

-- a byte step is an entry of the table, added to the rest of the register
pub byte_step : (register byte : ℕ) → byte < 256 → bit_xor (after_bits 8 (bit_and (bit_xor register byte) 255)) (register / 256) ≡ after_byte register byte
unfolding after_byte
byte_step register byte lt =
    let masked : bit_and (bit_xor register byte) 255 ≡ bit_xor register byte % 256 = and_mask (bit_xor register byte) 8 in
    let none : byte / 256 ≡ 0 = omega arith in
    let rest : bit_xor register byte / 256 ≡ register / 256 = xor_shr register byte 8 ∙ (rw none (xor_zero_r (register / 256))) in
    rw (masked, ← rest) (sym (eight_steps (bit_xor register byte)))
