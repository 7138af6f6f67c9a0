-- Data that fit a message at the smallest unit fit one at each.
use Rattle.std.proofs.Common.{arith, ◌+◌, ◌≤◌, ℕ}
use Rattle.mctp_wire.specs.declared.unit.Unit.{«Unit»}
use Rattle.mctp_wire.specs.declared.unit.Unit.TheVariants.{U64, U128}
use Rattle.pldm_base.specs.Limits.{reply_limit}
use Rattle.fwup_wire.specs.Transfers.{transfer_size}

pub fits_each : (unit : «Unit») (n : ℕ) → n ≤ reply_limit U64 → n ≤ reply_limit unit
fits_each U64 n few = few
fits_each U128 n few = omega (arith, few)

-- a piece of an image fits after a reply's code
pub piece_fits : (unit : «Unit») (n : ℕ) → n ≤ transfer_size unit → 1 + n ≤ reply_limit unit
piece_fits U64 n few = omega (arith, few)
piece_fits U128 n few = omega (arith, few)

-- and each reply has at most as many bytes as there is room for
pub room_for : (unit : «Unit») (n : ℕ) → n ≤ reply_limit unit → n ≤ reply_limit U128
room_for U64 n few = omega (arith, few)
room_for U128 n few = few
