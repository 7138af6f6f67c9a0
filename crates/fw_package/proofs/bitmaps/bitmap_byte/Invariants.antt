use Rattle.std.proofs.Common.{◌≡◌, ◌+◌, ◌*◌, ◌-◌}
use Rattle.fw_package.specs.Writing.{bits_of}
use Rattle.fw_package.proofs.bitmaps.bitmap_byte.Given as goal

-- the highest bits so far
abbrev pub invariant-loop-bit : goal.invariant-loop-bit
invariant-loop-bit l = l.byte ≡ bits_of l.uses (8 * l.place + (8 - l.bit)) l.bit
