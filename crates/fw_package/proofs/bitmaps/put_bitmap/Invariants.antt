use Rattle.std.proofs.Common.{◌≡◌, ◌++◌, map}
use Rattle.std.specs.List.{range_with_len}
use Rattle.fw_package.specs.Writing.{bitmap_byte}
use Rattle.fw_package.proofs.bitmaps.put_bitmap.Given as goal

-- the bytes so far
abbrev pub invariant-loop-place : goal.invariant-loop-place
invariant-loop-place l = l.header.items ≡ l.fn.header.items ++ map (bitmap_byte l.uses) (range_with_len 0 l.place)
