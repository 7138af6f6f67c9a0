use Rattle.std.proofs.Common.{arith}
use Rattle.fw_package.proofs.Bits.{bitmap_room}
use Rattle.fw_package.proofs.bitmaps.put_bitmap.Goals as goal

pub push-requires : goal.push-requires
push-requires c = (omega arith, bitmap_room c.args.uses.now c.args.header.now.items c.loop-place.header.items c.loop-place.place c.args.size c.loop-place.invariant c.loop-place-test.true c.requires.room)
