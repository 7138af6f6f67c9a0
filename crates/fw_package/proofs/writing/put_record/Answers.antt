use Rattle.std.proofs.Common.{◌∙◌, length, ap, arith, length-append}
use Rattle.std.proofs.lemmas.List.FromFn.{length-map-range_with_len}
use Rattle.fw_package.specs.Writing.{bitmap_byte}
use Rattle.fw_package.proofs.writing.put_record.Goals as goal

pub put-requires : goal.put-requires
put-requires c =
    let head = ap length c.put_record_head.ensures.bytes ∙ length-append c.args.header.now.items _ in
    let bitmap = ap length c.put_bitmap.ensures ∙ length-append c.put_record_head.new.header.items _ in
    let count = length-map-range_with_len (bitmap_byte c.args.asked.now.uses.now) 0 c.args.bitmap_size in
    let room = c.requires.room in
    omega (arith, head, bitmap, count, room)

pub put_descriptors-requires : goal.put_descriptors-requires
put_descriptors-requires c =
    let head = ap length c.put_record_head.ensures.bytes ∙ length-append c.args.header.now.items _ in
    let bitmap = ap length c.put_bitmap.ensures ∙ length-append c.put_record_head.new.header.items _ in
    let count = length-map-range_with_len (bitmap_byte c.args.asked.now.uses.now) 0 c.args.bitmap_size in
    let text = ap length c.put.ensures ∙ length-append c.put_bitmap.new.header.items _ in
    let room = c.requires.room in
    omega (arith, head, bitmap, count, text, room)
