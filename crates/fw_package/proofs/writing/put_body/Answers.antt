use Rattle.std.proofs.Common.{◌≡◌, ◌∙◌, [], ap, arith, length, length-append}
use Rattle.std.proofs.lemmas.List.{length-map}
use Rattle.fw_package.specs.Asked.{asked_component_of, asked_package_of, header_size}
use Rattle.fw_package.specs.Writing.{opening_bytes}
use Rattle.fw_package.proofs.Written.{bitmap_small, body_put, few_asked, no_length, opening_long, records_long, records_put}
use Rattle.fw_package.proofs.writing.put_body.Goals as goal

pub put_records-requires-clause-small : goal.put_records-requires-clause-small
put_records-requires-clause-small c =
    let few = few_asked (asked_package_of c.args.asked.now) c.requires.fit.header in
    let count = length-map c.args.asked.now.components.now asked_component_of in
    let small = bitmap_small (length c.args.asked.now.components.now) (omega (arith, few, count)) in
    let is = c.bitmap_size.ensures in
    omega (arith, small, is)

pub overflow_cast-asked-2 : goal.overflow_cast-asked-2
overflow_cast-asked-2 c =
    let few = few_asked (asked_package_of c.args.asked.now) c.requires.fit.header in
    let count = length-map c.args.asked.now.components.now asked_component_of in
    omega (arith, few, count)

pub put_u16-requires : goal.put_u16-requires
put_u16-requires c =
    let opening = ap length c.put_opening.ensures.bytes ∙ length-append c.args.header.now.items (opening_bytes (asked_package_of c.args.asked.now)) in
    let long = opening_long (asked_package_of c.args.asked.now) c.put_opening.ensures.release in
    let one = c.push.ensures.len in
    let put = ap length (records_put c.push.new.self.items c.put_records.new.header.items c.args.asked.now c.bitmap_size.result c.bitmap_size.ensures c.put_records.ensures.bytes) ∙ length-append c.push.new.self.items _ in
    let recorded = records_long (asked_package_of c.args.asked.now) in
    let empty = c.requires.empty in
    let fits = c.requires.fit.header in
    omega (arith, opening, long, one, put, recorded, empty, fits)

pub put_components-requires-clause-room : goal.put_components-requires-clause-room
put_components-requires-clause-room c =
    let opening = ap length c.put_opening.ensures.bytes ∙ length-append c.args.header.now.items (opening_bytes (asked_package_of c.args.asked.now)) in
    let long = opening_long (asked_package_of c.args.asked.now) c.put_opening.ensures.release in
    let one = c.push.ensures.len in
    let put = ap length (records_put c.push.new.self.items c.put_records.new.header.items c.args.asked.now c.bitmap_size.result c.bitmap_size.ensures c.put_records.ensures.bytes) ∙ length-append c.push.new.self.items _ in
    let recorded = records_long (asked_package_of c.args.asked.now) in
    let two = ap length c.put_u16.ensures.bytes ∙ length-append c.put_records.new.header.items _ in
    let empty = c.requires.empty in
    let fits = c.requires.fit.header in
    omega (arith, opening, long, one, put, recorded, two, empty, fits)

pub returns-clause-bytes : goal.returns-clause-bytes
returns-clause-bytes c =
    let none : c.args.header.now.items ≡ [] = no_length c.args.header.now.items c.requires.empty in
    let fits = c.requires.fit.header in
    let capped_at = c.header_size.ensures in
    let sized : c.header_size.result ≡ header_size (asked_package_of c.args.asked.now) = omega (arith, fits, capped_at) in
    body_put c.args.asked.now c.args.header.now.items c.put_opening.new.header.items c.push.new.self.items c.put_records.new.header.items c.put_u16.new.header.items c.put_components.new.header.items
    c.bitmap_size.result c.header_size.result none c.put_opening.ensures.bytes c.push.ensures.items c.put_records.ensures.bytes c.bitmap_size.ensures c.put_u16.ensures.bytes c.put_components.ensures.bytes sized
