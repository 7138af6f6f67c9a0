use Rattle.std.proofs.Common.{◌≤◌, [], arith, length, map, refl}
use Rattle.fw_package.specs.Asked.{asked_component_of}
use Rattle.fw_package.specs.declared.asked.AskedComponent.{AskedComponent}
use Rattle.fw_package.proofs.Puts.{place_all, place_inside, place_more, place_none, place_room, put_fits}
use Rattle.fw_package.proofs.writing.put_components.Goals as goal

pub put_component-requires-clause-room : goal.put_component-requires-clause-room
put_component-requires-clause-room c =
    place_room c.args.header.now.items c.args.start c.args.components.now c.loop-asked.asked-index c.loop-asked.offset _ c.loop-asked.header.items c.loop-asked.invariant c.loop-asked-test.true c.requires.room

pub put_component-requires-clause-short : goal.put_component-requires-clause-short
put_component-requires-clause-short c = put_fits asked_component_of (λ x. length x.text ≤ 255) c.args.components.now c.loop-asked.asked-index _ c.requires.short c.loop-asked-test.true

pub put_component-requires-clause-inside : goal.put_component-requires-clause-inside
put_component-requires-clause-inside c =
    place_inside c.args.header.now.items c.args.start c.args.components.now c.loop-asked.asked-index c.loop-asked.offset _ c.loop-asked.header.items c.loop-asked.invariant c.loop-asked-test.true c.requires.inside

pub loop-asked-init : goal.loop-asked-init
loop-asked-init c = place_none c.args.header.now.items c.args.start (map asked_component_of c.args.components.now)

pub overflow_add-offset : goal.overflow_add-offset
overflow_add-offset c =
    let none : AskedComponent = record { classification = 0; identifier = 0; stamp = 0; options = 0; method = 0; text = record { ref_ptr = (0, 0); now = [] }; size = 0 } in
    let inside = place_inside c.args.header.now.items c.args.start c.args.components.now c.loop-asked.asked-index c.loop-asked.offset none c.loop-asked.header.items c.loop-asked.invariant c.loop-asked-test.true c.requires.inside in
    omega (arith, inside)

pub loop-asked-preserved : goal.loop-asked-preserved
loop-asked-preserved c =
    place_more c.args.header.now.items c.args.start c.args.components.now c.loop-asked.asked-index c.loop-asked.offset _ _ c.loop-asked.header.items c.put_component.new.header.items
    c.loop-asked.invariant c.loop-asked-test.true c.put_component.ensures.bytes c.put_component.ensures.widths refl

pub returns-clause-bytes : goal.returns-clause-bytes
returns-clause-bytes c =
    (place_all c.args.header.now.items c.args.start c.args.components.now c.loop-asked.asked-index c.loop-asked.offset c.loop-asked.header.items c.loop-asked.invariant c.loop-asked-test.false).0

pub returns-clause-widths : goal.returns-clause-widths
returns-clause-widths c =
    (place_all c.args.header.now.items c.args.start c.args.components.now c.loop-asked.asked-index c.loop-asked.offset c.loop-asked.header.items c.loop-asked.invariant c.loop-asked-test.false).1
