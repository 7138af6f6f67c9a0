use Rattle.std.proofs.Common.{◌≡◌, ◌<◌, ◌∙◌, ap, arith, length}
use Rattle.byteorder.specs.Endian.{little_number}
use Rattle.fw_edge.proofs.Frames.{ends_after, part_after}
use Rattle.fw_edge.proofs.frame.read_frame_into.Goals as goal

pub returns-in-Err-read_up_to-clause-fault : goal.returns-in-Err-read_up_to-clause-fault
returns-in-Err-read_up_to-clause-fault g c =
    let two : length c.read_up_to.new.held.items ≡ 2 = omega (arith, c.in-Ok.ensures.within, c.len.ensures.value) in
    let is : c.from-size.result ≡ little_number 2 c.read_up_to.new.held.items = c.from-size.ensures ∙ c.read_u16.ensures ∙ ap (little_number 2) c.as_slice.ensures.value in
    part_after c.args.unit _ _ _ c.read_up_to.new.held.items c.from-size.result two is (omega arith) c.in-Ok.ensures.bytes c.in-Err-read_up_to.ensures.part

pub returns-then-len-size-clause-fault : goal.returns-then-len-size-clause-fault
returns-then-len-size-clause-fault g c =
    let two : length c.read_up_to.new.held.items ≡ 2 = omega (arith, c.in-Ok.ensures.within, c.len.ensures.value) in
    let is : c.from-size.result ≡ little_number 2 c.read_up_to.new.held.items = c.from-size.ensures ∙ c.read_u16.ensures ∙ ap (little_number 2) c.as_slice.ensures.value in
    let less : length c.read_up_to-2.new.held.items < c.from-size.result = omega (arith, c.len-2.ensures.value) in
    ends_after c.args.unit _ _ _ c.read_up_to.new.held.items c.read_up_to-2.new.held.items c.from-size.result two is (omega arith) c.in-Ok.ensures.bytes c.in-Ok-read_up_to.ensures.bytes less (c.in-Ok-read_up_to.ensures.end less)
