use Rattle.std.proofs.Common.{◌++◌, ◌∙◌, ap, arith, sym}
use Rattle.fwup_wire.specs.Lent.{device_descriptor_of}
use Rattle.fw_setup.proofs.Rooms.{room_left}
use Rattle.fw_setup.proofs.nodes.same_descriptors.Goals as goal

pub push-requires : goal.push-requires
push-requires c =
    room_left c.loop-descriptor.same (device_descriptor_of c.in-Some.descriptor) c.next.new.self c.args.descriptors.now
    (ap (λ xs. c.loop-descriptor.same ++ xs) (sym c.in-Some.ensures.steps) ∙ c.loop-descriptor.invariant.2) (let all = c.room-room.ensures in omega arith)
