use Rattle.std.proofs.Common.{rules, refl, slice_set, length, ◌<◌, ◌≡◌, ◌+◌}
use Rattle.fwup_wire.specs.Lent.{device_descriptor_of}
use Rattle.ua_core.proofs.Known.{known_step}
use Rattle.ua_core.proofs.lent.known.Goals as goal

pub loop-descriptor-preserved : goal.loop-descriptor-preserved
loop-descriptor-preserved c =
    let below : c.loop-descriptor.count < length c.loop-descriptor.known = search rules in
    let size : length (slice_set c.loop-descriptor.known c.loop-descriptor.count (record { kind = c.in-Some.descriptor.kind; bytes = c.in-Some.descriptor.bytes })) ≡ 255 = search rules in
    let left : c.loop-descriptor.count + 1 + length c.next.new.self ≡ length c.args.descriptors.now = search rules in (
      tt,
      tt,
      size,
      left,
      known_step c.loop-descriptor.known c.loop-descriptor.count
          (record { kind = c.in-Some.descriptor.kind; bytes = c.in-Some.descriptor.bytes })
          (device_descriptor_of c.in-Some.descriptor) c.next.new.self c.loop-descriptor.descriptor-iterator c.args.descriptors.now
          below c.in-Some.ensures.steps refl c.loop-descriptor.invariant.4,
    )
