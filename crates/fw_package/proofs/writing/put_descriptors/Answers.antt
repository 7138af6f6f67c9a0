use Rattle.std.proofs.Common.{◌<◌, arith}
use Rattle.fw_package.specs.Asked.{descriptor_size}
use Rattle.fw_package.specs.Package.{descriptor_of}
use Rattle.fw_package.specs.Writing.{descriptor_bytes}
use Rattle.fw_package.proofs.Puts.{put_all, put_more, put_room}
use Rattle.fw_package.proofs.writing.put_descriptors.Goals as goal

pub put_descriptor-requires : goal.put_descriptor-requires
put_descriptor-requires c =
    put_room descriptor_of descriptor_bytes descriptor_size (λ d. d.kind < 65536) c.args.header.now.items c.args.descriptors.now c.loop-descriptor.descriptor-index _ c.loop-descriptor.header.items 65535
    (λ d. omega arith) c.loop-descriptor.invariant c.loop-descriptor-test.true c.requires

pub loop-descriptor-preserved : goal.loop-descriptor-preserved
loop-descriptor-preserved c =
    put_more descriptor_of descriptor_bytes (λ d. d.kind < 65536) c.args.header.now.items c.args.descriptors.now c.loop-descriptor.descriptor-index _ c.loop-descriptor.header.items c.put_descriptor.new.header.items
    c.loop-descriptor.invariant c.loop-descriptor-test.true c.put_descriptor.ensures.bytes c.put_descriptor.ensures.width

pub returns-clause-bytes : goal.returns-clause-bytes
returns-clause-bytes c = (put_all descriptor_of descriptor_bytes (λ d. d.kind < 65536) c.args.header.now.items c.args.descriptors.now c.loop-descriptor.descriptor-index c.loop-descriptor.header.items c.loop-descriptor.invariant c.loop-descriptor-test.false).0

pub returns-clause-widths : goal.returns-clause-widths
returns-clause-widths c = (put_all descriptor_of descriptor_bytes (λ d. d.kind < 65536) c.args.header.now.items c.args.descriptors.now c.loop-descriptor.descriptor-index c.loop-descriptor.header.items c.loop-descriptor.invariant c.loop-descriptor-test.false).1
