use Rattle.std.proofs.Common.{◌≡◌, append_assoc, arith, refl}
use Rattle.std.proofs.lemmas.List.{length-map}
use Rattle.fw_package.specs.Asked.{asked_record_of, record_size}
use Rattle.fw_package.specs.Package.{descriptor_of}
use Rattle.fw_package.proofs.writing.put_record_head.Goals as goal

pub returns-clause-bytes : goal.returns-clause-bytes
returns-clause-bytes c =
    let small = c.requires.small in
    let capped_at = c.record_size.ensures in
    let sized : c.record_size.result ≡ record_size c.args.bitmap_size (asked_record_of c.args.asked.now) = omega (arith, small, capped_at) in
    rw (
      c.put_u16-2.ensures.bytes,
      c.put_text_head.ensures,
      c.put_u32.ensures.bytes,
      c.push.ensures.items,
      c.put_u16.ensures.bytes,
      length-map c.args.asked.now.descriptors.now descriptor_of,
      sized,
    ) (simp append_assoc refl)
