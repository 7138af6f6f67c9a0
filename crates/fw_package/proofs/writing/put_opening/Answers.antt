use Rattle.std.proofs.Common.{◌≡◌, append_assoc, arith, length, refl}
use Rattle.std.proofs.lemmas.List.{length-map}
use Rattle.fw_package.specs.Asked.{asked_component_of, asked_package_of, header_size}
use Rattle.fw_package.proofs.Written.{bitmap_small, few_asked}
use Rattle.fw_package.proofs.writing.put_opening.Goals as goal

pub overflow_cast-bitmap_size : goal.overflow_cast-bitmap_size
overflow_cast-bitmap_size c =
    let few = few_asked (asked_package_of c.args.asked.now) c.requires.fit.header in
    let count = length-map c.args.asked.now.components.now asked_component_of in
    let small = bitmap_small (length c.args.asked.now.components.now) (omega (arith, few, count)) in
    let is = c.bitmap_size-bitmap_size.ensures in
    omega (arith, small, is)

pub returns-clause-bytes : goal.returns-clause-bytes
returns-clause-bytes c =
    let fits = c.requires.fit.header in
    let capped_at = c.header_size.ensures in
    let sized : c.header_size.result ≡ header_size (asked_package_of c.args.asked.now) = omega (arith, fits, capped_at) in
    rw (
      c.put-3.ensures,
      c.put_text_head.ensures,
      c.put_u16-2.ensures.bytes,
      c.put-2.ensures,
      c.put_u16.ensures.bytes,
      c.push.ensures.items,
      c.put.ensures,
      c.as_bytes.ensures,
      c.package_identifier.ensures,
      sized,
      c.bitmap_size-bitmap_size.ensures,
      length-map c.args.asked.now.components.now asked_component_of,
    ) (simp append_assoc refl)
