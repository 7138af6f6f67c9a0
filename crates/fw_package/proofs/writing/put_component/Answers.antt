use Rattle.std.proofs.Common.{append_assoc, refl}
use Rattle.fw_package.proofs.writing.put_component.Goals as goal

pub returns-clause-bytes : goal.returns-clause-bytes
returns-clause-bytes c =
    rw (
      c.put.ensures,
      c.put_text_head.ensures,
      c.put_u32-3.ensures.bytes,
      c.put_u32-2.ensures.bytes,
      c.put_u16-4.ensures.bytes,
      c.put_u16-3.ensures.bytes,
      c.put_u32.ensures.bytes,
      c.put_u16-2.ensures.bytes,
      c.put_u16.ensures.bytes,
    ) (simp append_assoc refl)
