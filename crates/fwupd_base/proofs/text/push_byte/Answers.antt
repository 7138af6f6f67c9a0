use Rattle.std.proofs.Common.{append_assoc, refl}
use Rattle.fwupd_base.proofs.Digits.{encode_upper_byte}
use Rattle.fwupd_base.proofs.text.push_byte.Goals as goal

pub returns-clause-digits : goal.returns-clause-digits
returns-clause-digits c = rw (c.push-2.ensures.items, c.push.ensures.items, append_assoc, c.from.ensures, c.from-2.ensures, encode_upper_byte c.args.byte) refl
