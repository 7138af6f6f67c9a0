-- The published check value.
use Rattle.std.proofs.Common.{refl}
use Rattle.mctp_serial.specs.Check.{check_after, check_after_bit, check_after_byte}
use Rattle.mctp_serial.specs.Laws.{HasCheckValue}

pub check_value : HasCheckValue
unfolding check_after check_after_byte check_after_bit
check_value = refl
