-- The number of bytes of an image that are sent at once.
use Rattle.std.specs.Prelude.{◌*◌, ◌-◌, ◌/◌, ℕ}
use Rattle.mctp_wire.specs.declared.unit.Unit.{«Unit»}
use Rattle.pldm_base.specs.Limits.{reply_limit}

-- the most: the greatest multiple of 16 that a reply holds after its code
abbrev pub transfer_size : «Unit» → ℕ
transfer_size u = (reply_limit u - 1) / 16 * 16
