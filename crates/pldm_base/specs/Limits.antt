-- The bytes of a message after its header.
use Rattle.std.specs.Prelude.{ℕ, ◌-◌}
use Rattle.mctp_wire.specs.declared.unit.Unit.{«Unit»}
use Rattle.mctp_wire.specs.Units.{message_limit}
use Rattle.pldm_base.specs.declared.header.TheConstants.{HEADER_SIZE}

-- the most bytes of request data, and of a reply with its code
abbrev pub reply_limit : «Unit» → ℕ
reply_limit u = message_limit u - HEADER_SIZE
