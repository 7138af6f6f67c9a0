-- The transmission unit of a network, and the size of its messages.
use Rattle.std.specs.Prelude.{ℕ, ◌*◌}
use Rattle.mctp_wire.specs.declared.unit.TheConstants.{MAX_PACKETS}
use Rattle.mctp_wire.specs.declared.unit.Unit.{«Unit»}
use Rattle.mctp_wire.specs.declared.unit.Unit.TheVariants.{U64, U128}

-- the most bytes of a packet's body
abbrev pub bytes_of : «Unit» → ℕ
bytes_of U64 = 64
bytes_of U128 = 128

-- the most bytes of a message, its type byte included: four packets' bodies
abbrev pub message_limit : «Unit» → ℕ
message_limit u = MAX_PACKETS * bytes_of u
