-- The completion codes of DSP0240, with the standard's names.
use Rattle.std.specs.Prelude.{ℕ}

abbrev pub success : ℕ
success = 0x00

abbrev pub error : ℕ
error = 0x01

abbrev pub invalid_data : ℕ
invalid_data = 0x02

abbrev pub invalid_length : ℕ
invalid_length = 0x03

abbrev pub not_ready : ℕ
not_ready = 0x04

abbrev pub unsupported_command : ℕ
unsupported_command = 0x05

abbrev pub invalid_pldm_type : ℕ
invalid_pldm_type = 0x20

-- only of GetPLDMCommands
abbrev pub invalid_type_in_request : ℕ
invalid_type_in_request = 0x83
