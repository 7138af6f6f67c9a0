-- The numbers of control messages (DSP0236, section 12).
use Rattle.std.specs.Prelude.{ℕ, ◌==◌, if◌then◌else◌, Option, Some, None}
use Rattle.mctp_ctl.specs.declared.codes.ControlCommand.{ControlCommand}
use Rattle.mctp_ctl.specs.declared.codes.ControlCommand.TheVariants.{SetEndpointId, GetEndpointId, GetEndpointUuid, GetMctpVersionSupport, GetMessageTypeSupport}

-- the command with a code (Table 12)
abbrev pub command_of : ℕ → Option ControlCommand
command_of code =
    if code == 1 then Some SetEndpointId
    else if code == 2 then Some GetEndpointId
    else if code == 3 then Some GetEndpointUuid
    else if code == 4 then Some GetMctpVersionSupport
    else if code == 5 then Some GetMessageTypeSupport
    else None

-- completion codes (Table 13)
abbrev pub success : ℕ
success = 0x00

abbrev pub error_invalid_data : ℕ
error_invalid_data = 0x02

abbrev pub error_invalid_length : ℕ
error_invalid_length = 0x03

abbrev pub error_unsupported_cmd : ℕ
error_unsupported_cmd = 0x05

-- Get MCTP Version Support's own completion code
abbrev pub message_type_not_supported : ℕ
message_type_not_supported = 0x80
