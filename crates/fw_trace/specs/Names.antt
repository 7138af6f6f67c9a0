-- The standards' names of commands and completion codes, and the names of the reasons why a packet
-- is dropped.
use Rattle.std.specs.Prelude.{ℕ, ◌==◌, if◌then◌else◌, List, ◌++◌, Option, Some, None, codes}
use Rattle.mctp_ctl.specs.declared.codes.ControlCommand.{ControlCommand}
use Rattle.mctp_ctl.specs.declared.codes.ControlCommand.TheVariants as controls
use Rattle.mctp_reasm.specs.declared.outcomes.DropCause.{DropCause}
use Rattle.mctp_reasm.specs.declared.outcomes.DropCause.TheVariants as causes
use Rattle.fw_trace.specs.declared.names.CodeTable.{CodeTable}
use Rattle.fw_trace.specs.declared.names.CodeTable.TheVariants as tables
use Rattle.fw_trace.specs.Pieces.{in_two}

-- the commands of PLDM type 5 (DSP0267 1.0, "PLDM for firmware update command codes")
abbrev pub update_command : ℕ → Option (List ℕ)
update_command code =
    if code == 0x01 then Some (codes "QueryDeviceIdentifiers")
    else if code == 0x02 then Some (codes "GetFirmwareParameters")
    else if code == 0x10 then Some (codes "RequestUpdate")
    else if code == 0x13 then Some (codes "PassComponentTable")
    else if code == 0x14 then Some (codes "UpdateComponent")
    else if code == 0x15 then Some (codes "RequestFirmwareData")
    else if code == 0x16 then Some (codes "TransferComplete")
    else if code == 0x17 then Some (codes "VerifyComplete")
    else if code == 0x18 then Some (codes "ApplyComplete")
    else if code == 0x1A then Some (codes "ActivateFirmware")
    else if code == 0x1B then Some (codes "GetStatus")
    else if code == 0x1C then Some (codes "CancelUpdateComponent")
    else if code == 0x1D then Some (codes "CancelUpdate")
    else None

-- the commands of PLDM type 0 (DSP0240)
abbrev pub base_command : ℕ → Option (List ℕ)
base_command code =
    if code == 0x01 then Some (codes "SetTID")
    else if code == 0x02 then Some (codes "GetTID")
    else if code == 0x03 then Some (codes "GetPLDMVersion")
    else if code == 0x04 then Some (codes "GetPLDMTypes")
    else if code == 0x05 then Some (codes "GetPLDMCommands")
    else None

-- the control commands (DSP0236, Table 12)
abbrev pub control_name : ControlCommand → List ℕ
control_name controls.SetEndpointId = codes "SetEndpointID"
control_name controls.GetEndpointId = codes "GetEndpointID"
control_name controls.GetEndpointUuid = codes "GetEndpointUUID"
control_name controls.GetMctpVersionSupport = codes "GetMCTPVersionSupport"
control_name controls.GetMessageTypeSupport = codes "GetMessageTypeSupport"

-- the completion codes that every PLDM type shares (DSP0240, "PLDM completion codes")
abbrev pub shared_code : ℕ → Option (List ℕ)
shared_code code =
    if code == 0x00 then Some (codes "SUCCESS")
    else if code == 0x01 then Some (codes "ERROR")
    else if code == 0x02 then Some (codes "ERROR_INVALID_DATA")
    else if code == 0x03 then Some (codes "ERROR_INVALID_LENGTH")
    else if code == 0x04 then Some (codes "ERROR_NOT_READY")
    else if code == 0x05 then Some (codes "ERROR_UNSUPPORTED_PLDM_CMD")
    else if code == 0x20 then Some (codes "ERROR_INVALID_PLDM_TYPE")
    else None

-- the completion codes of PLDM type 0: its commands have one of their own
abbrev pub base_code : ℕ → Option (List ℕ)
base_code code =
    if code == 0x83 then Some (codes "INVALID_PLDM_TYPE_IN_REQUEST_DATA")
    else shared_code code

-- the completion codes of PLDM type 5 (DSP0267 1.0, "PLDM for firmware update completion codes")
abbrev pub update_code : ℕ → Option (List ℕ)
update_code code =
    if code == 0x80 then Some (codes "NOT_IN_UPDATE_MODE")
    else if code == 0x81 then Some (codes "ALREADY_IN_UPDATE_MODE")
    else if code == 0x82 then Some (codes "DATA_OUT_OF_RANGE")
    else if code == 0x83 then Some (codes "INVALID_TRANSFER_LENGTH")
    else if code == 0x84 then Some (codes "INVALID_STATE_FOR_COMMAND")
    else if code == 0x85 then Some (codes "INCOMPLETE_UPDATE")
    else if code == 0x88 then Some (codes "COMMAND_NOT_EXPECTED")
    else if code == 0x89 then Some (codes "RETRY_REQUEST_FW_DATA")
    else if code == 0x8B then Some (codes "ACTIVATION_NOT_REQUIRED")
    else shared_code code

-- the completion codes of control messages (DSP0236, Table 13)
abbrev pub control_code : ℕ → Option (List ℕ)
control_code code =
    if code == 0x00 then Some (codes "SUCCESS")
    else if code == 0x01 then Some (codes "ERROR")
    else if code == 0x02 then Some (codes "ERROR_INVALID_DATA")
    else if code == 0x03 then Some (codes "ERROR_INVALID_LENGTH")
    else if code == 0x04 then Some (codes "ERROR_NOT_READY")
    else if code == 0x05 then Some (codes "ERROR_UNSUPPORTED_CMD")
    else None

-- the completion codes of a kind of messages
abbrev pub code_name : CodeTable → ℕ → Option (List ℕ)
code_name tables.Control code = control_code code
code_name tables.Base code = base_code code
code_name tables.Shared code = shared_code code

-- the name of a number, or its two digits if it has none
abbrev pub name_or_digits : Option (List ℕ) → ℕ → List ℕ
name_or_digits (Some name) n = codes " " ++ name
name_or_digits None n = in_two (codes " ") n

-- why an assembly drops a packet
abbrev pub cause_name : DropCause → List ℕ
cause_name causes.NoStart = codes "NoStart"
cause_name causes.Sequence = codes "Sequence"
cause_name causes.«Unit» = codes "Unit"
cause_name causes.StartNumber = codes "StartNumber"
cause_name causes.FifthPacket = codes "FifthPacket"
