-- The answers of an endpoint to control messages (DSP0236, section 12).
use Rattle.std.specs.Prelude.{ℕ, ◌/◌, ◌%◌, ◌==◌, ◌&&◌, ◌||◌, nat_lt, if◌then◌else◌, List, [], ◌∷◌, Option, Some, None}
use Rattle.mctp_ctl.specs.declared.answers.Endpoint.{Endpoint}
use Rattle.mctp_ctl.specs.declared.codes.ControlCommand.{ControlCommand}
use Rattle.mctp_ctl.specs.declared.codes.ControlCommand.TheVariants.{SetEndpointId, GetEndpointId, GetEndpointUuid, GetMctpVersionSupport, GetMessageTypeSupport}
use Rattle.mctp_ctl.specs.Codes.{command_of, success, error_invalid_data, error_invalid_length, error_unsupported_cmd, message_type_not_supported}

-- An answer with a code other than 0 ends at the code.
abbrev pub refused_with : ℕ → List ℕ
refused_with code = code ∷ []

-- Set Endpoint ID requests an operation, in its low two bits (0 set, 1 force), and an identifier.
-- The endpoint keeps its own: it accepts that one (status 0x00) and rejects another (0x10). It has
-- no pool of identifiers.
abbrev pub set_endpoint_id : ℕ → List ℕ → List ℕ
set_endpoint_id own (operation ∷ eid ∷ []) =
    if nat_lt 1 (operation % 4) || ((eid == 0) || (eid == 255)) then refused_with error_invalid_data
    else success ∷ (if eid == own then 0x00 else 0x10) ∷ own ∷ 0 ∷ []
set_endpoint_id own _ = refused_with error_invalid_length

-- Get Endpoint ID returns the identifier, its type (0x01, a simple endpoint with a fixed
-- identifier) and a medium byte.
abbrev pub get_endpoint_id : ℕ → List ℕ → List ℕ
get_endpoint_id own [] = success ∷ own ∷ 0x01 ∷ 0x00 ∷ []
get_endpoint_id own (_ ∷ _) = refused_with error_invalid_length

-- Get Endpoint UUID returns the 16 bytes.
abbrev pub get_endpoint_uuid : List ℕ → List ℕ → List ℕ
get_endpoint_uuid uuid [] = success ∷ uuid
get_endpoint_uuid uuid (_ ∷ _) = refused_with error_invalid_length

-- version 1.3.1 in the version number encoding: major, minor and update, each one decimal digit
-- after the digit F, and no letter
abbrev pub base_version : List ℕ
base_version = 0xF1 ∷ 0xF3 ∷ 0xF1 ∷ 0x00 ∷ []

-- Get MCTP Version Support returns one version for the base protocol (type 0xFF): 1.3.1.
abbrev pub get_mctp_version_support : List ℕ → List ℕ
get_mctp_version_support (kind ∷ []) =
    if kind == 0xFF then success ∷ 1 ∷ base_version else refused_with message_type_not_supported
get_mctp_version_support _ = refused_with error_invalid_length

-- Get Message Type Support returns one type: PLDM, 0x01.
abbrev pub get_message_type_support : List ℕ → List ℕ
get_message_type_support [] = success ∷ 1 ∷ 0x01 ∷ []
get_message_type_support (_ ∷ _) = refused_with error_invalid_length

-- the table of commands: the completion code and the fields after it
abbrev pub completion_in : Endpoint → Option ControlCommand → List ℕ → List ℕ
completion_in e (Some SetEndpointId) fields = set_endpoint_id e.eid fields
completion_in e (Some GetEndpointId) fields = get_endpoint_id e.eid fields
completion_in e (Some GetEndpointUuid) fields = get_endpoint_uuid e.uuid fields
completion_in e (Some GetMctpVersionSupport) fields = get_mctp_version_support fields
completion_in e (Some GetMessageTypeSupport) fields = get_message_type_support fields
completion_in e None fields = refused_with error_unsupported_cmd

abbrev pub completion_of : Endpoint → ℕ → List ℕ → List ℕ
completion_of e command fields = completion_in e (command_of command) fields

-- The answer to a control message, which repeats its instance identifier and command. The message's
-- second byte has Rq set and D clear. A message of less than three bytes, an answer and a datagram
-- have no answer.
abbrev pub answer_of : Endpoint → List ℕ → Option (List ℕ)
answer_of e (kind ∷ flags ∷ command ∷ fields) =
    if (kind == 0) && (flags / 64 == 2)
    then Some (0 ∷ flags % 32 ∷ command ∷ completion_of e command fields)
    else None
answer_of e _ = None
