-- The base commands of PLDM (DSP0240) that a front answers: a definition for each row, which gives
-- the answer's completion code and fields.
use Rattle.std.specs.Prelude.{ℕ, ◌==◌, ◌&&◌, ◌||◌, not, false, if◌then◌else◌, List, [], ◌∷◌, ◌++◌, Option, Some, None, Result, Ok, Err}
use Rattle.std.specs.Option.{option_map}
use Rattle.byteorder.specs.Endian.{little_bytes}
use Rattle.fw_package.specs.Crc.{crc_of}
use Rattle.pldm_base.specs.declared.header.PldmFault.{PldmFault}
use Rattle.pldm_base.specs.declared.header.PldmHead.{PldmHead}
use Rattle.pldm_base.specs.Base.{base_commands, bits_from}
use Rattle.pldm_base.specs.Codes.{invalid_length, invalid_type_in_request, success}
use Rattle.pldm_base.specs.Header.{pldm_bytes, pldm_of}

-- completion codes of GetPLDMVersion alone
abbrev pub invalid_data_transfer_handle : ℕ
invalid_data_transfer_handle = 0x80

abbrev pub invalid_transfer_operation_flag : ℕ
invalid_transfer_operation_flag = 0x81

-- Version 1.0.0 as a ver32: from its low byte, no letter, then update, minor and major, each one
-- decimal digit after the digit F.
abbrev pub type_version : List ℕ
type_version = 0x00 ∷ 0xF0 ∷ 0xF0 ∷ 0xF1 ∷ []

-- the version data of a PLDM type: its one version, and their CRC-32
abbrev pub version_data : List ℕ
version_data = type_version ++ little_bytes 4 (crc_of type_version)

-- GetPLDMVersion requests, with a transfer handle (4 bytes), an operation and a PLDM type. The
-- first part (1) of the types 0 and 5 is the whole (transfer flag 5), and no part follows (handle
-- 0). So no handle is valid for the next part (0).
abbrev pub version_reply : List ℕ → List ℕ
version_reply (_ ∷ _ ∷ _ ∷ _ ∷ operation ∷ pldm_type ∷ []) =
    if operation == 0 then invalid_data_transfer_handle ∷ []
    else if not (operation == 1) then invalid_transfer_operation_flag ∷ []
    else if (pldm_type == 0) || (pldm_type == 5) then success ∷ 0 ∷ 0 ∷ 0 ∷ 0 ∷ 5 ∷ version_data
    else invalid_type_in_request ∷ []
version_reply _ = invalid_length ∷ []

-- GetPLDMCommands for type 0, of any version: the node's commands, and GetPLDMVersion (3)
abbrev pub commands_reply : List ℕ → Option (List ℕ)
commands_reply (pldm_type ∷ _ ∷ _ ∷ _ ∷ _ ∷ []) =
    if pldm_type == 0 then Some (success ∷ bits_from 0 32 (3 ∷ base_commands)) else None
commands_reply _ = None

-- the rows by their command
abbrev pub reply_of : ℕ → List ℕ → Option (List ℕ)
reply_of command fields =
    if command == 3 then Some (version_reply fields)
    else if command == 5 then commands_reply fields
    else None

-- The answer to a request of type 0. It repeats the instance identifier, the type and the command.
abbrev pub pldm_answer_in : Result (PldmHead × List ℕ) PldmFault → Option (List ℕ)
pldm_answer_in (Ok (h, fields)) =
    if h.rq && (h.pldm_type == 0)
    then option_map (λ reply. pldm_bytes (record h { rq = false }) reply) (reply_of h.command fields)
    else None
pldm_answer_in (Err _) = None

abbrev pub pldm_answer : List ℕ → Option (List ℕ)
pldm_answer message = pldm_answer_in (pldm_of message)
