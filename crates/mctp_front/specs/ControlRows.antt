-- The control messages (DSP0236, section 12) that a front answers: a definition for each row, which
-- gives the answer from its type byte on.
use Rattle.std.specs.Prelude.{ℕ, ◌/◌, ◌%◌, ◌==◌, ◌&&◌, ◌||◌, if◌then◌else◌, List, [], ◌∷◌, Option, Some, None}
use Rattle.std.specs.Option.{option_map}
use Rattle.mctp_ctl.specs.declared.answers.Endpoint.{Endpoint}
use Rattle.mctp_ctl.specs.Codes.{success}
use Rattle.mctp_ctl.specs.Control.{answer_of, base_version}

-- Set Endpoint ID (1) and Get Endpoint ID (2), sent to the null identifier: answered as under the
-- endpoint's own.
abbrev pub physical_answer : Endpoint → List ℕ → Option (List ℕ)
physical_answer e (kind ∷ flags ∷ command ∷ fields) =
    if (command == 1) || (command == 2) then answer_of e (kind ∷ flags ∷ command ∷ fields) else None
physical_answer e _ = None

-- version 1.0.0 of PLDM over MCTP (DSP0241), in the version number encoding of DSP0236: major,
-- minor and update, each one decimal digit after the digit F, and no letter
abbrev pub binding_version : List ℕ
binding_version = 0xF1 ∷ 0xF0 ∷ 0xF0 ∷ 0x00 ∷ []

-- the version of a message type: control messages have that of the base protocol
abbrev pub version_of_type : ℕ → Option (List ℕ)
version_of_type kind = if kind == 0 then Some base_version else if kind == 1 then Some binding_version else None

-- Get MCTP Version Support (4) for such a type: one version. The request has Rq set and D clear.
abbrev pub version_support_answer : List ℕ → Option (List ℕ)
version_support_answer (kind ∷ flags ∷ command ∷ asked ∷ []) =
    if (kind == 0) && ((flags / 64 == 2) && (command == 4))
    then option_map (λ version. 0 ∷ flags % 32 ∷ 4 ∷ success ∷ 1 ∷ version) (version_of_type asked)
    else None
version_support_answer _ = None
