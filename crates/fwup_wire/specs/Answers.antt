-- The answers of DSP0267 1.0: the bytes of an answer, the result of reading, and the encoded form.
use Rattle.std.specs.Prelude.{[], ◌%◌, ◌++◌, ◌<◌, ◌==◌, ◌&&◌, ◌^◌, ◌∷◌, ◌≡◌, ◌≢◌, ◌≤◌, Bool, Err, List, None, Ok, Option, Result, Some, if◌then◌else◌, length, option_map, replicate, true, ℕ}
use Rattle.std.specs.List.{list_any}
use Rattle.byteorder.specs.Endian.{little_bytes}
use Rattle.mctp_wire.specs.declared.unit.Unit.TheVariants.{U128}
use Rattle.pldm_base.specs.Limits.{reply_limit}
use Rattle.fwup_wire.specs.Fields.{bit, u16_of, u32_of}
use Rattle.fwup_wire.specs.Descriptors.{HasDescriptorWidths, descriptors_bytes, descriptors_in}
use Rattle.fwup_wire.specs.Items.{EachItem}
use Rattle.fwup_wire.specs.Parameters.{HasParametersWidths, all_parameters_bytes, parameters_in}
use Rattle.fwup_wire.specs.Values.{AnswerOf, DeviceDescriptorOf, ParametersOf}
use Rattle.fwup_wire.specs.declared.answer.Malformed.{Malformed}
use Rattle.fwup_wire.specs.declared.answer.OfferResponse.{OfferResponse}
use Rattle.fwup_wire.specs.declared.answer.Status.{Status}

-- the commands of PLDM type 5 that this crate knows
abbrev pub known_commands : List ℕ
known_commands =
    0x01 ∷ 0x02 ∷ 0x10 ∷ 0x13 ∷ 0x14 ∷ 0x15 ∷ 0x16 ∷ 0x17 ∷ 0x18 ∷ 0x1A ∷ 0x1B ∷ 0x1C ∷ 0x1D ∷ []

abbrev pub is_known : ℕ → Bool
is_known command = list_any (λ known. known == command) known_commands

-- the completion code of an answer
abbrev pub answer_code : AnswerOf → ℕ
answer_code (AnswerOf.Refused code) = code
answer_code _ = 0

-- After the code of QueryDeviceIdentifiers: the number of bytes, the number of descriptors, and the
-- descriptors.
abbrev pub IsIdentifiers : List ℕ → List DeviceDescriptorOf → Type 0
IsIdentifiers (l0 ∷ l1 ∷ l2 ∷ l3 ∷ count ∷ rest) ds =
    (u32_of l0 l1 l2 l3 ≡ length rest) × (descriptors_in count rest ≡ Some ds)
IsIdentifiers _ ds = ⊥

-- After the code of GetFirmwareParameters: capabilities, 0; the number of components; the heads of
-- the texts of the active and the pending component image set, of type 0 and length 0; and the
-- components.
abbrev pub IsParameters : List ℕ → List ParametersOf → Type 0
IsParameters (c0 ∷ c1 ∷ c2 ∷ c3 ∷ n0 ∷ n1 ∷ a0 ∷ a1 ∷ p0 ∷ p1 ∷ rest) ps =
    (c0 ≡ 0) × (c1 ≡ 0) × (c2 ≡ 0) × (c3 ≡ 0) × (a0 ≡ 0) × (a1 ≡ 0) × (p0 ≡ 0) × (p1 ≡ 0)
    × (parameters_in (u16_of n0 n1) rest ≡ Some ps)
IsParameters _ ps = ⊥

-- After the code of RequestUpdate: the length of the device's metadata, 0, and whether it requests
-- package data, 0.
abbrev pub no_metadata : List ℕ
no_metadata = replicate 3 0

-- After the code of CancelUpdate: whether components don't work, 0, and their bits, eight bytes 0.
abbrev pub all_components_work : List ℕ
all_components_work = replicate 9 0

-- After the code of UpdateComponent: compatibility, its code, flags, time. Bit 0 of the flags is
-- force; the others are reserved and may hold anything.
abbrev pub IsOfferResponse : List ℕ → OfferResponse → Type 0
IsOfferResponse (compatibility ∷ code ∷ f0 ∷ f1 ∷ f2 ∷ f3 ∷ t0 ∷ t1 ∷ []) r =
    (compatibility ≡ r.compatibility) × (code ≡ r.code) × (((u32_of f0 f1 f2 f3 % 2) == 1) ≡ r.force)
    × (u16_of t0 t1 ≡ r.time)
IsOfferResponse _ r = ⊥

-- After the code of GetStatus: state, previous state, aux, its status, progress, reason, flags as
-- above.
abbrev pub IsStatus : List ℕ → Status → Type 0
IsStatus (state ∷ previous ∷ aux ∷ aux_status ∷ progress ∷ reason ∷ f0 ∷ f1 ∷ f2 ∷ f3 ∷ []) s =
    (state ≡ s.state) × (previous ≡ s.previous) × (aux ≡ s.aux) × (aux_status ≡ s.aux_status)
    × (progress ≡ s.progress) × (reason ≡ s.reason) × (((u32_of f0 f1 f2 f3 % 2) == 1) ≡ s.force)
IsStatus _ s = ⊥

-- After the code of ActivateFirmware: the time.
abbrev pub IsTime : List ℕ → ℕ → Type 0
IsTime (t0 ∷ t1 ∷ []) time = u16_of t0 t1 ≡ time
IsTime _ time = ⊥

-- The fields after the code 0 in an answer to this command are this answer.
abbrev pub IsSuccess : ℕ → List ℕ → AnswerOf → Type 0
IsSuccess command fields (AnswerOf.Refused code) = ⊥
IsSuccess command fields (AnswerOf.QueryDeviceIdentifiers ds) = (command ≡ 0x01) × IsIdentifiers fields ds
IsSuccess command fields (AnswerOf.GetFirmwareParameters ps) = (command ≡ 0x02) × IsParameters fields ps
IsSuccess command fields AnswerOf.RequestUpdate = (command ≡ 0x10) × (fields ≡ no_metadata)
IsSuccess command fields (AnswerOf.PassComponentTable r) = (command ≡ 0x13) × (fields ≡ r.response ∷ r.code ∷ [])
IsSuccess command fields (AnswerOf.UpdateComponent r) = (command ≡ 0x14) × IsOfferResponse fields r
IsSuccess command fields (AnswerOf.RequestFirmwareData bytes) = (command ≡ 0x15) × (fields ≡ bytes)
IsSuccess command fields AnswerOf.TransferComplete = (command ≡ 0x16) × (fields ≡ [])
IsSuccess command fields AnswerOf.VerifyComplete = (command ≡ 0x17) × (fields ≡ [])
IsSuccess command fields AnswerOf.ApplyComplete = (command ≡ 0x18) × (fields ≡ [])
IsSuccess command fields (AnswerOf.ActivateFirmware time) = (command ≡ 0x1A) × IsTime fields time
IsSuccess command fields (AnswerOf.GetStatus status) = (command ≡ 0x1B) × IsStatus fields status
IsSuccess command fields AnswerOf.CancelUpdateComponent = (command ≡ 0x1C) × (fields ≡ [])
IsSuccess command fields AnswerOf.CancelUpdate = (command ≡ 0x1D) × (fields ≡ all_components_work)

-- The bytes are this answer to this command. An answer with another code than 0 has no fields.
abbrev pub IsAnswer : ℕ → List ℕ → AnswerOf → Type 0
IsAnswer command [] a = ⊥
IsAnswer command (code ∷ fields) (AnswerOf.Refused refusal) =
    (is_known command ≡ true) × (code ≡ refusal) × (code ≢ 0) × (fields ≡ [])
IsAnswer command (code ∷ fields) a = (code ≡ 0) × IsSuccess command fields a

-- an answer without fields
abbrev pub fieldless_answer : AnswerOf → List ℕ → Option AnswerOf
fieldless_answer a [] = Some a
fieldless_answer a (_ ∷ _) = None

abbrev pub identifiers_in : List ℕ → Option AnswerOf
identifiers_in (l0 ∷ l1 ∷ l2 ∷ l3 ∷ count ∷ rest) =
    if u32_of l0 l1 l2 l3 == length rest
    then option_map AnswerOf.QueryDeviceIdentifiers (descriptors_in count rest)
    else None
identifiers_in _ = None

abbrev pub firmware_parameters_in : List ℕ → Option AnswerOf
firmware_parameters_in (c0 ∷ c1 ∷ c2 ∷ c3 ∷ n0 ∷ n1 ∷ a0 ∷ a1 ∷ p0 ∷ p1 ∷ rest) =
    if (c0 == 0) && (c1 == 0) && (c2 == 0) && (c3 == 0) && (a0 == 0) && (a1 == 0) && (p0 == 0) && (p1 == 0)
    then option_map AnswerOf.GetFirmwareParameters (parameters_in (u16_of n0 n1) rest)
    else None
firmware_parameters_in _ = None

abbrev pub update_begun_in : List ℕ → Option AnswerOf
update_begun_in (m0 ∷ m1 ∷ wants ∷ []) =
    if (m0 == 0) && (m1 == 0) && (wants == 0) then Some AnswerOf.RequestUpdate else None
update_begun_in _ = None

abbrev pub table_response_in : List ℕ → Option AnswerOf
table_response_in (response ∷ code ∷ []) = Some (AnswerOf.PassComponentTable (record { response = response; code = code }))
table_response_in _ = None

abbrev pub offer_response_in : List ℕ → Option AnswerOf
offer_response_in (compatibility ∷ code ∷ f0 ∷ f1 ∷ f2 ∷ f3 ∷ t0 ∷ t1 ∷ []) =
    Some
    (AnswerOf.UpdateComponent
    (record {
      compatibility = compatibility;
      code = code;
      force = (u32_of f0 f1 f2 f3 % 2) == 1;
      time = u16_of t0 t1;
    }))
offer_response_in _ = None

abbrev pub activation_in : List ℕ → Option AnswerOf
activation_in (t0 ∷ t1 ∷ []) = Some (AnswerOf.ActivateFirmware (u16_of t0 t1))
activation_in _ = None

abbrev pub status_in : List ℕ → Option AnswerOf
status_in (state ∷ previous ∷ aux ∷ aux_status ∷ progress ∷ reason ∷ f0 ∷ f1 ∷ f2 ∷ f3 ∷ []) =
    Some
    (AnswerOf.GetStatus
    (record {
      state = state;
      previous = previous;
      aux = aux;
      aux_status = aux_status;
      progress = progress;
      reason = reason;
      force = (u32_of f0 f1 f2 f3 % 2) == 1;
    }))
status_in _ = None

abbrev pub update_cancelled_in : List ℕ → Option AnswerOf
update_cancelled_in (broken ∷ b0 ∷ b1 ∷ b2 ∷ b3 ∷ b4 ∷ b5 ∷ b6 ∷ b7 ∷ []) =
    if (broken == 0) && (b0 == 0) && (b1 == 0) && (b2 == 0) && (b3 == 0) && (b4 == 0) && (b5 == 0) && (b6 == 0) && (b7 == 0)
    then Some AnswerOf.CancelUpdate
    else None
update_cancelled_in _ = None

-- the result of reading the fields after the code 0
abbrev pub success_in : ℕ → List ℕ → Option AnswerOf
success_in command fields =
    if command == 0x01 then identifiers_in fields
    else if command == 0x02 then firmware_parameters_in fields
    else if command == 0x10 then update_begun_in fields
    else if command == 0x13 then table_response_in fields
    else if command == 0x14 then offer_response_in fields
    else if command == 0x15 then Some (AnswerOf.RequestFirmwareData fields)
    else if command == 0x16 then fieldless_answer AnswerOf.TransferComplete fields
    else if command == 0x17 then fieldless_answer AnswerOf.VerifyComplete fields
    else if command == 0x18 then fieldless_answer AnswerOf.ApplyComplete fields
    else if command == 0x1A then activation_in fields
    else if command == 0x1B then status_in fields
    else if command == 0x1C then fieldless_answer AnswerOf.CancelUpdateComponent fields
    else if command == 0x1D then update_cancelled_in fields
    else None

abbrev pub ok_or_malformed : Option AnswerOf → Result AnswerOf Malformed
ok_or_malformed None = Err (record {})
ok_or_malformed (Some a) = Ok a

-- the result of reading: the answer, or none if the bytes are malformed
abbrev pub answer_in : ℕ → List ℕ → Option AnswerOf
answer_in command [] = None
answer_in command (code ∷ fields) =
    if code == 0 then success_in command fields
    else if is_known command then fieldless_answer (AnswerOf.Refused code) fields
    else None

-- the same as a result
abbrev pub answer_read : ℕ → List ℕ → Result AnswerOf Malformed
answer_read command bytes = ok_or_malformed (answer_in command bytes)

-- the encoded fields after the code: reserved bits are 0
abbrev pub success_bytes : AnswerOf → List ℕ
success_bytes (AnswerOf.QueryDeviceIdentifiers ds) =
    little_bytes 4 (length (descriptors_bytes ds)) ++ length ds ∷ descriptors_bytes ds
success_bytes (AnswerOf.GetFirmwareParameters ps) =
    replicate 4 0 ++ little_bytes 2 (length ps) ++ replicate 4 0 ++ all_parameters_bytes ps
success_bytes AnswerOf.RequestUpdate = no_metadata
success_bytes (AnswerOf.PassComponentTable r) = r.response ∷ r.code ∷ []
success_bytes (AnswerOf.UpdateComponent r) =
    r.compatibility ∷ r.code ∷ little_bytes 4 (bit r.force) ++ little_bytes 2 r.time
success_bytes (AnswerOf.RequestFirmwareData bytes) = bytes
success_bytes (AnswerOf.ActivateFirmware time) = little_bytes 2 time
success_bytes (AnswerOf.GetStatus s) =
    s.state ∷ s.previous ∷ s.aux ∷ s.aux_status ∷ s.progress ∷ s.reason ∷ little_bytes 4 (bit s.force)
success_bytes AnswerOf.CancelUpdate = all_components_work
success_bytes _ = []

-- the encoded answer: its code, and the fields after it
abbrev pub answer_bytes : AnswerOf → List ℕ
answer_bytes a = answer_code a ∷ success_bytes a

-- an answer that fits a message at the greatest unit, and no refusal with the code of success
abbrev pub IsAnswerWritable : AnswerOf → Type 0
IsAnswerWritable (AnswerOf.Refused code) = code ≢ 0
IsAnswerWritable a = length (answer_bytes a) ≤ reply_limit U128

-- each number fits its field
abbrev pub HasAnswerWidths : AnswerOf → Type 0
HasAnswerWidths (AnswerOf.QueryDeviceIdentifiers ds) = EachItem HasDescriptorWidths ds × (length ds < 256)
HasAnswerWidths (AnswerOf.GetFirmwareParameters ps) = EachItem HasParametersWidths ps × (length ps < 256 ^ 2)
HasAnswerWidths (AnswerOf.UpdateComponent r) = r.time < 256 ^ 2
HasAnswerWidths (AnswerOf.ActivateFirmware time) = time < 256 ^ 2
HasAnswerWidths a = Unit {0}

-- whether the answer is possible for this command: a refusal is for each
abbrev pub answers_command : ℕ → AnswerOf → Bool
answers_command command (AnswerOf.Refused code) = is_known command
answers_command command (AnswerOf.QueryDeviceIdentifiers _) = command == 0x01
answers_command command (AnswerOf.GetFirmwareParameters _) = command == 0x02
answers_command command AnswerOf.RequestUpdate = command == 0x10
answers_command command (AnswerOf.PassComponentTable _) = command == 0x13
answers_command command (AnswerOf.UpdateComponent _) = command == 0x14
answers_command command (AnswerOf.RequestFirmwareData _) = command == 0x15
answers_command command AnswerOf.TransferComplete = command == 0x16
answers_command command AnswerOf.VerifyComplete = command == 0x17
answers_command command AnswerOf.ApplyComplete = command == 0x18
answers_command command (AnswerOf.ActivateFirmware _) = command == 0x1A
answers_command command (AnswerOf.GetStatus _) = command == 0x1B
answers_command command AnswerOf.CancelUpdateComponent = command == 0x1C
answers_command command AnswerOf.CancelUpdate = command == 0x1D
