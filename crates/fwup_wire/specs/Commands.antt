-- The commands of DSP0267 1.0: the bytes of a command, the result of reading, and the encoded form.
use Rattle.std.specs.Prelude.{[], ◌%◌, ◌++◌, ◌^◌, ◌<◌, ◌==◌, ◌∷◌, ◌≡◌, ◌≤◌, Err, List, None, Ok, Option, Result, Some, false, if◌then◌else◌, length, nat_le, true, ◌&&◌, Bool, ℕ}
use Rattle.std.specs.Option.{option_map}
use Rattle.byteorder.specs.Endian.{little_bytes}
use Rattle.mctp_wire.specs.declared.unit.Unit.TheVariants.{U64}
use Rattle.pldm_base.specs.Codes.{invalid_data, invalid_length, unsupported_command}
use Rattle.pldm_base.specs.Limits.{reply_limit}
use Rattle.fwup_wire.specs.Fields.{HasComponentWidths, IsText, bit, component_bytes, flag_byte, flag_of, last_text, text_bytes, u16_of, u32_of}
use Rattle.fwup_wire.specs.Values.{CommandOf, TableEntryOf, OfferOf, UpdateRequestOf, TypedTextOf}
use Rattle.fwup_wire.specs.declared.values.Key.{Key}
use Rattle.fwup_wire.specs.declared.values.TransferFlag.{TransferFlag}

-- the byte of each command
abbrev pub command_code : CommandOf → ℕ
command_code CommandOf.QueryDeviceIdentifiers = 0x01
command_code CommandOf.GetFirmwareParameters = 0x02
command_code (CommandOf.RequestUpdate _) = 0x10
command_code (CommandOf.PassComponentTable _) = 0x13
command_code (CommandOf.UpdateComponent _) = 0x14
command_code (CommandOf.RequestFirmwareData _ _) = 0x15
command_code (CommandOf.TransferComplete _) = 0x16
command_code (CommandOf.VerifyComplete _) = 0x17
command_code (CommandOf.ApplyComplete _ _) = 0x18
command_code (CommandOf.ActivateFirmware _) = 0x1A
command_code CommandOf.GetStatus = 0x1B
command_code CommandOf.CancelUpdateComponent = 0x1C
command_code CommandOf.CancelUpdate = 0x1D

-- The request data of RequestUpdate: transfer size, components, outstanding requests, package data
-- length, text.
abbrev pub IsRequest : List ℕ → UpdateRequestOf → Type 0
IsRequest (t0 ∷ t1 ∷ t2 ∷ t3 ∷ c0 ∷ c1 ∷ outstanding ∷ p0 ∷ p1 ∷ text) r =
    (u32_of t0 t1 t2 t3 ≡ r.transfer_size) × (u16_of c0 c1 ≡ r.components) × (outstanding ≡ r.outstanding)
    × (u16_of p0 p1 ≡ r.package_data_length) × IsText text r.image_set
IsRequest _ r = ⊥

-- Of PassComponentTable: transfer flag, classification, identifier, index, comparison stamp, text.
abbrev pub IsEntry : List ℕ → TableEntryOf → Type 0
IsEntry (flag ∷ c0 ∷ c1 ∷ i0 ∷ i1 ∷ index ∷ s0 ∷ s1 ∷ s2 ∷ s3 ∷ text) e =
    (flag ≡ flag_byte e.flag) × (u16_of c0 c1 ≡ e.key.classification) × (u16_of i0 i1 ≡ e.key.identifier)
    × (index ≡ e.index) × (u32_of s0 s1 s2 s3 ≡ e.version.stamp) × IsText text e.version.text
IsEntry _ e = ⊥

-- Of UpdateComponent: classification, identifier, index, comparison stamp, image size, options,
-- text. Bit 0 of the options is force; the others are reserved and may hold anything.
abbrev pub IsOffer : List ℕ → OfferOf → Type 0
IsOffer (c0 ∷ c1 ∷ i0 ∷ i1 ∷ index ∷ s0 ∷ s1 ∷ s2 ∷ s3 ∷ z0 ∷ z1 ∷ z2 ∷ z3 ∷ o0 ∷ o1 ∷ o2 ∷ o3 ∷ text) o =
    (u16_of c0 c1 ≡ o.key.classification) × (u16_of i0 i1 ≡ o.key.identifier) × (index ≡ o.index)
    × (u32_of s0 s1 s2 s3 ≡ o.version.stamp) × (u32_of z0 z1 z2 z3 ≡ o.size)
    × (((u32_of o0 o1 o2 o3 % 2) == 1) ≡ o.force) × IsText text o.version.text
IsOffer _ o = ⊥

-- Of RequestFirmwareData: offset and length.
abbrev pub IsDataRequest : List ℕ → ℕ → ℕ → Type 0
IsDataRequest (o0 ∷ o1 ∷ o2 ∷ o3 ∷ l0 ∷ l1 ∷ l2 ∷ l3 ∷ []) offset size =
    (u32_of o0 o1 o2 o3 ≡ offset) × (u32_of l0 l1 l2 l3 ≡ size)
IsDataRequest _ offset size = ⊥

-- Of ApplyComplete: result and activation methods.
abbrev pub IsApplyReport : List ℕ → ℕ → ℕ → Type 0
IsApplyReport (r ∷ m0 ∷ m1 ∷ []) result methods = (r ≡ result) × (u16_of m0 m1 ≡ methods)
IsApplyReport _ result methods = ⊥

-- The command byte and the request data are this command.
abbrev pub IsCommand : ℕ → List ℕ → CommandOf → Type 0
IsCommand command fields CommandOf.QueryDeviceIdentifiers = (command ≡ 0x01) × (fields ≡ [])
IsCommand command fields CommandOf.GetFirmwareParameters = (command ≡ 0x02) × (fields ≡ [])
IsCommand command fields (CommandOf.RequestUpdate request) = (command ≡ 0x10) × IsRequest fields request
IsCommand command fields (CommandOf.PassComponentTable entry) = (command ≡ 0x13) × IsEntry fields entry
IsCommand command fields (CommandOf.UpdateComponent offer) = (command ≡ 0x14) × IsOffer fields offer
IsCommand command fields (CommandOf.RequestFirmwareData offset size) =
    (command ≡ 0x15) × IsDataRequest fields offset size
IsCommand command fields (CommandOf.TransferComplete result) = (command ≡ 0x16) × (fields ≡ result ∷ [])
IsCommand command fields (CommandOf.VerifyComplete result) = (command ≡ 0x17) × (fields ≡ result ∷ [])
IsCommand command fields (CommandOf.ApplyComplete result methods) =
    (command ≡ 0x18) × IsApplyReport fields result methods
IsCommand command fields (CommandOf.ActivateFirmware false) = (command ≡ 0x1A) × (fields ≡ 0 ∷ [])
IsCommand command fields (CommandOf.ActivateFirmware true) = (command ≡ 0x1A) × (fields ≡ 1 ∷ [])
IsCommand command fields CommandOf.GetStatus = (command ≡ 0x1B) × (fields ≡ [])
IsCommand command fields CommandOf.CancelUpdateComponent = (command ≡ 0x1C) × (fields ≡ [])
IsCommand command fields CommandOf.CancelUpdate = (command ≡ 0x1D) × (fields ≡ [])

-- the result of reading if only the length can be wrong
abbrev pub of_length : Option CommandOf → Result CommandOf ℕ
of_length None = Err invalid_length
of_length (Some c) = Ok c

-- a command without request data
abbrev pub alone : List ℕ → CommandOf → Result CommandOf ℕ
alone [] c = Ok c
alone (_ ∷ _) c = Err invalid_length

-- the request data of RequestUpdate in the bytes, if they are complete
abbrev pub request_in : List ℕ → Option UpdateRequestOf
request_in (t0 ∷ t1 ∷ t2 ∷ t3 ∷ c0 ∷ c1 ∷ outstanding ∷ p0 ∷ p1 ∷ text) =
    option_map (λ image_set. record {
      transfer_size = u32_of t0 t1 t2 t3;
      components = u16_of c0 c1;
      outstanding = outstanding;
      package_data_length = u16_of p0 p1;
      image_set = image_set;
    }) (last_text text)
request_in _ = None

-- of PassComponentTable, whose flag is checked after the length
abbrev pub entry_with : Option TransferFlag → Key → ℕ → ℕ → Option TypedTextOf → Result CommandOf ℕ
entry_with flag key index stamp None = Err invalid_length
entry_with None key index stamp (Some text) = Err invalid_data
entry_with (Some flag) key index stamp (Some text) =
    Ok
    (CommandOf.PassComponentTable
    (record { flag = flag; key = key; index = index; version = record { stamp = stamp; text = text } }))

abbrev pub entry_read : List ℕ → Result CommandOf ℕ
entry_read (flag ∷ c0 ∷ c1 ∷ i0 ∷ i1 ∷ index ∷ s0 ∷ s1 ∷ s2 ∷ s3 ∷ text) =
    entry_with (flag_of flag) (record { classification = u16_of c0 c1; identifier = u16_of i0 i1 }) index
    (u32_of s0 s1 s2 s3) (last_text text)
entry_read _ = Err invalid_length

-- of UpdateComponent
abbrev pub offer_in : List ℕ → Option OfferOf
offer_in (c0 ∷ c1 ∷ i0 ∷ i1 ∷ index ∷ s0 ∷ s1 ∷ s2 ∷ s3 ∷ z0 ∷ z1 ∷ z2 ∷ z3 ∷ o0 ∷ o1 ∷ o2 ∷ o3 ∷ text) =
    option_map (λ text. record {
      key = record { classification = u16_of c0 c1; identifier = u16_of i0 i1 };
      index = index;
      version = record { stamp = u32_of s0 s1 s2 s3; text = text };
      size = u32_of z0 z1 z2 z3;
      force = (u32_of o0 o1 o2 o3 % 2) == 1;
    }) (last_text text)
offer_in _ = None

-- of RequestFirmwareData
abbrev pub data_request_in : List ℕ → Option CommandOf
data_request_in (o0 ∷ o1 ∷ o2 ∷ o3 ∷ l0 ∷ l1 ∷ l2 ∷ l3 ∷ []) =
    Some (CommandOf.RequestFirmwareData (u32_of o0 o1 o2 o3) (u32_of l0 l1 l2 l3))
data_request_in _ = None

-- of TransferComplete and VerifyComplete
abbrev pub result_in : List ℕ → Option ℕ
result_in (result ∷ []) = Some result
result_in _ = None

-- of ApplyComplete
abbrev pub report_in : List ℕ → Option CommandOf
report_in (result ∷ m0 ∷ m1 ∷ []) = Some (CommandOf.ApplyComplete result (u16_of m0 m1))
report_in _ = None

-- of ActivateFirmware
abbrev pub activation_read : List ℕ → Result CommandOf ℕ
activation_read (byte ∷ []) =
    if byte == 0 then Ok (CommandOf.ActivateFirmware false)
    else if byte == 1 then Ok (CommandOf.ActivateFirmware true)
    else Err invalid_data
activation_read _ = Err invalid_length

-- The result of reading: the command, or the first refusal. An unknown command comes first, then
-- the length, then a field.
abbrev pub command_read : ℕ → List ℕ → Result CommandOf ℕ
command_read command fields =
    if command == 0x01 then alone fields CommandOf.QueryDeviceIdentifiers
    else if command == 0x02 then alone fields CommandOf.GetFirmwareParameters
    else if command == 0x10 then of_length (option_map CommandOf.RequestUpdate (request_in fields))
    else if command == 0x13 then entry_read fields
    else if command == 0x14 then of_length (option_map CommandOf.UpdateComponent (offer_in fields))
    else if command == 0x15 then of_length (data_request_in fields)
    else if command == 0x16 then of_length (option_map CommandOf.TransferComplete (result_in fields))
    else if command == 0x17 then of_length (option_map CommandOf.VerifyComplete (result_in fields))
    else if command == 0x18 then of_length (report_in fields)
    else if command == 0x1A then activation_read fields
    else if command == 0x1B then alone fields CommandOf.GetStatus
    else if command == 0x1C then alone fields CommandOf.CancelUpdateComponent
    else if command == 0x1D then alone fields CommandOf.CancelUpdate
    else Err unsupported_command

-- the encoded request data: reserved bits are 0
abbrev pub command_bytes : CommandOf → List ℕ
command_bytes (CommandOf.RequestUpdate r) =
    little_bytes 4 r.transfer_size ++ little_bytes 2 r.components ++ r.outstanding ∷ little_bytes 2 r.package_data_length
    ++ text_bytes r.image_set
command_bytes (CommandOf.PassComponentTable e) =
    flag_byte e.flag ∷ component_bytes e.key e.index e.version.stamp ++ text_bytes e.version.text
command_bytes (CommandOf.UpdateComponent o) =
    component_bytes o.key o.index o.version.stamp ++ little_bytes 4 o.size ++ little_bytes 4 (bit o.force)
    ++ text_bytes o.version.text
command_bytes (CommandOf.RequestFirmwareData offset size) = little_bytes 4 offset ++ little_bytes 4 size
command_bytes (CommandOf.TransferComplete result) = result ∷ []
command_bytes (CommandOf.VerifyComplete result) = result ∷ []
command_bytes (CommandOf.ApplyComplete result methods) = result ∷ little_bytes 2 methods
command_bytes (CommandOf.ActivateFirmware self_contained) = bit self_contained ∷ []
command_bytes CommandOf.QueryDeviceIdentifiers = []
command_bytes CommandOf.GetFirmwareParameters = []
command_bytes CommandOf.GetStatus = []
command_bytes CommandOf.CancelUpdateComponent = []
command_bytes CommandOf.CancelUpdate = []

-- the most bytes of request data: the bytes of a message at the smallest unit, so that a command
-- can be sent over each network
abbrev pub command_limit : ℕ
command_limit = reply_limit U64

-- a command whose text fits its length byte and a message
abbrev pub IsWritable : CommandOf → Type 0
IsWritable c = length (command_bytes c) ≤ command_limit

-- each number fits its field
abbrev pub HasCommandWidths : CommandOf → Type 0
HasCommandWidths (CommandOf.RequestUpdate r) =
    (r.transfer_size < 256 ^ 4) × (r.components < 256 ^ 2) × (r.package_data_length < 256 ^ 2)
HasCommandWidths (CommandOf.PassComponentTable e) = HasComponentWidths e.key e.version.stamp
HasCommandWidths (CommandOf.UpdateComponent o) = HasComponentWidths o.key o.version.stamp × (o.size < 256 ^ 4)
HasCommandWidths (CommandOf.RequestFirmwareData offset size) = (offset < 256 ^ 4) × (size < 256 ^ 4)
HasCommandWidths (CommandOf.ApplyComplete result methods) = methods < 256 ^ 2
HasCommandWidths c = Unit {0}

-- facts about a command that round-trips: it can be encoded, and each number fits its field
pub record CommandRoundTrips (c : CommandOf) : Type 0 where
  pub writable : IsWritable c
  pub widths : HasCommandWidths c

-- the commands that go from a device to its agent: RequestFirmwareData, TransferComplete,
-- VerifyComplete, ApplyComplete
abbrev pub is_asked_of_agent : ℕ → Bool
is_asked_of_agent command = nat_le 0x15 command && nat_le command 0x18
