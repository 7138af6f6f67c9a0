-- Commands and answers as values, independent of the messages that their texts are borrowed from.
use Rattle.std.specs.Prelude.{Bool, List, ℕ}
use Rattle.fwup_wire.specs.declared.answer.OfferResponse.{OfferResponse}
use Rattle.fwup_wire.specs.declared.answer.Status.{Status}
use Rattle.fwup_wire.specs.declared.answer.TableResponse.{TableResponse}
use Rattle.fwup_wire.specs.declared.values.Key.{Key}
use Rattle.fwup_wire.specs.declared.values.TransferFlag.{TransferFlag}

-- a text with its type
pub record TypedTextOf : Type 0 where
  pub text_type : ℕ
  pub bytes : List ℕ

-- the version of an image
pub record VersionOf : Type 0 where
  pub stamp : ℕ
  pub text : TypedTextOf

-- a descriptor of a device
pub record DeviceDescriptorOf : Type 0 where
  pub kind : ℕ
  pub bytes : List ℕ

-- a device's parameters of one of its components
pub record ParametersOf : Type 0 where
  pub key : Key
  pub index : ℕ
  pub active : VersionOf
  pub pending : VersionOf

-- the request data of RequestUpdate
pub record UpdateRequestOf : Type 0 where
  pub transfer_size : ℕ
  pub components : ℕ
  pub outstanding : ℕ
  pub package_data_length : ℕ
  pub image_set : TypedTextOf

-- the request data of PassComponentTable
pub record TableEntryOf : Type 0 where
  pub flag : TransferFlag
  pub key : Key
  pub index : ℕ
  pub version : VersionOf

-- the request data of UpdateComponent
pub record OfferOf : Type 0 where
  pub key : Key
  pub index : ℕ
  pub version : VersionOf
  pub size : ℕ
  pub force : Bool

-- a command with its request data
pub data CommandOf : Type 0 where
  QueryDeviceIdentifiers : CommandOf
  GetFirmwareParameters : CommandOf
  RequestUpdate : (request : UpdateRequestOf) → CommandOf
  PassComponentTable : (entry : TableEntryOf) → CommandOf
  UpdateComponent : (offer : OfferOf) → CommandOf
  RequestFirmwareData : (offset size : ℕ) → CommandOf
  TransferComplete : (result : ℕ) → CommandOf
  VerifyComplete : (result : ℕ) → CommandOf
  ApplyComplete : (result methods : ℕ) → CommandOf
  ActivateFirmware : (self_contained : Bool) → CommandOf
  GetStatus : CommandOf
  CancelUpdateComponent : CommandOf
  CancelUpdate : CommandOf

-- an answer: a refusal by its completion code, or the fields after the code 0
pub data AnswerOf : Type 0 where
  Refused : (code : ℕ) → AnswerOf
  QueryDeviceIdentifiers : (descriptors : List DeviceDescriptorOf) → AnswerOf
  GetFirmwareParameters : (components : List ParametersOf) → AnswerOf
  RequestUpdate : AnswerOf
  PassComponentTable : (response : TableResponse) → AnswerOf
  UpdateComponent : (response : OfferResponse) → AnswerOf
  RequestFirmwareData : (bytes : List ℕ) → AnswerOf
  TransferComplete : AnswerOf
  VerifyComplete : AnswerOf
  ApplyComplete : AnswerOf
  ActivateFirmware : (time : ℕ) → AnswerOf
  GetStatus : (status : Status) → AnswerOf
  CancelUpdateComponent : AnswerOf
  CancelUpdate : AnswerOf
