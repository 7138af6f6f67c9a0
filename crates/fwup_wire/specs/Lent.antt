-- The values of commands and answers whose texts and data are borrowed.
use Rattle.fwup_wire.specs.Values.{AnswerOf, CommandOf, DeviceDescriptorOf, TableEntryOf, OfferOf, ParametersOf, UpdateRequestOf, TypedTextOf, VersionOf}
use Rattle.fwup_wire.specs.declared.answer.Answer.{Answer}
use Rattle.fwup_wire.specs.declared.answer.Answer.TheVariants as answers
use Rattle.fwup_wire.specs.declared.command.Command.{Command}
use Rattle.fwup_wire.specs.declared.command.Command.TheVariants as commands
use Rattle.fwup_wire.specs.declared.command.ComponentOffer.{ComponentOffer}
use Rattle.fwup_wire.specs.declared.command.TableEntry.{TableEntry}
use Rattle.fwup_wire.specs.declared.command.UpdateRequest.{UpdateRequest}
use Rattle.fwup_wire.specs.declared.values.ComponentParameters.{ComponentParameters}
use Rattle.fwup_wire.specs.declared.values.DeviceDescriptor.{DeviceDescriptor}
use Rattle.fwup_wire.specs.declared.values.TypedText.{TypedText}
use Rattle.fwup_wire.specs.declared.values.Version.{Version}

abbrev pub typed_text_of : TypedText → TypedTextOf
typed_text_of t = record { text_type = t.text_type; bytes = t.bytes.now }

abbrev pub device_descriptor_of : DeviceDescriptor → DeviceDescriptorOf
device_descriptor_of d = record { kind = d.kind; bytes = d.bytes.now }

abbrev pub version_of : Version → VersionOf
version_of v = record { stamp = v.stamp; text = typed_text_of v.text }

abbrev pub parameters_of : ComponentParameters → ParametersOf
parameters_of p =
    record { key = p.key; index = p.index; active = version_of p.active; pending = version_of p.pending }

abbrev pub update_request_of : UpdateRequest → UpdateRequestOf
update_request_of r =
    record {
      transfer_size = r.transfer_size;
      components = r.components;
      outstanding = r.outstanding;
      package_data_length = r.package_data_length;
      image_set = typed_text_of r.image_set;
    }

abbrev pub table_entry_of : TableEntry → TableEntryOf
table_entry_of e = record { flag = e.flag; key = e.key; index = e.index; version = version_of e.version }

abbrev pub offer_of : ComponentOffer → OfferOf
offer_of o =
    record { key = o.key; index = o.index; version = version_of o.version; size = o.size; force = o.force }

-- the value of a command
abbrev pub command_of : Command → CommandOf
command_of commands.QueryDeviceIdentifiers = CommandOf.QueryDeviceIdentifiers
command_of commands.GetFirmwareParameters = CommandOf.GetFirmwareParameters
command_of (commands.RequestUpdate request) = CommandOf.RequestUpdate (update_request_of request)
command_of (commands.PassComponentTable entry) = CommandOf.PassComponentTable (table_entry_of entry)
command_of (commands.UpdateComponent offer) = CommandOf.UpdateComponent (offer_of offer)
command_of (commands.RequestFirmwareData offset size) = CommandOf.RequestFirmwareData offset size
command_of (commands.TransferComplete result) = CommandOf.TransferComplete result
command_of (commands.VerifyComplete result) = CommandOf.VerifyComplete result
command_of (commands.ApplyComplete result methods) = CommandOf.ApplyComplete result methods
command_of (commands.ActivateFirmware self_contained) = CommandOf.ActivateFirmware self_contained
command_of commands.GetStatus = CommandOf.GetStatus
command_of commands.CancelUpdateComponent = CommandOf.CancelUpdateComponent
command_of commands.CancelUpdate = CommandOf.CancelUpdate

-- the value of an answer
abbrev pub answer_of : Answer → AnswerOf
answer_of (answers.Refused code) = AnswerOf.Refused code
answer_of (answers.QueryDeviceIdentifiers descriptors) = AnswerOf.QueryDeviceIdentifiers descriptors
answer_of (answers.GetFirmwareParameters components) = AnswerOf.GetFirmwareParameters components
answer_of answers.RequestUpdate = AnswerOf.RequestUpdate
answer_of (answers.PassComponentTable response) = AnswerOf.PassComponentTable response
answer_of (answers.UpdateComponent response) = AnswerOf.UpdateComponent response
answer_of (answers.RequestFirmwareData bytes) = AnswerOf.RequestFirmwareData bytes.now
answer_of answers.TransferComplete = AnswerOf.TransferComplete
answer_of answers.VerifyComplete = AnswerOf.VerifyComplete
answer_of answers.ApplyComplete = AnswerOf.ApplyComplete
answer_of (answers.ActivateFirmware time) = AnswerOf.ActivateFirmware time
answer_of (answers.GetStatus status) = AnswerOf.GetStatus status
answer_of answers.CancelUpdateComponent = AnswerOf.CancelUpdateComponent
answer_of answers.CancelUpdate = AnswerOf.CancelUpdate
