-- The fields of the commands of firmware update (DSP0267 1.0), in the order of their tables.
use Rattle.std.specs.Prelude.{ℕ, ◌==◌, if◌then◌else◌, List, [], ◌++◌, codes, Result, Ok, Err}
use Rattle.fw_text.specs.Printing.{in_eight, in_four, word_and_number}
use Rattle.fwup_wire.specs.Commands.{command_read}
use Rattle.fwup_wire.specs.Fields.{bit, flag_byte}
use Rattle.fwup_wire.specs.Values.{CommandOf, TableEntryOf, OfferOf, UpdateRequestOf}
use Rattle.fwup_wire.specs.declared.values.Key.{Key}
use Rattle.fw_trace.specs.Names.{name_or_digits, update_command}
use Rattle.fw_trace.specs.Pieces.{in_two, rest_text, text_field}

-- a component: its classification, its identifier and its index
unfoldable pub component_fields : Key → (index : ℕ) → List ℕ
component_fields key index =
    word_and_number (codes " class ") key.classification ++ word_and_number (codes " ident ") key.identifier ++ word_and_number (codes " index ") index

-- the length of the package data in bytes, if there is any
abbrev pub package_data_field : ℕ → List ℕ
package_data_field n = if n == 0 then [] else word_and_number (codes " package ") n

unfoldable pub request_fields : UpdateRequestOf → List ℕ
request_fields r =
    word_and_number (codes " size ") r.transfer_size ++ word_and_number (codes " components ") r.components
    ++ word_and_number (codes " outstanding ") r.outstanding ++ package_data_field r.package_data_length ++ text_field (codes " set ") r.image_set

unfoldable pub entry_fields : TableEntryOf → List ℕ
entry_fields e =
    word_and_number (codes " flag ") (flag_byte e.flag) ++ component_fields e.key e.index ++ in_eight (codes " stamp ") e.version.stamp
    ++ text_field (codes " version ") e.version.text

unfoldable pub offer_fields : OfferOf → List ℕ
offer_fields o =
    component_fields o.key o.index ++ in_eight (codes " stamp ") o.version.stamp ++ word_and_number (codes " size ") o.size
    ++ in_eight (codes " options ") (bit o.force) ++ text_field (codes " version ") o.version.text

unfoldable pub data_fields : (offset size : ℕ) → List ℕ
data_fields offset size = word_and_number (codes " offset ") offset ++ word_and_number (codes " length ") size

unfoldable pub apply_fields : (result methods : ℕ) → List ℕ
apply_fields result methods = in_two (codes " result ") result ++ in_four (codes " methods ") methods

-- the fields of a command
abbrev pub command_fields : CommandOf → List ℕ
command_fields CommandOf.QueryDeviceIdentifiers = []
command_fields CommandOf.GetFirmwareParameters = []
command_fields (CommandOf.RequestUpdate request) = request_fields request
command_fields (CommandOf.PassComponentTable entry) = entry_fields entry
command_fields (CommandOf.UpdateComponent offer) = offer_fields offer
command_fields (CommandOf.RequestFirmwareData offset size) = data_fields offset size
command_fields (CommandOf.TransferComplete result) = in_two (codes " result ") result
command_fields (CommandOf.VerifyComplete result) = in_two (codes " result ") result
command_fields (CommandOf.ApplyComplete result methods) = apply_fields result methods
command_fields (CommandOf.ActivateFirmware self_contained) = word_and_number (codes " self ") (bit self_contained)
command_fields CommandOf.GetStatus = []
command_fields CommandOf.CancelUpdateComponent = []
command_fields CommandOf.CancelUpdate = []

-- the fields of a decoded command, or the digits of one that can't be decoded
abbrev pub fields_read : Result CommandOf ℕ → List ℕ → List ℕ
fields_read (Ok c) fields = command_fields c
fields_read (Err code) fields = rest_text fields

-- a request of firmware update: the command, and the fields of its request data
unfoldable pub update_request : (command : ℕ) → List ℕ → List ℕ
update_request command fields = name_or_digits (update_command command) command ++ fields_read (command_read command fields) fields
