-- Whether two commands are the same, with all their fields.
use Rattle.std.specs.Prelude.{nat_eq, ◌==◌, ◌&&◌, Bool, true, false}
use Rattle.std.specs.Cmp.Lexicographic.{pointwise}
use Rattle.fwup_wire.specs.Fields.{flag_byte}
use Rattle.fwup_wire.specs.Values.{CommandOf, TableEntryOf, OfferOf, UpdateRequestOf, TypedTextOf, VersionOf}
use Rattle.fwup_wire.specs.declared.values.Key.{Key}

abbrev pub same_bool : Bool → Bool → Bool
same_bool true b = b
same_bool false true = false
same_bool false false = true

abbrev pub same_key : Key → Key → Bool
same_key a b = (a.classification == b.classification) && (a.identifier == b.identifier)

abbrev pub same_text : TypedTextOf → TypedTextOf → Bool
same_text a b = (a.text_type == b.text_type) && pointwise nat_eq a.bytes b.bytes

abbrev pub same_version : VersionOf → VersionOf → Bool
same_version a b = (a.stamp == b.stamp) && same_text a.text b.text

abbrev pub same_request : UpdateRequestOf → UpdateRequestOf → Bool
same_request a b =
    (a.transfer_size == b.transfer_size)
    && ((a.components == b.components)
    && ((a.outstanding == b.outstanding)
    && ((a.package_data_length == b.package_data_length) && same_text a.image_set b.image_set)))

abbrev pub same_entry : TableEntryOf → TableEntryOf → Bool
same_entry a b =
    (flag_byte a.flag == flag_byte b.flag)
    && (same_key a.key b.key && ((a.index == b.index) && same_version a.version b.version))

abbrev pub same_offer : OfferOf → OfferOf → Bool
same_offer a b =
    same_key a.key b.key
    && ((a.index == b.index)
    && (same_version a.version b.version && ((a.size == b.size) && same_bool a.force b.force)))

-- The same command, with all its fields.
unfoldable pub same_command : CommandOf → CommandOf → Bool
same_command CommandOf.QueryDeviceIdentifiers CommandOf.QueryDeviceIdentifiers = true
same_command CommandOf.GetFirmwareParameters CommandOf.GetFirmwareParameters = true
same_command (CommandOf.RequestUpdate a) (CommandOf.RequestUpdate b) = same_request a b
same_command (CommandOf.PassComponentTable a) (CommandOf.PassComponentTable b) = same_entry a b
same_command (CommandOf.UpdateComponent a) (CommandOf.UpdateComponent b) = same_offer a b
same_command (CommandOf.RequestFirmwareData a m) (CommandOf.RequestFirmwareData b n) = (a == b) && (m == n)
same_command (CommandOf.TransferComplete a) (CommandOf.TransferComplete b) = a == b
same_command (CommandOf.VerifyComplete a) (CommandOf.VerifyComplete b) = a == b
same_command (CommandOf.ApplyComplete a m) (CommandOf.ApplyComplete b n) = (a == b) && (m == n)
same_command (CommandOf.ActivateFirmware a) (CommandOf.ActivateFirmware b) = same_bool a b
same_command CommandOf.GetStatus CommandOf.GetStatus = true
same_command CommandOf.CancelUpdateComponent CommandOf.CancelUpdateComponent = true
same_command CommandOf.CancelUpdate CommandOf.CancelUpdate = true
same_command a b = false
