-- The value that `fwupd plan --json` writes. Each device has the record that applies to it, or why
-- none does, and the result for each component. Each member has the value that the text of `fwupd
-- plan` shows; keys are only ever added.
use Rattle.mctp_wire.specs.declared.unit.Unit.TheVariants.{U64}
use Rattle.std.specs.Prelude.{ℕ, ◌+◌, List, [], ◌∷◌, Option, None, Some, Result, Ok, Err, codes, length, map}
use Rattle.json.specs.Json.{Json, array, null, string, Items, no_items}
use Rattle.fd_core.specs.Images.{RowOf, row_of}
use Rattle.fd_core.specs.States.{DeviceState}
use Rattle.fw_package.specs.Choice.{component_at, plan_of, record_at, record_number}
use Rattle.fw_package.specs.Package.{ComponentOf, DescriptorOf, PackageText, RecordOf}
use Rattle.fw_package.specs.declared.fault.PlanFault.{PlanFault}
use Rattle.fw_script.specs.Configs.{DeviceConfigOf}
use Rattle.fw_setup.specs.Forecasts.{component_word, first_lacked, passed, plan_word, update_word}
use Rattle.fw_setup.specs.Nodes.{device_made}
use Rattle.ua_core.specs.Lent.{key_of, sent_stamp, package_descriptor}
use Rattle.fw_json.specs.Inspections.{descriptor_value}
use Rattle.fw_json.specs.Values.{number_value, numbered_items, items, object_of, optional_value, text_value}

-- why a record doesn't apply to the device: the descriptor that the device lacks, or that the
-- record has no descriptors
unfoldable pub lack_value : (device : List DescriptorOf) → (number : ℕ) → RecordOf → Json
lack_value device n r =
    object_of ((codes "record", number_value n) ∷ (codes "descriptor", optional_value descriptor_value (first_lacked device r.descriptors)) ∷ [])

-- the active image for a component's key: its stamp and its text
unfoldable pub running_value : RowOf → Json
running_value row = object_of ((codes "stamp", number_value row.active.label.stamp) ∷ (codes "version", text_value row.active.label.text) ∷ [])

-- a component that is offered to the device; its stamp is the one sent, which is all ones if its
-- options don't use it
unfoldable pub offer_value : List RowOf → ComponentOf → Json
offer_value rows c =
    object_of
    ((codes "classification", number_value c.classification) ∷ (codes "identifier", number_value c.identifier)
    ∷ (codes "size", number_value (length c.image)) ∷ (codes "stamp", number_value (sent_stamp c)) ∷ (codes "version", text_value c.text.bytes)
    ∷ (codes "active", optional_value running_value (row_of rows (key_of c))) ∷ (codes "word", string (component_word c (passed rows c))) ∷ [])

-- the components of a package with the numbers `ns`
abbrev pub offer_items : PackageText → List RowOf → List ℕ → Items
offer_items p rows ns = items (λ n. offer_value rows (component_at p n)) ns

-- a device: its record and the record's set text, the result of the update, why no record applies
-- to it, and the components
unfoldable pub device_forecast : (eid : ℕ) (chosen set : Json) → (word : List ℕ) → (lacks components : Items) → Json
device_forecast eid chosen set word lacks components =
    object_of
    ((codes "eid", number_value eid) ∷ (codes "record", chosen) ∷ (codes "set", set) ∷ (codes "word", string word)
    ∷ (codes "lacks", array lacks) ∷ (codes "components", array components) ∷ [])

-- a device to which no record applies
abbrev pub unmet_value : (eid : ℕ) → PackageText → (device : List DescriptorOf) → Json
unmet_value eid p device = device_forecast eid null null (codes "NoRecord") (numbered_items (lack_value device) 1 p.records) no_items

-- a device and its record; records are counted from 1
abbrev pub chosen_value : (eid chosen : ℕ) → RecordOf → (word : List ℕ) → (components : Items) → Json
chosen_value eid chosen r word components = device_forecast eid (number_value (chosen + 1)) (text_value r.set_text.bytes) word no_items components

-- a device, its record, and the record's plan
abbrev pub planned_value : (eid chosen : ℕ) → PackageText → List RowOf → Result (List ℕ) PlanFault → Json
planned_value eid chosen p rows (Err fault) = chosen_value eid chosen (record_at p chosen) (plan_word fault) no_items
planned_value eid chosen p rows (Ok ns) = chosen_value eid chosen (record_at p chosen) (update_word p rows ns) (offer_items p rows ns)

abbrev pub found_value : (eid : ℕ) → PackageText → DeviceState → Option ℕ → Json
found_value eid p v None = unmet_value eid p (map package_descriptor v.descriptors)
found_value eid p v (Some chosen) = planned_value eid chosen p v.rows (plan_of p chosen)

-- a device of a configuration; only its descriptors and images matter, so the transmission unit is
-- arbitrary
abbrev pub configured_value : PackageText → DeviceConfigOf → Json
configured_value p x =
    found_value x.endpoint.eid p (device_made U64 x).device (record_number p (map package_descriptor (device_made U64 x).device.descriptors))

-- the value of a configuration's devices, for package `number`
abbrev pub plan_value : (number : ℕ) → PackageText → List DeviceConfigOf → Json
plan_value number p devices =
    object_of
    ((codes "format", string (codes "fwupd-plan/1")) ∷ (codes "package", number_value number)
    ∷ (codes "devices", array (items (configured_value p) devices)) ∷ [])
