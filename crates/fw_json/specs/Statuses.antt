-- The active image of each component of a configuration's devices, with its size and its SHA-256.
-- Each member of the value has the value that the text shows, and a component has its index
-- besides; keys are only ever added.
use Rattle.std.specs.Prelude.{ℕ, List, [], ◌∷◌, ◌++◌, codes, length}
use Rattle.std.specs.List.{flat_map}
use Rattle.json.specs.Json.{Json, array, string}
use Rattle.fd_core.specs.Images.{LabelOf}
use Rattle.fw_script.specs.Configs.{ComponentConfigOf, DeviceConfigOf}
use Rattle.fw_text.specs.Printing.{in_eight, word_and_number, word_and_quoted}
use Rattle.fw_json.specs.Digests.{digest_digits, word_and_digest}
use Rattle.fw_json.specs.Values.{items, line_of, number_value, object_of, text_value}
use Rattle.fwupd_base.specs.declared.forms.Form.{Form}
use Rattle.fwupd_base.specs.declared.forms.Form.TheVariants as forms

-- a label: its stamp and its text
abbrev pub label_text : LabelOf → List ℕ
label_text l = in_eight (codes " stamp ") l.stamp ++ word_and_quoted (codes " version ") l.text

-- a component's line: its key, and the size, label and digest of its active image
unfoldable pub component_status_line : ComponentConfigOf → List ℕ
component_status_line c =
    word_and_number (codes "component ") c.component.key.classification ++ word_and_number (codes " ident ") c.component.key.identifier
    ++ word_and_number (codes " size ") (length c.image) ++ label_text c.label ++ word_and_digest (codes " sha256 ") c.image ++ codes "\n"

-- a device's line, and the lines of its components
unfoldable pub device_status_text : DeviceConfigOf → List ℕ
device_status_text x = word_and_number (codes "device ") x.endpoint.eid ++ codes "\n" ++ flat_map component_status_line x.components

-- the text of devices, in their order
abbrev pub status_text : List DeviceConfigOf → List ℕ
status_text xs = flat_map device_status_text xs

-- a component: its key, its index, and the size, label and digest of its active image
unfoldable pub component_status_value : ComponentConfigOf → Json
component_status_value c =
    object_of
    ((codes "classification", number_value c.component.key.classification) ∷ (codes "identifier", number_value c.component.key.identifier)
    ∷ (codes "index", number_value c.component.index) ∷ (codes "size", number_value (length c.image)) ∷ (codes "stamp", number_value c.label.stamp)
    ∷ (codes "version", text_value c.label.text) ∷ (codes "sha256", string (digest_digits c.image)) ∷ [])

-- a device and its components
unfoldable pub device_status_value : DeviceConfigOf → Json
device_status_value x = object_of ((codes "eid", number_value x.endpoint.eid) ∷ (codes "components", array (items component_status_value x.components)) ∷ [])

-- the value of devices, in their order
abbrev pub status_value : List DeviceConfigOf → Json
status_value xs = object_of ((codes "format", string (codes "fwupd-status/1")) ∷ (codes "devices", array (items device_status_value xs)) ∷ [])

-- the active images of a configuration's devices in a format
abbrev pub status_in : Form → List DeviceConfigOf → List ℕ
status_in forms.Text xs = status_text xs
status_in forms.Json xs = line_of (status_value xs)
