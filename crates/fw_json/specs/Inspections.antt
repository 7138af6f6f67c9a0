-- The value that `fwupd inspect --json` writes: the package, its records with their descriptors,
-- and its components. Each member has the value that the text of `fwupd inspect` shows, if that
-- shows it; keys are only ever added.
use Rattle.std.specs.Prelude.{ℕ, ◌+◌, List, [], ◌∷◌, ◌++◌, codes}
use Rattle.json.specs.Json.{Json, Items, array, string}
use Rattle.fw_package.specs.Components.{PlaceOf}
use Rattle.fw_package.specs.Outlines.{OutlineOf, outline_of_package}
use Rattle.fw_package.specs.Package.{DescriptorOf, PackageText, RecordOf}
use Rattle.fw_json.specs.Values.{number_value, numbered_items, in_digits, items, object_of, text_value}

unfoldable pub descriptor_value : DescriptorOf → Json
descriptor_value d = object_of ((codes "type", number_value d.kind) ∷ (codes "data", in_digits d.bytes) ∷ [])

-- the number of a component that a record uses, from 1
abbrev pub use_value : ℕ → Json
use_value n = number_value (n + 1)

unfoldable pub record_value : (number : ℕ) → RecordOf → Json
record_value n r =
    object_of
    ((codes "number", number_value n) ∷ (codes "flags", number_value r.flags) ∷ (codes "set", text_value r.set_text.bytes)
    ∷ (codes "uses", array (items use_value r.uses)) ∷ (codes "descriptors", array (items descriptor_value r.descriptors)) ∷ [])

-- a component's members, with its image's length and position
unfoldable pub component_members : (number : ℕ) → PlaceOf → List (List ℕ × Json)
component_members n c =
    (codes "number", number_value n) ∷ (codes "classification", number_value c.classification) ∷ (codes "identifier", number_value c.identifier)
    ∷ (codes "stamp", number_value c.stamp) ∷ (codes "options", number_value c.options) ∷ (codes "activation_methods", number_value c.method)
    ∷ (codes "offset", number_value c.offset) ∷ (codes "size", number_value c.size) ∷ (codes "version", text_value c.text.bytes) ∷ []

unfoldable pub component_value : (number : ℕ) → PlaceOf → Json
component_value n c = object_of (component_members n c)

-- The first members of a package. Its release time is written in its encoded form.
unfoldable pub heading_members : (header_size : ℕ) → (release version : List ℕ) → List (List ℕ × Json)
heading_members header_size release version =
    (codes "format", string (codes "fwupd-inspect/1")) ∷ (codes "header_size", number_value header_size)
    ∷ (codes "release", in_digits release) ∷ (codes "version", text_value version) ∷ []

-- the value of a package with these values of its components
abbrev pub package_value : OutlineOf → (components : Items) → Json
package_value o components =
    object_of
    (heading_members o.header_size o.release o.version.bytes
    ++ (codes "records", array (numbered_items record_value 1 o.records)) ∷ (codes "components", array components) ∷ [])

-- the value of a package without its images
abbrev pub outline_value : OutlineOf → Json
outline_value o = package_value o (numbered_items component_value 1 o.places)

-- the value of a package
abbrev pub inspection_value : PackageText → Json
inspection_value p = outline_value (outline_of_package p)
