-- The warnings about the description of a package: it may say this, but that is nearly always a
-- mistake.
use Rattle.std.specs.Prelude.{ℕ, ◌+◌, ◌==◌, Bool, if◌then◌else◌, List, [], ◌∷◌, ◌++◌, Option, None, Some, codes, length}
use Rattle.std.specs.List.{flat_map, list_any}
use Rattle.fw_package.specs.Package.{DescriptorOf}
use Rattle.fw_package.specs.Writing.{is_used}
use Rattle.fw_text.specs.Printing.{in_four, word_and_number}
use Rattle.fw_script.specs.PackageSpecs.{PackageSpecOf, SpecComponentOf, SpecRecordOf}

-- the length of a descriptor's data, in bytes, that DSP0267 1.0 gives its type, if it gives one
unfoldable pub standard_length : (kind : ℕ) → Option ℕ
standard_length kind =
    if kind == 0x0000 then Some 2  -- PCI vendor
    else if kind == 0x0001 then Some 4  -- IANA enterprise
    else if kind == 0x0002 then Some 16  -- UUID
    else if kind == 0x0003 then Some 3  -- PnP vendor
    else if kind == 0x0004 then Some 4  -- ACPI vendor
    else if kind == 0x0100 then Some 2  -- PCI device
    else if kind == 0x0101 then Some 2  -- PCI subsystem vendor
    else if kind == 0x0102 then Some 2  -- PCI subsystem
    else if kind == 0x0103 then Some 1  -- PCI revision
    else if kind == 0x0104 then Some 4  -- PnP product
    else if kind == 0x0105 then Some 4  -- ACPI product
    else None

-- the beginning of a line about a record, which is counted from 1
unfoldable pub record_warning_head : (path : List ℕ) → (number : ℕ) → List ℕ
record_warning_head path n = path ++ word_and_number (codes ": record ") n

-- the line of a record that has no descriptor
unfoldable pub bare_record_warning : (path : List ℕ) → (number : ℕ) → List ℕ
bare_record_warning path n = record_warning_head path n ++ codes " has no descriptor: it is for no device\n"

-- the length that a descriptor's data is to have, if it has another
abbrev pub wanted_if_not : (size : ℕ) → Option ℕ → Option ℕ
wanted_if_not size None = None
wanted_if_not size (Some wanted) = if size == wanted then None else Some wanted

unfoldable pub wanted_length : DescriptorOf → Option ℕ
wanted_length d = wanted_if_not (length d.bytes) (standard_length d.kind)

-- the end of a line about a descriptor: its type, and the two lengths
unfoldable pub lengths_text : DescriptorOf → (wanted : ℕ) → List ℕ
lengths_text d wanted =
    in_four (codes ": descriptor ") d.kind ++ word_and_number (codes " has ") (length d.bytes)
    ++ word_and_number (codes " bytes, and DSP0267 gives it ") wanted ++ codes "\n"

-- the warning about a descriptor of a record whose data is to have this length
abbrev pub length_warning : (path : List ℕ) → (number : ℕ) → DescriptorOf → Option ℕ → List ℕ
length_warning path n d None = []
length_warning path n d (Some wanted) = record_warning_head path n ++ lengths_text d wanted

unfoldable pub descriptor_warning : (path : List ℕ) → (number : ℕ) → DescriptorOf → List ℕ
descriptor_warning path n d = length_warning path n d (wanted_length d)

-- the warnings about a record with these descriptors
unfoldable pub record_warnings : (path : List ℕ) → (number : ℕ) → List DescriptorOf → List ℕ
record_warnings path n [] = bare_record_warning path n
record_warnings path n (d ∷ ds) = flat_map (descriptor_warning path n) (d ∷ ds)

-- the warnings about records, from number n on
abbrev pub warnings_of_records : (path : List ℕ) → ℕ → List SpecRecordOf → List ℕ
warnings_of_records path n [] = []
warnings_of_records path n (r ∷ rs) = record_warnings path n r.descriptors ++ warnings_of_records path (n + 1) rs

-- any record uses the component, which is counted from 0
abbrev pub is_used_by_any : List SpecRecordOf → (component : ℕ) → Bool
is_used_by_any records component = list_any (λ r. is_used r.uses component) records

-- the line of a component that no record uses; components are counted from 1
unfoldable pub unused_warning : (path : List ℕ) → (number : ℕ) → List ℕ
unused_warning path n = path ++ word_and_number (codes ": component ") n ++ codes " is used by no record\n"

-- the warning about a component, which is counted from 0, if it is warned of
unfoldable pub component_warning : (path : List ℕ) → List SpecRecordOf → (component : ℕ) → List ℕ
component_warning path records k = if is_used_by_any records k then [] else unused_warning path (k + 1)

-- the warnings about components, from number k on, which is counted from 0
abbrev pub warnings_of_components : (path : List ℕ) → List SpecRecordOf → ℕ → List SpecComponentOf → List ℕ
warnings_of_components path records k [] = []
warnings_of_components path records k (c ∷ cs) = component_warning path records k ++ warnings_of_components path records (k + 1) cs

-- the warnings about a description that is read from this path
abbrev pub warnings_text : (path : List ℕ) → PackageSpecOf → List ℕ
warnings_text path spec = warnings_of_records path 1 spec.records ++ warnings_of_components path spec.records 0 spec.components
