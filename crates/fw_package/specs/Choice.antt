-- The record that a device's descriptors choose in a package, and the components to send.
use Rattle.std.specs.Prelude.{ℕ, ◌==◌, ◌&&◌, ◌||◌, Bool, false, not, nat_eq, nat_lt, if◌then◌else◌, List, [], ◌∷◌, Option, Some, None, Result, Ok, Err, length, map, filter, slice_index_or}
use Rattle.std.specs.List.{list_any, list_all, position}
use Rattle.std.specs.Option.{option_and_then}
use Rattle.std.specs.Cmp.Lexicographic.{pointwise}
use Rattle.fw_package.specs.Package.{ComponentOf, DescriptorOf, PackageText, RecordOf, TextOf}
use Rattle.fw_package.specs.declared.fault.PlanFault.{PlanFault}
use Rattle.fw_package.specs.declared.fault.PlanFault.TheVariants.{DuplicateComponent, ImageTooLarge, TextTooLong, TooManyComponents}

-- the record and the component used past the last one
abbrev pub no_text : TextOf
no_text = record { kind = 0; bytes = [] }

abbrev pub no_descriptor : DescriptorOf
no_descriptor = record { kind = 0; bytes = [] }

abbrev pub no_record : RecordOf
no_record = record { flags = 0; set_text = no_text; descriptors = []; uses = [] }

abbrev pub no_component : ComponentOf
no_component = record { classification = 0; identifier = 0; stamp = 0; options = 0; method = 0; offset = 0; text = no_text; image = [] }

-- the record of this number, counted from 0
abbrev pub record_at : PackageText → ℕ → RecordOf
record_at p number = slice_index_or p.records number no_record

-- the component of this number, counted from 0
abbrev pub component_at : PackageText → ℕ → ComponentOf
component_at p number = slice_index_or p.components number no_component

-- the same type and the same data
abbrev pub same_descriptor : DescriptorOf → DescriptorOf → Bool
same_descriptor a b = (a.kind == b.kind) && pointwise nat_eq a.bytes b.bytes

-- the descriptor is one of the device's
abbrev pub is_among : List DescriptorOf → DescriptorOf → Bool
is_among device d = list_any (same_descriptor d) device

-- the record has a descriptor, and all of its descriptors are the device's
abbrev pub is_for : List DescriptorOf → RecordOf → Bool
is_for device r = not (length r.descriptors == 0) && list_all (is_among device) r.descriptors

-- the number of the first record for the device
abbrev pub record_number : PackageText → List DescriptorOf → Option ℕ
record_number p device = position (is_for device) p.records

-- the same key: classification and identifier
abbrev pub has_key : ℕ → ℕ → ComponentOf → Bool
has_key classification identifier c = (c.classification == classification) && (c.identifier == identifier)

-- two of the components have the same key
unfoldable pub has_twin : PackageText → List ℕ → Bool
has_twin p [] = false
has_twin p (n ∷ ns) = list_any (λ m. has_key (component_at p n).classification (component_at p n).identifier (component_at p m)) ns || has_twin p ns

-- a component's image has more bytes than a device accepts
abbrev pub has_large_image : PackageText → List ℕ → Bool
has_large_image p ns = list_any (λ n. nat_lt 1048576 (length (component_at p n).image)) ns

-- a component's version text has more bytes than a message carries
abbrev pub has_long_text : PackageText → List ℕ → Bool
has_long_text p ns = list_any (λ n. nat_lt 200 (length (component_at p n).text.bytes)) ns

-- the numbers of a record's components in the order in which they are offered to the device, or the
-- first fault
unfoldable pub plan_of : PackageText → ℕ → Result (List ℕ) PlanFault
plan_of p number =
    if has_twin p (record_at p number).uses then Err DuplicateComponent
    else if nat_lt 8 (length (record_at p number).uses) then Err TooManyComponents
    else if has_large_image p (record_at p number).uses then Err ImageTooLarge
    else if nat_lt 200 (length (record_at p number).set_text.bytes) || has_long_text p (record_at p number).uses then Err TextTooLong
    else Ok (record_at p number).uses

-- the image of the only component of the list, if it has exactly one
abbrev pub sole_image : List ComponentOf → Option (List ℕ)
sole_image (c ∷ []) = Some c.image
sole_image _ = None

-- The image that a package names for a device under a key: the image of the one component with this
-- key in the device's record. There is none without a record, and none if two components have the
-- key.
abbrev pub image_for : PackageText → List DescriptorOf → ℕ → ℕ → Option (List ℕ)
image_for p device classification identifier =
    option_and_then
    (λ number. sole_image (filter (has_key classification identifier) (map (component_at p) (record_at p number).uses)))
    (record_number p device)
