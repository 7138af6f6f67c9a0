-- The output of `fwupd inspect`: a line for the package, for each record and its descriptors, and
-- for each component.
use Rattle.std.specs.Prelude.{ℕ, ◌+◌, List, [], ◌∷◌, ◌++◌, codes, length}
use Rattle.std.specs.List.{flat_map}
use Rattle.fw_package.specs.Components.{PlaceOf}
use Rattle.fw_package.specs.Outlines.{OutlineOf, outline_of_package}
use Rattle.fw_package.specs.Package.{DescriptorOf, PackageText, RecordOf}
use Rattle.fw_text.specs.Printing.{data_text, in_eight, in_four, word_and_number, word_and_quoted}

-- the numbers of the components that a record uses, from 1; none is a dash
abbrev pub use_text : ℕ → List ℕ
use_text n = word_and_number (codes " ") (n + 1)

unfoldable pub uses_text : List ℕ → List ℕ
uses_text [] = codes " -"
uses_text (n ∷ ns) = flat_map use_text (n ∷ ns)

abbrev pub package_line : OutlineOf → List ℕ
package_line o =
    word_and_number (codes "package header ") o.header_size ++ word_and_number (codes " records ") (length o.records)
    ++ word_and_number (codes " components ") (length o.places) ++ codes "\n"

unfoldable pub descriptor_line : DescriptorOf → List ℕ
descriptor_line d = in_four (codes "descriptor ") d.kind ++ codes " " ++ data_text d.bytes ++ codes "\n"

unfoldable pub record_line : ℕ → RecordOf → List ℕ
record_line n r =
    word_and_number (codes "record ") n ++ in_eight (codes " flags ") r.flags ++ word_and_quoted (codes " set ") r.set_text.bytes
    ++ codes " uses" ++ uses_text r.uses ++ codes "\n"

-- a record's line, and the lines of its descriptors
unfoldable pub record_text : ℕ → RecordOf → List ℕ
record_text n r = record_line n r ++ flat_map descriptor_line r.descriptors

-- records numbered from n
abbrev pub records_text : ℕ → List RecordOf → List ℕ
records_text n [] = []
records_text n (r ∷ rs) = record_text n r ++ records_text (n + 1) rs

-- a component's line, with its image's length and position
unfoldable pub component_line : ℕ → PlaceOf → List ℕ
component_line n c =
    word_and_number (codes "component ") n ++ word_and_number (codes " class ") c.classification ++ word_and_number (codes " ident ") c.identifier
    ++ in_eight (codes " stamp ") c.stamp ++ in_four (codes " options ") c.options ++ word_and_number (codes " offset ") c.offset
    ++ word_and_number (codes " size ") c.size ++ word_and_quoted (codes " version ") c.text.bytes ++ codes "\n"

-- components numbered from n
abbrev pub components_text : ℕ → List PlaceOf → List ℕ
components_text n [] = []
components_text n (c ∷ cs) = component_line n c ++ components_text (n + 1) cs

-- the output for a package without its images
abbrev pub outline_text : OutlineOf → List ℕ
outline_text o = package_line o ++ records_text 1 o.records ++ components_text 1 o.places

-- the output for a package
abbrev pub inspect_of : PackageText → List ℕ
inspect_of p = outline_text (outline_of_package p)
