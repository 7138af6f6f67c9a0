-- The package with the bytes of a file, or the first fault (DSP0267 1.0, firmware update package
-- header).
use Rattle.std.specs.Prelude.{ℕ, ◌-◌, ◌/◌, ◌%◌, ◌==◌, ◌<◌, ◌||◌, not, nat_eq, nat_lt, if◌then◌else◌, List, [], ◌∷◌, Option, Some, None, Result, Ok, Err, All, length, take, drop, slice_index}
use Rattle.std.specs.List.{starts_with}
use Rattle.std.specs.List.Sorted.{IsStrictlyIncreasing}
use Rattle.byteorder.specs.Endian.{little_number}
use Rattle.fw_package.specs.Components.{components_of}
use Rattle.fw_package.specs.Crc.{crc_of}
use Rattle.fw_package.specs.Layout.{LayoutOf, layout_of, text_size_of}
use Rattle.fw_package.specs.Package.{PackageText, RecordOf, TextOf}
use Rattle.fw_package.specs.Records.{◌>>=◌, records_of}
use Rattle.fw_package.specs.declared.fault.PackageFault.{PackageFault}
use Rattle.fw_package.specs.declared.fault.PackageFault.TheVariants.{BitmapLength, Checksum, HeaderSize, Identifier, Revision, Short}

-- the package header identifier of revision 1: F018878C-CB7D-4943-9800-A02F059ACA02
abbrev pub package_identifier : List ℕ
package_identifier = 0xF0 ∷ 0x18 ∷ 0x87 ∷ 0x8C ∷ 0xCB ∷ 0x7D ∷ 0x49 ∷ 0x43 ∷ 0x98 ∷ 0x00 ∷ 0xA0 ∷ 0x2F ∷ 0x05 ∷ 0x9A ∷ 0xCA ∷ 0x02 ∷ []

-- the header, with the size in it, if the file has as many bytes
unfoldable pub header_of : List ℕ → Result (List ℕ) PackageFault
header_of bytes =
    if nat_lt (length bytes) 36 then Err Short
    else if not (starts_with nat_eq bytes package_identifier) then Err Identifier
    else if not (slice_index bytes 16 == 1) then Err Revision
    else if nat_lt (length bytes) (little_number 2 (drop 17 bytes)) then Err HeaderSize
    else Ok (take (little_number 2 (drop 17 bytes)) bytes)

-- the places of its parts, if they end at the header's end
abbrev pub parts_of : Option LayoutOf → Result LayoutOf PackageFault
parts_of (Some layout) = Ok layout
parts_of None = Err HeaderSize

-- The bytes of each record's bitmap. Its length in bits has a bit for each component and fills
-- whole bytes.
unfoldable pub bitmap_size_of : ℕ → ℕ → Result ℕ PackageFault
bitmap_size_of bits component_count =
    if (bits == 0) || (not (bits % 8 == 0) || nat_lt bits component_count) then Err BitmapLength else Ok (bits / 8)

-- the header's bytes before its checksum, which is theirs
unfoldable pub header_before_checksum : List ℕ → Result (List ℕ) PackageFault
header_before_checksum header =
    if crc_of (take (length header - 4) header) == little_number 4 (drop (length header - 4) header) then Ok (take (length header - 4) header) else Err Checksum

-- the release time and the version text of a header
abbrev pub release_of : List ℕ → List ℕ
release_of header = take 13 (drop 19 header)

abbrev pub version_of : List ℕ → TextOf
version_of header = record { kind = slice_index header 34; bytes = take (text_size_of 35 header) (drop 36 header) }

-- the package with these bytes, or the first fault
unfoldable pub package_of : List ℕ → Result PackageText PackageFault
package_of bytes = do
  header ← header_of bytes
  layout ← parts_of (layout_of header)
  bitmap_size ← bitmap_size_of (little_number 2 (drop 32 header)) layout.component_count
  records ← records_of bitmap_size layout.component_count layout.record_count layout.records
  before ← header_before_checksum header
  components ← components_of bytes layout.component_count layout.components
  Ok (record {
    header_size = length header;
    release = release_of header;
    version = version_of header;
    records = records;
    components = components;
  })

-- the components that a record uses are rising, and there
pub record IsUsing (count : ℕ) (r : RecordOf) : Type 0 where
  pub rising : IsStrictlyIncreasing r.uses
  pub there : All (λ k. k < count) r.uses
