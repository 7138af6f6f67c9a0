-- The first fault of bytes that are no package (DSP0267 1.0, firmware update package header).
use Rattle.std.specs.Prelude.{ℕ, zero, suc, ◌≡◌, ◌≢◌, ◌+◌, ◌-◌, ◌/◌, ◌%◌, ◌<◌, ◌≤◌, List, Some, None, IsOk, length, take, drop, slice_index}
use Rattle.byteorder.specs.Endian.{little_number}
use Rattle.fw_package.specs.Components.{place_of}
use Rattle.fw_package.specs.Crc.{crc_of}
use Rattle.fw_package.specs.Layout.{LayoutOf, layout_of, text_size_of}
use Rattle.fw_package.specs.Reading.{package_identifier}
use Rattle.fw_package.specs.Records.{records_of}
use Rattle.fw_package.specs.declared.fault.PackageFault.{PackageFault}
use Rattle.fw_package.specs.declared.fault.PackageFault.TheVariants as faults

-- the size of the header, read from it, and the header
abbrev pub size_in : List ℕ → ℕ
size_in bytes = little_number 2 (drop 17 bytes)

abbrev pub header_in : List ℕ → List ℕ
header_in bytes = take (size_in bytes) bytes

-- the bits of each record's bitmap
abbrev pub bits_in : List ℕ → ℕ
bits_in bytes = little_number 2 (drop 32 (header_in bytes))

-- the file has a header's fixed part, which begins with the identifier
pub record IsIdentified (bytes : List ℕ) : Type 0 where
  pub long : 36 ≤ length bytes
  pub identified : take 16 bytes ≡ package_identifier

-- and has revision 1
pub record IsRevised (bytes : List ℕ) : Type 0 where
  pub begins : IsIdentified bytes
  pub revised : slice_index bytes 16 ≡ 1

-- the file has the whole header, whose parts, walked by their lengths, end at its end
pub record IsLaidOut (bytes : List ℕ) (l : LayoutOf) : Type 0 where
  pub begins : IsRevised bytes
  pub fits : size_in bytes ≤ length bytes
  pub ends : layout_of (header_in bytes) ≡ Some l

-- the bitmaps fill whole bytes and have a bit for each component
pub record HasBitmaps (bits count : ℕ) : Type 0 where
  pub there : bits ≢ 0
  pub whole : bits % 8 ≡ 0
  pub enough : count ≤ bits

-- each record is as long as its parts
abbrev pub HasRecords : List ℕ → LayoutOf → Type 0
HasRecords bytes l = IsOk (records_of (bits_in bytes / 8) l.component_count l.record_count l.records)

-- the header ends with the checksum of the bytes before it
abbrev pub IsSigned : List ℕ → Type 0
IsSigned header = crc_of (take (length header - 4) header) ≡ little_number 4 (drop (length header - 4) header)

-- the image of each of the given number of components ends within the file
abbrev pub HasImages : List ℕ → ℕ → List ℕ → Type 0
HasImages file zero bytes = Unit {0}
HasImages file (suc n) bytes =
    ((place_of bytes).offset + (place_of bytes).size ≤ length file) × HasImages file n (drop (22 + text_size_of 21 bytes) bytes)

-- The first fault: none before it holds, and it does.
abbrev pub IsFirstPackageFault : List ℕ → PackageFault → Type 0
IsFirstPackageFault bytes faults.Short = length bytes < 36
IsFirstPackageFault bytes faults.Identifier = (36 ≤ length bytes) × (take 16 bytes ≢ package_identifier)
IsFirstPackageFault bytes faults.Revision = IsIdentified bytes × (slice_index bytes 16 ≢ 1)
IsFirstPackageFault bytes faults.HeaderSize = IsRevised bytes × (size_in bytes ≤ length bytes → layout_of (header_in bytes) ≡ None)
IsFirstPackageFault bytes faults.BitmapLength = (l : LayoutOf) × IsLaidOut bytes l × ¬ HasBitmaps (bits_in bytes) l.component_count
IsFirstPackageFault bytes faults.RecordLength =
    (l : LayoutOf) × IsLaidOut bytes l × HasBitmaps (bits_in bytes) l.component_count × ¬ HasRecords bytes l
IsFirstPackageFault bytes faults.Checksum =
    (l : LayoutOf) × IsLaidOut bytes l × HasBitmaps (bits_in bytes) l.component_count × HasRecords bytes l × ¬ IsSigned (header_in bytes)
IsFirstPackageFault bytes faults.ImageRange =
    (l : LayoutOf) × IsLaidOut bytes l × HasBitmaps (bits_in bytes) l.component_count × HasRecords bytes l × IsSigned (header_in bytes)
    × ¬ HasImages bytes l.component_count l.components
