-- The outline of a package, read from its header: its images by length and place only (DSP0267 1.0,
-- firmware update package header).
use Rattle.std.specs.Prelude.{ℕ, zero, suc, ◌≡◌, ◌+◌, nat_lt, if◌then◌else◌, List, [], ◌∷◌, Result, Ok, Err, length, map, take, drop}
use Rattle.byteorder.specs.Endian.{little_number}
use Rattle.fw_package.specs.Components.{PlaceOf, place_of}
use Rattle.fw_package.specs.Layout.{layout_of, text_size_of}
use Rattle.fw_package.specs.Package.{ComponentOf, PackageText, RecordOf, TextOf}
use Rattle.fw_package.specs.Reading.{bitmap_size_of, header_before_checksum, header_of, parts_of, release_of, version_of}
use Rattle.fw_package.specs.Records.{◌>>=◌, records_of}
use Rattle.fw_package.specs.declared.fault.PackageFault.{PackageFault}
use Rattle.fw_package.specs.declared.fault.PackageFault.TheVariants.{ImageRange}

-- a package without its images
pub record OutlineOf : Type 0 where
  pub header_size : ℕ
  pub release : List ℕ
  pub version : TextOf
  pub records : List RecordOf
  pub places : List PlaceOf

-- a component with its image's place and length instead of the image
abbrev pub its_place : ComponentOf → PlaceOf
its_place c =
    record {
      classification = c.classification;
      identifier = c.identifier;
      stamp = c.stamp;
      options = c.options;
      method = c.method;
      offset = c.offset;
      size = length c.image;
      text = c.text;
    }

-- a package, each component by its place
abbrev pub outline_of_package : PackageText → OutlineOf
outline_of_package p =
    record {
      header_size = p.header_size;
      release = p.release;
      version = p.version;
      records = p.records;
      places = map its_place p.components;
    }

-- The bytes are the beginning of a file of this length: the first 65,535 bytes, since a header's
-- size is two bytes, or all.
pub record IsBeginning (file beginning : List ℕ) (file_length : ℕ) : Type 0 where
  pub begins : beginning ≡ take 65535 file
  pub long : length file ≡ file_length

-- the component at the beginning of the bytes, whose image ends within a file of this length
unfoldable pub place_within : ℕ → List ℕ → Result PlaceOf PackageFault
place_within file_length bytes =
    if nat_lt file_length ((place_of bytes).offset + (place_of bytes).size) then Err ImageRange else Ok (place_of bytes)

-- `count` components, in order
unfoldable pub places_of : ℕ → ℕ → List ℕ → Result (List PlaceOf) PackageFault
places_of file_length zero bytes = Ok []
places_of file_length (suc n) bytes = do
  first ← place_within file_length bytes
  others ← places_of file_length n (drop (22 + text_size_of 21 bytes) bytes)
  Ok (first ∷ others)

-- the contents of a header: its size, release time, version text and records, and the number of its
-- components, with the header from the first component on
pub record ContentsOf : Type 0 where
  pub header_size : ℕ
  pub release : List ℕ
  pub version : TextOf
  pub records : List RecordOf
  pub component_count : ℕ
  pub components : List ℕ

-- the contents of the header at the beginning of the bytes, or the first fault
unfoldable pub contents_of : List ℕ → Result ContentsOf PackageFault
contents_of bytes = do
  header ← header_of bytes
  layout ← parts_of (layout_of header)
  bitmap_size ← bitmap_size_of (little_number 2 (drop 32 header)) layout.component_count
  records ← records_of bitmap_size layout.component_count layout.record_count layout.records
  before ← header_before_checksum header
  Ok (record {
    header_size = length header;
    release = release_of header;
    version = version_of header;
    records = records;
    component_count = layout.component_count;
    components = layout.components;
  })

-- the outline of the package of this length that begins with the bytes, or the first fault
unfoldable pub outline_of : List ℕ → ℕ → Result OutlineOf PackageFault
outline_of beginning file_length = do
  contents ← contents_of beginning
  places ← places_of file_length contents.component_count contents.components
  Ok (record {
    header_size = contents.header_size;
    release = contents.release;
    version = contents.version;
    records = contents.records;
    places = places;
  })
