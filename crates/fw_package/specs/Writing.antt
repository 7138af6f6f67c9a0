-- The bytes of a package's header (DSP0267 1.0, firmware update package header). Numbers are
-- little-endian.
use Rattle.std.specs.Prelude.{ℕ, zero, suc, ◌≡◌, ◌+◌, ◌*◌, ◌<◌, ◌==◌, Bool, if◌then◌else◌, List, [], ◌∷◌, ◌++◌, Ok, All, length, map}
use Rattle.std.specs.List.{concat, flat_map, list_any, range_with_len}
use Rattle.byteorder.specs.Endian.{little_bytes}
use Rattle.fw_package.specs.Asked.{AskedComponentOf, AskedPackageOf, AskedRecordOf, package_for, bitmap_size_for, header_size, record_size}
use Rattle.fw_package.specs.Crc.{crc_of}
use Rattle.fw_package.specs.Grammar.{IsPackage}
use Rattle.fw_package.specs.Package.{DescriptorOf}
use Rattle.fw_package.specs.Reading.{package_identifier, package_of}

-- the component is in the list
abbrev pub is_used : List ℕ → ℕ → Bool
is_used uses k = list_any (λ n. n == k) uses

-- the number of the given count of bits: the lowest is 1 if the component `first` is used, the next
-- is for the component after it
abbrev pub bits_of : List ℕ → ℕ → ℕ → ℕ
bits_of uses first zero = 0
bits_of uses first (suc n) = (if is_used uses first then 1 else 0) + 2 * bits_of uses (first + 1) n

-- The bitmap: bit k modulo 8 of byte k / 8 is 1 if the component k is used.
abbrev pub bitmap_byte : List ℕ → ℕ → ℕ
bitmap_byte uses place = bits_of uses (8 * place) 8

abbrev pub bitmap_of : ℕ → List ℕ → List ℕ
bitmap_of size uses = map (bitmap_byte uses) (range_with_len 0 size)

-- a descriptor: type, size, data
abbrev pub descriptor_bytes : DescriptorOf → List ℕ
descriptor_bytes d = little_bytes 2 d.kind ++ (little_bytes 2 (length d.bytes) ++ d.bytes)

-- A record: length, descriptor count, option flags, set text type and length, no package data, and
-- then bitmap, set text and descriptors.
abbrev pub record_head : ℕ → AskedRecordOf → List ℕ
record_head bitmap_size r =
    little_bytes 2 (record_size bitmap_size r) ++ length r.descriptors ∷ (little_bytes 4 r.flags ++ 1 ∷ length r.set_text ∷ little_bytes 2 0)

abbrev pub record_bytes : ℕ → AskedRecordOf → List ℕ
record_bytes bitmap_size r =
    record_head bitmap_size r ++ (bitmap_of bitmap_size r.uses ++ (r.set_text ++ flat_map descriptor_bytes r.descriptors))

-- a component: classification, identifier, stamp, options, activation method, offset and size of
-- its image, version text type, length and text
abbrev pub component_bytes : ℕ → AskedComponentOf → List ℕ
component_bytes offset c =
    little_bytes 2 c.classification ++ (little_bytes 2 c.identifier ++ (little_bytes 4 c.stamp ++ (little_bytes 2 c.options
    ++ (little_bytes 2 c.method ++ (little_bytes 4 offset ++ (little_bytes 4 c.size ++ 1 ∷ length c.text ∷ c.text))))))

-- the components; the image of the first is at this offset, each other after the one before it
abbrev pub components_bytes : ℕ → List AskedComponentOf → List ℕ
components_bytes offset [] = []
components_bytes offset (c ∷ cs) = component_bytes offset c ++ components_bytes (offset + c.size) cs

-- The fixed part and the version text: identifier, revision 1, the header's size, the release time,
-- the bits of a bitmap, the version text's type and length, and the text.
abbrev pub opening_bytes : AskedPackageOf → List ℕ
opening_bytes a =
    package_identifier ++ 1 ∷ (little_bytes 2 (header_size a) ++ (a.release
    ++ (little_bytes 2 (8 * bitmap_size_for (length a.components)) ++ 1 ∷ length a.version ∷ a.version)))

-- the header's bytes before its checksum: the opening, the records and the components, each after
-- their count
abbrev pub body_bytes : AskedPackageOf → List ℕ
body_bytes a =
    opening_bytes a ++ length a.records ∷ (flat_map (record_bytes (bitmap_size_for (length a.components))) a.records
    ++ (little_bytes 2 (length a.components) ++ components_bytes (header_size a) a.components))

-- the header
abbrev pub header_bytes : AskedPackageOf → List ℕ
header_bytes a = body_bytes a ++ little_bytes 4 (crc_of (body_bytes a))

-- The header and images of the given sizes make up the package, and read as it.
pub record IsHeaderOf (a : AskedPackageOf) (header : List ℕ) : Type 0 where
  pub is : (images : List (List ℕ)) → map length images ≡ map (λ c. c.size) a.components → IsPackage (header ++ concat images) (package_for a images)
  pub reads : (images : List (List ℕ)) → map length images ≡ map (λ c. c.size) a.components → package_of (header ++ concat images) ≡ Ok (package_for a images)

-- the record's numbers fit their fields
pub record HasRecordWidths (r : AskedRecordOf) : Type 0 where
  pub flags : r.flags < 4294967296
  pub kinds : All (λ d. d.kind < 65536) r.descriptors

pub record HasAskedComponentWidths (c : AskedComponentOf) : Type 0 where
  pub classification : c.classification < 65536
  pub identifier : c.identifier < 65536
  pub stamp : c.stamp < 4294967296
  pub options : c.options < 65536
  pub method : c.method < 65536

pub record HasAskedWidths (a : AskedPackageOf) : Type 0 where
  pub release : length a.release ≡ 13
  pub records : All HasRecordWidths a.records
  pub components : All HasAskedComponentWidths a.components
