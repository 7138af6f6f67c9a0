-- The bytes of a package, composed of its parts (DSP0267 1.0, firmware update package header).
-- Numbers are little-endian.
use Rattle.std.specs.Prelude.{◌≡◌, ◌≢◌, ℕ, ◌+◌, ◌/◌, ◌%◌, ◌≤◌, List, [], ◌∷◌, ◌++◌, length, take, drop}
use Rattle.byteorder.specs.Endian.{little_number}
use Rattle.fw_package.specs.Crc.{crc_of}
use Rattle.fw_package.specs.Package.{ComponentOf, DescriptorOf, PackageText, RecordOf}
use Rattle.fw_package.specs.Reading.{package_identifier}
use Rattle.fw_package.specs.Records.{components_named}

-- the numbers of two and of four bytes
abbrev pub two_bytes : ℕ → ℕ → ℕ
two_bytes a b = little_number 2 (a ∷ b ∷ [])

abbrev pub four_bytes : ℕ → ℕ → ℕ → ℕ → ℕ
four_bytes a b c d = little_number 4 (a ∷ b ∷ c ∷ d ∷ [])

-- the bytes are these parts, in order
abbrev pub AreInTurn : {A : Type 0} → (List ℕ → A → Type 0) → List ℕ → List A → Type 0
AreInTurn IsPart bytes [] = bytes ≡ []
AreInTurn IsPart bytes (x ∷ xs) =
    (part : List ℕ) × (others : List ℕ) × (bytes ≡ part ++ others) × IsPart part x × AreInTurn IsPart others xs

-- a descriptor: type, size, data
abbrev pub IsDescriptor : List ℕ → DescriptorOf → Type 0
IsDescriptor (t0 ∷ t1 ∷ s0 ∷ s1 ∷ content) d =
    (two_bytes t0 t1 ≡ d.kind) × (two_bytes s0 s1 ≡ length d.bytes) × (content ≡ d.bytes)
IsDescriptor _ d = ⊥

-- the parts of a record after its first eleven bytes
pub record IsRecordRest (bitmap_size component_count descriptor_count text_size data_size : ℕ) (rest : List ℕ) (r : RecordOf) : Type 0 where
  pub bitmap : List ℕ
  pub descriptors : List ℕ
  pub content : List ℕ
  pub is : rest ≡ bitmap ++ (r.set_text.bytes ++ (descriptors ++ content))
  pub bitmap_fits : length bitmap ≡ bitmap_size
  pub text_fits : length r.set_text.bytes ≡ text_size
  pub counted : length r.descriptors ≡ descriptor_count
  pub described : AreInTurn IsDescriptor descriptors r.descriptors
  pub content_fits : length content ≡ data_size
  pub uses : r.uses ≡ components_named bitmap component_count

-- A record: length, descriptor count, option flags, set text type and length, package data length,
-- and then bitmap, set text, descriptors and package data. Its length is that of the whole.
abbrev pub IsRecord : ℕ → ℕ → List ℕ → RecordOf → Type 0
IsRecord bitmap_size component_count (l0 ∷ l1 ∷ n ∷ f0 ∷ f1 ∷ f2 ∷ f3 ∷ kind ∷ t ∷ d0 ∷ d1 ∷ rest) r =
    (two_bytes l0 l1 ≡ 11 + length rest) × (four_bytes f0 f1 f2 f3 ≡ r.flags) × (kind ≡ r.set_text.kind)
    × IsRecordRest bitmap_size component_count n t (two_bytes d0 d1) rest r
IsRecord bitmap_size component_count _ r = ⊥

-- A component: classification, identifier, stamp, options, activation method, offset and size of
-- its image, version text type, length and text. The image is the part of the file at that offset
-- with that size.
abbrev pub IsComponent : List ℕ → List ℕ → ComponentOf → Type 0
IsComponent file (c0 ∷ c1 ∷ i0 ∷ i1 ∷ s0 ∷ s1 ∷ s2 ∷ s3 ∷ o0 ∷ o1 ∷ m0 ∷ m1 ∷ f0 ∷ f1 ∷ f2 ∷ f3 ∷ z0 ∷ z1 ∷ z2 ∷ z3 ∷ kind ∷ t ∷ text) c =
    (two_bytes c0 c1 ≡ c.classification) × (two_bytes i0 i1 ≡ c.identifier) × (four_bytes s0 s1 s2 s3 ≡ c.stamp)
    × (two_bytes o0 o1 ≡ c.options) × (two_bytes m0 m1 ≡ c.method) × (four_bytes f0 f1 f2 f3 ≡ c.offset)
    × (kind ≡ c.text.kind) × (text ≡ c.text.bytes) × (t ≡ length text)
    × (c.offset + four_bytes z0 z1 z2 z3 ≤ length file) × (c.image ≡ take (four_bytes z0 z1 z2 z3) (drop c.offset file))
IsComponent file _ c = ⊥

-- The bytes are a package: a header, which is `before` and the checksum of `before`, and the bytes
-- after it. The header is its identifier, revision 1, its size, the release time, the bitmap's bit
-- length, the version text, and records and components with their counts.
pub record IsPackage (bytes : List ℕ) (p : PackageText) : Type 0 where
  pub h0 : ℕ
  pub h1 : ℕ
  pub b0 : ℕ
  pub b1 : ℕ
  pub m : ℕ
  pub n0 : ℕ
  pub n1 : ℕ
  pub x0 : ℕ
  pub x1 : ℕ
  pub x2 : ℕ
  pub x3 : ℕ
  pub records : List ℕ
  pub components : List ℕ
  pub before : List ℕ
  pub after : List ℕ
  pub bytes_are : bytes ≡ before ++ x0 ∷ x1 ∷ x2 ∷ x3 ∷ after
  pub before_is : before ≡ package_identifier ++ 1 ∷ h0 ∷ h1 ∷ (p.release ++ b0 ∷ b1 ∷ p.version.kind ∷ length p.version.bytes ∷ (p.version.bytes ++ m ∷ (records ++ n0 ∷ n1 ∷ components)))
  pub release_fits : length p.release ≡ 13
  pub size : two_bytes h0 h1 ≡ p.header_size
  pub whole : p.header_size ≡ length before + 4
  pub signed : four_bytes x0 x1 x2 x3 ≡ crc_of before
  pub bits_there : two_bytes b0 b1 ≢ 0
  pub bits_whole : two_bytes b0 b1 % 8 ≡ 0
  pub bits_enough : length p.components ≤ two_bytes b0 b1
  pub record_count : m ≡ length p.records
  pub component_count : two_bytes n0 n1 ≡ length p.components
  pub recorded : AreInTurn (IsRecord (two_bytes b0 b1 / 8) (length p.components)) records p.records
  pub composed : AreInTurn (IsComponent bytes) components p.components
