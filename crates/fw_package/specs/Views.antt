-- The values of data borrowed from a header.
use Rattle.std.specs.Prelude.{ℕ, ◌≡◌, true, All, ◌+◌, ◌-◌, ◌<◌, ◌≤◌, ◌*◌, ◌==◌, ◌||◌, Bool, false, List, [], ◌∷◌, IsOk, IsSome, Result, Ok, Err, drop, filter, length, slice_index_or, min, ◌^◌}
use Rattle.std.specs.List.{list_any, range_with_len}
use Rattle.std.specs.List.Sorted.{IsStrictlyIncreasing}
use Rattle.fw_package.specs.Asked.{AskedPackageOf, AskedRecordOf, are_uses, header_size, images_size}
use Rattle.fw_package.specs.Choice.{has_key, no_component}
use Rattle.fw_package.specs.Components.{components_of}
use Rattle.fw_package.specs.Layout.{after_components, after_records}
use Rattle.fw_package.specs.Outlines.{places_of}
use Rattle.fw_package.specs.Package.{ComponentOf}
use Rattle.fw_package.specs.Records.{is_named, records_of}
use Rattle.fw_package.specs.declared.fault.PackageFault.{PackageFault}

-- a list that was read, and one that was read with the bytes after it
abbrev pub list_or_empty : {A : Type 0} → Result (List A) PackageFault → List A
list_or_empty (Ok xs) = xs
list_or_empty (Err e) = []

abbrev pub front_of : {A B : Type 0} → Result (List A × B) PackageFault → List A
front_of (Ok p) = p.0
front_of (Err e) = []

-- the components from a number on that a bitmap names, below the given count
abbrev pub named_from : List ℕ → ℕ → ℕ → List ℕ
named_from bitmap number count = filter (is_named bitmap) (range_with_len number count)

-- the bytes begin with `count` records
pub record AreRecords (bitmap_size component_count count : ℕ) (bytes : List ℕ) : Type 0 where
  pub walked : IsSome (after_records count bytes)
  pub read : IsOk (records_of bitmap_size component_count count bytes)

-- the bytes begin with `count` components
pub record AreComponents (file : List ℕ) (count : ℕ) (bytes : List ℕ) : Type 0 where
  pub walked : IsSome (after_components count bytes)
  pub read : IsOk (components_of file count bytes)

-- the same, if only the file's length is known
pub record ArePlaces (file_length : ℕ) (count : ℕ) (bytes : List ℕ) : Type 0 where
  pub walked : IsSome (after_components count bytes)
  pub read : IsOk (places_of file_length count bytes)

-- the components with these rising numbers, among consecutive ones of which the first has the
-- number `at`
abbrev pub used_from : ℕ → List ComponentOf → List ℕ → List ComponentOf
used_from at row [] = []
used_from at row (n ∷ ns) = slice_index_or row (n - at) no_component ∷ used_from (n + 1) (drop (n - at + 1) row) ns

-- the numbers are rising, and among the components
abbrev pub AreRisingUses : ℕ → List ComponentOf → List ℕ → Type 0
AreRisingUses at row [] = Unit {0}
AreRisingUses at row (n ∷ ns) = (at ≤ n) × (n - at < length row) × AreRisingUses (n + 1) (drop (n - at + 1) row) ns

-- two of the components have the same key
abbrev pub has_twins : List ComponentOf → Bool
has_twins [] = false
has_twins (c ∷ cs) = list_any (has_key c.classification c.identifier) cs || has_twins cs

-- a key as one number
abbrev pub number_of : ComponentOf → ℕ
number_of c = c.classification * 65536 + c.identifier

-- two of the numbers are equal
abbrev pub has_doubles : List ℕ → Bool
has_doubles [] = false
has_doubles (k ∷ ks) = list_any (λ j. k == j) ks || has_doubles ks

-- a number, or the largest of 64 bits if it is larger
abbrev pub capped_number : ℕ → ℕ
capped_number n = min n (2 ^ 64 - 1)

-- a record's numbers and texts fit, and its components rise
pub record IsRecordFit (r : AskedRecordOf) : Type 0 where
  pub text : length r.set_text ≤ 255
  pub descriptors : length r.descriptors ≤ 255
  pub rising : IsStrictlyIncreasing r.uses

-- the package can be written
pub record IsFit (a : AskedPackageOf) : Type 0 where
  pub version : length a.version ≤ 255
  pub count : length a.records ≤ 255
  pub records : All IsRecordFit a.records
  pub uses : All (λ r. are_uses (length a.components) 0 r.uses ≡ true) a.records
  pub components : All (λ c. length c.text ≤ 255) a.components
  pub header : header_size a ≤ 65535
  pub file : header_size a + images_size a ≤ 4294967295
