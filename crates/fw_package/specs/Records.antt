-- A device identification record, read from its bytes (DSP0267 1.0, firmware device identification
-- area).
use Rattle.std.specs.Prelude.{ℕ, zero, suc, ◌/◌, ◌%◌, ◌==◌, Bool, nat_lt, if◌then◌else◌, List, [], ◌∷◌, Result, Ok, Err, length, take, drop, filter, slice_index}
use Rattle.std.specs.Int.{bit_at}
use Rattle.std.specs.List.{range_with_len}
use Rattle.byteorder.specs.Endian.{little_number}
use Rattle.fw_package.specs.Package.{DescriptorOf, RecordOf}
use Rattle.fw_package.specs.declared.fault.PackageFault.{PackageFault}
use Rattle.fw_package.specs.declared.fault.PackageFault.TheVariants.{RecordLength}

-- a value, followed by a function on it
infixl 10 ◌>>=◌
abbrev pub ◌>>=◌ : {A B : Type 0} → Result A PackageFault → (A → Result B PackageFault) → Result B PackageFault
Ok x >>= f = f x
Err e >>= f = Err e

-- the first n bytes, and the bytes after them, if there are as many
abbrev pub split_after : ℕ → List ℕ → Result (List ℕ × List ℕ) PackageFault
split_after n bytes = if nat_lt (length bytes) n then Err RecordLength else Ok (take n bytes, drop n bytes)

-- a descriptor, whose type and size come before its data, and the bytes after it
unfoldable pub descriptor_split : List ℕ → Result (DescriptorOf × List ℕ) PackageFault
descriptor_split bytes = do
  head ← split_after 4 bytes
  content ← split_after (little_number 2 (drop 2 head.0)) head.1
  Ok (record { kind = little_number 2 head.0; bytes = content.0 }, content.1)

-- `count` descriptors, and the bytes after them
unfoldable pub descriptors_split : ℕ → List ℕ → Result (List DescriptorOf × List ℕ) PackageFault
descriptors_split zero bytes = Ok ([], bytes)
descriptors_split (suc n) bytes = do
  first ← descriptor_split bytes
  others ← descriptors_split n first.1
  Ok (first.0 ∷ others.0, others.1)

-- The bitmap names component k by bit k modulo 8 of byte k / 8.
abbrev pub is_named : List ℕ → ℕ → Bool
is_named bitmap k = bit_at (slice_index bitmap (k / 8)) (k % 8) == 1

-- the components that a bitmap names, below the given count
unfoldable pub components_named : List ℕ → ℕ → List ℕ
components_named bitmap count = filter (is_named bitmap) (range_with_len 0 count)

-- The record with exactly these bytes and a bitmap of the given size: eleven bytes, the bitmap, the
-- set text, the descriptors and the package data, whose lengths make up the whole.
unfoldable pub record_of : ℕ → ℕ → List ℕ → Result RecordOf PackageFault
record_of bitmap_size component_count bytes = do
  head ← split_after 11 bytes
  bitmap ← split_after bitmap_size head.1
  text ← split_after (slice_index head.0 8) bitmap.1
  descriptors ← descriptors_split (slice_index head.0 2) text.1
  if length descriptors.1 == little_number 2 (drop 9 head.0)
      then Ok (record {
        flags = little_number 4 (drop 3 head.0);
        set_text = record { kind = slice_index head.0 7; bytes = text.0 };
        descriptors = descriptors.0;
        uses = components_named bitmap.0 component_count;
      })
      else Err RecordLength

-- `count` records, in order, each with its own length
unfoldable pub records_of : ℕ → ℕ → ℕ → List ℕ → Result (List RecordOf) PackageFault
records_of bitmap_size component_count zero bytes = Ok []
records_of bitmap_size component_count (suc n) bytes = do
  first ← record_of bitmap_size component_count (take (little_number 2 bytes) bytes)
  others ← records_of bitmap_size component_count n (drop (little_number 2 bytes) bytes)
  Ok (first ∷ others)
