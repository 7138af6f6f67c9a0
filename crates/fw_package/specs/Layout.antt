-- The order of a header's parts (DSP0267 1.0, package header information).
use Rattle.std.specs.Prelude.{ℕ, zero, suc, ◌+◌, ◌==◌, nat_lt, if◌then◌else◌, List, [], ◌∷◌, Option, Some, None, length, drop, slice_index}
use Rattle.std.specs.Option.{option_and_then}
use Rattle.byteorder.specs.Endian.{little_number}
use Rattle.fw_package.specs.declared.layout.Layout.{Layout}

-- the bytes after the first n bytes, if there are as many
abbrev pub bytes_after : ℕ → List ℕ → Option (List ℕ)
bytes_after n bytes = if nat_lt (length bytes) n then None else Some (drop n bytes)

-- the length of a text, in the byte at this place
abbrev pub text_size_of : ℕ → List ℕ → ℕ
text_size_of place bytes = slice_index bytes place

-- the bytes after a record, which begins with its length
abbrev pub after_record : List ℕ → Option (List ℕ)
after_record bytes = if nat_lt (length bytes) 2 then None else bytes_after (little_number 2 bytes) bytes

-- the bytes after the given number of records
unfoldable pub after_records : ℕ → List ℕ → Option (List ℕ)
after_records zero bytes = Some bytes
after_records (suc n) bytes = option_and_then (after_records n) (after_record bytes)

-- the bytes after a component: 22 bytes, of which the last is the length of the version text, and
-- that text
abbrev pub after_component : List ℕ → Option (List ℕ)
after_component bytes = bytes_after (22 + text_size_of 21 bytes) bytes

-- the bytes after the given number of components
unfoldable pub after_components : ℕ → List ℕ → Option (List ℕ)
after_components zero bytes = Some bytes
after_components (suc n) bytes = option_and_then (after_components n) (after_component bytes)

-- a header's records and components: their numbers, and the header from the first of each on
pub record LayoutOf : Type 0 where
  pub record_count : ℕ
  pub records : List ℕ
  pub component_count : ℕ
  pub components : List ℕ

-- the same for the code's layout
abbrev pub layout_seen : Layout → LayoutOf
layout_seen l =
    record {
      record_count = l.record_count;
      records = l.records.now;
      component_count = l.component_count;
      components = l.components.now;
    }

-- four bytes of checksum are left after the components
abbrev pub closed_layout : ℕ → List ℕ → ℕ → List ℕ → List ℕ → Option LayoutOf
closed_layout m records n components rest =
    if length rest == 4 then Some (record { record_count = m; records = records; component_count = n; components = components }) else None

-- the component count and the components, after the records
abbrev pub layout_from_components : ℕ → List ℕ → List ℕ → Option LayoutOf
layout_from_components m records rest =
    option_and_then
    (λ components. option_and_then (closed_layout m records (little_number 2 rest) components) (after_components (little_number 2 rest) components))
    (bytes_after 2 rest)

-- the record count and the records, after the version text
abbrev pub layout_from_records : List ℕ → Option LayoutOf
layout_from_records [] = None
layout_from_records (m ∷ records) = option_and_then (layout_from_components m records) (after_records m records)

-- the layout of a header whose parts end at its end: the version text is after 36 bytes
unfoldable pub layout_of : List ℕ → Option LayoutOf
layout_of header = option_and_then layout_from_records (bytes_after (36 + text_size_of 35 header) header)
