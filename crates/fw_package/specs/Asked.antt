-- The content of a package to write, and the package that results (DSP0267 1.0, firmware update
-- package).
use Rattle.std.specs.Prelude.{ℕ, ◌+◌, ◌/◌, ◌&&◌, not, Bool, true, nat_le, nat_lt, if◌then◌else◌, List, [], ◌∷◌, Option, Some, None, length, map, max}
use Rattle.std.specs.List.{list_all, sum_by}
use Rattle.fw_package.specs.Package.{ComponentOf, DescriptorOf, PackageText, RecordOf, TextOf, descriptor_of}
use Rattle.fw_package.specs.declared.asked.AskedComponent.{AskedComponent}
use Rattle.fw_package.specs.declared.asked.AskedFault.{AskedFault}
use Rattle.fw_package.specs.declared.asked.AskedFault.TheVariants.{Limit, Uses}
use Rattle.fw_package.specs.declared.asked.AskedPackage.{AskedPackage}
use Rattle.fw_package.specs.declared.asked.AskedRecord.{AskedRecord}

-- a record, with the numbers of the components that it uses, counted from 0
pub record AskedRecordOf : Type 0 where
  pub flags : ℕ
  pub set_text : List ℕ
  pub descriptors : List DescriptorOf
  pub uses : List ℕ

-- a component; only the size of its image is given
pub record AskedComponentOf : Type 0 where
  pub classification : ℕ
  pub identifier : ℕ
  pub stamp : ℕ
  pub options : ℕ
  pub method : ℕ
  pub text : List ℕ
  pub size : ℕ

-- a package
pub record AskedPackageOf : Type 0 where
  pub release : List ℕ
  pub version : List ℕ
  pub records : List AskedRecordOf
  pub components : List AskedComponentOf

-- the same for borrowed values
abbrev pub asked_record_of : AskedRecord → AskedRecordOf
asked_record_of r =
    record { flags = r.flags; set_text = r.set_text.now; descriptors = map descriptor_of r.descriptors.now; uses = r.uses.now }

abbrev pub asked_component_of : AskedComponent → AskedComponentOf
asked_component_of c =
    record {
      classification = c.classification;
      identifier = c.identifier;
      stamp = c.stamp;
      options = c.options;
      method = c.method;
      text = c.text.now;
      size = c.size;
    }

abbrev pub asked_package_of : AskedPackage → AskedPackageOf
asked_package_of p =
    record {
      release = p.release;
      version = p.version.now;
      records = map asked_record_of p.records.now;
      components = map asked_component_of p.components.now;
    }

-- The bytes of a bitmap for `count` components: one bit each, rounded up to whole bytes, and at
-- least one byte.
abbrev pub bitmap_size_for : ℕ → ℕ
bitmap_size_for count = max 1 ((count + 7) / 8)

-- the bytes of a descriptor, of a record with a bitmap of the given size, and of a component
abbrev pub descriptor_size : DescriptorOf → ℕ
descriptor_size d = 4 + length d.bytes

abbrev pub record_size : ℕ → AskedRecordOf → ℕ
record_size bitmap_size r = 11 + (bitmap_size + (length r.set_text + sum_by descriptor_size r.descriptors))

abbrev pub component_size : AskedComponentOf → ℕ
component_size c = 22 + length c.text

-- The bytes of the header: its fixed part and the version text, the records after their count, the
-- components after theirs, and the checksum.
abbrev pub records_size : AskedPackageOf → ℕ
records_size a = sum_by (record_size (bitmap_size_for (length a.components))) a.records

abbrev pub header_size : AskedPackageOf → ℕ
header_size a = 36 + (length a.version + (1 + (records_size a + (2 + (sum_by component_size a.components + 4)))))

-- the bytes of the images
abbrev pub images_size : AskedPackageOf → ℕ
images_size a = sum_by (λ c. c.size) a.components

-- The package. Each text has type 1. The first image is after the header, each other after the one
-- before it.
abbrev pub text_asked : List ℕ → TextOf
text_asked bytes = record { kind = 1; bytes = bytes }

abbrev pub record_asked : AskedRecordOf → RecordOf
record_asked r = record { flags = r.flags; set_text = text_asked r.set_text; descriptors = r.descriptors; uses = r.uses }

abbrev pub component_asked : ℕ → AskedComponentOf → List ℕ → ComponentOf
component_asked offset c image =
    record {
      classification = c.classification;
      identifier = c.identifier;
      stamp = c.stamp;
      options = c.options;
      method = c.method;
      offset = offset;
      text = text_asked c.text;
      image = image;
    }

abbrev pub components_asked : ℕ → List AskedComponentOf → List (List ℕ) → List ComponentOf
components_asked offset (c ∷ cs) (image ∷ images) = component_asked offset c image ∷ components_asked (offset + length image) cs images
components_asked offset _ _ = []

abbrev pub package_for : AskedPackageOf → List (List ℕ) → PackageText
package_for a images =
    record {
      header_size = header_size a;
      release = a.release;
      version = text_asked a.version;
      records = map record_asked a.records;
      components = components_asked (header_size a) a.components images;
    }

-- the numbers rise, from this one on, and each is below the count
abbrev pub are_uses : ℕ → ℕ → List ℕ → Bool
are_uses count from [] = true
are_uses count from (k ∷ ks) = nat_le from k && (nat_lt k count && are_uses count (k + 1) ks)

-- each record uses components of the package
abbrev pub uses_fit : AskedPackageOf → Bool
uses_fit a = list_all (λ r. are_uses (length a.components) 0 r.uses) a.records

-- Each length and each number fits its field: a text's length, the number of a record's descriptors
-- and of all records one byte, the header's size two, and an image's offset and size four.
abbrev pub text_fits : List ℕ → Bool
text_fits text = nat_le (length text) 255

abbrev pub record_fits : AskedRecordOf → Bool
record_fits r = text_fits r.set_text && nat_le (length r.descriptors) 255

abbrev pub component_fits : AskedComponentOf → Bool
component_fits c = text_fits c.text

abbrev pub parts_fit : AskedPackageOf → Bool
parts_fit a =
    text_fits a.version
    && (nat_le (length a.records) 255 && (list_all record_fits a.records && list_all component_fits a.components))

abbrev pub all_fits : AskedPackageOf → Bool
all_fits a = parts_fit a && (nat_le (header_size a) 65535 && nat_le (header_size a + images_size a) 4294967295)

-- the first reason why the package can't be written
unfoldable pub refusal_of : AskedPackageOf → Option AskedFault
refusal_of a =
    if not (uses_fit a) then Some Uses
    else if not (all_fits a) then Some Limit
    else None
