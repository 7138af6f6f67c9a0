-- A component, read from its bytes (DSP0267 1.0, component image information area).
use Rattle.std.specs.Prelude.{ℕ, zero, suc, ◌+◌, nat_lt, if◌then◌else◌, List, [], ◌∷◌, Result, Ok, Err, length, take, drop, slice_index}
use Rattle.byteorder.specs.Endian.{little_number}
use Rattle.fw_package.specs.Layout.{text_size_of}
use Rattle.fw_package.specs.Package.{ComponentOf, TextOf}
use Rattle.fw_package.specs.Records.{◌>>=◌}
use Rattle.fw_package.specs.declared.fault.PackageFault.{PackageFault}
use Rattle.fw_package.specs.declared.fault.PackageFault.TheVariants.{ImageRange}

-- a component with its image's place in the file
pub record PlaceOf : Type 0 where
  pub classification : ℕ
  pub identifier : ℕ
  pub stamp : ℕ
  pub options : ℕ
  pub method : ℕ
  pub offset : ℕ
  pub size : ℕ
  pub text : TextOf

-- the same with the image itself
abbrev pub component_at_place : List ℕ → PlaceOf → ComponentOf
component_at_place file c =
    record {
      classification = c.classification;
      identifier = c.identifier;
      stamp = c.stamp;
      options = c.options;
      method = c.method;
      offset = c.offset;
      text = c.text;
      image = take c.size (drop c.offset file);
    }

-- the component at the beginning of the bytes
abbrev pub place_of : List ℕ → PlaceOf
place_of bytes =
    record {
      classification = little_number 2 bytes;
      identifier = little_number 2 (drop 2 bytes);
      stamp = little_number 4 (drop 4 bytes);
      options = little_number 2 (drop 8 bytes);
      method = little_number 2 (drop 10 bytes);
      offset = little_number 4 (drop 12 bytes);
      size = little_number 4 (drop 16 bytes);
      text = record { kind = slice_index bytes 20; bytes = take (text_size_of 21 bytes) (drop 22 bytes) };
    }

-- that component, whose image is the part of the file at its offset and size
unfoldable pub component_of : List ℕ → List ℕ → Result ComponentOf PackageFault
component_of file bytes =
    if nat_lt (length file) ((place_of bytes).offset + (place_of bytes).size) then Err ImageRange else Ok (component_at_place file (place_of bytes))

-- `count` components, in order
unfoldable pub components_of : List ℕ → ℕ → List ℕ → Result (List ComponentOf) PackageFault
components_of file zero bytes = Ok []
components_of file (suc n) bytes = do
  first ← component_of file bytes
  others ← components_of file n (drop (22 + text_size_of 21 bytes) bytes)
  Ok (first ∷ others)
