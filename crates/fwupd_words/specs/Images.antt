-- The values of the option `--image`: EID/CLASS-IDENT=PATH. The bytes of the file take the place of
-- CONFIG's image of the component CLASS IDENT of the device EID.
use Rattle.std.specs.Prelude.{ℕ, ◌==◌, ◌&&◌, ◌||◌, nat_lt, if◌then◌else◌, Bool, false, is_none, is_some, length, List, [], ◌∷◌, Option, None, Some, option_and_then}
use Rattle.std.specs.List.{after_first, before_first, filter_map, find, list_any, position_or_len}
use Rattle.clap.specs.Words.{Text}
use Rattle.clap.specs.declared.error.kind.ErrorKind.{ErrorKind}
use Rattle.clap.specs.declared.error.kind.ErrorKind.TheVariants as kinds
use Rattle.fwup_wire.specs.declared.values.Key.{Key}
use Rattle.fwupd_base.specs.ImageFiles.{ImageFileOf}
use Rattle.fwupd_words.specs.Packages.{eid_of, number_within}

-- ---- one value

-- The parts of a text before and after the first byte `c`, if it has one.
abbrev pub parts_at : (c : ℕ) → Text → Option (Text × Text)
parts_at c text =
    if nat_lt (position_or_len (λ b. b == c) text) (length text) then Some (before_first (λ b. b == c) text, after_first (λ b. b == c) text) else None

-- CLASS, or IDENT.
abbrev pub key_number : Text → Option ℕ
key_number = number_within 0 65535

-- CLASS-IDENT, the key of a component.
abbrev pub key_by : (class ident : Option ℕ) → Option Key
key_by (Some class) (Some ident) = Some (record { classification = class; identifier = ident })
key_by (Some class) None = None
key_by None ident = None

abbrev pub key_of : Text → Option Key
key_of text = option_and_then (λ parts. key_by (key_number parts.0) (key_number parts.1)) (parts_at 45 text)

-- EID/CLASS-IDENT, the place of an image: the device and its component.
abbrev pub place_by : (eid : Option ℕ) → Option Key → Option (ℕ × Key)
place_by (Some eid) (Some key) = Some (eid, key)
place_by (Some eid) None = None
place_by None key = None

abbrev pub place_of : Text → Option (ℕ × Key)
place_of text = option_and_then (λ parts. place_by (eid_of parts.0) (key_of parts.1)) (parts_at 47 text)

-- The whole value, whose path isn't empty. A malformed text is no image.
abbrev pub image_by : Option (ℕ × Key) → (path : Text) → Option ImageFileOf
image_by (Some place) (byte ∷ more) = Some (record { eid = place.0; key = place.1; path = byte ∷ more })
image_by (Some place) [] = None
image_by None path = None

abbrev pub value_of_image : Text → Option ImageFileOf
value_of_image text = option_and_then (λ parts. image_by (place_of parts.0) parts.1) (parts_at 61 text)

-- ---- all values

-- The files of images that the well-formed values give, in order.
abbrev pub images_of : List Text → List ImageFileOf
images_of = filter_map value_of_image

-- The first malformed text.
abbrev pub first_malformed_image : List Text → Option Text
first_malformed_image = find (λ text. is_none (value_of_image text))

-- Two files are for the same component of the same device; and one of the files is for the place of
-- another.
abbrev pub is_same_place : ImageFileOf → ImageFileOf → Bool
is_same_place one other =
    (one.eid == other.eid) && ((one.key.classification == other.key.classification) && (one.key.identifier == other.key.identifier))

abbrev pub has_place : List ImageFileOf → ImageFileOf → Bool
has_place files one = list_any (is_same_place one) files

abbrev pub has_place_twice : List ImageFileOf → Bool
has_place_twice [] = false
has_place_twice (one ∷ more) = has_place more one || has_place_twice more

-- Two values name the same device and component.
abbrev pub has_image_twice : List Text → Bool
has_image_twice texts = has_place_twice (images_of texts)

-- Why the values are refused, if they are: one is malformed, two name the same device and
-- component, or there are more than 48.
abbrev pub image_clash : List Text → Option ErrorKind
image_clash texts =
    if is_some (first_malformed_image texts) then Some kinds.ValueValidation
    else (if has_image_twice texts then Some kinds.ArgumentConflict else (if nat_lt 48 (length texts) then Some kinds.TooManyValues else None))
