-- Images, and the images of a bank.
use Rattle.std.specs.Prelude.{[], ◌&&◌, ◌++◌, ◌==◌, ◌∷◌, nat_lt, Bool, List, None, Option, Some, false, if◌then◌else◌, map, take, true, ℕ}
use Rattle.fd_core.specs.Codes.{kept_text}
use Rattle.fwup_wire.specs.Values.{VersionOf}
use Rattle.fwup_wire.specs.declared.values.Key.{Key}

-- the kept parts of an image's version: its comparison stamp, and its text with its type
pub record LabelOf : Type 0 where
  pub stamp : ℕ
  pub text_type : ℕ
  pub text : List ℕ

pub record ImageOf : Type 0 where
  pub label : LabelOf
  pub bytes : List ℕ

-- a component of a bank: the active image, and the applied one, which becomes active next
pub record RowOf : Type 0 where
  pub key : Key
  pub active : ImageOf
  pub applied : Option ImageOf

-- an image that is being written
pub record StageOf : Type 0 where
  pub key : Key
  pub size : ℕ
  pub label : LabelOf
  pub bytes : List ℕ

-- an image that was applied or activated, with the key of its component
pub record KeyedImage : Type 0 where
  pub key : Key
  pub bytes : List ℕ

abbrev pub same_key : Key → Key → Bool
same_key a b = (a.classification == b.classification) && (a.identifier == b.identifier)

abbrev pub key_of : RowOf → Key
key_of row = row.key

-- the component with a key, if there is one
abbrev pub row_of : List RowOf → Key → Option RowOf
row_of [] key = None
row_of (row ∷ rows) key = if same_key row.key key then Some row else row_of rows key

-- the two images of a component, if there is one
abbrev pub active_of : Option RowOf → Option ImageOf
active_of None = None
active_of (Some row) = Some row.active

abbrev pub applied_of : Option RowOf → Option ImageOf
applied_of None = None
applied_of (Some row) = row.applied

-- nothing is applied
abbrev pub row_without_applied : RowOf → RowOf
row_without_applied row = record row { applied = None }

abbrev pub rows_after_drop : List RowOf → List RowOf
rows_after_drop rows = map row_without_applied rows

-- the image is applied for its key
abbrev pub sealed_if : Bool → RowOf → ImageOf → RowOf
sealed_if true row image = record row { applied = Some image }
sealed_if false row image = row

abbrev pub rows_after_seal : List RowOf → Key → ImageOf → List RowOf
rows_after_seal rows key image = map (λ row. sealed_if (same_key row.key key) row image) rows

-- the applied image becomes active, and no image is applied
abbrev pub row_after_switch_to : RowOf → Option ImageOf → RowOf
row_after_switch_to row None = row
row_after_switch_to row (Some image) = record { key = row.key; active = image; applied = None }

abbrev pub row_after_switch : RowOf → RowOf
row_after_switch row = row_after_switch_to row row.applied

abbrev pub rows_after_switch : List RowOf → List RowOf
rows_after_switch rows = map row_after_switch rows

-- the bytes of a stage, none if there is no stage
abbrev pub staged_bytes : Option StageOf → List ℕ
staged_bytes None = []
staged_bytes (Some s) = s.bytes

-- a stage with these bytes appended
abbrev pub staged_with : Option StageOf → List ℕ → Option StageOf
staged_with None piece = None
staged_with (Some s) piece = Some (record s { bytes = s.bytes ++ piece })

-- the image of a stage
abbrev pub image_in : StageOf → ImageOf
image_in s = record { label = s.label; bytes = s.bytes }

-- the components with the image of a stage applied
abbrev pub sealed_by : List RowOf → Option StageOf → List RowOf
sealed_by rows None = rows
sealed_by rows (Some s) = rows_after_seal rows s.key (image_in s)

-- the label of a version: the text's first bytes are kept
abbrev pub label_of : VersionOf → LabelOf
label_of v = record { stamp = v.stamp; text_type = v.text.text_type; text = take kept_text v.text.bytes }

-- a label as a version
abbrev pub version_by : LabelOf → VersionOf
version_by label = record { stamp = label.stamp; text = record { text_type = label.text_type; bytes = label.text } }

-- the version of an image, and of none: stamp 0, type 0 and no text
abbrev pub version_at : Option ImageOf → VersionOf
version_at None = record { stamp = 0; text = record { text_type = 0; bytes = [] } }
version_at (Some image) = version_by image.label

-- whether one key comes before another
abbrev pub is_key_before : Key → Key → Bool
is_key_before a b = if a.classification == b.classification then nat_lt a.identifier b.identifier else nat_lt a.classification b.classification

-- an image inserted among others, by rising key
abbrev pub images_with : KeyedImage → List KeyedImage → List KeyedImage
images_with p [] = p ∷ []
images_with p (q ∷ ps) = if is_key_before q.key p.key then q ∷ images_with p ps else p ∷ q ∷ ps

abbrev pub images_with_applied : Key → Option ImageOf → List KeyedImage → List KeyedImage
images_with_applied key None ps = ps
images_with_applied key (Some image) ps = images_with (record { key = key; bytes = image.bytes }) ps

-- the images that are applied, by rising key
abbrev pub applied_keyed_images : List RowOf → List KeyedImage
applied_keyed_images [] = []
applied_keyed_images (row ∷ rows) = images_with_applied row.key row.applied (applied_keyed_images rows)
