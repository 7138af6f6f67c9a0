-- The images that a store keeps: the active image of each component, after any crash.
use Rattle.std.specs.Prelude.{ℕ, [], ◌∷◌, List, None, Option, Some, if◌then◌else◌, map}
use Rattle.fd_core.specs.Images.{ImageOf, RowOf, StageOf, same_key}
use Rattle.fwup_wire.specs.declared.values.Key.{Key}

-- a component's image
pub record KeptOf : Type 0 where
  pub key : Key
  pub image : ImageOf

-- a component with its active image
abbrev pub kept_of_row : RowOf → KeptOf
kept_of_row row = record { key = row.key; image = row.active }

-- the active images
abbrev pub all_running : List RowOf → List KeptOf
all_running rows = map kept_of_row rows

abbrev pub applied_before : RowOf → Option ImageOf → List KeptOf → List KeptOf
applied_before row None rest = rest
applied_before row (Some image) rest = record { key = row.key; image = image } ∷ rest

-- the applied images, which become active next
abbrev pub all_applied : List RowOf → List KeptOf
all_applied [] = []
all_applied (row ∷ rows) = applied_before row row.applied (all_applied rows)

-- the image of one component, if there is one
abbrev pub one_applied : Key → Option ImageOf → List KeptOf
one_applied key None = []
one_applied key (Some image) = record { key = key; image = image } ∷ []

-- the image of a component in the list, if there is one
abbrev pub image_for : List KeptOf → Key → Option ImageOf
image_for [] key = None
image_for (k ∷ ks) key = if same_key k.key key then Some k.image else image_for ks key

abbrev pub replaced_by : KeptOf → Option ImageOf → KeptOf
replaced_by k None = k
replaced_by k (Some image) = record k { image = image }

-- the kept images after the given images: each replaces that of its component
abbrev pub kept_after : (kept images : List KeptOf) → List KeptOf
kept_after kept images = map (λ k. replaced_by k (image_for images k.key)) kept

-- A bank over a store: its components, the image being written, the number of failed calls, and the
-- kept images.
pub record KeptBankOf : Type 0 where
  pub rows : List RowOf
  pub stage : Option StageOf
  pub faults : ℕ
  pub kept : List KeptOf
