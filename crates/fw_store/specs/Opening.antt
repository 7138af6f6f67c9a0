-- The images found when a folder is opened over a configuration's images.
use Rattle.std.specs.Prelude.{[], ◌∷◌, ◌≡◌, ◌≢◌, ◌||◌, Bool, Err, List, None, Ok, Option, Result, Some, false, if◌then◌else◌, is_some, true, ℕ}
use Rattle.std.specs.List.{AllByRecursion}
use Rattle.std.specs.Str.{bytes_eq}
use Rattle.fwup_wire.specs.declared.values.Key.{Key}
use Rattle.fw_store.specs.Active.{ImageEntryOf, image_name, name_at}
use Rattle.fw_store.specs.Folders.{Files, active_name, images_of, lines_by, new_name}
use Rattle.fw_store.specs.Kept.{KeptOf, image_for, kept_after}
use Rattle.fw_store.specs.declared.faults.OpenFault.{OpenFault}
use Rattle.fw_store.specs.declared.faults.OpenFault.TheVariants as faults

-- whether a line is of a component that the configuration doesn't have
abbrev pub has_foreign : (base : List KeptOf) → List ImageEntryOf → Bool
has_foreign base [] = false
has_foreign base (e ∷ es) = if is_some (image_for base e.key) then has_foreign base es else true

abbrev pub found_over : (base : List KeptOf) → Option (List KeptOf) → Result (List KeptOf) OpenFault
found_over base None = Err faults.Damaged
found_over base (Some stored) = Ok (kept_after base stored)

abbrev pub found_by : (base : List KeptOf) → Files → Option (List ImageEntryOf) → Result (List KeptOf) OpenFault
found_by base files None = Err faults.Damaged
found_by base files (Some es) = if has_foreign base es then Err faults.Foreign else found_over base (images_of files es)

-- The active images when a folder is opened: the configuration's, each replaced by the one that the
-- folder keeps, if it keeps one. `Damaged`: `active` isn't the text of a list of images, or one of
-- them isn't there with its size and its checksum. `Foreign`: it names an image of a component that
-- the configuration doesn't have.
abbrev pub found_in : (base : List KeptOf) → Files → Result (List KeptOf) OpenFault
found_in base files = found_by base files (lines_by (files active_name))

abbrev pub is_image_at : List ℕ → Option ((Key × ℕ) × List ℕ) → Bool
is_image_at name None = false
is_image_at name (Some found) = bytes_eq (image_name found.0.0 found.0.1) name

-- a store's name for a file, other than `active`
unfoldable pub is_ours : List ℕ → Bool
is_ours name = bytes_eq name new_name || is_image_at name (name_at name)

-- `active` and the files that the lines name are as before, and so is each file whose name isn't a
-- store's
pub record IsUntouched (es : List ImageEntryOf) (before after : Files) : Type 0 where
  pub active : after active_name ≡ before active_name
  pub named : AllByRecursion (λ e. after (image_name e.key e.number) ≡ before (image_name e.key e.number)) es
  pub others : (name : List ℕ) → is_ours name ≡ false → name ≢ active_name → after name ≡ before name
