-- The files of a store that no line names: a sweep removes them.
use Rattle.std.specs.Prelude.{[], ◌∷◌, ◌≡◌, ◌||◌, ◌&&◌, Bool, List, None, false, if◌then◌else◌, not, ℕ}
use Rattle.std.specs.Str.{bytes_eq}
use Rattle.fw_store.specs.Active.{ImageEntryOf, image_name}
use Rattle.fw_store.specs.Folders.{Files, active_name, has_name}
use Rattle.fw_store.specs.Opening.{is_ours}

-- whether a line names this file
abbrev pub names_file : List ImageEntryOf → List ℕ → Bool
names_file [] name = false
names_file (e ∷ es) name = bytes_eq (image_name e.key e.number) name || names_file es name

-- whether a file has a store's name and isn't `active`, and no line names it
unfoldable pub is_stray : List ImageEntryOf → List ℕ → Bool
is_stray es name = not (bytes_eq name active_name) && (is_ours name && not (names_file es name))

-- the file with this name was removed if it is a stray, and each other file is as before
pub record SweepsName (es : List ImageEntryOf) (name : List ℕ) (before after : Files) : Type 0 where
  pub each : (other : List ℕ) → after other ≡ (if bytes_eq name other && is_stray es other then None else before other)

-- the strays among these names were removed, and each other file is as before
pub record SweepsNames (es : List ImageEntryOf) (names : List (List ℕ)) (before after : Files) : Type 0 where
  pub each : (other : List ℕ) → after other ≡ (if has_name names other && is_stray es other then None else before other)

-- each stray was removed, and each other file is as before
pub record RemovesStrays (es : List ImageEntryOf) (before after : Files) : Type 0 where
  pub each : (name : List ℕ) → after name ≡ (if is_stray es name then None else before name)

-- each file that isn't a stray is as before
pub record ChangesOnlyStrays (es : List ImageEntryOf) (before after : Files) : Type 0 where
  pub others : (name : List ℕ) → is_stray es name ≡ false → after name ≡ before name
