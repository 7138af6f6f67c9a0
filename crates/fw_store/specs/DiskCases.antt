-- Losses of power by hand, to test the definitions of a renaming's order on the disk: an image was
-- written and then a new text, which is renamed to `active`.
use Rattle.std.specs.Prelude.{◌∷◌, [], List, None, Option, Some, codes, if◌then◌else◌, ℕ}
use Rattle.std.specs.Str.{bytes_eq}
use Rattle.fw_store.specs.Folders.{Files, LastsApartFrom, RenamesInOrder, active_name, new_name}

abbrev pub image_file : List ℕ
image_file = codes "10-1.2.image"

-- the files of a folder: the image, `active` and `active.new`, where they exist
abbrev pub files_with : (image active new : Option (List ℕ)) → Files
files_with image active new name = if bytes_eq image_file name then image else if bytes_eq active_name name then active else if bytes_eq new_name name then new else None

abbrev pub old_text : List ℕ
old_text = 1 ∷ []

abbrev pub new_text : List ℕ
new_text = 2 ∷ []

abbrev pub new_image : List ℕ
new_image = 3 ∷ []

abbrev pub other_image : List ℕ
other_image = 4 ∷ []

-- all is stored, and of the names only `active` is on the disk
abbrev pub stored_files : Files
stored_files = files_with (Some new_image) (Some old_text) (Some new_text)

abbrev pub first_names : Files
first_names = files_with None (Some old_text) None

-- a loss of power during the renaming may leave these files
abbrev pub may_leave : Files → Type 0
may_leave after = RenamesInOrder stored_files first_names after new_name active_name

-- no name is on the disk; the image's is, or both names are; the file has its new name too, with or
-- without its old one
pub record OrderAccepts : Type 0 where
  pub none : may_leave first_names
  pub image : may_leave (files_with (Some new_image) (Some old_text) None)
  pub both : may_leave stored_files
  pub renamed : may_leave (files_with (Some new_image) (Some new_text) None)
  pub twice : may_leave (files_with (Some new_image) (Some new_text) (Some new_text))

-- `active` is the new text, but the image isn't there, or has other bytes; or there is no `active`
-- and no image
pub record OrderRefuses : Type 0 where
  pub too_soon : may_leave (files_with None (Some new_text) None) → ⊥
  pub other_bytes : may_leave (files_with (Some other_image) (Some new_text) None) → ⊥
  pub all_lost : may_leave (files_with None None None) → ⊥

-- Where what is stored as `active` wasn't on the disk before, the definition promises nothing: an
-- earlier renaming is unsure.
pub record OrderIsOpen : Type 0 where
  pub unsettled : RenamesInOrder stored_files (files_with None None None) (files_with None (Some new_text) None) new_name active_name

-- these files are on the disk, but for the two names of the renaming
abbrev pub is_there : (stored after : Files) → Type 0
is_there stored after = LastsApartFrom stored after new_name active_name

-- the two names are free
pub record LastsAccepts : Type 0 where
  pub free : (active new : Option (List ℕ)) → is_there stored_files (files_with (Some new_image) active new)

-- a stored file isn't there, or has other bytes; or a file is there that isn't stored
pub record LastsRefuses : Type 0 where
  pub missing : (active new : Option (List ℕ)) → is_there stored_files (files_with None active new) → ⊥
  pub other_bytes : (active new : Option (List ℕ)) → is_there stored_files (files_with (Some other_image) active new) → ⊥
  pub not_stored : (active new : Option (List ℕ)) → is_there first_names (files_with (Some new_image) active new) → ⊥

pub record RenamingsAreJudged : Type 0 where
  pub order_accepts : OrderAccepts
  pub order_refuses : OrderRefuses
  pub order_open : OrderIsOpen
  pub lasts_accepts : LastsAccepts
  pub lasts_refuses : LastsRefuses
