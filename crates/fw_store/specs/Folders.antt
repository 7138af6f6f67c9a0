-- A folder of files, the images that a store reads from it, and the effects of its calls.
use Rattle.std.specs.Prelude.{ℕ, [], ◌∷◌, ◌++◌, ◌≡◌, ◌≢◌, ◌⊎◌, ◌&&◌, ◌==◌, ◌||◌, Bool, false, List, None, Option, Some, codes, if◌then◌else◌, is_some, length, option_map, option_and_then}
use Rattle.std.specs.List.{AllByRecursion}
use Rattle.std.specs.Str.{bytes_eq}
use Rattle.fw_package.specs.Crc.{crc_of}
use Rattle.fw_store.specs.Active.{ImageEntryOf, entries_of, image_name}
use Rattle.fw_store.specs.Kept.{KeptOf, image_for, kept_after}

-- the files of a folder: the bytes of each existing name
abbrev pub Files : Type 0
Files = List ℕ → Option (List ℕ)

-- whether a name is in a list
abbrev pub has_name : List (List ℕ) → List ℕ → Bool
has_name [] name = false
has_name (other ∷ names) name = bytes_eq other name || has_name names name

-- these are the names of all existing files, and no others
pub record NamesFiles (names : List (List ℕ)) (files : Files) : Type 0 where
  pub each : (name : List ℕ) → has_name names name ≡ is_some (files name)

-- READING

-- the text of the active images, and the file that replaces it
abbrev pub active_name : List ℕ
active_name = codes "active"

abbrev pub new_name : List ℕ
new_name = codes "active.new"

-- the image of a line, if its file has the line's size and checksum
abbrev pub image_by : ImageEntryOf → Option (List ℕ) → Option KeptOf
image_by e None = None
image_by e (Some bytes) =
    if (length bytes == e.size) && (crc_of bytes == e.checksum) then Some (record { key = e.key; image = record { label = e.label; bytes = bytes } }) else None

abbrev pub with_image : Option KeptOf → Option (List KeptOf) → Option (List KeptOf)
with_image None ks = None
with_image (Some k) ks = option_map (λ ks. k ∷ ks) ks

-- the images of the lines, if each is there
abbrev pub images_of : Files → List ImageEntryOf → Option (List KeptOf)
images_of files [] = Some []
images_of files (e ∷ es) = with_image (image_by e (files (image_name e.key e.number))) (images_of files es)

-- the lines of `active`: none if there is no such file
abbrev pub lines_by : Option (List ℕ) → Option (List ImageEntryOf)
lines_by None = Some []
lines_by (Some text) = entries_of text

-- The images that a folder keeps: those that `active` names. There are none if there is no
-- `active`. The folder is damaged if `active` isn't the text of a list of images, or if one of them
-- isn't there with its size and its checksum.
unfoldable pub stored_in : Files → Option (List KeptOf)
stored_in files = option_and_then (λ es. images_of files es) (lines_by (files active_name))

-- THE NEXT KEPT IMAGES

-- the kept images of components other than those of `images`
abbrev pub others_than : (images kept : List KeptOf) → List KeptOf
others_than images [] = []
others_than images (k ∷ ks) = if is_some (image_for images k.key) then others_than images ks else k ∷ others_than images ks

-- the images that a folder keeps after the given images
abbrev pub stored_after : (images stored : List KeptOf) → List KeptOf
stored_after images stored = images ++ others_than images stored

-- Over the images of any configuration, keeping some images in a folder replaces those of their
-- components, and no others.
abbrev pub WhatIsKeptIsFound : Type 0
WhatIsKeptIsFound = (base images stored : List KeptOf) → kept_after base (stored_after images stored) ≡ kept_after (kept_after base stored) images

-- the same images are read as before
pub record IsBefore (before after : Files) : Type 0 where
  pub is : stored_in after ≡ stored_in before

-- the same images are read as before, with the given ones replacing those of their components
pub record IsAfter (images : List KeptOf) (before after : Files) : Type 0 where
  pub is : stored_in after ≡ option_map (λ stored. stored_after images stored) (stored_in before)

-- always one of the two
abbrev pub IsBeforeOrAfter : List KeptOf → Files → Files → Type 0
IsBeforeOrAfter images before after = IsBefore before after ⊎ IsAfter images before after

-- THE EFFECTS OF CALLS

-- the file with this name has these bytes, and each other file is as before
pub record WritesFile (before after : Files) (name bytes : List ℕ) : Type 0 where
  pub here : after name ≡ Some bytes
  pub others : (other : List ℕ) → other ≢ name → after other ≡ before other

-- only the file with this name may have changed
pub record ChangesOnlyFile (before after : Files) (name : List ℕ) : Type 0 where
  pub others : (other : List ℕ) → other ≢ name → after other ≡ before other

-- a file replaces the file with another name
pub record RenamesFile (before after : Files) (name place : List ℕ) : Type 0 where
  pub here : after place ≡ before name
  pub others : (other : List ℕ) → other ≢ name → other ≢ place → after other ≡ before other

-- each file is as before
pub record LeavesFiles (before after : Files) : Type 0 where
  pub all : (name : List ℕ) → after name ≡ before name

-- A LOSS OF POWER

-- After a loss of power a name has what it had on the disk before, or what is stored under it now.
pub record SettlesNames (stored before after : Files) : Type 0 where
  pub each : (name : List ℕ) → (after name ≡ before name) ⊎ (after name ≡ stored name)

-- Each name but these two has on the disk what is stored under it.
pub record LastsApartFrom (stored after : Files) (name place : List ℕ) : Type 0 where
  pub others : (other : List ℕ) → other ≢ name → other ≢ place → after other ≡ stored other

-- A file has its new name on the disk only after all others have theirs: what is on the disk under
-- that name is as before, or each other file is there.
abbrev pub RenamesInOrder : (stored before after : Files) (name place : List ℕ) → Type 0
RenamesInOrder stored before after name place =
    stored place ≡ before place → (after place ≡ before place) ⊎ LastsApartFrom stored after name place

-- The file with this name was removed, and the others are as before.
pub record RemovesFile (before after : Files) (name : List ℕ) : Type 0 where
  pub gone : after name ≡ None
  pub others : (other : List ℕ) → other ≢ name → after other ≡ before other

-- A call added at most one state. If it changed nothing, it may have added none.
abbrev pub IsMoment : (before after : Files) (past now : List Files) → Type 0
IsMoment before after past now = (now ≡ after ∷ past) ⊎ ((now ≡ past) × LeavesFiles before after)

-- the folder passed some more states, each of which has P
pub record PassesStates (P : Files → Type 0) (before after : List Files) : Type 0 where
  pub states : List Files
  pub is : after ≡ states ++ before
  pub each : AllByRecursion P states
