-- Writing images to a folder: their files first, with unused names, and then the text that names
-- them.
use Rattle.std.specs.Prelude.{ℕ, [], ◌∷◌, ◌++◌, ◌<◌, ◌^◌, ◌≡◌, ◌≢◌, ◌⊎◌, true, Bool, List, Some, if◌then◌else◌, is_some, length, map}
use Rattle.std.specs.List.{AllByRecursion}
use Rattle.fw_package.specs.Crc.{crc_of}
use Rattle.fwup_wire.specs.declared.values.Key.{Key}
use Rattle.fw_store.specs.Active.{ImageEntryOf, IsImageEntry, active_text, image_name}
use Rattle.fw_store.specs.Folders.{Files, IsMoment, PassesStates, RenamesFile, LeavesFiles, WritesFile, active_name, images_of, lines_by, new_name}
use Rattle.fw_store.specs.Kept.{KeptOf, image_for}

-- a component's numbers of two bytes
pub record IsKey (key : Key) : Type 0 where
  pub class : key.classification < 2 ^ 16
  pub ident : key.identifier < 2 ^ 16

abbrev pub entry_key : (e : ImageEntryOf) → IsImageEntry e → IsKey e.key
entry_key e h = record { class = h.class; ident = h.ident }

-- the line of an image in a file with this number
abbrev pub entry_for : ℕ → KeptOf → ImageEntryOf
entry_for n k = record { key = k.key; label = k.image.label; number = n; size = length k.image.bytes; checksum = crc_of k.image.bytes }

-- the lines of components other than those of the images
abbrev pub lines_left : List KeptOf → List ImageEntryOf → List ImageEntryOf
lines_left images [] = []
lines_left images (e ∷ es) = if is_some (image_for images e.key) then lines_left images es else e ∷ lines_left images es

-- the lines after the images were written to files with this number
abbrev pub entries_after : ℕ → List KeptOf → List ImageEntryOf → List ImageEntryOf
entries_after n images es = map (entry_for n) images ++ lines_left images es

-- a folder's `active` has these lines, whose images are there, and each number is below the next
-- one
pub record IsSettled (next : ℕ) (files : Files) (es : List ImageEntryOf) : Type 0 where
  pub lines : lines_by (files active_name) ≡ Some es
  pub entries : AllByRecursion IsImageEntry es
  pub below : AllByRecursion (λ e. e.number < next) es
  pub there : is_some (images_of files es) ≡ true

-- the same, if the folder's content is known and the store is sure of it
pub record IsSettledIfKnown (known sure : Bool) (next : ℕ) (files : Files) (es : List ImageEntryOf) : Type 0 where
  pub when : known ≡ true → sure ≡ true → IsSettled next files es

-- no file with a lower number has changed, nor `active`
pub record LeavesLowerFiles (next : ℕ) (before after : Files) : Type 0 where
  pub names : (key : Key) (n : ℕ) → IsKey key → n < next → after (image_name key n) ≡ before (image_name key n)
  pub active : after active_name ≡ before active_name

-- only `active.new` may have changed
pub record ChangesOnlyNewFile (before after : Files) : Type 0 where
  pub others : (name : List ℕ) → name ≢ new_name → after name ≡ before name

-- `active` has these lines, and otherwise only `active.new` may have changed
pub record WritesActive (es : List ImageEntryOf) (before after : Files) : Type 0 where
  pub here : after active_name ≡ Some (active_text es)
  pub others : (name : List ℕ) → name ≢ active_name → name ≢ new_name → after name ≡ before name

-- the images are in the files with their names
abbrev pub AreWritten : ℕ → List KeptOf → Files → Type 0
AreWritten n images files = AllByRecursion (λ k. files (image_name k.key n) ≡ Some k.image.bytes) images

-- images were written to files with this number, and then to `active`
pub record WritesImages (n : ℕ) (images : List KeptOf) (es : List ImageEntryOf) (before after : Files) : Type 0 where
  pub between : Files
  pub apart : LeavesLowerFiles n before between
  pub written : AreWritten n images between
  pub put : WritesActive es between after

-- while images are written: the active images are as before, and were at each moment
pub record IsStopped (n : ℕ) (before after : Files) (past now : List Files) : Type 0 where
  pub apart : LeavesLowerFiles n before after
  pub passes : PassesStates (LeavesLowerFiles n before) past now

-- the given images are written
pub record IsWriting (n : ℕ) (images : List KeptOf) (before after : Files) (past now : List Files) : Type 0 where
  pub stopped : IsStopped n before after past now
  pub keys : AllByRecursion (λ k. IsKey k.key) images
  pub written : AreWritten n images after

-- a text was written and replaced `active`, in two calls
pub record ReplacesActive (text : List ℕ) (before after : Files) (past now : List Files) : Type 0 where
  pub between : Files
  pub wrote : WritesFile before between new_name text
  pub renamed : RenamesFile between after new_name active_name
  pub middle : List Files
  pub first : IsMoment before between past middle
  pub second : IsMoment between after middle now

-- a text is whole under `active.new`, or is `active`
abbrev pub HoldsText : List ℕ → Files → Type 0
HoldsText text files = (files new_name ≡ Some text) ⊎ (files active_name ≡ Some text)

-- a text didn't replace `active`, in one call or in two
pub record FailsToReplaceActive (before after : Files) (past now : List Files) : Type 0 where
  pub between : Files
  pub only : ChangesOnlyNewFile before between
  pub same : LeavesFiles between after
  pub middle : List Files
  pub first : IsMoment before between past middle
  pub second : (now ≡ middle) ⊎ IsMoment between after middle now

-- ON THE DISK

-- the given images are stored, in one call after the other
pub record IsStoring (n : ℕ) (images : List KeptOf) (before after : Files) : Type 0 where
  pub passed : List Files
  pub writing : IsWriting n images before after [] passed

-- a text was stored, and has replaced `active` on the disk
pub record ReplacesOnDisk (text : List ℕ) (before after : Files) : Type 0 where
  pub passed : List Files
  pub replaces : ReplacesActive text before after [] passed

-- the active images are as before, or the given images are active
abbrev pub MayHaveReplaced : ℕ → List KeptOf → List ImageEntryOf → Files → Files → Type 0
MayHaveReplaced n images es before after = LeavesLowerFiles n before after ⊎ WritesImages n images es before after
