-- The files of a folder that began empty, by their changes.
use Rattle.std.specs.Prelude.{[], ◌∷◌, ◌≡◌, ◌++◌, ◌&&◌, ◌==◌, ◌||◌, Bool, List, None, Option, Some, false, if◌then◌else◌, is_some, true, ℕ}
use Rattle.std.specs.Str.{bytes_eq}
use Rattle.fw_store.specs.Folders.{Files, has_name}
use Rattle.fw_store.specs.declared.known.Failing.{Failing}
use Rattle.fw_store.specs.declared.known.Failing.TheVariants as failing
use Rattle.fw_store.specs.declared.known.Kind.{Kind}
use Rattle.fw_store.specs.declared.known.Kind.TheVariants as kinds
use Rattle.fw_store.specs.declared.known.Seen.{Seen}
use Rattle.fw_store.specs.declared.known.Seen.TheVariants as seen

-- a change: its kind, the name of a file, and the file's new bytes or its new name
pub record ChangeOf : Type 0 where
  pub kind : Kind
  pub name : List ℕ
  pub other : List ℕ

abbrev pub moved_to : (name place : List ℕ) → ChangeOf
moved_to name place = record { kind = kinds.Moved; name = name; other = place }

abbrev pub removal_of : (name : List ℕ) → ChangeOf
removal_of name = record { kind = kinds.Gone; name = name; other = [] }

-- A FAILING CALL

-- how the call with this number fails, if only the one with the number `fails` does
abbrev pub failure_of : (call fails : ℕ) → Failing → Option Failing
failure_of call fails how = if call == fails then Some how else None

-- the changes after a renaming that reports `Unsure`, which comes only of these two failures
abbrev pub unsure_changes : Option Failing → List ChangeOf → ChangeOf → Option (List ChangeOf)
unsure_changes (Some failing.Half) cs c = Some cs
unsure_changes (Some failing.After) cs c = Some (cs ++ c ∷ [])
unsure_changes (Some failing.Before) cs c = None
unsure_changes None cs c = None

-- whether a file may be removed by a removal that fails
abbrev pub may_remove : Option Failing → Bool
may_remove (Some failing.Half) = true
may_remove (Some failing.After) = true
may_remove (Some failing.Before) = false
may_remove None = false

-- A CHANGE

-- the files after a change: a file has new bytes; it has another name and replaces the file with
-- that name; or it is removed
abbrev pub changed_by : Kind → (name other : List ℕ) → Files → Files
changed_by kinds.Put name other files = λ file. if bytes_eq name file then Some other else files file
changed_by kinds.Moved name other files = λ file. if bytes_eq other file then files name else if bytes_eq name file then None else files file
changed_by kinds.Gone name other files = λ file. if bytes_eq name file then None else files file

abbrev pub files_after_change : ChangeOf → Files → Files
files_after_change c files = changed_by c.kind c.name c.other files

-- the name of the file that a change may have created
abbrev pub name_by : Kind → (name other : List ℕ) → List ℕ
name_by kinds.Put name other = name
name_by kinds.Moved name other = other
name_by kinds.Gone name other = name

abbrev pub name_after : ChangeOf → List ℕ
name_after c = name_by c.kind c.name c.other

-- a list has one more name, if its file exists
pub record ListsName (files : Files) (name : List ℕ) (before after : List (List ℕ)) : Type 0 where
  pub each : (other : List ℕ) → has_name after other ≡ (has_name before other || (bytes_eq name other && is_some (files other)))

-- the bytes of a file after a change, from the files before the change
abbrev pub seen_by : Seen → Files → Option (List ℕ)
seen_by (seen.Bytes bytes) files = Some bytes.now
seen_by seen.Nothing files = None
seen_by (seen.Before name) files = files name.now

-- the files after changes, in order
abbrev pub files_from : Files → List ChangeOf → Files
files_from files [] = files
files_from files (c ∷ cs) = files_from (files_after_change c files) cs

abbrev pub no_files : Files
no_files name = None

-- the files after these changes
abbrev pub files_of : List ChangeOf → Files
files_of cs = files_from no_files cs

-- the states after each change, the last one first
abbrev pub states_from : Files → (past : List Files) → List ChangeOf → List Files
states_from files past [] = past
states_from files past (c ∷ cs) = states_from (files_after_change c files) (files_after_change c files ∷ past) cs

abbrev pub states_of : List ChangeOf → List Files
states_of cs = states_from no_files [] cs
