-- The packages that the records of an agent name by their numbers, as a text in its folder. Records
-- are never resumed for other packages: the list of packages may only grow at its end.
use Rattle.std.specs.Prelude.{ℕ, ◌≡◌, ◌≢◌, ◌⊎◌, ◌++◌, ◌∷◌, [], List, None, Option, Some, codes, if◌then◌else◌, nat_eq}
use Rattle.std.specs.List.{starts_with}
use Rattle.hex.specs.Hex.{encode_upper}
use Rattle.sha2.specs.Sha256.{sha256}
use Rattle.fw_store.specs.Folders.{Files, active_name}
use Rattle.fw_store.specs.declared.faults.OpenFault.{OpenFault}
use Rattle.fw_store.specs.declared.faults.OpenFault.TheVariants as faults

-- THE TEXT

-- the line of a package: the SHA-256 of its bytes in hexadecimal digits, and a line feed
unfoldable pub package_line : (bytes : List ℕ) → List ℕ
package_line bytes = encode_upper (sha256 bytes) ++ 10 ∷ []

-- the text of packages: a line for each, in order
abbrev pub packages_text : List (List ℕ) → List ℕ
packages_text [] = []
packages_text (p ∷ ps) = package_line p ++ packages_text ps

-- its name, and that of the file that replaces it
abbrev pub packages_name : List ℕ
packages_name = codes "packages"

abbrev pub new_packages_name : List ℕ
new_packages_name = codes "packages.new"

-- CLAIMING A FOLDER

-- Why a folder isn't claimed for packages with this text, by the text that it has, and by what it
-- keeps: it has the text of others, or keeps lines of unknown packages.
abbrev pub fault_by : (kept active : Option (List ℕ)) → (text : List ℕ) → Option OpenFault
fault_by None None text = None
fault_by None (Some lines) text = Some faults.Damaged
fault_by (Some kept) active text = if starts_with nat_eq text kept then None else Some faults.Foreign

abbrev pub claim_fault : Files → (text : List ℕ) → Option OpenFault
claim_fault files text = fault_by (files packages_name) (files active_name) text

-- only the text of packages and the file that replaces it may have changed
pub record LeavesOthers (before after : Files) : Type 0 where
  pub others : (name : List ℕ) → name ≢ packages_name → name ≢ new_packages_name → after name ≡ before name

-- the folder has the text of packages; and it has that, or the one that it had
pub record PutsPackages (text : List ℕ) (before after : Files) : Type 0 where
  pub here : after packages_name ≡ Some text
  pub leaves : LeavesOthers before after

pub record MayPutPackages (text : List ℕ) (before after : Files) : Type 0 where
  pub either : (after packages_name ≡ before packages_name) ⊎ (after packages_name ≡ Some text)
  pub leaves : LeavesOthers before after

-- The folder isn't refused for packages with this text, and then has it.
pub record ClaimsFolder (text : List ℕ) (before after : Files) : Type 0 where
  pub allowed : claim_fault before text ≡ None
  pub puts : PutsPackages text before after

-- It isn't refused, but can't be written.
pub record FailsToClaim (text : List ℕ) (before after : Files) : Type 0 where
  pub allowed : claim_fault before text ≡ None
  pub puts : MayPutPackages text before after
