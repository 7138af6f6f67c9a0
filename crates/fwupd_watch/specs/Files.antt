-- The knowledge of files, and which file a write overwrites.
use Rattle.std.specs.Prelude.{ℕ, ◌≡◌, ◌≢◌, ◌⊎◌, Bool, true, false, List, [], ◌∷◌, Option, None, Some, IfSome, IsSomeAnd}
use Rattle.fw_package.specs.Outlines.{IsBeginning}
use Rattle.fwupd_watch.specs.declared.files.FileIdentity.{FileIdentity}

-- the place of a file: its folder, the folder that contains that one, and its name
pub record FilePlaceOf : Type 0 where
  pub folder : FileIdentity
  pub above : Option FileIdentity
  pub name : List ℕ

-- The knowledge of the file of a path before it is read, as far as there is some: its bytes;
-- whether reading may fail; its identity, or that there is no file; whether the path names a link;
-- and its place, or that there is none.
pub record FileOf : Type 0 where
  pub bytes : Option (List ℕ)
  pub may_fail : Bool
  pub identity : Option (Option FileIdentity)
  pub is_link : Option Bool
  pub place : Option (Option FilePlaceOf)

-- nothing is known
abbrev pub any_file : FileOf
any_file = record { bytes = None; may_fail = true; identity = None; is_link = None; place = None }

-- bytes that the file may hold
abbrev pub MayHold : FileOf → List ℕ → Type 0
MayHold file bytes = IfSome file.bytes (λ known. bytes ≡ known)

-- a beginning that the file may have, up to the largest header of a package, and its length
pub record MayBegin (file : FileOf) (beginning : List ℕ) (file_length : ℕ) : Type 0 where
  pub bytes : List ℕ
  pub held : MayHold file bytes
  pub is : IsBeginning bytes beginning file_length

-- the identity that the file may have
abbrev pub MayBe : FileOf → Option FileIdentity → Type 0
MayBe file identity = IfSome file.identity (λ known. identity ≡ known)

-- whether the path may name a link
abbrev pub MayLink : FileOf → Bool → Type 0
MayLink file is_link = IfSome file.is_link (λ known. is_link ≡ known)

-- the path names a dangling link, which may lead to any place
pub record IsDanglingLink (file : FileOf) : Type 0 where
  pub missing : MayBe file None
  pub link : MayLink file true

-- the place where the file may be
abbrev pub MayLie : FileOf → Option FilePlaceOf → Type 0
MayLie file place = IfSome file.place (λ known. place ≡ known)

-- two paths name the same place
pub record IsOnePlace (first second : FileOf) : Type 0 where
  pub place : FilePlaceOf
  pub of_first : MayLie first (Some place)
  pub of_second : MayLie second (Some place)

-- two paths name two places, or one of them names none
pub record AreTwoPlaces (first second : FileOf) : Type 0 where
  pub one : Option FilePlaceOf
  pub other : Option FilePlaceOf
  pub of_first : MayLie first one
  pub of_second : MayLie second other
  pub differ : IfSome one (λ place. other ≢ Some place)

-- two names name the same directory entry: both folders exist and are one, and the names are equal
abbrev pub IsOneEntry : (one_folder : Option FileIdentity) → (one_name : List ℕ) → (other_folder : Option FileIdentity) → (other_name : List ℕ) → Type 0
IsOneEntry one_folder one_name other_folder other_name =
    IsSomeAnd one_folder (λ folder. other_folder ≡ Some folder) × (one_name ≡ other_name)

-- a file is in a folder or in one of its subfolders
pub record IsInFolder (file folder : FileOf) : Type 0 where
  pub place : FilePlaceOf
  pub own : FileIdentity
  pub lies : MayLie file (Some place)
  pub is : MayBe folder (Some own)
  pub below : (place.folder ≡ own) ⊎ (place.above ≡ Some own)

-- it isn't, or one of both doesn't exist
pub record IsOutsideFolder (file folder : FileOf) : Type 0 where
  pub place : Option FilePlaceOf
  pub own : Option FileIdentity
  pub lies : MayLie file place
  pub is : MayBe folder own
  pub outside : IfSome place (λ p. IfSome own (λ i. (p.folder ≢ i) × (p.above ≢ Some i)))

-- two paths name the same file
pub record IsOneFile (first second : FileOf) : Type 0 where
  pub identity : FileIdentity
  pub of_first : MayBe first (Some identity)
  pub of_second : MayBe second (Some identity)

-- two paths name two files, or one of them names none; or neither names a file, they name two
-- places, and neither is a link
pub record AreTwoFiles (first second : FileOf) : Type 0 where
  pub one : Option FileIdentity
  pub other : Option FileIdentity
  pub of_first : MayBe first one
  pub of_second : MayBe second other
  pub differ : IfSome one (λ identity. other ≢ Some identity)
  pub first_link : one ≡ None → other ≡ None → MayLink first false
  pub second_link : one ≡ None → other ≡ None → MayLink second false
  pub places : one ≡ None → other ≡ None → AreTwoPlaces first second

-- A write to a path may overwrite the file of another path: they are equal, name the same file,
-- would create the same directory entry, or one is a dangling link.
abbrev pub IsOver : (files : List ℕ → FileOf) → (written path : List ℕ) → Type 0
IsOver files written path =
    (path ≡ written)
    ⊎ (IsOneFile (files path) (files written)
    ⊎ (IsDanglingLink (files path) ⊎ (IsDanglingLink (files written) ⊎ IsOnePlace (files path) (files written))))

-- It doesn't: the paths differ, and name two files.
abbrev pub IsApartFrom : (files : List ℕ → FileOf) → (written path : List ℕ) → Type 0
IsApartFrom files written path = (path ≢ written) × AreTwoFiles (files path) (files written)

-- it may overwrite one of the files
abbrev pub IsOverOne : (files : List ℕ → FileOf) → (written : List ℕ) → List (List ℕ) → Type 0
IsOverOne files written [] = ⊥
IsOverOne files written (path ∷ paths) = IsOver files written path ⊎ IsOverOne files written paths
