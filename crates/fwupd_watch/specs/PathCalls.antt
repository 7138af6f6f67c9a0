-- What a file system says of paths, and the places of files that follow from it.
use Rattle.std.specs.Prelude.{ℕ, ◌≡◌, ◌⊎◌, ◌↔◌, ◌||◌, Bool, true, false, List, Option, None, Some, codes}
use Rattle.fwupd_watch.specs.Files.{IsOneEntry}
use Rattle.fwupd_watch.specs.Paths.{IsFolderAndName, path_in}
use Rattle.fwupd_watch.specs.declared.files.FileIdentity.{FileIdentity}

-- what a file system says of each path: the identity of its file, if there is one; whether it names
-- a symbolic link; and the path of the file to which it leads, without links, if there is one
pub record PathsOf : Type 0 where
  pub identity : List ℕ → Option FileIdentity
  pub is_link : List ℕ → Bool
  pub target : List ℕ → Option (List ℕ)

-- the answer to whether two paths name the same place: the same name in the same folder
pub record ComparesPlaces (paths : PathsOf) (one other : List ℕ) (answer : Bool) : Type 0 where
  pub one_folder : List ℕ
  pub one_name : List ℕ
  pub other_folder : List ℕ
  pub other_name : List ℕ
  pub of_one : IsFolderAndName one one_folder one_name
  pub of_other : IsFolderAndName other other_folder other_name
  pub is : answer ≡ true ↔ IsOneEntry (paths.identity one_folder) one_name (paths.identity other_folder) other_name

-- the answer to whether a path is in this folder or in one of its subfolders
pub record LocatesPath (paths : PathsOf) (root : FileIdentity) (path : List ℕ) (answer : Bool) : Type 0 where
  pub folder : List ℕ
  pub name : List ℕ
  pub of_path : IsFolderAndName path folder name
  pub is : answer ≡ true ↔ ((paths.identity folder ≡ Some root) ⊎ (paths.identity (path_in folder (codes "..")) ≡ Some root))

-- the answer to whether the file to which a link leads is there; a dangling link may lead there
abbrev pub LocatesTarget : (paths : PathsOf) → (root : FileIdentity) → Option (List ℕ) → (answer : Bool) → Type 0
LocatesTarget paths root None answer = answer ≡ true
LocatesTarget paths root (Some target) answer = LocatesPath paths root target answer

-- the answer to whether a path may be a link that leads there
abbrev pub LocatesLink : (paths : PathsOf) → (root : FileIdentity) → (path : List ℕ) → (is_link answer : Bool) → Type 0
LocatesLink paths root path false answer = answer ≡ false
LocatesLink paths root path true answer = LocatesTarget paths root (paths.target path) answer

-- the answer to whether a path is in a folder, or a link that may lead there
pub record LocatesEither (paths : PathsOf) (root : FileIdentity) (path : List ℕ) (answer : Bool) : Type 0 where
  pub itself : Bool
  pub by_link : Bool
  pub lies : LocatesPath paths root path itself
  pub leads : itself ≡ false → LocatesLink paths root path (paths.is_link path) by_link
  pub is : answer ≡ (itself || by_link)

-- the answer to whether a path is in the folder of another path, if that exists
abbrev pub LocatesBelow : (paths : PathsOf) → (path : List ℕ) → (folder : Option FileIdentity) → (answer : Bool) → Type 0
LocatesBelow paths path None answer = answer ≡ false
LocatesBelow paths path (Some root) answer = LocatesEither paths root path answer
