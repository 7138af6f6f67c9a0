-- Paths, as bytes.
use Rattle.std.specs.Prelude.{ℕ, ◌≡◌, ◌≢◌, ◌⊎◌, if◌then◌else◌, List, [], ◌++◌, codes, decimal}
use Rattle.std.specs.List.{AllByRecursion}
use Rattle.std.specs.Str.{bytes_eq}

-- the path of a name in a folder
abbrev pub path_in : (folder name : List ℕ) → List ℕ
path_in folder name = folder ++ (codes "/" ++ name)

-- The folder of a path, and the name in it, which has no slash. A path without a slash is a name in
-- the working folder, `.`, and one whose only slash is its first byte is a name in the root folder,
-- `/`.
pub record IsFolderAndName (path folder name : List ℕ) : Type 0 where
  pub plain : AllByRecursion (λ byte. byte ≢ 47) name
  pub parts : ((folder ≡ codes ".") × (path ≡ name))
      ⊎ (((folder ≡ codes "/") × (path ≡ path_in [] name))
      ⊎ ((folder ≢ []) × (path ≡ path_in folder name)))

-- the path that the system has for one of the command line: a dash is standard input
abbrev pub system_path : (path : List ℕ) → List ℕ
system_path path = if bytes_eq path (codes "-") then codes "/dev/stdin" else path

-- the path of the history of the stores in a folder
abbrev pub history_path : (folder : List ℕ) → List ℕ
history_path folder = path_in folder (codes "history")

-- the name of a new file beside a place, made by a process with this identifier
abbrev pub new_name : (place : List ℕ) (id : ℕ) → List ℕ
new_name place id = place ++ (codes "." ++ (decimal id ++ codes ".new"))
