-- A keeper in a folder.
use Rattle.std.specs.Prelude.{ℕ, Bool, List, Option}
use Rattle.fw_store.specs.declared.kept_line.KeptLine.{KeptLine}

-- Whether the folder's content is known, the text of the packages that it is claimed for, the lines
-- that it keeps, and those that a loss of power leaves.
pub record FolderKeeperOf : Type 0 where
  pub is_known : Bool
  pub packages : Option (List ℕ)
  pub kept : Option (List KeptLine)
  pub lasting : Option (List KeptLine)
