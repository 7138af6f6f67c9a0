-- What a job finds on its host, and what it leaves there.
use Rattle.std.specs.Prelude.{ℕ, Bool, true, false, List, None, Option, Some}
use Rattle.fw_setup.specs.Stocks.{StoresOf}
use Rattle.fw_store.specs.Folders.{Files}
use Rattle.fwupd_watch.specs.Files.{FileOf}
use Rattle.fwupd_watch.specs.Outputs.{OutputOf}
use Rattle.fwupd_watch.specs.Running.{ObserverOf}

-- the agent's folder in a folder of stores, if the files of these are known
abbrev pub agent_store_in : (is_known : Bool) → ((root : List ℕ) → Files) → (root : List ℕ) → Option Files
agent_store_in true files root = Some (files root)
agent_store_in false files root = None

-- The files, and the stores in each folder, with the agent's, if it is known; the folders and
-- devices to which a link may fail to open, and the traces that the observer may refuse; the input
-- that isn't read yet; whether the files made at places are known, and which these are; and the
-- output.
pub record FoundOf : Type 0 where
  pub files : List ℕ → FileOf
  pub stores : (root : List ℕ) → StoresOf
  pub agent_store : (root : List ℕ) → Option Files
  pub lacks : (folder : List ℕ) → (device : ℕ) → Bool
  pub refuses : (trace : List ℕ) → Bool
  pub input : Option (List ℕ)
  pub is_known : Bool
  pub held : (path : List ℕ) → Option (List ℕ)
  pub output : OutputOf

-- The input that isn't read yet, the observer, the files made at places, and the output.
pub record LeftOf : Type 0 where
  pub input : Option (List ℕ)
  pub watched : ObserverOf
  pub held : (path : List ℕ) → Option (List ℕ)
  pub output : OutputOf
