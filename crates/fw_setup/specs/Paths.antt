-- The paths of stores.
use Rattle.std.specs.Prelude.{ℕ, List, ◌++◌, codes, decimal}

-- The path of the folder of a device's store: the root folder, `/`, and the device's endpoint
-- identifier in decimal digits.
abbrev pub store_path : (root : List ℕ) → (device : ℕ) → List ℕ
store_path root device = root ++ (codes "/" ++ decimal device)

-- The path of the folder of what the agent keeps: the root folder, and `/agent`.
abbrev pub agent_path : (root : List ℕ) → List ℕ
agent_path root = root ++ codes "/agent"
