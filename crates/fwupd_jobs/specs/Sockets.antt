-- The paths of sockets.
use Rattle.std.specs.Prelude.{ℕ, List, ◌++◌, codes, decimal}

-- The path of the socket of a device: the folder, `/`, the device's endpoint identifier in decimal
-- digits, and `.sock`.
abbrev pub socket_path : (folder : List ℕ) → (device : ℕ) → List ℕ
socket_path folder device = folder ++ (codes "/" ++ (decimal device ++ codes ".sock"))
