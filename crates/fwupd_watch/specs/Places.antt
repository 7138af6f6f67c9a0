-- The content of a place after a file was put there.
use Rattle.std.specs.Prelude.{ℕ, ◌≡◌, ◌&&◌, Bool, List, Option, None, Some, IfSome}

-- If the content of a file is known, its place holds it, also after a loss of power.
abbrev pub IsOnDisk : (contents held lasting : Option (List ℕ)) → Type 0
IsOnDisk contents held lasting = IfSome contents (λ bytes. (held ≡ Some bytes) × (lasting ≡ Some bytes))

-- Whether a file may be put at a place: the path still resolves to it, and nothing is there, or a
-- file that is regular and writable.
abbrev pub may_replace : (is_one : Bool) → Option (Bool × Bool) → Bool
may_replace is_one None = is_one
may_replace is_one (Some found) = is_one && (found.0 && found.1)
