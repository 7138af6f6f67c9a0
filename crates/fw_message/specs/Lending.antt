-- Images that a package has.
use Rattle.std.specs.Prelude.{ℕ, Bool, List, [], ◌∷◌, ◌==◌, ◌&&◌, ◌||◌, false, nat_eq}
use Rattle.std.specs.Cmp.Lexicographic.{pointwise}
use Rattle.fw_package.specs.Package.{ComponentOf, PackageText}
use Rattle.fwup_wire.specs.declared.values.Key.{Key}

-- the component has this key and these bytes
abbrev pub is_it : ComponentOf → Key → List ℕ → Bool
is_it c key bytes = (c.classification == key.classification) && (c.identifier == key.identifier) && pointwise nat_eq c.image bytes

-- one of these components has this key and these bytes
abbrev pub is_lent_by : List ComponentOf → Key → List ℕ → Bool
is_lent_by [] key bytes = false
is_lent_by (c ∷ cs) key bytes = is_it c key bytes || is_lent_by cs key bytes

-- a component of one of these packages has them
abbrev pub is_lent : List PackageText → Key → List ℕ → Bool
is_lent [] key bytes = false
is_lent (p ∷ ps) key bytes = is_lent_by p.components key bytes || is_lent ps key bytes
