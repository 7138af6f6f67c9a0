-- The uses of a record, as printed.
use Rattle.std.proofs.Common.{◌≡◌, ◌≢◌, ℕ, List, [], ◌∷◌, length, codes, refl, arith}
use Rattle.std.specs.List.{flat_map}
use Rattle.fwupd_base.specs.Inspection.{use_text, uses_text}

pub uses_none : (ns : List ℕ) → length ns ≡ 0 → uses_text ns ≡ codes " -"
unfolding uses_text
uses_none [] e = refl
uses_none (n ∷ ns) e = absurd (omega (arith, e))

pub uses_some : (ns : List ℕ) → length ns ≢ 0 → uses_text ns ≡ flat_map use_text ns
unfolding uses_text
uses_some [] some = absurd (some refl)
uses_some (n ∷ ns) some = refl
