-- Names that are bound and removed.
use Rattle.std.proofs.Common.{◌≡◌, ◌∷◌, ◌∙◌, ℕ, List, Option, None, Some, ap, drop}
use Rattle.std.specs.Prelude.{option_map}

pub given_back : (before taken same after : Option (List (List ℕ))) (name : List ℕ) → taken ≡ option_map (λ names. name ∷ names) before → same ≡ taken → after ≡ option_map (drop 1) same → after ≡ before
given_back None taken same after name bound kept released = released ∙ ap (option_map (drop 1)) (kept ∙ bound)
given_back (Some names) taken same after name bound kept released = released ∙ ap (option_map (drop 1)) (kept ∙ bound)
