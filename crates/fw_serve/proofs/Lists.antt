-- Items of lists.
use Rattle.std.proofs.Common.{◌≡◌, ◌<◌, ◌+◌, ◌++◌, ℕ, zero, suc, List, [], ◌∷◌, drop, get_or, length, map, refl, take}
use Rattle.std.specs.Prelude.{slice_set}
use Rattle.std.proofs.lemmas.List.Edits.{map_over_more}

-- an item of a list doesn't depend on what there is in place of it
get_or_again : {A : Type 0} (xs : List A) (i : ℕ) (d : A) → get_or xs i d ≡ get_or xs i (get_or xs i d)
get_or_again [] i d = refl
get_or_again (x ∷ xs) zero d = refl
get_or_again (x ∷ xs) (suc i) d = get_or_again xs i d

-- a loop that changes each item, at the next
pub map_over_next : {X : Type 0} (f : X → X) (xs ys : List X) (i : ℕ) (d y : X) → y ≡ f (get_or ys i d) → i < length xs → ys ≡ map f (take i xs) ++ drop i xs
    → slice_set ys i y ≡ map f (take (i + 1) xs) ++ drop (i + 1) xs
map_over_next f xs ys i d y is within so_far = rw is (map_over_more f xs ys i (get_or ys i d) within so_far (get_or_again ys i d))
