-- Splitting bytes at a byte.
use Rattle.std.proofs.Common.{length-append, ◌≡◌, ℕ, ◌+◌, ◌-◌, ◌++◌, ◌==◌, ◌<◌, ◌≤◌, true, List, [], ◌∷◌, Some, None, length, take, drop, refl, ap, subst, ◌∙◌, arith}
use Rattle.std.specs.List.{position, position_or_len, slice_split}
use Rattle.std.proofs.lemmas.Grind.{common_steps}
use Rattle.std.proofs.lemmas.List.{length-drop, take_all}
use Rattle.std.proofs.lemmas.List.Folds.{list_any-append}
use Rattle.std.proofs.lemmas.List.Splits.{slice_split_first, slice_split_none, length-slice_split}
use Rattle.std.proofs.lemmas.List.Sums.{fails_before_first}
use Rattle.fw_script.specs.Lines.{fields_in, is_nothing, less_empty_end, lines_of}

-- at the byte's position
pub cut_here : (c : ℕ) (bytes : List ℕ) (i : ℕ) → position (λ b. b == c) bytes ≡ Some i
    → slice_split (λ b. b == c) bytes ≡ take i bytes ∷ slice_split (λ b. b == c) (take (length bytes - (i + 1)) (drop (i + 1) bytes))
cut_here c bytes i h =
    let at : position_or_len (λ b. b == c) bytes ≡ i = grind (arith, common_steps) in
    let inside : position_or_len (λ b. b == c) bytes < length bytes = grind (arith, common_steps) in
    rw (take_all (length bytes - (i + 1)) (drop (i + 1) bytes) (omega (arith, length-drop (i + 1) bytes)))
    (subst (λ (n : ℕ). slice_split (λ b. b == c) bytes ≡ take n bytes ∷ slice_split (λ b. b == c) (drop (n + 1) bytes)) at
    (slice_split_first (λ b. b == c) bytes 0 inside))

-- if the byte doesn't occur
pub cut_nowhere : (c : ℕ) (bytes : List ℕ) → position (λ b. b == c) bytes ≡ None → slice_split (λ b. b == c) bytes ≡ bytes ∷ []
cut_nowhere c bytes h =
    let whole : length bytes ≤ position_or_len (λ b. b == c) bytes = grind (arith, common_steps) in
    slice_split_none (λ b. b == c) bytes (λ k d m. fails_before_first (λ b. b == c) bytes k d (omega arith))

-- there is at least one part
more_ends : (front : List ℕ) (parts : List (List ℕ)) → 0 < length parts → less_empty_end (front ∷ parts) ≡ front ∷ less_empty_end parts
more_ends front [] some = absurd (omega arith)
more_ends front (next ∷ parts) some = refl

-- a line feed ends the first line
pub more_lines : (text front rest : List ℕ) → slice_split (λ b. b == 10) text ≡ front ∷ slice_split (λ b. b == 10) rest
    → lines_of text ≡ front ∷ lines_of rest
more_lines text front rest is =
    ap less_empty_end is ∙ more_ends front (slice_split (λ b. b == 10) rest) (omega (arith, length-slice_split (λ b. b == 10) rest))

-- an empty field
pub left_out : (most : ℕ) (front : List (List ℕ)) (word : List ℕ) (rest : List (List ℕ)) → is_nothing word ≡ true
    → fields_in most (front ++ word ∷ rest) ≡ None
left_out most front word rest nothing =
    rw (list_any-append is_nothing front (word ∷ rest), nothing) (grind (arith, common_steps))

-- too many fields
pub too_many : (most : ℕ) (front : List (List ℕ)) (word : List ℕ) (rest : List (List ℕ)) → most ≤ length front
    → fields_in most (front ++ word ∷ rest) ≡ None
too_many most front word rest full =
    let many : most < length (front ++ word ∷ rest) = omega (arith, length-append front (word ∷ rest)) in
    grind (arith, common_steps)
