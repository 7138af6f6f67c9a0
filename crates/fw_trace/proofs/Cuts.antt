-- Splitting bytes at a byte.
use Rattle.std.proofs.Common.{◌≡◌, ℕ, ◌+◌, ◌-◌, ◌==◌, ◌<◌, ◌≤◌, List, [], ◌∷◌, Some, None, length, take, drop, refl, ap, subst, sym, ◌∙◌, arith}
use Rattle.std.specs.List.{position, position_or_len, slice_split}
use Rattle.std.proofs.lemmas.Grind.{common_steps}
use Rattle.std.proofs.lemmas.List.{length-drop, take_all}
use Rattle.std.proofs.lemmas.List.Splits.{slice_split_first, slice_split_none, length-slice_split}
use Rattle.std.proofs.lemmas.List.Sums.{fails_before_first}
use Rattle.fw_trace.specs.Inputs.{cut_at, cut_word, less_empty_end, lines_of_text}

-- the bytes from the index on
rest_of : (bytes : List ℕ) (i : ℕ) → take (length bytes - (i + 1)) (drop (i + 1) bytes) ≡ drop (i + 1) bytes
rest_of bytes i = take_all (length bytes - (i + 1)) (drop (i + 1) bytes) (omega (arith, length-drop (i + 1) bytes))

-- at the first space
pub word_cut : (bytes : List ℕ) (i : ℕ) → position (λ b. b == 32) bytes ≡ Some i
    → Some (take i bytes, take (length bytes - (i + 1)) (drop (i + 1) bytes)) ≡ cut_word bytes
word_cut bytes i h = ap (λ (xs : List ℕ). Some (take i bytes, xs)) (rest_of bytes i) ∙ ap (cut_at bytes) (sym h)

-- at the byte's position
pub cut_here : (c : ℕ) (bytes : List ℕ) (i : ℕ) → position (λ b. b == c) bytes ≡ Some i
    → slice_split (λ b. b == c) bytes ≡ take i bytes ∷ slice_split (λ b. b == c) (take (length bytes - (i + 1)) (drop (i + 1) bytes))
cut_here c bytes i h =
    let at : position_or_len (λ b. b == c) bytes ≡ i = grind (arith, common_steps) in
    let inside : position_or_len (λ b. b == c) bytes < length bytes = grind (arith, common_steps) in
    rw (rest_of bytes i)
    (subst (λ (n : ℕ). slice_split (λ b. b == c) bytes ≡ take n bytes ∷ slice_split (λ b. b == c) (drop (n + 1) bytes)) at
    (slice_split_first (λ b. b == c) bytes 0 inside))

-- if the byte doesn't occur
pub cut_nowhere : (c : ℕ) (bytes : List ℕ) → position (λ b. b == c) bytes ≡ None → slice_split (λ b. b == c) bytes ≡ bytes ∷ []
cut_nowhere c bytes h =
    let whole : length bytes ≤ position_or_len (λ b. b == c) bytes = grind (arith, common_steps) in
    slice_split_none (λ b. b == c) bytes (λ k d m. fails_before_first (λ b. b == c) bytes k d (omega arith))

-- there is at least one part
more_ends : (front : List ℕ) (parts : List (List ℕ)) → 0 < length parts → less_empty_end (front ∷ parts) ≡ front ∷ less_empty_end parts
more_ends front [] some = absurd (omega arith)
more_ends front (next ∷ parts) some = refl

-- a line feed ends the first line
pub more_lines : (text front rest : List ℕ) → slice_split (λ b. b == 10) text ≡ front ∷ slice_split (λ b. b == 10) rest
    → lines_of_text text ≡ front ∷ lines_of_text rest
more_lines text front rest is =
    ap less_empty_end is ∙ more_ends front (slice_split (λ b. b == 10) rest) (omega (arith, length-slice_split (λ b. b == 10) rest))
