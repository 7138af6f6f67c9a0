-- The lines of a text, one by one.
use Rattle.std.proofs.Common.{◌≡◌, ◌<◌, ◌+◌, ◌∷◌, ◌==◌, ℕ, List, [], Option, None, Some, arith, length, Bor}
use Rattle.std.specs.List.{position_or_len, before_first, after_first}
use Rattle.std.proofs.lemmas.List.Splits.{slice_split_first, slice_split_none}
use Rattle.std.proofs.lemmas.List.Sums.{fails_before_first}
use Rattle.fwupd_clues.specs.ClueLines.{file_lines}

-- the first line of a text, and the lines after its line feed
pub line_cut : (text line rest : List ℕ) → line ≡ before_first (λ b. b == 10) text → rest ≡ after_first (λ b. b == 10) text → position_or_len (λ b. b == 10) text < length text
    → file_lines text ≡ line ∷ file_lines rest
line_cut text line rest before after inside = rw (before, after) (slice_split_first (λ b. b == 10) text 0 inside)

-- a text without a line feed is one line
pub line_whole : (text : List ℕ) → position_or_len (λ b. b == 10) text ≡ length text → file_lines text ≡ text ∷ []
line_whole text none = slice_split_none (λ b. b == 10) text (λ k d m. fails_before_first (λ b. b == 10) text k d (omega arith))

-- the bytes of the rest, and its end
abbrev pub size_left : Option (Bor (List ℕ)) → ℕ
size_left None = 0
size_left (Some rest) = length rest.now + 1
