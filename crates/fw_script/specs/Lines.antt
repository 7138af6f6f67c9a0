-- Splits a text into lines, and a line into words.
use Rattle.std.specs.Prelude.{ℕ, Bool, List, [], ◌∷◌, Option, None, Some, ◌==◌, ◌||◌, nat_lt, if◌then◌else◌, length, true}
use Rattle.std.specs.List.{list_any, slice_split}

abbrev pub is_nothing : List ℕ → Bool
is_nothing bytes = length bytes == 0

-- the parts without the last one, if that is empty
abbrev pub less_empty_end : List (List ℕ) → List (List ℕ)
less_empty_end [] = []
less_empty_end (part ∷ []) = if is_nothing part then [] else part ∷ []
less_empty_end (part ∷ next ∷ parts) = part ∷ less_empty_end (next ∷ parts)

-- The lines of a text, each ended by a line feed. What follows the last line feed is a line too,
-- unless it is empty.
abbrev pub lines_of : List ℕ → List (List ℕ)
lines_of text = less_empty_end (slice_split (λ b. b == 10) text)

-- a line that is skipped: it is empty, or begins with `#`
abbrev pub is_skipped : List ℕ → Bool
is_skipped [] = true
is_skipped (b ∷ bytes) = b == 35

-- The words of a line, one space apart: nothing between two spaces is an empty word.
abbrev pub words_of : List ℕ → List (List ℕ)
words_of line = slice_split (λ b. b == 32) line

-- The fields after a line's first word, at most `most`. None is empty.
abbrev pub fields_in : (most : ℕ) → List (List ℕ) → Option (List (List ℕ))
fields_in most words = if list_any is_nothing words || nat_lt most (length words) then None else Some words

-- the words of what follows a word
abbrev pub words_from : Option (List ℕ) → List (List ℕ)
words_from None = []
words_from (Some rest) = words_of rest
