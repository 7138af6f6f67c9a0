-- Where progress is shown and faults are explained, and what erases the progress.
use Rattle.std.specs.Prelude.{ℕ, ◌++◌, ◌||◌, ◌==◌, if◌then◌else◌, Bool, false, true, List, [], ◌∷◌, Option, None, Some, codes}
use Rattle.std.specs.Str.{bytes_eq}
use Rattle.fw_text.specs.Printing.{word_and_number}

-- what erases a progress line, if one was shown
abbrev pub erasure_of : (was_shown : Bool) → List ℕ
erasure_of false = []
erasure_of true = codes "\r                                                                        \r"

-- The control sequences of a terminal (ECMA-48) begin with ESC [. This moves the cursor up by
-- `count` lines; none moves it by 0, since a terminal takes 0 as 1.
abbrev pub cursor_up : (count : ℕ) → List ℕ
cursor_up count = if count == 0 then [] else word_and_number (0x1B ∷ codes "[") count ++ codes "A"

-- this erases what is right of the cursor in its line
abbrev pub end_of_line_erased : List ℕ
end_of_line_erased = 0x1B ∷ codes "[K"

-- and this also the lines below
abbrev pub end_of_screen_erased : List ℕ
end_of_screen_erased = 0x1B ∷ codes "[J"

-- what erases a display of `drawn` lines, below which the cursor is; nothing if none was drawn
abbrev pub display_erasure : (drawn : ℕ) → List ℕ
display_erasure drawn = if drawn == 0 then [] else cursor_up drawn ++ codes "\r" ++ end_of_screen_erased

-- whether faults are explained: on a terminal, or if the variable's value, if it has one, is 1
abbrev pub is_explaining : (is_terminal : Bool) → (value : Option (List ℕ)) → Bool
is_explaining is_terminal None = is_terminal
is_explaining is_terminal (Some value) = is_terminal || bytes_eq value (codes "1")

-- the line about a device whose link failed
abbrev pub lost_line : (device : ℕ) → List ℕ
lost_line device = word_and_number (codes "device ") device ++ codes ": its link failed\n"

-- what is written about it: nothing if no link failed, or if faults aren't explained
abbrev pub explanation_of : (is_explained : Bool) → Option ℕ → List ℕ
explanation_of is_explained None = []
explanation_of false (Some device) = []
explanation_of true (Some device) = lost_line device
