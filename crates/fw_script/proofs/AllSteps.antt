-- The steps of lines.
use Rattle.std.proofs.Common.{◌≡◌, ◌≢◌, ◌≤◌, ◌∙◌, ◌<◌, ◌-◌, ℕ, zero, suc, ◌+◌, List, [], ◌∷◌, ◌++◌, drop, get_or, length, take, ap, arith, refl, sym}
use Rattle.std.proofs.lemmas.List.{append-nil, length-append, take-append-drop, take_all, take_more}
use Rattle.std.specs.List.{flat_map, repeat}
use Rattle.std.proofs.lemmas.Grind.{flat_map-append}
use Rattle.fw_steps.specs.Worlds.{full_tick}
use Rattle.fw_steps.specs.declared.step.Step.{Step}
use Rattle.fw_script.specs.ScheduleLines.{all_steps, line_steps}
use Rattle.fw_script.specs.declared.schedule_lines.ScheduleLine.{ScheduleLine}
use Rattle.fw_script.specs.declared.schedule_lines.ScheduleLine.TheVariants as lines

-- one more line
pub all_more : (lines : List ScheduleLine) (line : ScheduleLine) → all_steps (lines ++ line ∷ []) ≡ all_steps lines ++ line_steps line
all_more lines line = flat_map-append line_steps lines (line ∷ []) ∙ ap (λ steps. all_steps lines ++ steps) (append-nil (line_steps line))

-- no more lines
pub none_more : (lines : List ScheduleLine) → all_steps lines ≡ all_steps lines ++ []
none_more lines = sym (append-nil (all_steps lines))

repeated_long : (n : ℕ) (step : Step) → length (repeat n (step ∷ [])) ≡ n
repeated_long zero step = refl
repeated_long (suc n) step = ap suc (repeated_long n step)

-- the number of ticks of a line
pub ticks_long : (n : ℕ) → length (repeat n (full_tick ∷ [])) ≡ n
ticks_long n = repeated_long n full_tick

-- one more line is counted
pub counted_more : (lines : List ScheduleLine) (i : ℕ) (line : ScheduleLine) → i < length lines
    → length (all_steps (take (i + 1) lines)) ≡ length (all_steps (take i lines)) + length (line_steps (get_or lines i line))
counted_more lines i line lt =
    ap (λ xs. length (all_steps xs)) (take_more lines i line lt)
    ∙ ap length (all_more (take i lines) (get_or lines i line))
    ∙ length-append (all_steps (take i lines)) (line_steps (get_or lines i line))

-- the count so far is at most the total
pub counted_so_far : (lines : List ScheduleLine) (i : ℕ) → length (all_steps (take i lines)) ≤ length (all_steps lines)
counted_so_far lines i =
    let whole : length (all_steps lines) ≡ length (all_steps (take i lines)) + length (all_steps (drop i lines)) =
    ap (λ xs. length (all_steps xs)) (sym (take-append-drop i lines))
    ∙ ap length (flat_map-append line_steps (take i lines) (drop i lines))
    ∙ length-append (all_steps (take i lines)) (all_steps (drop i lines)) in
    omega (arith, whole)

one_tick : (count : ℕ) → count ≢ 0 → repeat count (full_tick ∷ []) ≡ full_tick ∷ repeat (count - 1) (full_tick ∷ [])
one_tick zero some = absurd (some refl)
one_tick (suc n) some = let less : suc n - 1 ≡ n = omega arith in rw less refl

-- the first tick of a line, and those that follow
pub ticks_first : (count : ℕ) (rest : List ScheduleLine) → count ≢ 0
    → all_steps (lines.Ticks count ∷ rest) ≡ full_tick ∷ (repeat (count - 1) (full_tick ∷ []) ++ all_steps rest)
ticks_first count rest some = ap (λ steps. steps ++ all_steps rest) (one_tick count some)

-- the same for lines whose first line is this one
pub lines_ticked : (all : List ScheduleLine) (first : ScheduleLine) (count : ℕ) → 1 ≤ length all → first ≡ get_or all 0 first → first ≡ lines.Ticks count → count ≢ 0
    → all_steps all ≡ full_tick ∷ (repeat (count - 1) (full_tick ∷ []) ++ all_steps (take (length all - 1) (drop 1 all)))
lines_ticked [] first count long is said some = absurd (omega (arith, long))
lines_ticked (x ∷ xs) first count long is said some =
    let same : x ≡ lines.Ticks count = cc in
    let less : suc (length xs) - 1 ≡ length xs = omega arith in
    let whole : take (length xs) xs ≡ xs = take_all (length xs) xs (omega arith) in
    rw (same, less, whole) (ticks_first count xs some)
