-- The text of steps reads back as the steps, line by line, and the same in portions.
use Rattle.std.proofs.Common.{◌≡◌, ◌≢◌, ◌∙◌, ◌+◌, ◌<◌, ◌≤◌, ℕ, zero, suc, true, false, List, [], ◌∷◌, ◌++◌, Ok, length, inl, inr, ap, refl, sym, append_assoc, append-nil, true≢false, arith}
use Rattle.std.specs.List.{repeat}
use Rattle.std.proofs.lemmas.Bool.{cases_Bool, eq-eqb, eqb-true, ne_eqb}
use Rattle.std.proofs.lemmas.Bool.Decides.{eqb_tells}
use Rattle.std.proofs.lemmas.List.{nil_from_length}
use Rattle.fw_steps.specs.Worlds.{full_tick}
use Rattle.fw_steps.specs.declared.step.Step.{Step}
use Rattle.fw_steps.specs.declared.step.Step.TheVariants as steps
use Rattle.fw_script.specs.Lines.{lines_of}
use Rattle.fw_script.specs.ScheduleTexts.{StepsRoundTrip, StepRoundTrips, PortionsAreTheWhole, SchedulesReadBack, idle_after, idle_at, is_idle, line_of, schedule_text, words_with_spaces, step_text, text_of_steps, text_with, ticks_text, words_for, words_for_ticks}
use Rattle.fw_script.specs.Schedules.{steps_then, script_from, script_of, steps_of, then_lines}
use Rattle.fw_script.proofs.SaidSteps.{step_back, step_words, tick_words, ticks_back}
use Rattle.fw_script.proofs.SpacedLines.{AreWords, first_of_lines}
use Rattle.fw_script.proofs.Steps.{repeat_more}

-- a text reads as these steps, whatever the number of its first line
pub record Reads (text : List ℕ) (steps : List Step) : Type 0 where
  pub from : (number : ℕ) → script_from number (lines_of text) ≡ Ok steps

reads_nothing : Reads [] []
reads_nothing = record { from = λ number. refl }

-- with a line before
reads_line : (words : List (List ℕ)) (rest : List ℕ) (said more : List Step) → AreWords words → steps_of (words_with_spaces words) ≡ Ok said → Reads rest more
    → Reads (line_of words ++ rest) (said ++ more)
reads_line words rest said more are says follows = record {
  from = λ number.
      ap (script_from number) (first_of_lines words rest are)
      ∙ ap (λ r. then_lines number r (script_from (number + 1) (lines_of rest))) says
      ∙ ap (steps_then said) (follows.from (number + 1));
}

reads_step : (step : Step) (rest : List ℕ) (more : List Step) → is_idle step ≡ false → StepRoundTrips step → Reads rest more
    → Reads (step_text step ++ rest) (step ∷ more)
unfolding step_text
reads_step step rest more some h follows =
    reads_line (words_for step) rest (step ∷ []) more (step_words step some h) (step_back step some h) follows

reads_ticks : (count : ℕ) (rest : List ℕ) (more : List Step) → count ≤ 1000 → Reads rest more
    → Reads (ticks_text count ++ rest) (repeat count (full_tick ∷ []) ++ more)
unfolding ticks_text
reads_ticks zero rest more few follows = follows
reads_ticks (suc n) rest more few follows =
    rw (ne_eqb (suc n) 0 (λ e. absurd (omega arith)))
    (reads_line (words_for_ticks (suc n)) rest (repeat (suc n) (full_tick ∷ [])) more (tick_words (suc n) few) (ticks_back (suc n) (omega arith) few) follows)

-- a tick that no node misses
full_from : (step : Step) → is_idle step ≡ true → step ≡ full_tick
full_from (steps.Deliver pair number node) h = absurd (true≢false (sym h))
full_from (steps.Tick missed) h = ap (λ xs. steps.Tick (record { items = xs })) (nil_from_length missed.items (eqb-true (length missed.items) 0 h))
full_from (steps.Start device number) h = absurd (true≢false (sym h))
full_from (steps.Cancel device) h = absurd (true≢false (sym h))
full_from (steps.Activate device) h = absurd (true≢false (sym h))
full_from (steps.Verdict device verdict) h = absurd (true≢false (sym h))
full_from (steps.Restart node) h = absurd (true≢false (sym h))
full_from (steps.Sel request) h = absurd (true≢false (sym h))

-- one more tick is held back
one_more : (idle : ℕ) (more : List Step) → repeat (idle + 1) (full_tick ∷ []) ++ more ≡ repeat idle (full_tick ∷ []) ++ full_tick ∷ more
one_more idle more = ap (λ ss. ss ++ more) (repeat_more idle full_tick) ∙ append_assoc (repeat idle (full_tick ∷ [])) (full_tick ∷ []) more

-- the text that is still to be written
abbrev left_of : (idle : ℕ) → List Step → List ℕ
left_of idle ss = text_of_steps idle ss ++ ticks_text (idle_at idle ss)

-- a step that is another than such a tick
reads_other : (idle : ℕ) (step : Step) (ss : List Step) → idle < 1000 → is_idle step ≡ false → StepRoundTrips step → Reads (left_of 0 ss) ss
    → Reads (left_of idle (step ∷ ss)) (repeat idle (full_tick ∷ []) ++ step ∷ ss)
reads_other idle step ss few other h follows =
    rw (other, append_assoc (ticks_text idle ++ step_text step) (text_of_steps 0 ss) (ticks_text (idle_at 0 ss)), append_assoc (ticks_text idle) (step_text step) (left_of 0 ss))
    (reads_ticks idle (step_text step ++ left_of 0 ss) (step ∷ ss) (omega arith) (reads_step step (left_of 0 ss) ss other h follows))

-- the thousandth tick
reads_thousandth : (idle : ℕ) (step : Step) (ss : List Step) → idle ≡ 999 → is_idle step ≡ true → Reads (left_of 0 ss) ss
    → Reads (left_of idle (step ∷ ss)) (repeat idle (full_tick ∷ []) ++ step ∷ ss)
reads_thousandth idle step ss full same follows =
    let count : 1000 ≡ idle + 1 = omega arith in
    rw (same, eq-eqb idle 999 full, append_assoc (ticks_text 1000) (text_of_steps 0 ss) (ticks_text (idle_at 0 ss)), full_from step same, sym (one_more idle ss), count)
    (reads_ticks (idle + 1) (left_of 0 ss) ss (omega arith) follows)

-- a tick that is held back
reads_held : (idle : ℕ) (step : Step) (ss : List Step) → idle ≢ 999 → is_idle step ≡ true
    → Reads (left_of (idle + 1) ss) (repeat (idle + 1) (full_tick ∷ []) ++ ss) → Reads (left_of idle (step ∷ ss)) (repeat idle (full_tick ∷ []) ++ step ∷ ss)
reads_held idle step ss short same follows = rw (same, ne_eqb idle 999 short, full_from step same, sym (one_more idle ss)) follows

reads_left : (idle : ℕ) (ss : List Step) → idle < 1000 → StepsRoundTrip ss → Reads (left_of idle ss) (repeat idle (full_tick ∷ []) ++ ss)
reads_left idle [] few h = rw (sym (append-nil (ticks_text idle))) (reads_ticks idle [] [] (omega arith) reads_nothing)
reads_left idle (step ∷ ss) few h =
    elim (cases_Bool (is_idle step)) [
      | inl same ↦ elim (eqb_tells idle 999) [
        | inl full ↦ reads_thousandth idle step ss full.1 same (reads_left 0 ss (omega arith) h.1)
        | inr short ↦ reads_held idle step ss short.1 same (reads_left (idle + 1) ss (let apart = short.1 in omega arith) h.1)
      ]
      | inr other ↦ reads_other idle step ss few other h.0 (reads_left 0 ss (omega arith) h.1)
    ]

pub schedules_read_back : SchedulesReadBack
schedules_read_back ss h = (reads_left 0 ss (omega arith) h).from 1

-- the same for the whole text of the steps
pub read_written : (text : List ℕ) (ss : List Step) → text ≡ schedule_text ss → StepsRoundTrip ss → script_of text ≡ Ok ss
read_written text ss is h = ap script_of is ∙ schedules_read_back ss h

-- PORTIONS

pub in_portions : PortionsAreTheWhole
in_portions idle [] second = record { text = refl; held = refl }
in_portions idle (step ∷ first) second =
    let rest = in_portions (idle_after idle step) first second in
    record {
      text = ap (λ t. text_with idle step ++ t) rest.text
          ∙ sym (append_assoc (text_with idle step) (text_of_steps (idle_after idle step) first) (text_of_steps (idle_at (idle_after idle step) first) second));
      held = rest.held;
    }
