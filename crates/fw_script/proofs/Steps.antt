-- Steps, one line after another.
use Rattle.std.proofs.Common.{◌≡◌, ℕ, ◌+◌, List, [], ◌∷◌, ◌++◌, Result, Ok, Err, refl, ap, sym, add-one, append_assoc, zero, suc}
use Rattle.std.specs.List.{repeat}
use Rattle.fw_script.specs.declared.faults.ScriptCause.{ScriptCause}
use Rattle.fw_script.specs.declared.faults.ScriptFault.{ScriptFault}
use Rattle.fw_steps.specs.declared.step.Step.{Step}
use Rattle.fw_script.specs.Schedules.{steps_then, then_lines, with_line}

-- one more repetition of a step
pub repeat_more : (n : ℕ) (step : Step) → repeat (n + 1) (step ∷ []) ≡ repeat n (step ∷ []) ++ step ∷ []
repeat_more zero step = refl
repeat_more (suc n) step = rw add-one (ap (λ ss. step ∷ ss) (rw add-one at (repeat_more n step)))

-- a line's steps are read
pub steps_read : (number : ℕ) (steps after : List Step) (r : Result (List Step) ScriptCause) (rest : Result (List Step) ScriptFault)
    → with_line steps r ≡ Ok after → steps_then steps (then_lines number r rest) ≡ steps_then after rest
steps_read number steps after (Ok more) (Ok rest) h =
    let is : steps ++ more ≡ after = cc in
    rw (← is) (ap Ok (sym (append_assoc steps more rest)))
steps_read number steps after (Ok more) (Err fault) h = refl
steps_read number steps after (Err cause) rest h = absurd (cc)

-- a line with a fault
pub fault_read : (number : ℕ) (steps : List Step) (cause : ScriptCause) (r : Result (List Step) ScriptCause) (rest : Result (List Step) ScriptFault)
    → with_line steps r ≡ Err cause → steps_then steps (then_lines number r rest) ≡ Err (record { line = number; cause = cause })
fault_read number steps cause (Ok more) rest h = absurd (cc)
fault_read number steps cause (Err other) rest h = let is : other ≡ cause = cc in rw is refl

-- no steps before
pub before_nothing : (r : Result (List Step) ScriptFault) → steps_then [] r ≡ r
before_nothing (Ok steps) = refl
before_nothing (Err fault) = refl
