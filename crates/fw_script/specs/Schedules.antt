-- The text of a schedule: its steps.
use Rattle.std.specs.Prelude.{ℕ, ◌+◌, ◌-◌, ◌^◌, ◌==◌, ◌||◌, Bool, false, nat_lt, List, [], ◌∷◌, ◌++◌, Option, None, Some, Result, Ok, Err, codes, if◌then◌else◌, length}
use Rattle.std.specs.List.{list_any, repeat}
use Rattle.std.specs.Str.{bytes_eq}
use Rattle.fd_core.specs.declared.states.Verdict.{Verdict}
use Rattle.fd_core.specs.declared.states.Verdict.TheVariants as verdicts
use Rattle.fw_steps.specs.Worlds.{full_tick}
use Rattle.fw_steps.specs.declared.step.Step.{Step}
use Rattle.fw_steps.specs.declared.step.Step.TheVariants as steps
use Rattle.fw_script.specs.declared.faults.ScriptCause.{ScriptCause}
use Rattle.fw_script.specs.declared.faults.ScriptCause.TheVariants as causes
use Rattle.fw_script.specs.declared.faults.ScriptFault.{ScriptFault}
use Rattle.fw_script.specs.declared.schedule.Directive.{Directive}
use Rattle.fw_script.specs.declared.schedule.Directive.TheVariants as directives
use Rattle.fw_script.specs.Faults.{both}
use Rattle.fw_script.specs.Lines.{fields_in, is_skipped, lines_of, words_of}
use Rattle.fw_script.specs.Values.{bytes_of, eid_of, number_in, some_or}

-- the directive of a line's first word
unfoldable pub directive_of : List ℕ → Option Directive
directive_of word =
    if bytes_eq word (codes "tick") then Some directives.Tick
    else if bytes_eq word (codes "miss") then Some directives.Miss
    else if bytes_eq word (codes "deliver") then Some directives.Deliver
    else if bytes_eq word (codes "start") then Some directives.Start
    else if bytes_eq word (codes "cancel") then Some directives.Cancel
    else if bytes_eq word (codes "activate") then Some directives.Activate
    else if bytes_eq word (codes "verdict") then Some directives.Verdict
    else if bytes_eq word (codes "restart") then Some directives.Restart
    else if bytes_eq word (codes "sel") then Some directives.Sel
    else None

abbrev pub verdict_named : List ℕ → Option Verdict
verdict_named word =
    if bytes_eq word (codes "verify-ok") then Some verdicts.VerifyOk
    else if bytes_eq word (codes "verify-fail") then Some verdicts.VerifyFail
    else if bytes_eq word (codes "apply-ok") then Some verdicts.ApplyOk
    else if bytes_eq word (codes "apply-fail") then Some verdicts.ApplyFail
    else None

unfoldable pub verdict_of : List ℕ → Result Verdict ScriptCause
verdict_of word = some_or causes.Number (verdict_named word)

-- the number of a packet or a package
abbrev pub place_of : List ℕ → Result ℕ ScriptCause
place_of word = number_in 0 (2 ^ 64 - 1) word

-- a step with these values
abbrev pub mapped_step : {A : Type 0} → (A → Step) → Result A ScriptCause → Result Step ScriptCause
mapped_step f (Ok a) = Ok (f a)
mapped_step f (Err cause) = Err cause

-- an event log request
abbrev pub request_step : Result (List ℕ) ScriptCause → Result Step ScriptCause
request_step (Ok bytes) = if nat_lt 64 (length bytes) then Err causes.Limit else Ok (steps.Sel (record { items = bytes }))
request_step (Err cause) = Err cause

-- the only field, an endpoint identifier
abbrev pub only_eid_of : List (List ℕ) → Result ℕ ScriptCause
only_eid_of (eid ∷ []) = eid_of eid
only_eid_of fields = Err causes.Fields

-- delivering a packet
abbrev pub delivery : List ℕ → List ℕ → List ℕ → Result Step ScriptCause
delivery pair number node = mapped_step (λ v. steps.Deliver v.0 v.1.0 v.1.1) (both (eid_of pair) (both (place_of number) (eid_of node)))

-- the identifiers so far, then the next
abbrev pub eids_with : Result (List ℕ × ℕ) ScriptCause → Result (List ℕ) ScriptCause
eids_with (Ok v) = Ok (v.0 ++ v.1 ∷ [])
eids_with (Err cause) = Err cause

abbrev pub with_eid : Result (List ℕ) ScriptCause → List ℕ → Result (List ℕ) ScriptCause
with_eid eids word = eids_with (both eids (eid_of word))

abbrev pub eids_from : Result (List ℕ) ScriptCause → List (List ℕ) → Result (List ℕ) ScriptCause
eids_from eids [] = eids
eids_from eids (word ∷ words) = eids_from (with_eid eids word) words

-- an identifier occurs twice
abbrev pub has_twice : List ℕ → Bool
has_twice [] = false
has_twice (eid ∷ eids) = list_any (λ other. other == eid) eids || has_twice eids

-- a tick that the listed nodes miss
abbrev pub miss_step : Result (List ℕ) ScriptCause → Result Step ScriptCause
miss_step (Ok eids) = if has_twice eids then Err causes.Duplicate else Ok (steps.Tick (record { items = eids }))
miss_step (Err cause) = Err cause

abbrev pub miss : List (List ℕ) → Result Step ScriptCause
miss [] = Err causes.Fields
miss (word ∷ words) = if nat_lt 17 (length (word ∷ words)) then Err causes.Fields else miss_step (eids_from (Ok []) (word ∷ words))

-- the step of a line, by its directive and fields
abbrev pub step_of : Directive → List (List ℕ) → Result Step ScriptCause
step_of directives.Deliver (pair ∷ number ∷ node ∷ []) = delivery pair number node
step_of directives.Start (eid ∷ number ∷ []) = mapped_step (λ v. steps.Start v.0 v.1) (both (eid_of eid) (place_of number))
step_of directives.Cancel fields = mapped_step steps.Cancel (only_eid_of fields)
step_of directives.Activate fields = mapped_step steps.Activate (only_eid_of fields)
step_of directives.Verdict (eid ∷ verdict ∷ []) = mapped_step (λ v. steps.Verdict v.0 v.1) (both (eid_of eid) (verdict_of verdict))
step_of directives.Restart fields = mapped_step steps.Restart (only_eid_of fields)
step_of directives.Miss fields = miss fields
step_of directives.Sel (request ∷ []) = request_step (bytes_of request)
step_of d fields = Err causes.Fields

-- the number of ticks: 1, or the given number
abbrev pub ticks_of : List (List ℕ) → Result ℕ ScriptCause
ticks_of [] = Ok 1
ticks_of (count ∷ []) = number_in 1 1000 count
ticks_of fields = Err causes.Fields

abbrev pub ticks : Result ℕ ScriptCause → Result (List Step) ScriptCause
ticks (Ok count) = Ok (repeat count (full_tick ∷ []))
ticks (Err cause) = Err cause

abbrev pub one_step : Result Step ScriptCause → Result (List Step) ScriptCause
one_step (Ok step) = Ok (step ∷ [])
one_step (Err cause) = Err cause

abbrev pub steps_of_directive : Directive → List (List ℕ) → Result (List Step) ScriptCause
steps_of_directive directives.Tick fields = ticks (ticks_of fields)
steps_of_directive d fields = one_step (step_of d fields)

abbrev pub steps_named : Option Directive → Option (List (List ℕ)) → Result (List Step) ScriptCause
steps_named None fields = Err causes.Directive
steps_named (Some d) None = Err causes.Fields
steps_named (Some d) (Some fields) = steps_of_directive d fields

-- the most fields of a line
abbrev pub most_fields : Option Directive → ℕ
most_fields None = 6
most_fields (Some directives.Tick) = 6
most_fields (Some directives.Miss) = 17
most_fields (Some directives.Deliver) = 6
most_fields (Some directives.Start) = 6
most_fields (Some directives.Cancel) = 6
most_fields (Some directives.Activate) = 6
most_fields (Some directives.Verdict) = 6
most_fields (Some directives.Restart) = 6
most_fields (Some directives.Sel) = 6

abbrev pub steps_in : List (List ℕ) → Result (List Step) ScriptCause
steps_in [] = Err causes.Directive
steps_in (name ∷ fields) = steps_named (directive_of name) (fields_in (most_fields (directive_of name)) fields)

-- the steps of a line
unfoldable pub steps_of : List ℕ → Result (List Step) ScriptCause
steps_of line = if is_skipped line then Ok [] else steps_in (words_of line)

-- steps, then those that follow
abbrev pub steps_then : List Step → Result (List Step) ScriptFault → Result (List Step) ScriptFault
steps_then steps (Ok more) = Ok (steps ++ more)
steps_then steps (Err fault) = Err fault

-- a line's steps, then those of the lines that follow
abbrev pub then_lines : ℕ → Result (List Step) ScriptCause → Result (List Step) ScriptFault → Result (List Step) ScriptFault
then_lines number (Ok steps) rest = steps_then steps rest
then_lines number (Err cause) rest = Err (record { line = number; cause = cause })

-- the steps of lines, of which the first has number `number`
abbrev pub script_from : ℕ → List (List ℕ) → Result (List Step) ScriptFault
script_from number [] = Ok []
script_from number (line ∷ lines) = then_lines number (steps_of line) (script_from (number + 1) lines)

-- the steps of a text, or its first line with a fault, and the fault
abbrev pub script_of : List ℕ → Result (List Step) ScriptFault
script_of text = script_from 1 (lines_of text)

-- these steps, then a line's
abbrev pub with_line : List Step → Result (List Step) ScriptCause → Result (List Step) ScriptCause
with_line steps (Ok more) = Ok (steps ++ more)
with_line steps (Err cause) = Err cause
