-- The text written for steps, which reads back as these steps: one line for each step. Adjacent
-- ticks that no node misses share a line of at most 1000. The writer gets the steps one after
-- another, and holds back only a count of such ticks. The text doesn't depend on the portions in
-- which the steps are written.
use Rattle.std.specs.Prelude.{ℕ, ◌≡◌, ◌≤◌, ◌<◌, ◌+◌, ◌^◌, ◌==◌, Bool, false, if◌then◌else◌, List, [], ◌∷◌, ◌++◌, Ok, codes, decimal, length, map}
use Rattle.std.specs.List.{AllByRecursion, flat_map}
use Rattle.hex.specs.Hex.{IsBytes}
use Rattle.exch_lane.specs.Lanes.{IsEid}
use Rattle.fd_core.specs.declared.states.Verdict.{Verdict}
use Rattle.fd_core.specs.declared.states.Verdict.TheVariants as verdicts
use Rattle.fw_text.specs.Printing.{data_text}
use Rattle.fw_steps.specs.Opening.{AreDifferent}
use Rattle.fw_steps.specs.declared.step.Step.{Step}
use Rattle.fw_steps.specs.declared.step.Step.TheVariants as steps
use Rattle.fw_script.specs.Lines.{is_nothing}
use Rattle.fw_script.specs.Schedules.{script_of}

-- words, one space apart
unfoldable pub words_with_spaces : List (List ℕ) → List ℕ
words_with_spaces [] = []
words_with_spaces (word ∷ words) = word ++ flat_map (λ next. 32 ∷ next) words

-- the line of these words
abbrev pub line_of : List (List ℕ) → List ℕ
line_of words = words_with_spaces words ++ 10 ∷ []

abbrev pub verdict_word : Verdict → List ℕ
verdict_word verdicts.VerifyOk = codes "verify-ok"
verdict_word verdicts.VerifyFail = codes "verify-fail"
verdict_word verdicts.ApplyOk = codes "apply-ok"
verdict_word verdicts.ApplyFail = codes "apply-fail"

-- the words of a step; for a tick only if some node misses it
abbrev pub words_for : Step → List (List ℕ)
words_for (steps.Deliver pair number node) = codes "deliver" ∷ decimal pair ∷ decimal number ∷ decimal node ∷ []
words_for (steps.Tick missed) = codes "miss" ∷ map decimal missed.items
words_for (steps.Start device number) = codes "start" ∷ decimal device ∷ decimal number ∷ []
words_for (steps.Cancel device) = codes "cancel" ∷ decimal device ∷ []
words_for (steps.Activate device) = codes "activate" ∷ decimal device ∷ []
words_for (steps.Verdict device verdict) = codes "verdict" ∷ decimal device ∷ verdict_word verdict ∷ []
words_for (steps.Restart node) = codes "restart" ∷ decimal node ∷ []
words_for (steps.Sel request) = codes "sel" ∷ data_text request.items ∷ []

unfoldable pub step_text : Step → List ℕ
step_text step = line_of (words_for step)

-- the words of `count` ticks that no node misses, 1 to 1000
abbrev pub words_for_ticks : ℕ → List (List ℕ)
words_for_ticks count = if count == 1 then codes "tick" ∷ [] else codes "tick" ∷ decimal count ∷ []

-- their line; none for 0 ticks
unfoldable pub ticks_text : ℕ → List ℕ
ticks_text count = if count == 0 then [] else line_of (words_for_ticks count)

-- a tick that no node misses
abbrev pub is_idle : Step → Bool
is_idle (steps.Tick missed) = is_nothing missed.items
is_idle step = false

-- The count after one more such tick. The thousandth tick is written.
abbrev pub idle_after_tick : (idle : ℕ) → ℕ
idle_after_tick idle = if idle == 999 then 0 else idle + 1

abbrev pub text_with_tick : (idle : ℕ) → List ℕ
text_with_tick idle = if idle == 999 then ticks_text 1000 else []

-- the number of held-back ticks after a step
abbrev pub idle_after : (idle : ℕ) → Step → ℕ
idle_after idle step = if is_idle step then idle_after_tick idle else 0

-- the text written with a step: the held-back ticks first, if it is another step
abbrev pub text_with : (idle : ℕ) → Step → List ℕ
text_with idle step = if is_idle step then text_with_tick idle else ticks_text idle ++ step_text step

-- the same for a list of steps
abbrev pub idle_at : (idle : ℕ) → List Step → ℕ
idle_at idle [] = idle
idle_at idle (step ∷ steps) = idle_at (idle_after idle step) steps

abbrev pub text_of_steps : (idle : ℕ) → List Step → List ℕ
text_of_steps idle [] = []
text_of_steps idle (step ∷ steps) = text_with idle step ++ text_of_steps (idle_after idle step) steps

-- The text of a schedule: the text of its steps, then the line of the ticks held back at the end.
abbrev pub schedule_text : List Step → List ℕ
schedule_text steps = text_of_steps 0 steps ++ ticks_text (idle_at 0 steps)

-- STEPS THAT A SCHEDULE CAN ENCODE

-- delivering a packet: the pair's device, the packet's number, and the node
pub record IsDelivery (pair number node : ℕ) : Type 0 where
  pub of_pair : IsEid pair
  pub counted : number < 2 ^ 64
  pub to_node : IsEid node

-- starting an update of a device with package `number`
pub record IsStart (device number : ℕ) : Type 0 where
  pub of_device : IsEid device
  pub counted : number < 2 ^ 64

-- a tick that nodes miss: at most 17 of them, each once
pub record AreMissing (missed : List ℕ) : Type 0 where
  pub few : length missed ≤ 17
  pub nodes : AllByRecursion IsEid missed
  pub apart : AreDifferent missed

-- an event log request of at most 64 bytes
pub record IsLogRequest (request : List ℕ) : Type 0 where
  pub few : length request ≤ 64
  pub bytes : IsBytes request

abbrev pub StepRoundTrips : Step → Type 0
StepRoundTrips (steps.Deliver pair number node) = IsDelivery pair number node
StepRoundTrips (steps.Tick missed) = AreMissing missed.items
StepRoundTrips (steps.Start device number) = IsStart device number
StepRoundTrips (steps.Cancel device) = IsEid device
StepRoundTrips (steps.Activate device) = IsEid device
StepRoundTrips (steps.Verdict device verdict) = IsEid device
StepRoundTrips (steps.Restart node) = IsEid node
StepRoundTrips (steps.Sel request) = IsLogRequest request.items

abbrev pub StepsRoundTrip : List Step → Type 0
StepsRoundTrip steps = AllByRecursion StepRoundTrips steps

-- THE LAWS

-- The text of steps reads back as exactly these steps.
abbrev pub SchedulesReadBack : Type 0
SchedulesReadBack = (steps : List Step) → StepsRoundTrip steps → script_of (schedule_text steps) ≡ Ok steps

-- Every schedule reads as steps that a schedule can encode.
abbrev pub OnlyRoundTripsAreRead : Type 0
OnlyRoundTripsAreRead = (text : List ℕ) (steps : List Step) → script_of text ≡ Ok steps → StepsRoundTrip steps

-- Two portions of steps give the same text as both at once, and the same count of held-back ticks.
pub record IsSameInPortions (idle : ℕ) (first second : List Step) : Type 0 where
  pub text : text_of_steps idle (first ++ second) ≡ text_of_steps idle first ++ text_of_steps (idle_at idle first) second
  pub held : idle_at idle (first ++ second) ≡ idle_at (idle_at idle first) second

abbrev pub PortionsAreTheWhole : Type 0
PortionsAreTheWhole = (idle : ℕ) (first second : List Step) → IsSameInPortions idle first second
