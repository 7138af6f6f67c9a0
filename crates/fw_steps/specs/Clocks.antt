-- The law of clocks: the ticks that a node counts while units of time pass, from the steps alone.
use Rattle.std.specs.Prelude.{ℕ, ◌≡◌, ◌≤◌, ◌+◌, true, if◌then◌else◌, List, [], ◌∷◌}
use Rattle.exch_lane.specs.Clocks.{late}
use Rattle.fw_steps.specs.Opening.{IsOpeningWorld}
use Rattle.fw_steps.specs.Steps.{Run, is_node}
use Rattle.fw_steps.specs.Worlds.{WorldOf, counts}
use Rattle.fw_steps.specs.declared.step.Step.{Step}
use Rattle.fw_steps.specs.declared.step.Step.TheVariants as steps

-- the units that pass in a step, and in several
abbrev pub units_of : Step → ℕ
units_of (steps.Tick missed) = 1
units_of s = 0

abbrev pub units_passed : List Step → ℕ
units_passed [] = 0
units_passed (s ∷ ss) = units_of s + units_passed ss

-- the ticks that a node counts in them
abbrev pub ticks_in : (eid : ℕ) → Step → ℕ
ticks_in eid (steps.Tick missed) = if counts missed.items eid then 1 else 0
ticks_in eid s = 0

abbrev pub ticks_counted_by : (eid : ℕ) → List Step → ℕ
ticks_counted_by eid [] = 0
ticks_counted_by eid (s ∷ ss) = ticks_in eid s + ticks_counted_by eid ss

-- A node counts at most as many ticks as units pass. The units are at most its ticks, plus an
-- eighth of them, rounded down, plus one.
abbrev pub KeepsTime : (eid : ℕ) → List Step → Type 0
KeepsTime eid ss = (ticks_counted_by eid ss ≤ units_passed ss) × (units_passed ss ≤ late (ticks_counted_by eid ss))

-- Each node keeps time between any two moments of a run.
abbrev pub RunsKeepTime : Type 0
RunsKeepTime =
    (opening w v : WorldOf) (before ss : List Step) → IsOpeningWorld opening → Run opening before w → Run w ss v
    → (eid : ℕ) → is_node w eid ≡ true → KeepsTime eid ss
