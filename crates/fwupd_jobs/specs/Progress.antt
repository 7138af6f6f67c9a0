-- The progress of a soak.
use Rattle.std.specs.Prelude.{ℕ, ◌++◌, List, [], Option, None, Some, codes, decimal, if◌then◌else◌, is_some, nat_le}
use Rattle.std.specs.declared.time.Instant.{Instant}
use Rattle.fwupd_watch.specs.Refreshes.{text_if_due, shown_after, update_due}
use Rattle.fwupd_watch.specs.Terminals.{erasure_of}
use Rattle.fwupd_words.specs.declared.asked.Job.{Job}
use Rattle.fwupd_words.specs.declared.asked.Job.TheVariants as jobs

-- the number of runs that a job makes: those of a soak; another job makes none
abbrev pub runs_of_job : Job → ℕ
runs_of_job (jobs.Soak s) = s.order.runs
runs_of_job job = 0

-- the line after `runs` of `all` runs, in which `violations` violations were found; it overwrites
-- the line before it
abbrev pub soak_line : (runs all violations : ℕ) → List ℕ
soak_line runs all violations =
    codes "\r" ++ (decimal runs ++ (codes " of " ++ (decimal all ++ (codes " runs, " ++ (decimal violations ++ codes " violations        ")))))

-- What is written after `runs` of `all` runs: the line, if the display is due for an update, and
-- after the last run what erases the line that is shown.
abbrev pub soak_text : (all : ℕ) → (shown now : Option Instant) → (runs violations : ℕ) → List ℕ
soak_text all shown now runs violations =
    if nat_le all runs then erasure_of (is_some shown) else text_if_due (update_due shown now) (soak_line runs all violations)

-- the time of the last update then; none after the last run
abbrev pub soak_shown : (all : ℕ) → (shown now : Option Instant) → (runs : ℕ) → Option Instant
soak_shown all shown now runs = if nat_le all runs then None else shown_after shown (update_due shown now)
