-- The totals of many runs.
use Rattle.std.specs.Prelude.{ℕ, ◌≡◌, ◌+◌, Bool, if◌then◌else◌, IfSome, List, [], ◌∷◌, Option, Some, None, length, map}
use Rattle.std.specs.List.{AllByRecursion, sum_by}
use Rattle.fwupd_base.specs.declared.roughness.Roughness.{Roughness}
use Rattle.fw_steps.specs.declared.step.Step.{Step}
use Rattle.fw_soak.specs.Checking.{is_clean}
use Rattle.fw_soak.specs.Counts.{activations_in, capped_count, greater, greatest, longest_in, losses_in, restarts_in}
use Rattle.fw_soak.specs.Courses.{CourseOf, IsCourse, SetupOf}
use Rattle.fw_soak.specs.Turns.{AreSoakRuns}
use Rattle.fw_soak.specs.declared.summary.Summary.{Summary}

-- the checker finds the last world of a run clean
abbrev pub ends_clean : SetupOf → CourseOf → Bool
ends_clean s c = is_clean s.packages s.devices c.world

abbrev pub violates_if : (clean : Bool) → ℕ
violates_if clean = if clean then 0 else 1

abbrev pub violation_count : SetupOf → CourseOf → ℕ
violation_count s c = violates_if (ends_clean s c)

-- the steps of the first run that doesn't end clean
abbrev pub first_violation : SetupOf → List CourseOf → Option (List Step)
first_violation s [] = None
first_violation s (c ∷ cs) = if ends_clean s c then first_violation s cs else Some c.steps

-- before the first run
abbrev pub no_runs : Summary
no_runs = record { runs = 0; activations = 0; losses = 0; restarts = 0; longest = 0; violations = 0 }

-- with one more run, which ends clean or not
abbrev pub with_run : (clean : Bool) → Summary → CourseOf → Summary
with_run clean sum c =
    record {
      runs = capped_count (sum.runs + 1);
      activations = capped_count (sum.activations + activations_in c.world.history);
      losses = capped_count (sum.losses + capped_count (losses_in c));
      restarts = capped_count (sum.restarts + restarts_in c.steps);
      longest = greater sum.longest (longest_in c);
      violations = capped_count (sum.violations + violates_if clean);
    }

abbrev pub first_kept_with : (clean : Bool) → Option (List Step) → CourseOf → Option (List Step)
first_kept_with clean (Some steps) c = Some steps
first_kept_with clean None c = if clean then None else Some c.steps

-- These runs were made, each from the world before the first step, and `sum` are their totals.
pub record AreSummed (s : SetupOf) (cs : List CourseOf) (sum : Summary) : Type 0 where
  pub each : AllByRecursion (IsCourse s) cs
  pub runs : sum.runs ≡ capped_count (length cs)
  pub activations : sum.activations ≡ capped_count (sum_by (λ c. activations_in c.world.history) cs)
  pub losses : sum.losses ≡ capped_count (sum_by losses_in cs)
  pub restarts : sum.restarts ≡ capped_count (sum_by (λ c. restarts_in c.steps) cs)
  pub longest : sum.longest ≡ greatest 0 (map longest_in cs)
  pub violations : sum.violations ≡ capped_count (sum_by (violation_count s) cs)

-- `runs` runs were made, `sum` are their totals, and `kept` are the steps of the first violation.
pub record SoakOk (s : SetupOf) (runs : ℕ) (sum : Summary) (kept : Option (List Step)) : Type 0 where
  pub courses : List CourseOf
  pub made : length courses ≡ runs
  pub summed : AreSummed s courses sum
  pub first : kept ≡ first_violation s courses

-- the totals after more runs
abbrev pub totals_after : SetupOf → Summary → List CourseOf → Summary
totals_after s sum [] = sum
totals_after s sum (c ∷ cs) = totals_after s (with_run (ends_clean s c) sum c) cs

-- what an observer has seen, the latest first, after it saw the totals after each of these runs
abbrev pub seen_after : SetupOf → Summary → (seen : List Summary) → List CourseOf → List Summary
seen_after s sum seen [] = seen
seen_after s sum seen (c ∷ cs) = seen_after s (with_run (ends_clean s c) sum c) (with_run (ends_clean s c) sum c ∷ seen) cs

-- As `SoakOk`. Course `k` is run `k` with this roughness, from 0; and the observer observed the
-- totals after each run, the last time the result. `old` and `new` are what it had seen before and
-- after, if that is known.
pub record SoaksRuns (s : SetupOf) (r : Roughness) (runs : ℕ) (sum : Summary) (kept : Option (List Step)) (old new : Option (List Summary)) : Type 0 where
  pub ok : SoakOk s runs sum kept
  pub drawn : AreSoakRuns s r 0 ok.courses
  pub totals : sum ≡ totals_after s no_runs ok.courses
  pub seen : IfSome old (λ seen. new ≡ Some (seen_after s no_runs seen ok.courses))
