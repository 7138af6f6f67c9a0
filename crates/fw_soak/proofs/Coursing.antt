-- A run continues.
use Rattle.std.proofs.Common.{◌≡◌, ◌++◌, [], ◌∷◌, refl, subst, sym}
use Rattle.fw_steps.specs.Steps.{StepsTo, Run}
use Rattle.fw_steps.specs.declared.step.Step.{Step}
use Rattle.fw_edge.proofs.Going.{run_append}
use Rattle.fw_soak.specs.Courses.{CourseOf, ContinuesRun, IsCourse, SetupOf, opening_of}

pub goes_none : (c : CourseOf) → ContinuesRun c c
goes_none c = record { goes = λ o h. h }

pub goes_on : (c d e : CourseOf) → ContinuesRun c d → ContinuesRun d e → ContinuesRun c e
goes_on c d e h k = record { goes = λ o run. k.goes o (h.goes o run) }

pub goes_step : (c d : CourseOf) (s : Step) → StepsTo c.world s d.world → d.steps ≡ c.steps ++ s ∷ [] → ContinuesRun c d
goes_step c d s l e = record {
  goes = λ o run. subst (λ ss. Run o ss d.world) (sym e) (run_append o c.world d.world c.steps (s ∷ []) run (d.world, l, refl));
}

-- a run that continues from no steps
pub goes_from : (s : SetupOf) (c d : CourseOf) → c.steps ≡ [] → c.world ≡ opening_of s → ContinuesRun c d → IsCourse s d
goes_from s c d none opening h = h.goes (opening_of s) (subst (λ ss. Run (opening_of s) ss c.world) (sym none) opening)

pub ruleset going = (goes_none, goes_on, goes_step)
