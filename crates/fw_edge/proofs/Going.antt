-- Steps after steps.
use Rattle.std.proofs.Common.{◌≡◌, ◌+◌, ◌++◌, ◌∙◌, ℕ, List, [], ◌∷◌, true, append_assoc, append-nil, refl, sym, ap, subst, arith}
use Rattle.std.proofs.lemmas.List.Folds.{list_all-append}
use Rattle.std.proofs.lemmas.List.Sums.{sum_by-append}
use Rattle.fw_steps.specs.Steps.{StepsTo, Run}
use Rattle.fw_steps.specs.Worlds.{WorldOf}
use Rattle.fw_steps.specs.declared.step.Step.{Step}
use Rattle.fw_edge.specs.Drives.{AreDriven, Drives, DrivesCounted, deliver_in, delivers_in, is_driven, tick_in, ticks_in}

-- a run followed by a run is a run
pub run_append : (w v u : WorldOf) (ss ts : List Step) → Run w ss v → Run v ts u → Run w (ss ++ ts) u
run_append w v u [] ts e k = subst (λ x. Run x ts u) e k
run_append w v u (s ∷ ss) ts h k = (h.0, h.1, run_append h.0 v u ss ts h.2 k)

-- steps that a run takes by itself, followed by such steps, are such steps
pub driven_append : (ss ts : List Step) → AreDriven ss → AreDriven ts → AreDriven (ss ++ ts)
driven_append ss ts h k = rw (list_all-append is_driven ss ts, h) k

-- nothing is taken
pub drives_none : (w : WorldOf) (ss : List Step) → Drives w ss w ss
drives_none w ss = record { steps = []; appended = sym (append-nil ss); run = refl; driven = refl }

pub goes_none : (w : WorldOf) (ss : List Step) → DrivesCounted w ss w ss 0 0
goes_none w ss = record { drives = drives_none w ss; ticks_rise = omega arith; delivers_rise = omega arith }

-- nothing more is taken
pub drives_same : (w u v : WorldOf) (before mid after : List Step) → Drives w before u mid → v ≡ u → after ≡ mid → Drives w before v after
drives_same w u v before mid after h e l = subst (λ x. Drives w before x after) (sym e) (subst (Drives w before u) (sym l) h)

-- a step is taken
pub drives_step : (w v : WorldOf) (s : Step) (before after : List Step) → is_driven s ≡ true → StepsTo w s v → after ≡ before ++ s ∷ [] → Drives w before v after
drives_step w v s before after d h e = record { steps = s ∷ []; appended = e; run = (v, h, refl); driven = rw d refl }

pub goes_step : (w v : WorldOf) (s : Step) (before after : List Step) → is_driven s ≡ true → StepsTo w s v → after ≡ before ++ s ∷ [] → DrivesCounted w before v after (tick_in s) (deliver_in s)
goes_step w v s before after d h e = record {
  drives = drives_step w v s before after d h e;
  ticks_rise = ap ticks_in e ∙ sum_by-append tick_in before (s ∷ []) ∙ ap (λ n. ticks_in before + n) (omega arith);
  delivers_rise = ap delivers_in e ∙ sum_by-append deliver_in before (s ∷ []) ∙ ap (λ n. delivers_in before + n) (omega arith);
}

-- more steps are taken
pub drives_on : (w v u : WorldOf) (before mid after : List Step) → Drives w before v mid → Drives v mid u after → Drives w before u after
drives_on w v u before mid after h k = record {
  steps = h.steps ++ k.steps;
  appended = k.appended ∙ ap (λ ss. ss ++ k.steps) h.appended ∙ append_assoc before h.steps k.steps;
  run = run_append w v u h.steps k.steps h.run k.run;
  driven = driven_append h.steps k.steps h.driven k.driven;
}

pub goes_on : (w v u : WorldOf) (before mid after : List Step) (t d t1 d1 : ℕ) → DrivesCounted w before v mid t d → DrivesCounted v mid u after t1 d1 → DrivesCounted w before u after (t + t1) (d + d1)
goes_on w v u before mid after t d t1 d1 h k = record {
  drives = drives_on w v u before mid after h.drives k.drives;
  ticks_rise = let a = h.ticks_rise in let b = k.ticks_rise in omega arith;
  delivers_rise = let a = h.delivers_rise in let b = k.delivers_rise in omega arith;
}

-- and then other steps, as far as they were taken
pub goes_off : (w v u : WorldOf) (before mid after : List Step) (t d : ℕ) → DrivesCounted w before v mid t d → Drives v mid u after → Drives w before u after
goes_off w v u before mid after t d h k = drives_on w v u before mid after h.drives k

-- with the sums of both
pub goes_sum : (w v u : WorldOf) (before mid after : List Step) (t d t1 d1 t2 d2 : ℕ) → DrivesCounted w before v mid t d → DrivesCounted v mid u after t1 d1 → t2 ≡ t + t1 → d2 ≡ d + d1 → DrivesCounted w before u after t2 d2
goes_sum w v u before mid after t d t1 d1 t2 d2 h k ts ds = record {
  drives = drives_on w v u before mid after h.drives k.drives;
  ticks_rise = let a = h.ticks_rise in let b = k.ticks_rise in omega arith;
  delivers_rise = let a = h.delivers_rise in let b = k.delivers_rise in omega arith;
}
