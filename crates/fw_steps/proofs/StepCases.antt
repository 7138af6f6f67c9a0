-- The steps by hand, judged.
use Rattle.std.specs.Prelude.{ℕ, ◌≡◌, ◌∷◌, [], Bool, List, false, true}
use Rattle.std.proofs.Common.{ap, refl, sym}
use Rattle.fw_steps.specs.Isolation.{ConcernOf}
use Rattle.fw_steps.specs.StepCases.{ConcernsAreJudged, MemoryIsJudged}
use Rattle.fw_steps.specs.declared.step.Step.{Step}
use Rattle.fw_steps.specs.declared.step.Step.TheVariants as steps

-- the differences in the first of such steps: a packet's number, whether the device counts a tick,
-- and whether it is a tick
abbrev number_in : List ConcernOf → ℕ
number_in (ConcernOf.Takes (steps.Deliver device number node) ∷ cs) = number
number_in cs = 0

abbrev counts_in : List ConcernOf → Bool
counts_in (ConcernOf.Passes agent device ∷ cs) = device
counts_in cs = false

abbrev begins : List ConcernOf → Bool
begins [] = false
begins (c ∷ cs) = true

pub concerns_are_judged : ConcernsAreJudged
concerns_are_judged = record {
  whole = λ w. refl;
  foreign = λ w. refl;
  number = λ w e. absurd (let same : 1 ≡ 2 = ap number_in e in cc);
  missing = λ w e. absurd (let same : false ≡ true = ap counts_in e in cc);
  order = λ w e. absurd (let same : false ≡ true = ap counts_in e in cc);
  left_out = λ w e. absurd (let same : true ≡ false = ap begins e in cc);
}

pub memory_is_judged : MemoryIsJudged
memory_is_judged = record {
  deliver = refl;
  tick = refl;
  start = refl;
  apply = refl;
  apply_fails = refl;
  verify = refl;
  cancel = refl;
  activate = refl;
  restart = refl;
  log = refl;
}
