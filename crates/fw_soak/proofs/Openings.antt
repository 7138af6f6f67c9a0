-- The state of a run before its first step.
use Rattle.std.proofs.Common.{◌≡◌, ◌*◌, ℕ, [], length, min, refl, subst}
use Rattle.std.specs.Prelude.{replicate}
use Rattle.fwupd_base.specs.declared.roughness.Roughness.{Roughness}
use Rattle.fw_soak.specs.Chances.{generator_of, generator_past}
use Rattle.fw_soak.specs.Courses.{CourseOf, SetupOf, opening_of}
use Rattle.fw_soak.specs.Turns.{IsSoakRun, SoakingOf, TakesTurnsIf, opened, soaking}
use Rattle.fw_soak.specs.declared.chances.Chances.{Chances}
use Rattle.fw_soak.specs.declared.traffic.Traffic.{Traffic}

opened_is : (s : SetupOf) (r : Roughness) (number devices : ℕ) (c : CourseOf) (t : Traffic) (g : Chances) → devices ≡ length s.devices → c ≡ record { steps = []; world = opening_of s }
    → t.met.items ≡ replicate devices 0 → t.late.items ≡ [] → t.roughness ≡ r → g.generator ≡ generator_past (2 * devices) (generator_of r.seed number)
    → soaking c t g ≡ opened s r number
opened_is s r number devices c t g count course met late rough drawn = cc

pub run_is : (s : SetupOf) (r : Roughness) (number devices packages : ℕ) (c : CourseOf) (t : Traffic) (g : Chances) (last : SoakingOf) → devices ≡ length s.devices → packages ≡ min (length s.packages) 255
    → c ≡ record { steps = []; world = opening_of s } → t.met.items ≡ replicate devices 0 → t.late.items ≡ [] → t.roughness ≡ r
    → g.generator ≡ generator_past (2 * devices) (generator_of r.seed number) → TakesTurnsIf packages (soaking c t g) last → IsSoakRun s r number last.course
run_is s r number devices packages c t g last count packs course met late rough drawn h = record {
  last = last;
  is = refl;
  turns =
      subst (λ n. TakesTurnsIf n (opened s r number) last) packs
      (subst (λ a. TakesTurnsIf packages a last) (opened_is s r number devices c t g count course met late rough drawn) h);
}
