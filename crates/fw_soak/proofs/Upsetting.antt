-- An upset.
use Rattle.std.proofs.Common.{◌≡◌, ℕ, List, slice_get, subst}
use Rattle.rand_pcg.specs.Lcg.{Lcg}
use Rattle.fw_edge.specs.Fates.{word_after}
use Rattle.fw_soak.specs.Chances.{drawn_upset, generator_past}
use Rattle.fw_soak.specs.Turns.{DrawnOf, TriesIf, UpsetsOne, generator_after_kind, upset_place, upset_step}
use Rattle.fw_soak.specs.declared.decisions.Upset.{Upset}

pub upsets_one : (met : List ℕ) (a b : DrawnOf) (place : ℕ) (kind : Upset) (g : Lcg) → place ≡ upset_place a.course.world a.drawn → kind ≡ drawn_upset (word_after a.drawn) → g ≡ generator_past 2 a.drawn
    → TriesIf (upset_step kind a.course.world place (slice_get met place) g) a.course b.course → b.drawn ≡ generator_after_kind kind (slice_get met place) g → UpsetsOne met a b
upsets_one met a b place kind g at is past tries drawn = record {
  tries =
      subst (λ p. TriesIf (upset_step (drawn_upset (word_after a.drawn)) a.course.world p (slice_get met p) (generator_past 2 a.drawn)) a.course b.course) at
      (subst (λ k. TriesIf (upset_step k a.course.world place (slice_get met place) (generator_past 2 a.drawn)) a.course b.course) is
      (subst (λ h. TriesIf (upset_step kind a.course.world place (slice_get met place) h) a.course b.course) past tries));
  drawn =
      subst (λ p. b.drawn ≡ generator_after_kind (drawn_upset (word_after a.drawn)) (slice_get met p) (generator_past 2 a.drawn)) at
      (subst (λ k. b.drawn ≡ generator_after_kind k (slice_get met place) (generator_past 2 a.drawn)) is
      (subst (λ h. b.drawn ≡ generator_after_kind kind (slice_get met place) h) past drawn));
}
