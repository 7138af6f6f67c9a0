-- One more run of a soak, and what its observer has seen.
use Rattle.std.proofs.Common.{◌≡◌, ◌∙◌, ◌+◌, ◌++◌, ℕ, suc, Bool, List, [], ◌∷◌, Option, Some, None, arith, ap, length, refl, subst, sym}
use Rattle.std.specs.Prelude.{IfSome}
use Rattle.fwupd_base.specs.declared.roughness.Roughness.{Roughness}
use Rattle.fw_steps.specs.declared.step.Step.{Step}
use Rattle.fw_soak.specs.Courses.{CourseOf, IsCourse, SetupOf}
use Rattle.fw_soak.specs.Summaries.{SoaksRuns, ends_clean, first_kept_with, no_runs, seen_after, totals_after, with_run}
use Rattle.fw_soak.specs.Turns.{AreSoakRuns, IsSoakRun}
use Rattle.fw_soak.specs.declared.summary.Summary.{Summary}
use Rattle.fw_soak.proofs.Summing.{first_more, length_more, summed_next, summed_none}

-- one more run
runs_more : (s : SetupOf) (r : Roughness) (from number : ℕ) (cs : List CourseOf) (c : CourseOf) → AreSoakRuns s r from cs → from + length cs ≡ number → IsSoakRun s r number c
    → AreSoakRuns s r from (cs ++ c ∷ [])
runs_more s r from number [] c h at k = let same : number ≡ from = omega arith in (subst (λ n. IsSoakRun s r n c) same k, tt)
runs_more s r from number (x ∷ cs) c h at k = (h.0, runs_more s r (suc from) number cs c h.1 (omega arith) k)

totals_more : (s : SetupOf) (sum : Summary) (cs : List CourseOf) (c : CourseOf) → totals_after s sum (cs ++ c ∷ []) ≡ with_run (ends_clean s c) (totals_after s sum cs) c
totals_more s sum [] c = refl
totals_more s sum (x ∷ cs) c = totals_more s (with_run (ends_clean s x) sum x) cs c

seen_more : (s : SetupOf) (sum : Summary) (seen : List Summary) (cs : List CourseOf) (c : CourseOf)
    → seen_after s sum seen (cs ++ c ∷ []) ≡ with_run (ends_clean s c) (totals_after s sum cs) c ∷ seen_after s sum seen cs
seen_more s sum seen [] c = refl
seen_more s sum seen (x ∷ cs) c = seen_more s (with_run (ends_clean s x) sum x) (with_run (ends_clean s x) sum x ∷ seen) cs c

-- what the observer has seen
seen_none : (s : SetupOf) (old : Option (List Summary)) → IfSome old (λ seen. old ≡ Some (seen_after s no_runs seen []))
seen_none s None = tt
seen_none s (Some seen) = refl

seen_next : (s : SetupOf) (cs : List CourseOf) (c : CourseOf) (sum : Summary) (old mid new : Option (List Summary)) → sum ≡ with_run (ends_clean s c) (totals_after s no_runs cs) c
    → IfSome old (λ seen. mid ≡ Some (seen_after s no_runs seen cs)) → IfSome mid (λ seen. new ≡ Some (sum ∷ seen))
    → IfSome old (λ seen. new ≡ Some (seen_after s no_runs seen (cs ++ c ∷ [])))
seen_next s cs c sum None mid new is h k = tt
seen_next s cs c sum (Some seen) None new is h k = absurd (cc)
seen_next s cs c sum (Some seen) (Some before) new is h k =
    let same : before ≡ seen_after s no_runs seen cs = cc in
    k ∙ ap (λ ss. Some (sum ∷ ss)) same ∙ ap (λ t. Some (t ∷ seen_after s no_runs seen cs)) is ∙ ap Some (sym (seen_more s no_runs seen cs c))

pub soaks_none : (s : SetupOf) (r : Roughness) (old : Option (List Summary)) → SoaksRuns s r 0 no_runs None old old
soaks_none s r old = record {
  ok = record { courses = []; made = refl; summed = summed_none s; first = refl };
  drawn = tt;
  totals = refl;
  seen = seen_none s old;
}

pub soaks_init : (s : SetupOf) (r : Roughness) (sum : Summary) (kept : Option (List Step)) (old : Option (List Summary)) → sum ≡ no_runs → kept ≡ None → SoaksRuns s r 0 sum kept old old
soaks_init s r sum kept old is none =
    subst (λ x. SoaksRuns s r 0 x kept old old) (sym is) (subst (λ o. SoaksRuns s r 0 no_runs o old old) (sym none) (soaks_none s r old))

pub soaks_all : (s : SetupOf) (r : Roughness) (n runs : ℕ) (sum : Summary) (kept : Option (List Step)) (old new : Option (List Summary)) → n ≡ runs → SoaksRuns s r n sum kept old new
    → SoaksRuns s r runs sum kept old new
soaks_all s r n runs sum kept old new e h = subst (λ m. SoaksRuns s r m sum kept old new) e h

soaks_more : (s : SetupOf) (r : Roughness) (n : ℕ) (sum : Summary) (kept : Option (List Step)) (old mid new : Option (List Summary)) (c : CourseOf) → SoaksRuns s r n sum kept old mid → IsCourse s c
    → IsSoakRun s r n c → IfSome mid (λ seen. new ≡ Some (with_run (ends_clean s c) sum c ∷ seen))
    → SoaksRuns s r (n + 1) (with_run (ends_clean s c) sum c) (first_kept_with (ends_clean s c) kept c) old new
soaks_more s r n sum kept old mid new c h k l see =
    let total : with_run (ends_clean s c) sum c ≡ with_run (ends_clean s c) (totals_after s no_runs h.ok.courses) c = ap (λ t. with_run (ends_clean s c) t c) h.totals in
    record {
      ok = record {
        courses = h.ok.courses ++ c ∷ [];
        made = length_more h.ok.courses c ∙ ap (λ m. m + 1) h.ok.made;
        summed = summed_next s h.ok.courses sum c h.ok.summed k;
        first = ap (λ o. first_kept_with (ends_clean s c) o c) h.ok.first ∙ sym (first_more s h.ok.courses c);
      };
      drawn = runs_more s r 0 n h.ok.courses c h.drawn (let made = h.ok.made in omega arith) l;
      totals = total ∙ sym (totals_more s no_runs h.ok.courses c);
      seen = seen_next s h.ok.courses c (with_run (ends_clean s c) sum c) old mid new total h.seen see;
    }

pub soaks_next : (s : SetupOf) (r : Roughness) (n : ℕ) (sum after : Summary) (kept kept_after : Option (List Step)) (old mid new : Option (List Summary)) (c : CourseOf) (clean : Bool)
    → SoaksRuns s r n sum kept old mid → IsCourse s c → IsSoakRun s r n c → clean ≡ ends_clean s c → after ≡ with_run clean sum c → kept_after ≡ first_kept_with clean kept c
    → IfSome mid (λ seen. new ≡ Some (after ∷ seen)) → SoaksRuns s r (n + 1) after kept_after old new
soaks_next s r n sum after kept kept_after old mid new c clean h k l is counted keeps see =
    let total : after ≡ with_run (ends_clean s c) sum c = counted ∙ ap (λ b. with_run b sum c) is in
    let first : kept_after ≡ first_kept_with (ends_clean s c) kept c = keeps ∙ ap (λ b. first_kept_with b kept c) is in
    subst (λ x. SoaksRuns s r (n + 1) x kept_after old new) (sym total)
    (subst (λ o. SoaksRuns s r (n + 1) (with_run (ends_clean s c) sum c) o old new) (sym first)
    (soaks_more s r n sum kept old mid new c h k l (subst (λ x. IfSome mid (λ seen. new ≡ Some (x ∷ seen))) total see)))
