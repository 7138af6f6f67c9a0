-- One more run in the totals.
use Rattle.std.proofs.Common.{◌≡◌, ◌∙◌, ◌+◌, ◌++◌, ℕ, Bool, true, false, List, [], ◌∷◌, Option, Some, None, arith, ap, if◌then◌else◌, length, map, refl, subst, sym}
use Rattle.std.proofs.lemmas.List.{map-append}
use Rattle.std.proofs.lemmas.List.Sums.{sum_by-append}
use Rattle.std.specs.List.{AllByRecursion, sum_by}
use Rattle.fw_steps.specs.declared.step.Step.{Step}
use Rattle.fw_soak.specs.Counts.{activations_in, capped_count, greater, greatest, longest_in, losses_in, restarts_in}
use Rattle.fw_soak.specs.Courses.{CourseOf, IsCourse, SetupOf}
use Rattle.fw_soak.specs.Summaries.{AreSummed, SoakOk, ends_clean, first_violation, first_kept_with, no_runs, violation_count, with_run}
use Rattle.fw_soak.specs.declared.summary.Summary.{Summary}

-- counts that stop at their last value
counted_more : (a b : ℕ) → capped_count (capped_count a + b) ≡ capped_count (a + b)
counted_more a b = omega arith

counted_both : (a b : ℕ) → capped_count (capped_count a + capped_count b) ≡ capped_count (a + b)
counted_both a b = omega arith

summed_more : (f : CourseOf → ℕ) (cs : List CourseOf) (c : CourseOf) → sum_by f (cs ++ c ∷ []) ≡ sum_by f cs + f c
summed_more f cs c = sum_by-append f cs (c ∷ []) ∙ ap (λ n. sum_by f cs + n) (omega arith)

total_more : (f : CourseOf → ℕ) (cs : List CourseOf) (c : CourseOf) (total : ℕ) → total ≡ capped_count (sum_by f cs) → capped_count (total + f c) ≡ capped_count (sum_by f (cs ++ c ∷ []))
total_more f cs c total h = ap (λ t. capped_count (t + f c)) h ∙ counted_more (sum_by f cs) (f c) ∙ ap capped_count (sym (summed_more f cs c))

pub length_more : (cs : List CourseOf) (c : CourseOf) → length (cs ++ c ∷ []) ≡ length cs + 1
length_more [] c = refl
length_more (x ∷ cs) c = let e = length_more cs c in omega arith

greatest_more : (n : ℕ) (ms : List ℕ) (m : ℕ) → greatest n (ms ++ m ∷ []) ≡ greater (greatest n ms) m
greatest_more n [] m = refl
greatest_more n (k ∷ ms) m = greatest_more (greater n k) ms m

all_more : (P : CourseOf → Type 0) (cs : List CourseOf) (c : CourseOf) → AllByRecursion P cs → P c → AllByRecursion P (cs ++ c ∷ [])
all_more P [] c h k = (k, tt)
all_more P (x ∷ cs) c h k = (h.0, all_more P cs c h.1 k)

-- the first run that doesn't end clean
first_if : (b clean : Bool) (x c : CourseOf) (before after : Option (List Step)) → after ≡ first_kept_with clean before c
    → (if b then after else Some x.steps) ≡ first_kept_with clean (if b then before else Some x.steps) c
first_if true clean x c before after h = h
first_if false clean x c before after h = refl

pub first_more : (s : SetupOf) (cs : List CourseOf) (c : CourseOf) → first_violation s (cs ++ c ∷ []) ≡ first_kept_with (ends_clean s c) (first_violation s cs) c
first_more s [] c = refl
first_more s (x ∷ cs) c = first_if (ends_clean s x) (ends_clean s c) x c (first_violation s cs) (first_violation s (cs ++ c ∷ [])) (first_more s cs c)

-- no run is kept if all end clean
none_if : (b : Bool) (steps : List Step) (rest : Option (List Step)) (n : ℕ) → (if b then rest else Some steps) ≡ None → (rest ≡ None → n ≡ 0) → (if b then 0 else 1) + n ≡ 0
none_if true steps rest n e h = let zero_rest = h e in omega arith
none_if false steps rest n e h = absurd (let k : Some steps ≡ None = e in cc)

none_wrong : (s : SetupOf) (cs : List CourseOf) → first_violation s cs ≡ None → sum_by (violation_count s) cs ≡ 0
none_wrong s [] e = refl
none_wrong s (c ∷ cs) e =
    let alone : 0 + violation_count s c ≡ violation_count s c = omega arith in
    sum_by-append (violation_count s) (c ∷ []) cs ∙ ap (λ n. n + sum_by (violation_count s) cs) alone
    ∙ none_if (ends_clean s c) c.steps (first_violation s cs) (sum_by (violation_count s) cs) e (none_wrong s cs)

pub soaked_clean : (s : SetupOf) (n : ℕ) (sum : Summary) (kept : Option (List Step)) → SoakOk s n sum kept → kept ≡ None → sum.violations ≡ 0
soaked_clean s n sum kept h e = h.summed.violations ∙ ap capped_count (none_wrong s h.courses (sym h.first ∙ e))

pub summed_none : (s : SetupOf) → AreSummed s [] no_runs
summed_none s = record {
  each = tt;
  runs = refl;
  activations = refl;
  losses = refl;
  restarts = refl;
  longest = refl;
  violations = refl;
}

pub soaked_none : (s : SetupOf) → SoakOk s 0 no_runs None
soaked_none s = record { courses = []; made = refl; summed = summed_none s; first = refl }

pub summed_next : (s : SetupOf) (cs : List CourseOf) (sum : Summary) (c : CourseOf) → AreSummed s cs sum → IsCourse s c → AreSummed s (cs ++ c ∷ []) (with_run (ends_clean s c) sum c)
summed_next s cs sum c t k = record {
  each = all_more (IsCourse s) cs c t.each k;
  runs = ap (λ m. capped_count (m + 1)) t.runs ∙ counted_more (length cs) 1 ∙ ap capped_count (sym (length_more cs c));
  activations = total_more (λ x. activations_in x.world.history) cs c sum.activations t.activations;
  losses =
      ap (λ m. capped_count (m + capped_count (losses_in c))) t.losses ∙ counted_both (sum_by losses_in cs) (losses_in c)
      ∙ ap capped_count (sym (summed_more losses_in cs c));
  restarts = total_more (λ x. restarts_in x.steps) cs c sum.restarts t.restarts;
  longest =
      ap (λ m. greater m (longest_in c)) t.longest ∙ sym (greatest_more 0 (map longest_in cs) (longest_in c))
      ∙ ap (greatest 0) (sym (map-append longest_in cs (c ∷ [])));
  violations = total_more (violation_count s) cs c sum.violations t.violations;
}

pub soaked_more : (s : SetupOf) (n : ℕ) (sum : Summary) (kept : Option (List Step)) (c : CourseOf) → SoakOk s n sum kept → IsCourse s c
    → SoakOk s (n + 1) (with_run (ends_clean s c) sum c) (first_kept_with (ends_clean s c) kept c)
soaked_more s n sum kept c h k = record {
  courses = h.courses ++ c ∷ [];
  made = length_more h.courses c ∙ ap (λ m. m + 1) h.made;
  summed = summed_next s h.courses sum c h.summed k;
  first = ap (λ o. first_kept_with (ends_clean s c) o c) h.first ∙ sym (first_more s h.courses c);
}

pub soaked_next : (s : SetupOf) (n : ℕ) (sum after : Summary) (kept kept_after : Option (List Step)) (c : CourseOf) (clean : Bool) → SoakOk s n sum kept → IsCourse s c
    → clean ≡ ends_clean s c → after ≡ with_run clean sum c → kept_after ≡ first_kept_with clean kept c → SoakOk s (n + 1) after kept_after
soaked_next s n sum after kept kept_after c clean h k is counted keeps =
    subst (λ x. SoakOk s (n + 1) x kept_after) (sym (counted ∙ ap (λ b. with_run b sum c) is))
    (subst (λ o. SoakOk s (n + 1) (with_run (ends_clean s c) sum c) o) (sym (keeps ∙ ap (λ b. first_kept_with b kept c) is)) (soaked_more s n sum kept c h k))

pub ruleset summing = (soaked_none, soaked_next, soaked_clean)
