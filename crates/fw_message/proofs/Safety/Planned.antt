-- A recorded component is of the plan of its package.
use Rattle.std.specs.Prelude.{◌≡◌, ℕ, ◌||◌, nat_lt, Bool, true, false, if◌then◌else◌, List, [], ◌∷◌, length, map, Contains, Ok, Err, slice_index_or}
use Rattle.std.proofs.Common.{refl, sym, subst, ◌∙◌, ap, arith}
use Prim.Native.Nat.{suc, zero}
use Rattle.std.proofs.lemmas.List.{length-map}
use Rattle.fw_package.specs.Choice.{has_large_image, has_long_text, has_twin, plan_of, record_at}
use Rattle.fw_package.specs.Laws.{PlansNamedImages}
use Rattle.fw_package.specs.Package.{DescriptorOf, PackageText}
use Rattle.fw_package.specs.declared.fault.PlanFault.TheVariants.{DuplicateComponent, ImageTooLarge, TextTooLong, TooManyComponents}
use Rattle.ua_core.specs.Laws.{IsTask, number_of}
use Rattle.ua_core.specs.Lent.{key_of, package_at}
use Rattle.ua_core.specs.Session.{TaskOf}
use Rattle.ua_core.specs.declared.planned.Planned.{Planned}
use Rattle.fw_message.specs.Headline.{IsNamedComponent}
use Rattle.fw_message.proofs.Safety.Agreement.{IsChosen, at_hand}
use Rattle.fw_message.proofs.Safety.Applied.{Names}

at_map : (is : List Planned) (k : ℕ) (i : Planned) → slice_index_or (map number_of is) k (number_of i) ≡ number_of (slice_index_or is k i)
at_map [] k i = refl
at_map (x ∷ is) zero i = refl
at_map (x ∷ is) (suc k) i = at_map is k i

contains_number : (is : List Planned) (i : Planned) → Contains is i → Contains (map number_of is) (number_of i)
contains_number is i h =
    let long : length (map number_of is) ≡ length is = length-map is number_of in
    let lt = h.1 in
    (h.0, omega arith, at_map is h.0 i ∙ ap number_of h.2)

-- a plan is the list of the record's components
plan_uses : (p : PackageText) (number : ℕ) (ns : List ℕ) → plan_of p number ≡ Ok ns → (record_at p number).uses ≡ ns
unfolding plan_of
plan_uses p number ns e =
    tested (has_twin p (record_at p number).uses) (nat_lt 8 (length (record_at p number).uses)) (has_large_image p (record_at p number).uses)
    (nat_lt 200 (length (record_at p number).set_text.bytes) || has_long_text p (record_at p number).uses) (record_at p number).uses e
  where
    tested : (a b c d : Bool) (uses : List ℕ)
        → (if a then Err DuplicateComponent else if b then Err TooManyComponents else if c then Err ImageTooLarge else if d then Err TextTooLong else Ok uses) ≡ Ok ns
        → uses ≡ ns
    tested true b c d uses e = absurd (cc)
    tested false true c d uses e = absurd (cc)
    tested false false true d uses e = absurd (cc)
    tested false false false true uses e = absurd (cc)
    tested false false false false uses e = cc

pub task_names : (law : PlansNamedImages) (ps : List PackageText) (ds : List DescriptorOf) (n : ℕ) (t : TaskOf)
    → IsChosen (package_at ps n) ds t.job → IsTask (package_at ps n) t
    → Names ps ds n (key_of (at_hand (package_at ps n) t)) (at_hand (package_at ps n) t).image
unfolding Names
task_names law ps ds n t c h =
    law (package_at ps n) ds t.job.chosen t.at_hand.component (map number_of t.job.plan) c h.0 (contains_number t.job.plan t.at_hand h.1)

pub task_named : (ps : List PackageText) (ds : List DescriptorOf) (n : ℕ) (t : TaskOf) → IsChosen (package_at ps n) ds t.job
    → IsTask (package_at ps n) t
    → IsNamedComponent ps ds (record { «package» = n; component = t.at_hand.component })
task_named ps ds n t c h =
    rw c (subst (λ (ns : List ℕ). Contains ns t.at_hand.component) (sym (plan_uses (package_at ps n) t.job.chosen (map number_of t.job.plan) h.0)) (contains_number t.job.plan t.at_hand h.1))
