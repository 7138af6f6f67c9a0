-- The counts of a run.
use Rattle.std.proofs.Common.{◌≡◌, ◌≤◌, ◌+◌, ◌++◌, ◌∙◌, ℕ, zero, suc, Bool, true, false, List, [], ◌∷◌, Option, Some, None, ap, arith, drop, filter, length, map, not, refl, replicate, slice_get, slice_set, sym, take}
use Rattle.std.proofs.Math.Seq.{set_out}
use Rattle.std.proofs.lemmas.List.Sums.{sum_by-append}
use Rattle.std.specs.List.{sum_by}
use Rattle.std.specs.Prelude.{option_map}
use Rattle.exch_lane.specs.Lanes.{Sent}
use Rattle.fw_node.specs.Nodes.{DeviceNodeOf}
use Rattle.fw_steps.specs.Worlds.{SiteOf}
use Rattle.fw_steps.specs.declared.step.Step.{Step}
use Rattle.fw_soak.specs.Counts.{capped_count, greater, greatest, longest_at, lost_at, marked_along, no_update, update_along}

-- a mark past the last changes nothing
pub unmarked_past : (marks : List Bool) (place : ℕ) → length marks ≤ place → slice_set marks place true ≡ marks
unmarked_past marks place h = set_out marks place true h

-- the item at a place comes after those before it
longer : {A : Type 0} (x : A) (xs : List A) (n : ℕ) → slice_get xs n ≡ Some x → take (suc n) xs ≡ take n xs ++ x ∷ []
longer x [] n e = absurd (cc)
longer x (y ∷ ys) zero e = let same : y ≡ x = cc in ap (λ z. z ∷ []) same
longer x (y ∷ ys) (suc n) e = ap (λ zs. y ∷ zs) (longer x ys n e)

shorter : {A : Type 0} (x : A) (xs : List A) (n : ℕ) → slice_get xs n ≡ Some x → drop n xs ≡ x ∷ drop (suc n) xs
shorter x [] n e = absurd (cc)
shorter x (y ∷ ys) zero e = let same : y ≡ x = cc in ap (λ z. z ∷ ys) same
shorter x (y ∷ ys) (suc n) e = shorter x ys n e

-- the packets of one more device
counted_more : (a b : ℕ) → capped_count (capped_count a + b) ≡ capped_count (a + b)
counted_more a b = omega arith

sum_more : (f : SiteOf → ℕ) (xs : List SiteOf) (i : ℕ) (x : SiteOf) → slice_get xs i ≡ Some x → sum_by f (take (i + 1) xs) ≡ sum_by f (take i xs) + f x
sum_more f xs i x e =
    let next : i + 1 ≡ suc i = omega arith in
    let alone : 0 + f x ≡ f x = omega arith in
    rw next (ap (sum_by f) (longer x xs i e) ∙ sum_by-append f (take i xs) (x ∷ []) ∙ ap (λ n. sum_by f (take i xs) + n) alone)

lost_by : (ss : List Step) (xs : List SiteOf) (i : ℕ) (o : Option SiteOf) (node : DeviceNodeOf) (ps : List Sent) (lost total : ℕ) → slice_get xs i ≡ o
    → option_map (λ x. x.node) o ≡ Some node → option_map (λ x. x.packets) o ≡ Some ps
    → lost ≡ length (filter not (marked_along node.endpoint.eid (replicate (length ps) false) ss)) → total ≡ capped_count (sum_by (lost_at ss) (take i xs))
    → capped_count (total + lost) ≡ capped_count (sum_by (lost_at ss) (take (i + 1) xs))
lost_by ss xs i None node ps lost total at is has told before = absurd (cc)
lost_by ss xs i (Some x) node ps lost total at is has told before =
    let same : x.node ≡ node = cc in
    let packets : x.packets ≡ ps = cc in
    let here : lost ≡ lost_at ss x =
    told ∙ sym (ap (λ n. length (filter not (marked_along n.endpoint.eid (replicate (length ps) false) ss))) same)
    ∙ sym (ap (λ qs. length (filter not (marked_along x.node.endpoint.eid (replicate (length qs) false) ss))) packets) in
    ap (λ t. capped_count (t + lost)) before ∙ counted_more (sum_by (lost_at ss) (take i xs)) lost
    ∙ ap (λ n. capped_count (sum_by (lost_at ss) (take i xs) + n)) here ∙ ap capped_count (sym (sum_more (lost_at ss) xs i x at))

pub lost_more : (ss : List Step) (xs : List SiteOf) (i : ℕ) (node : DeviceNodeOf) (ps : List Sent) (lost total : ℕ)
    → option_map (λ x. x.node) (slice_get xs i) ≡ Some node → option_map (λ x. x.packets) (slice_get xs i) ≡ Some ps
    → lost ≡ length (filter not (marked_along node.endpoint.eid (replicate (length ps) false) ss)) → total ≡ capped_count (sum_by (lost_at ss) (take i xs))
    → capped_count (total + lost) ≡ capped_count (sum_by (lost_at ss) (take (i + 1) xs))
lost_more ss xs i node ps lost total is has told before = lost_by ss xs i (slice_get xs i) node ps lost total refl is has told before

-- the updates of one more device
longest_by : (ss : List Step) (xs : List SiteOf) (i : ℕ) (o : Option SiteOf) (node : DeviceNodeOf) (here longest all : ℕ) → slice_get xs i ≡ o
    → option_map (λ x. x.node) o ≡ Some node → here ≡ (update_along node.endpoint.eid no_update ss).longest
    → greatest longest (map (longest_at ss) (drop i xs)) ≡ all → greatest (greater longest here) (map (longest_at ss) (drop (i + 1) xs)) ≡ all
longest_by ss xs i None node here longest all at is told before = absurd (cc)
longest_by ss xs i (Some x) node here longest all at is told before =
    let same : x.node ≡ node = cc in
    let next : i + 1 ≡ suc i = omega arith in
    let own : here ≡ longest_at ss x = told ∙ sym (ap (λ n. (update_along n.endpoint.eid no_update ss).longest) same) in
    rw next (ap (λ n. greatest (greater longest n) (map (longest_at ss) (drop (suc i) xs))) own
    ∙ sym (ap (λ ys. greatest longest (map (longest_at ss) ys)) (shorter x xs i at)) ∙ before)

pub longest_more : (ss : List Step) (xs : List SiteOf) (i : ℕ) (node : DeviceNodeOf) (here longest all : ℕ)
    → option_map (λ x. x.node) (slice_get xs i) ≡ Some node → here ≡ (update_along node.endpoint.eid no_update ss).longest
    → greatest longest (map (longest_at ss) (drop i xs)) ≡ all → greatest (greater longest here) (map (longest_at ss) (drop (i + 1) xs)) ≡ all
longest_more ss xs i node here longest all is told before = longest_by ss xs i (slice_get xs i) node here longest all refl is told before

pub ruleset counting = (lost_more, longest_more)
