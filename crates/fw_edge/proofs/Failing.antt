-- Links of which one or none failed.
use Rattle.std.proofs.Common.{◌≡◌, ◌<◌, ◌+◌, ◌∙◌, ℕ, zero, suc, List, [], ◌∷◌, drop, get_or, inl, inr, length, map, slice_set, ap, subst, arith}
use Rattle.std.proofs.Math.Seq.{map-set_same}
use Rattle.fw_edge.specs.Ledgers.{ReportsFaultOfLinks, ReportsLinkFault, StopsAt}
use Rattle.fw_edge.specs.declared.driving.EdgeFault.{EdgeFault}

-- one link is replaced by another with the same count
pub same_from : {A B : Type 0} (f : A → B) (os : List B) (xs : List A) (i : ℕ) (d y : A) → map f xs ≡ os → f y ≡ f (get_or xs i d) → map f (slice_set xs i y) ≡ os
same_from f os xs i d y e same = map-set_same f xs i y d same ∙ e

-- the links after a place are unchanged, also after a call of the link at the place
behind_set : {A : Type 0} (i : ℕ) (xs os : List A) (y : A) → i < length xs → i < length os → drop i xs ≡ drop i os → drop (suc i) (slice_set xs i y) ≡ drop (suc i) os
behind_set i [] os y lt within e = absurd (omega arith)
behind_set i (x ∷ xs) [] y lt within e = absurd (omega arith)
behind_set zero (x ∷ xs) (o ∷ os) y lt within e = cc
behind_set (suc i) (x ∷ xs) (o ∷ os) y lt within e = behind_set i xs os y (omega arith) (omega arith) e

pub behind_next : {A : Type 0} (i : ℕ) (xs os : List A) (y : A) → i < length xs → i < length os → drop i xs ≡ drop i os → drop (i + 1) (slice_set xs i y) ≡ drop (i + 1) os
behind_next i xs os y lt within e = let next : suc i ≡ i + 1 = omega arith in subst (λ n. drop n (slice_set xs i y) ≡ drop n os) next (behind_set i xs os y lt within e)

-- the counts before the place are unchanged, and the call of the link there ended with this fault
pub stops_put : {A : Type 0} (e : EdgeFault) (f : A → ℕ) (i : ℕ) (xs os : List A) (d y : A) → i < length xs → i < length os → map f xs ≡ map f os → drop i xs ≡ drop i os
    → ReportsLinkFault e (f (get_or xs i d)) (f y) → StopsAt e f os (slice_set xs i y)
stops_put e f i [] os d y lt within kept behind told = absurd (omega arith)
stops_put e f i (x ∷ xs) [] d y lt within kept behind told = absurd (omega arith)
stops_put e f zero (x ∷ xs) (o ∷ os) d y lt within kept behind told =
    let same : x ≡ o = cc in
    let rest : xs ≡ os = cc in
    inl (subst (λ z. ReportsLinkFault e (f z) (f y)) same told, rest)
stops_put e f (suc i) (x ∷ xs) (o ∷ os) d y lt within kept behind told =
    let first : f x ≡ f o = cc in
    let rest : map f xs ≡ map f os = cc in
    inr (first, stops_put e f i xs os d y (omega arith) (omega arith) rest behind told)

-- the counts of all links are unchanged
both_same : (m n : ℕ) (ms ns : List ℕ) → n ≡ m → ns ≡ ms → n ∷ ns ≡ m ∷ ms
both_same m n ms ns e h = cc

pub told_at : {A : Type 0} (e : EdgeFault) (f : A → ℕ) (os ns : List A) → StopsAt e f os ns → ReportsFaultOfLinks e (map f os) (map f ns)
told_at e f [] ns h = absurd h
told_at e f (o ∷ os) [] h = absurd h
told_at e f (o ∷ os) (n ∷ ns) (inl h) = (λ is. inl (h.0.0 is, ap (map f) h.1), λ other. both_same (f o) (f n) (map f os) (map f ns) (h.0.1 other) (ap (map f) h.1))
told_at e f (o ∷ os) (n ∷ ns) (inr h) =
    let rest = told_at e f os ns h.1 in
    (λ is. inr (h.0, rest.0 is), λ other. both_same (f o) (f n) (map f os) (map f ns) h.0 (rest.1 other))
