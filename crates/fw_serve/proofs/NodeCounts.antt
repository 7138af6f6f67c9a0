-- The counts of an agent with a node.
use Rattle.std.proofs.Common.{◌≡◌, ◌∙◌, ◌<◌, ◌+◌, ◌++◌, ℕ, zero, suc, List, [], ◌∷◌, Option, Some, None, append-nil, ap, length, map, option_map, slice_get, take, refl, arith}
use Rattle.std.proofs.lemmas.List.{take_all}
use Rattle.ua_core.specs.Session.{TimedOf}
use Rattle.fw_node.specs.Halves.{HalfOf}
use Rattle.fw_script.specs.declared.reports.SentCount.{SentCount}
use Rattle.fw_serve.specs.Agents.{count_of_half, new_counts}

pub count_at : (o : Option (HalfOf TimedOf)) (device : ℕ) → Some device ≡ option_map (λ (h : HalfOf TimedOf). h.peer) o → count_of_half o ≡ record { device = device; count = 0 } ∷ []
count_at None device is = absurd (cc)
count_at (Some h) device is =
    let one : device ≡ h.peer = cc in
    rw one refl

pub no_count : (o : Option (HalfOf TimedOf)) → None ≡ option_map (λ (h : HalfOf TimedOf). h.peer) o → count_of_half o ≡ []
no_count None is = refl
no_count (Some h) is = absurd (cc)

pub ruleset half_found = (count_at, no_count, append-nil)

plus_one : (n : ℕ) → n + 1 ≡ suc n
plus_one n = omega arith

-- the counts of halves
abbrev pub halves_counts : List (HalfOf TimedOf) → List SentCount
halves_counts hs = new_counts (map (λ (h : HalfOf TimedOf). h.peer) hs)

counts_next : (hs : List (HalfOf TimedOf)) (i : ℕ) → i < length hs → halves_counts (take (suc i) hs) ≡ halves_counts (take i hs) ++ count_of_half (slice_get hs i)
counts_next [] i below = absurd (omega arith)
counts_next (h ∷ hs) zero below = refl
counts_next (h ∷ hs) (suc i) below = ap (λ cs. record { device = h.peer; count = 0 } ∷ cs) (counts_next hs i (omega arith))

pub counts_more : (hs : List (HalfOf TimedOf)) (i : ℕ) → i < length hs → halves_counts (take (i + 1) hs) ≡ halves_counts (take i hs) ++ count_of_half (slice_get hs i)
counts_more hs i below = ap (λ n. halves_counts (take n hs)) (plus_one i) ∙ counts_next hs i below

pub ruleset places = (counts_more, take_all)
