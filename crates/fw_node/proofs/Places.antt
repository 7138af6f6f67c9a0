-- Places among the agent's halves.
use Rattle.std.proofs.Common.{◌≡◌, ◌∙◌, ◌==◌, ◌+◌, ℕ, zero, suc, if◌then◌else◌, List, [], ◌∷◌, map, slice_get, Option, Some, None, is_some, refl, ap}
use Rattle.std.specs.List.{AllByRecursion}
use Rattle.std.specs.Option.{option_map}
use Rattle.fw_node.specs.AgentViews.{half_in}
use Rattle.ua_core.specs.Session.{TimedOf}
use Rattle.fw_node.specs.Agents.{IsDeafFor, half_at, place_from, place_of}
use Rattle.fw_node.specs.declared.half.Half.{Half}

-- a place doesn't depend on for how long the agent is deaf
any_from : (a b n : ℕ) (ps : List (Half TimedOf)) (eid : ℕ) → place_from n (map (half_in a) ps) eid ≡ place_from n (map (half_in b) ps) eid
any_from a b n [] eid = refl
any_from a b n (p ∷ ps) eid = ap (λ o. if p.ends.asking.peer == eid then Some n else o) (any_from a b (n + 1) ps eid)

pub place_any : (a b : ℕ) (ps : List (Half TimedOf)) (eid : ℕ) → place_of (map (half_in a) ps) eid ≡ place_of (map (half_in b) ps) eid
place_any a b ps eid = any_from a b 0 ps eid

-- nor does the session there
core_there : (a b : ℕ) (ps : List (Half TimedOf)) (i : ℕ) → option_map (λ h. h.core) (slice_get (map (half_in a) ps) i) ≡ option_map (λ h. h.core) (slice_get (map (half_in b) ps) i)
core_there a b [] i = refl
core_there a b (p ∷ ps) zero = refl
core_there a b (p ∷ ps) (suc i) = core_there a b ps i

core_at : (a b : ℕ) (ps : List (Half TimedOf)) (o : Option ℕ) → option_map (λ h. h.core) (half_at (map (half_in a) ps) o) ≡ option_map (λ h. h.core) (half_at (map (half_in b) ps) o)
core_at a b ps None = refl
core_at a b ps (Some i) = core_there a b ps i

pub core_any : (a b : ℕ) (ps : List (Half TimedOf)) (eid : ℕ)
    → option_map (λ h. h.core) (half_at (map (half_in a) ps) (place_of (map (half_in a) ps) eid)) ≡ option_map (λ h. h.core) (half_at (map (half_in b) ps) (place_of (map (half_in b) ps) eid))
core_any a b ps eid =
    ap (λ o. option_map (λ h. h.core) (half_at (map (half_in a) ps) o)) (place_any a b ps eid) ∙ core_at a b ps (place_of (map (half_in b) ps) eid)

-- all halves are deaf for as long
pub deaf_alike : (deaf : ℕ) (ps : List (Half TimedOf)) → AllByRecursion (IsDeafFor deaf) (map (half_in deaf) ps)
deaf_alike deaf [] = tt
deaf_alike deaf (p ∷ ps) = (record { asker = refl; taker = refl }, deaf_alike deaf ps)

-- whether there is a value
pub known_alike : {A B C : Type 0} (f : A → C) (g : B → C) (a : Option A) (b : Option B) → option_map f a ≡ option_map g b → is_some a ≡ is_some b
known_alike f g None None e = refl
known_alike f g None (Some y) e = absurd (cc)
known_alike f g (Some x) None e = absurd (cc)
known_alike f g (Some x) (Some y) e = refl

pub ruleset places = (core_any)
