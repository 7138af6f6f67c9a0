-- Sessions that are over.
use Rattle.std.proofs.Common.{◌≡◌, ◌+◌, ◌∙◌, ℕ, zero, suc, List, [], ◌∷◌, ◌&&◌, drop, false, slice_get, true, Bool, Some, sym, ap, arith}
use Rattle.std.specs.Prelude.{option_map}
use Rattle.fw_node.specs.Agents.{AgentOf, half_for}
use Rattle.fw_node.specs.Nodes.{DeviceNodeOf}
use Rattle.fw_steps.specs.Worlds.{SiteOf}
use Rattle.fw_edge.specs.Drives.{are_over, is_over}

-- at a place, and after it
over_next : (n : AgentOf) (xs : List SiteOf) (i : ℕ) (node : DeviceNodeOf) → option_map (λ x. x.node) (slice_get xs i) ≡ Some node
    → are_over n (drop i xs) ≡ (is_over (half_for n node.endpoint.eid) && are_over n (drop (suc i) xs))
over_next n [] i node e = absurd (cc)
over_next n (x ∷ xs) zero node e = let same : x.node ≡ node = cc in ap (λ m. is_over (half_for n m.endpoint.eid) && are_over n xs) same
over_next n (x ∷ xs) (suc i) node e = over_next n xs i node e

pub over_at : (n : AgentOf) (xs : List SiteOf) (i : ℕ) (node : DeviceNodeOf) → option_map (λ x. x.node) (slice_get xs i) ≡ Some node
    → are_over n (drop i xs) ≡ (is_over (half_for n node.endpoint.eid) && are_over n (drop (i + 1) xs))
over_at n xs i node e = let next : suc i ≡ i + 1 = omega arith in over_next n xs i node e ∙ ap (λ k. is_over (half_for n node.endpoint.eid) && are_over n (drop k xs)) next

-- one session isn't over
pub is_not_over : (n : AgentOf) (xs : List SiteOf) (i : ℕ) (node : DeviceNodeOf) (all : Bool) → option_map (λ x. x.node) (slice_get xs i) ≡ Some node
    → is_over (half_for n node.endpoint.eid) ≡ false → all ≡ are_over n (drop i xs) → false ≡ all
is_not_over n xs i node all at is_not e = sym (e ∙ over_at n xs i node at ∙ ap (λ b. b && are_over n (drop (i + 1) xs)) is_not)

-- one session is over, so the result is that of the others
pub over_later : (n : AgentOf) (xs : List SiteOf) (i : ℕ) (node : DeviceNodeOf) (all : Bool) → option_map (λ x. x.node) (slice_get xs i) ≡ Some node
    → is_over (half_for n node.endpoint.eid) ≡ true → all ≡ are_over n (drop i xs) → all ≡ are_over n (drop (i + 1) xs)
over_later n xs i node all at is e = e ∙ over_at n xs i node at ∙ ap (λ b. b && are_over n (drop (i + 1) xs)) is
