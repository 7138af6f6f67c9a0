-- A received packet that is found may be delivered.
use Rattle.std.proofs.Common.{◌≡◌, ◌≤◌, ◌+◌, ◌-◌, ◌==◌, ◌&&◌, ◌||◌, ◌∙◌, ◌⊎◌, ℕ, List, [], true, false, if◌then◌else◌, nat_lt, Bool, Option, Some, None, inl, inr, refl, slice_get, ap, arith}
use Rattle.std.specs.Prelude.{IsSomeAnd, is_some}
use Rattle.std.proofs.lemmas.Bool.{eq-eqb}
use Rattle.std.proofs.lemmas.Bool.Decides.{nat_tests}
use Rattle.std.proofs.Math.Bool.{or-true}
use Rattle.exch_lane.specs.Lanes.{Sent, item_numbered}
use Rattle.fw_steps.specs.Steps.{is_device, is_node, may_step, packet_fault, where_known}
use Rattle.fw_steps.specs.Worlds.{SiteOf, WorldOf, packets_at, packets_of, site_for}
use Rattle.fw_steps.specs.declared.step.Step.TheVariants as steps
use Rattle.fw_edge.specs.Hearing.{IsHeard, IsLiving, LivesWith}

-- a packet belongs to an existing device
no_packet : (now : ℕ) (bytes : List ℕ) (b : Bool) (place : ℕ) → IsSomeAnd (if b then slice_get {X = Sent} [] place else None) (LivesWith now bytes) → ⊥
no_packet now bytes true place h = h
no_packet now bytes false place h = h

site_there : (now : ℕ) (bytes : List ℕ) (x : Option SiteOf) (number : ℕ) → IsLiving now (packets_at x) bytes number → is_some x ≡ true
site_there now bytes None number h = absurd (no_packet now bytes (nat_lt 0 number) (number - 1) h)
site_there now bytes (Some x) number h = refl

living_fault : (now : ℕ) (bytes : List ℕ) (p : Option Sent) → IsSomeAnd p (λ q. (now ≤ q.date + 8) × (q.bytes ≡ bytes)) → packet_fault now p ≡ None
living_fault now bytes None h = absurd h
living_fault now bytes (Some p) h = let le = h.0 in grind (arith, nat_tests)

node_there : (w : WorldOf) (device node : ℕ) → is_device w device ≡ true → (node ≡ w.agent.endpoint.eid) ⊎ (node ≡ device) → is_node w node ≡ true
node_there w device node there (inl own) = rw (eq-eqb node w.agent.endpoint.eid own) refl
node_there w device node there (inr its) = ap (λ d. (node == w.agent.endpoint.eid) || is_device w d) its ∙ ap (λ b. (node == w.agent.endpoint.eid) || b) there ∙ or-true (node == w.agent.endpoint.eid)

pub may_deliver : (w : WorldOf) (device number node : ℕ) (bytes : List ℕ) → IsHeard w device bytes (Some number) → (node ≡ w.agent.endpoint.eid) ⊎ (node ≡ device)
    → may_step w (steps.Deliver device number node) ≡ None
may_deliver w device number node bytes h at =
    let there : is_device w device ≡ true = site_there w.now bytes (site_for w.sites device) number h.0 in
    let known : (is_device w device && is_node w node) ≡ true = ap (λ b. b && is_node w node) there ∙ node_there w device node there at in
    ap (λ b. where_known b (packet_fault w.now (item_numbered (packets_of w device) number))) known ∙ living_fault w.now bytes (item_numbered (packets_of w device) number) h.0
