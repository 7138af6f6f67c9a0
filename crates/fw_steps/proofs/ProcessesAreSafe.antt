-- If the calls of separate processes are those of one run, the headline holds for their nodes
-- (`processes_are_safe`).
use Rattle.std.proofs.Common.{◌≡◌, ◌∙◌, ℕ, List, [], Option, Some, None, IfSome, IsSomeAnd, sym, ap, subst}
use Rattle.ua_core.specs.Session.{TimedOf}
use Rattle.fw_message.specs.Headline.{IsSafeAndTied}
use Rattle.fw_message.specs.Pairs.{PairOf}
use Rattle.fw_message.specs.WorldLaws.{history_of}
use Rattle.fw_node.specs.Agents.{AgentOf, half_for}
use Rattle.fw_node.specs.Halves.{HalfOf}
use Rattle.fw_node.specs.Nodes.{DeviceNodeOf}
use Rattle.fw_steps.specs.Alone.{DeviceCall, ProcessesAreSafe, agent_after_calls, device_after_calls, pair_of_nodes}
use Rattle.fw_message.specs.Laws.{shown_pair}
use Rattle.fw_steps.specs.Promises.{PacketsAreSafe}
use Rattle.fw_steps.specs.Worlds.{SiteOf, WorldOf, pair_for, pair_with, site_for}
use Rattle.fw_steps.proofs.PacketsAreSafe.Safe.{pairs_safe}
use Rattle.fw_steps.proofs.NodesAlone.{agent_is_alone, devices_are_alone}

-- A property of a pair of a world is a property of the two nodes alone.
ends_are : (agent : AgentOf) (eid : ℕ) (o : Option SiteOf) (n : DeviceNodeOf) (P : PairOf → Type 0) → IsSomeAnd o (λ y. y.node ≡ n)
    → IsSomeAnd (pair_with (half_for agent eid) o) P → IsSomeAnd (pair_of_nodes agent eid n) P
ends_are agent eid None n P e k = absurd e
ends_are agent eid (Some y) n P e k = with_half (half_for agent eid) k
  where
    with_half : (h : Option (HalfOf TimedOf)) → IsSomeAnd (pair_with h (Some y)) P → IsSomeAnd (pair_with h (Some (record { node = n; since_miss = 8; packets = [] }))) P
    with_half None k = absurd k
    with_half (Some h) k = subst (λ (q : DeviceNodeOf). P (record { device = q.half.core.device; session = h.core.session; down = None; up = None })) e k

-- so it is one of the nodes at the end of a run
safe_ends : (opening v : WorldOf) (eid : ℕ) (x : SiteOf) (m : PairOf) (agent : AgentOf) (n : DeviceNodeOf) → v.agent ≡ agent → IsSomeAnd (site_for v.sites eid) (λ y. y.node ≡ n)
    → IsSomeAnd (pair_for v eid) (λ p. IsSafeAndTied opening.packages (shown_pair m []) (shown_pair p (history_of eid v.history)))
    → IsSomeAnd (pair_of_nodes agent eid n) (λ p. IsSafeAndTied opening.packages (shown_pair m []) (shown_pair p (history_of eid v.history)))
safe_ends opening v eid x m agent n same there k =
    ends_are agent eid (site_for v.sites eid) n (λ p. IsSafeAndTied opening.packages (shown_pair m []) (shown_pair p (history_of eid v.history))) there
    (subst (λ (a : AgentOf). IsSomeAnd (pair_with (half_for a eid) (site_for v.sites eid)) (λ p. IsSafeAndTied opening.packages (shown_pair m []) (shown_pair p (history_of eid v.history)))) same k)

-- for a device and a pair that the opening world has
at_site : (opening v : WorldOf) (eid : ℕ) (m : PairOf) (agent : AgentOf) (after : SiteOf → DeviceNodeOf) (o : Option SiteOf) → v.agent ≡ agent
    → IfSome o (λ x. IsSomeAnd (site_for v.sites eid) (λ y. y.node ≡ after x))
    → IsSomeAnd (pair_for v eid) (λ p. IsSafeAndTied opening.packages (shown_pair m []) (shown_pair p (history_of eid v.history)))
    → IfSome o (λ x. IsSomeAnd (pair_of_nodes agent eid (after x)) (λ n. IsSafeAndTied opening.packages (shown_pair m []) (shown_pair n (history_of eid v.history))))
at_site opening v eid m agent after None same there k = tt
at_site opening v eid m agent after (Some x) same there k = safe_ends opening v eid x m agent (after x) same there k

pub at_pair : (opening v : WorldOf) (eid : ℕ) (agent : AgentOf) (after : SiteOf → DeviceNodeOf) (o : Option PairOf) → v.agent ≡ agent
    → IfSome (site_for opening.sites eid) (λ x. IsSomeAnd (site_for v.sites eid) (λ y. y.node ≡ after x))
    → IfSome o (λ m. IsSomeAnd (pair_for v eid) (λ p. IsSafeAndTied opening.packages (shown_pair m []) (shown_pair p (history_of eid v.history))))
    → IfSome o (λ m. IfSome (site_for opening.sites eid) (λ x. IsSomeAnd (pair_of_nodes agent eid (after x)) (λ n. IsSafeAndTied opening.packages (shown_pair m []) (shown_pair n (history_of eid v.history)))))
at_pair opening v eid agent after None same there k = tt
at_pair opening v eid agent after (Some m) same there k = at_site opening v eid m agent after (site_for opening.sites eid) same there k

pub processes_are_safe : PacketsAreSafe → ProcessesAreSafe
processes_are_safe safe opening v ss run eid of_agent of_device opens parts =
    at_pair opening v eid (agent_after_calls opening.packages opening.agent of_agent) (λ (x : SiteOf). device_after_calls x.node of_device) (pair_for opening eid)
    (agent_is_alone opening v ss run ∙ ap (agent_after_calls opening.packages opening.agent) (sym parts.agent))
    (subst (λ (cs : List DeviceCall). IfSome (site_for opening.sites eid) (λ x. IsSomeAnd (site_for v.sites eid) (λ y. y.node ≡ device_after_calls x.node cs))) (sym parts.device)
    (devices_are_alone eid opening v ss run))
    (pairs_safe safe opening v ss opens run eid)
