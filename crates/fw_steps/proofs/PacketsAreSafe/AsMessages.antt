-- A run of packets is a run of whole messages.
use Rattle.std.proofs.Common.{◌≡◌, ◌≢◌, ◌∙◌, ℕ, List, [], ◌∷◌, map, None, refl, ap, subst, sym}
use Rattle.std.specs.List.{AllByRecursion}
use Rattle.std.proofs.lemmas.Bool.{ne_eqb}
use Rattle.mctp_wire.specs.declared.unit.Unit.{«Unit»}
use Rattle.mctp_ctl.specs.declared.answers.Endpoint.{Endpoint}
use Rattle.exch_lane.specs.Laws.{LaneIsACell}
use Rattle.fw_package.specs.Package.{PackageText}
use Rattle.ua_core.specs.Session.{TimedOf}
use Rattle.fw_message.specs.Worlds.{NodeOf, node_at}
use Rattle.fw_message.proofs.Counted.{named_run, no_failures}
use Rattle.fw_node.specs.Agents.{new_half}
use Rattle.fw_node.specs.Halves.{HalfOf}
use Rattle.fw_node.specs.Nodes.{DeviceNodeOf}
use Rattle.fw_steps.specs.Opening.{AreNewNodes, IsOpeningWorld, new_world, unit_of}
use Rattle.fw_steps.specs.Promises.{PacketsAreMessages}
use Rattle.fw_steps.specs.LinksAreMessages.{LinksAreMessages}
use Rattle.fw_steps.specs.LinksAreLanes.{LinksAreLanes}
use Rattle.fw_steps.specs.Messages.{IsSameWorld}
use Rattle.fw_steps.specs.Worlds.{SiteOf, WorldOf}
use Rattle.fw_steps.proofs.LinksAreMessages.Each.{AllStand, eid_of}
use Rattle.fw_steps.proofs.LinksAreMessages.Worlds.{opening_node}
use Rattle.fw_steps.proofs.LinksAreLanes.AgentTicks.{half_peer}
use Rattle.fw_steps.proofs.LinksAreLanes.Keys.{eids_of}
use Rattle.fw_steps.proofs.LinksAreLanes.Listed.{every, links_in}
use Rattle.fw_steps.proofs.LinksAreLanes.Posting.{site_eid}
use Rattle.fw_steps.proofs.PacketsAreSafe.Safe.{stand_along}
use Rattle.fw_steps.proofs.PacketsAreSafe.SafeOpening.{halves_for, links_for, opening_eids, opening_messages, opening_stands, same_nodes, same_peers, sites_for}
use Rattle.fw_steps.proofs.PacketsAreSafe.SafeStands.{Stand, messages_of}

-- a world that matches the links has their devices and sessions
same_devices : (since : ℕ) (packages : List PackageText) (now : ℕ) (hs : List (HalfOf TimedOf)) (xs : List SiteOf) (ns : List NodeOf) → map half_peer hs ≡ map site_eid xs
    → AllStand packages now (links_in since hs xs) ns → map (λ n. n.pair.device) ns ≡ map (λ x. x.node.half.core.device) xs
same_devices since packages now [] [] [] same k = refl
same_devices since packages now (h ∷ hs) (x ∷ xs) (n ∷ ns) same k =
    let rest : map half_peer hs ≡ map site_eid xs = cc in
    rw (k.0.joined.device, same_devices _ packages now hs xs ns rest k.1) refl
same_devices since packages now [] (x ∷ xs) ns same k = absurd (cc)
same_devices since packages now (h ∷ hs) [] ns same k = absurd (cc)
same_devices since packages now [] [] (n ∷ ns) same k = absurd k
same_devices since packages now (h ∷ hs) (x ∷ xs) [] same k = absurd k

same_sessions : (since : ℕ) (packages : List PackageText) (now : ℕ) (hs : List (HalfOf TimedOf)) (xs : List SiteOf) (ns : List NodeOf) → map half_peer hs ≡ map site_eid xs
    → AllStand packages now (links_in since hs xs) ns → map (λ n. n.pair.session) ns ≡ map (λ h. h.core.session) hs
same_sessions since packages now [] [] [] same k = refl
same_sessions since packages now (h ∷ hs) (x ∷ xs) (n ∷ ns) same k =
    let rest : map half_peer hs ≡ map site_eid xs = cc in
    rw (k.0.joined.session, same_sessions _ packages now hs xs ns rest k.1) refl
same_sessions since packages now [] (x ∷ xs) ns same k = absurd (cc)
same_sessions since packages now (h ∷ hs) [] ns same k = absurd (cc)
same_sessions since packages now [] [] (n ∷ ns) same k = absurd k
same_sessions since packages now (h ∷ hs) (x ∷ xs) [] same k = absurd k

same_world : (opening w : WorldOf) → (k : Stand opening w) → IsSameWorld w k.messages
same_world opening w k = record {
  packages = k.packages;
  agent = k.agent;
  eids = k.eids;
  devices = same_devices _ k.messages.packages w.now w.agent.halves w.sites k.messages.nodes k.halves k.stands.stand;
  peers = k.eids ∙ sym k.halves;
  sessions = same_sessions _ k.messages.packages w.now w.agent.halves w.sites k.messages.nodes k.halves k.stands.stand;
  history = k.history;
}

-- THE OPENING

abbrev opening_nodes : «Unit» → ℕ → List DeviceNodeOf → List NodeOf
opening_nodes u agent nodes = map opening_node (links_for u agent nodes)

first_devices : (u : «Unit») (agent : ℕ) (nodes : List DeviceNodeOf) → map (λ n. n.pair.device) (opening_nodes u agent nodes) ≡ map (λ x. x.node.half.core.device) (sites_for nodes)
first_devices u agent [] = refl
first_devices u agent (n ∷ ns) = ap (λ ds. n.half.core.device ∷ ds) (first_devices u agent ns)

first_sessions : (u : «Unit») (agent : ℕ) (nodes : List DeviceNodeOf) → map (λ n. n.pair.session) (opening_nodes u agent nodes) ≡ map (λ h. h.core.session) (halves_for u agent nodes)
first_sessions u agent [] = refl
first_sessions u agent (n ∷ ns) = ap (λ ss. (new_half u agent n.endpoint.eid).core.session ∷ ss) (first_sessions u agent ns)

same_first : (agent : Endpoint) (nodes : List DeviceNodeOf) (packages : List PackageText) → AreNewNodes agent.eid nodes
    → IsSameWorld (new_world agent nodes packages) (messages_of (new_world agent nodes packages))
same_first agent nodes packages k =
    let eids = same_nodes (unit_of nodes) agent.eid nodes k.new in
    record {
      packages = refl;
      agent = refl;
      eids = eids;
      devices = first_devices (unit_of nodes) agent.eid nodes;
      peers = eids ∙ sym (same_peers (unit_of nodes) agent.eid nodes);
      sessions = first_sessions (unit_of nodes) agent.eid nodes;
      history = refl;
    }

same_opening : (w : WorldOf) → IsOpeningWorld w → IsSameWorld w (messages_of w)
same_opening w is = subst (λ x. IsSameWorld x (messages_of x)) (sym is.is) (same_first is.agent is.nodes w.packages is.are)

-- the agent is none of its devices
absent : (ns : List NodeOf) (eid : ℕ) → AllByRecursion (λ y. eid ≢ y) (map eid_of ns) → node_at ns eid ≡ None
absent [] eid far = refl
absent (n ∷ ns) eid far = rw (ne_eqb n.eid eid (λ z. far.0 (sym z))) (absent ns eid far.1)

agent_absent : (opening : WorldOf) → IsOpeningWorld opening → Stand opening opening → node_at (messages_of opening).nodes opening.agent.endpoint.eid ≡ None
agent_absent opening is begins =
    absent (messages_of opening).nodes opening.agent.endpoint.eid
    (subst (AllByRecursion (λ y. opening.agent.endpoint.eid ≢ y)) (sym (opening_eids opening is)) (every (λ y. opening.agent.endpoint.eid ≢ y) (eids_of opening) begins.apart.0))

-- ALL RUNS

pub runs_are_messages : LaneIsACell → LinksAreLanes → LinksAreMessages → PacketsAreMessages
runs_are_messages law lanes messages opening w steps is run =
    let begins = opening_stands law opening is in
    let k = stand_along law lanes messages opening opening w steps begins run in
    let named = named_run (messages_of opening) k.messages k.reaches.steps (agent_absent opening is begins) k.reaches.named k.reaches.along in
    record {
      first = no_failures (messages_of opening);
      begins = opening_messages opening is;
      from = same_opening opening is;
      steps = named.names;
      last = record { world = k.messages; faults = named.faults };
      run = named.run;
      to = same_world opening w k;
    }
