-- An opening world matches an opening world over whole messages.
use Rattle.std.proofs.Common.{◌≡◌, ◌≢◌, ◌∙◌, ℕ, zero, suc, List, [], ◌∷◌, map, slice_get, Some, refl, sym, ap, subst}
use Rattle.std.specs.List.{All, AllByRecursion}
use Rattle.std.proofs.lemmas.List.Elements.{All-cons, All-nil}
use Rattle.mctp_wire.specs.declared.unit.Unit.{«Unit»}
use Rattle.mctp_ctl.specs.declared.answers.Endpoint.{Endpoint}
use Rattle.exch_lane.specs.Lanes.{IsEid}
use Rattle.exch_lane.specs.Laws.{LaneIsACell}
use Rattle.fd_core.specs.States.{Phase}
use Rattle.fw_message.specs.Laws.{IsUnapplied}
use Rattle.fw_message.specs.WorldLaws.{IsOpeningNode}
use Rattle.fw_message.specs.WorldLaws.{IsOpeningMessageWorld as IsOpeningMessages}
use Rattle.ua_core.specs.Calls.{new_session}
use Rattle.fw_node.specs.Agents.{new_half}
use Rattle.fw_node.specs.Halves.{HalfOf}
use Rattle.fw_node.specs.Nodes.{DeviceNodeOf, new_device_node}
use Rattle.fw_package.specs.Package.{PackageText}
use Rattle.ua_core.specs.Session.{TimedOf}
use Rattle.fw_steps.specs.Opening.{AreDifferent, AreNewNodes, IsNewNode, IsOpeningWorld, new_site, new_world, unit_of}
use Rattle.fw_steps.specs.Links.{LinkOf}
use Rattle.fw_message.specs.Worlds.{NodeOf}
use Rattle.fw_steps.specs.Widths.{HasDeviceWidths, HavePackageWidths, HasPairWidths}
use Rattle.fw_steps.specs.Worlds.{SiteOf, WorldOf}
use Rattle.fw_steps.proofs.LinksAreMessages.Each.{eid_of}
use Rattle.fw_steps.proofs.LinksAreMessages.Worlds.{AreNewLinks, IsNewLink, new_world_stands, opening_node, reaches_first}
use Rattle.fw_steps.proofs.LinksAreLanes.AgentTicks.{half_peer}
use Rattle.fw_steps.proofs.LinksAreLanes.Keys.{eids_of}
use Rattle.fw_steps.proofs.LinksAreLanes.Listed.{every, links_in, links_of}
use Rattle.fw_steps.proofs.LinksAreLanes.Openings.{IsNewHalf}
use Rattle.fw_steps.proofs.LinksAreLanes.Posting.{site_eid}
use Rattle.fw_steps.proofs.PacketsAreSafe.SafeStands.{AreOwn, Stand, messages_of}

-- the agent's halves, the devices, and their links
abbrev node_eid : DeviceNodeOf → ℕ
node_eid n = n.endpoint.eid

abbrev pub halves_for : «Unit» → ℕ → List DeviceNodeOf → List (HalfOf TimedOf)
halves_for u agent nodes = map (new_half u agent) (map node_eid nodes)

abbrev pub sites_for : List DeviceNodeOf → List SiteOf
sites_for nodes = map new_site nodes

abbrev pub links_for : «Unit» → ℕ → List DeviceNodeOf → List LinkOf
links_for u agent nodes = links_in 8 (halves_for u agent nodes) (sites_for nodes)

-- ONE NODE

node_own : (u : «Unit») (agent : ℕ) (n : DeviceNodeOf) → IsNewNode u agent n → n.half.own ≡ n.endpoint.eid
node_own u agent n k = ap (λ (m : DeviceNodeOf). m.half.own) k.is

node_peer : (u : «Unit») (agent : ℕ) (n : DeviceNodeOf) → IsNewNode u agent n → n.half.peer ≡ agent
node_peer u agent n k = ap (λ (m : DeviceNodeOf). m.half.peer) k.is

node_new : (u : «Unit») (agent : ℕ) (n : DeviceNodeOf) → IsNewNode u agent n → IsNewHalf n.half
node_new u agent n k = subst (λ (m : DeviceNodeOf). IsNewHalf m.half) (sym k.is) (record { asker = refl; taker = refl })

abbrev link_for : «Unit» → ℕ → DeviceNodeOf → LinkOf
link_for u agent n = record { agent = new_half u agent n.endpoint.eid; device = n.half; packets = []; agent_since_miss = 8; device_since_miss = 8 }

new_link : (u : «Unit») (agent : ℕ) (n : DeviceNodeOf) → IsEid agent → IsNewNode u agent n → agent ≢ n.endpoint.eid → IsNewLink (link_for u agent n)
new_link u agent n eid k far = record {
  unit = ap (λ (m : DeviceNodeOf). m.half.unit) k.is ∙ k.unit;
  session_unit = refl;
  ends = record { asker = eid; taker = subst IsEid (sym (node_own u agent n k)) k.eid; differ = λ z. far (z ∙ node_own u agent n k) };
  peer = sym (node_own u agent n k);
  back = node_peer u agent n k;
  agent = record { asker = refl; taker = refl };
  device = node_new u agent n k;
  none = refl;
  agent_misses = refl;
  device_misses = refl;
}

opening_by : (u : «Unit») (agent : ℕ) (n m : DeviceNodeOf) → n ≡ m → n.half.core.device.unit ≡ u → m.half.core.device.phase ≡ Phase.Idle → All IsUnapplied m.half.core.device.rows → IsOpeningNode (opening_node (link_for u agent n))
opening_by u agent n m e unit idle unapplied = record {
  idle = ap (λ (x : DeviceNodeOf). x.half.core.device.phase) e ∙ idle;
  unapplied = subst (λ (x : DeviceNodeOf). All IsUnapplied x.half.core.device.rows) (sym e) unapplied;
  session = ap (λ v. (new_session v).session) (sym unit);
  down = refl;
  up = refl;
  entries = refl;
}

-- ALL NODES

pub same_peers : (u : «Unit») (agent : ℕ) (nodes : List DeviceNodeOf) → map half_peer (halves_for u agent nodes) ≡ map site_eid (sites_for nodes)
same_peers u agent [] = refl
same_peers u agent (n ∷ ns) = ap (λ xs. n.endpoint.eid ∷ xs) (same_peers u agent ns)

same_eids : (nodes : List DeviceNodeOf) → map site_eid (sites_for nodes) ≡ map node_eid nodes
same_eids [] = refl
same_eids (n ∷ ns) = ap (λ xs. n.endpoint.eid ∷ xs) (same_eids ns)

pub same_nodes : (u : «Unit») (agent : ℕ) (nodes : List DeviceNodeOf) → AllByRecursion (IsNewNode u agent) nodes → map eid_of (map opening_node (links_for u agent nodes)) ≡ map site_eid (sites_for nodes)
same_nodes u agent [] k = refl
same_nodes u agent (n ∷ ns) k = ap (λ e. e ∷ map eid_of (map opening_node (links_for u agent ns))) (node_own u agent n k.0) ∙ ap (λ xs. n.endpoint.eid ∷ xs) (same_nodes u agent ns k.1)

new_links : (u : «Unit») (agent : ℕ) (nodes : List DeviceNodeOf) → IsEid agent → AllByRecursion (IsNewNode u agent) nodes → AllByRecursion (λ y. agent ≢ y) (map node_eid nodes) → AreNewLinks (links_for u agent nodes)
new_links u agent [] eid k far = tt
new_links u agent (n ∷ ns) eid k far = (new_link u agent n eid k.0 far.0, new_links u agent ns eid k.1 far.1)

-- a new link has its nodes' identifiers, and hears
record IsOwnNew (agent eid : ℕ) (l : LinkOf) : Type 0 where
  agent_is : l.agent.own ≡ agent
  device_is : l.device.own ≡ eid
  hears : l.agent.asker.deaf ≡ 0

own_new : (u : «Unit») (agent : ℕ) (nodes : List DeviceNodeOf) → AllByRecursion (IsNewNode u agent) nodes → (i eid : ℕ) (l : LinkOf) → slice_get (map site_eid (sites_for nodes)) i ≡ Some eid
    → slice_get (links_for u agent nodes) i ≡ Some l → IsOwnNew agent eid l
own_new u agent [] k i eid l e is = absurd (cc)
own_new u agent (n ∷ ns) k zero eid l e is =
    let same : link_for u agent n ≡ l = cc in
    let here : n.endpoint.eid ≡ eid = cc in
    subst (IsOwnNew agent eid) same (record { agent_is = refl; device_is = node_own u agent n k.0 ∙ here; hears = refl })
own_new u agent (n ∷ ns) k (suc i) eid l e is = own_new u agent ns k.1 i eid l e is

opening_nodes : (u : «Unit») (agent : ℕ) (nodes : List DeviceNodeOf) → AllByRecursion (IsNewNode u agent) nodes → All IsOpeningNode (map opening_node (links_for u agent nodes))
opening_nodes u agent [] k = All-nil IsOpeningNode
opening_nodes u agent (n ∷ ns) k =
    All-cons IsOpeningNode (opening_node (link_for u agent n)) (map opening_node (links_for u agent ns))
    (opening_by u agent n (new_device_node n.endpoint agent k.0.device) k.0.is (ap (λ (m : DeviceNodeOf). m.half.core.device.unit) k.0.is ∙ k.0.unit) k.0.idle k.0.unapplied) (opening_nodes u agent ns k.1)

-- the values of the nodes of new devices fit the fields of messages
new_speak : (packages : List PackageText) (u : «Unit») (agent : ℕ) (nodes : List DeviceNodeOf) → AllByRecursion (λ (n : DeviceNodeOf). HasDeviceWidths n.half.core.device) nodes → AllByRecursion (λ (n : NodeOf). HasPairWidths packages n.pair) (map opening_node (links_for u agent nodes))
new_speak packages u agent [] k = tt
new_speak packages u agent (n ∷ ns) k = (
  record { device = k.0; session = tt; down = tt },
  new_speak packages u agent ns k.1,
)

-- THE WORLD

new_own : (agent : Endpoint) (nodes : List DeviceNodeOf) (packages : List PackageText) → AreNewNodes agent.eid nodes → AreOwn (new_world agent nodes packages)
new_own agent nodes packages k = λ i eid l e is.
    let o = own_new (unit_of nodes) agent.eid nodes k.new i eid l e is in
    record { agent = o.agent_is; device = o.device_is; asking = o.hears }

new_stands : LaneIsACell → (agent : Endpoint) (nodes : List DeviceNodeOf) (packages : List PackageText) → AreNewNodes agent.eid nodes → HavePackageWidths packages → AllByRecursion (λ (n : DeviceNodeOf). HasDeviceWidths n.half.core.device) nodes → Stand (new_world agent nodes packages) (new_world agent nodes packages)
new_stands law agent nodes packages k speak devices =
    let w = new_world agent nodes packages in
    let apart : AreDifferent (agent.eid ∷ map site_eid (sites_for nodes)) = subst (λ es. AreDifferent (agent.eid ∷ es)) (sym (same_eids nodes)) k.apart in
    record {
      halves = same_peers (unit_of nodes) agent.eid nodes;
      apart = apart;
      devices = refl;
      own = new_own agent nodes packages k;
      messages = messages_of w;
      stands = new_world_stands law (links_of w) (messages_of w)
          (new_links (unit_of nodes) agent.eid nodes k.agent_eid k.new (every (λ y. agent.eid ≢ y) (map node_eid nodes) k.apart.0)) refl
          (subst AreDifferent (sym (same_nodes (unit_of nodes) agent.eid nodes k.new)) apart.1);
      packages = refl;
      agent = refl;
      history = refl;
      eids = same_nodes (unit_of nodes) agent.eid nodes k.new;
      reaches = reaches_first (messages_of w);
      speaks = record { packages = speak; pairs = new_speak packages (unit_of nodes) agent.eid nodes devices };
    }

-- An opening world matches its world of messages.
pub opening_stands : LaneIsACell → (w : WorldOf) → IsOpeningWorld w → Stand w w
opening_stands law w k = subst (λ x. Stand x x) (sym k.is) (new_stands law k.agent k.nodes w.packages k.are k.packages k.devices)

-- And that world of messages is an opening world.
pub opening_messages : (w : WorldOf) → IsOpeningWorld w → IsOpeningMessages (messages_of w)
opening_messages w k = subst (λ x. IsOpeningMessages (messages_of x)) (sym k.is) (record { nodes = opening_nodes (unit_of k.nodes) k.agent.eid k.nodes k.are.new; history = refl })

-- Its nodes are the devices.
pub opening_eids : (w : WorldOf) → IsOpeningWorld w → map eid_of (messages_of w).nodes ≡ eids_of w
opening_eids w k = subst (λ x. map eid_of (messages_of x).nodes ≡ eids_of x) (sym k.is) (same_nodes (unit_of k.nodes) k.agent.eid k.nodes k.are.new)
