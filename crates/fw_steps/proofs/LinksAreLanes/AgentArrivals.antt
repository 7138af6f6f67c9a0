-- A packet that is delivered to the agent, on the link of each device.
use Rattle.std.proofs.Common.{◌≡◌, ◌≢◌, ◌∙◌, ◌==◌, ℕ, true, if◌then◌else◌, List, [], ◌++◌, Option, Some, None, Ok, inl, inr, refl, sym, ap, subst}
use Rattle.std.specs.List.{AllByRecursion, filter}
use Rattle.std.specs.Option.{option_map}
use Rattle.std.proofs.lemmas.Bool.{eq-eqb, ne_eqb}
use Rattle.std.proofs.lemmas.Bool.Decides.{eqb_tells}
use Rattle.mctp_wire.specs.declared.layout.Head.{Head}
use Rattle.pldm_base.specs.declared.terminus.Role.TheVariants as roles
use Rattle.pldm_exch.specs.Sides.{asker_row, taker_row}
use Rattle.ua_core.specs.Session.{TimedOf}
use Rattle.fw_node.specs.Agents.{any_packet, AgentOf, agent_on_packet, agent_unmoved, half_at, half_for, agent_on_packet_at, place_of as half_place}
use Rattle.fw_node.specs.Cores.{session_core}
use Rattle.fw_node.specs.Halves.{HalfOf, half_on_packet}
use Rattle.fw_node.specs.Nodes.{node_outcome_of}
use Rattle.fw_node.specs.Packets.{all_packets}
use Rattle.fw_package.specs.Package.{PackageText}
use Rattle.fw_steps.specs.Links.{LinkOf, packets_with_messages}
use Rattle.fw_steps.specs.Worlds.{SiteOf, WorldOf, at_agent, posts, sent_now, site_for}
use Rattle.fw_steps.proofs.LinksAreLanes.AgentTicks.{half_put}
use Rattle.fw_steps.proofs.LinksAreLanes.Arrivals.{finished_half, finished_peer, finished_sent, rows_peer}
use Rattle.fw_steps.proofs.LinksAreLanes.Firsts.{put_at}
use Rattle.fw_steps.proofs.LinksAreLanes.Hears.{IsPassed, half_in, sent_in}
use Rattle.fw_steps.proofs.LinksAreLanes.Posting.{all_mine, is_to, none_behind, none_mine, posts_at, with_packets}
use Rattle.fw_steps.proofs.LinksAreLanes.Projection.{link_at, link_from}
use Rattle.fw_steps.proofs.LinksAreLanes.Sendings.{GoesTo}
use Rattle.fw_steps.proofs.LinksAreLanes.Sorted.{posted_behind}

-- The agent drops a packet if it is deaf, or if the packet is from no device.
unmoved_at : (w : WorldOf) (bytes : List ℕ) (eid : ℕ) → agent_on_packet w.packages w.agent bytes w.now ≡ agent_unmoved w.agent → link_at (at_agent w bytes) eid ≡ link_at w eid
unmoved_at w bytes eid e = ap (λ n. link_from w.since_miss (half_for n.agent eid) (site_for (posts w.now w.sites n.sent) eid)) e

pub deaf_agent_at : (w : WorldOf) (bytes : List ℕ) (eid : ℕ) → w.agent.deaf ≢ 0 → link_at (at_agent w bytes) eid ≡ link_at w eid
deaf_agent_at w bytes eid deaf = unmoved_at w bytes eid (rw (ne_eqb w.agent.deaf 0 deaf) refl)

-- a hearing agent, by the sender of the packet
pub heard_from : (w : WorldOf) (bytes : List ℕ) (p : Head × List ℕ) → w.agent.deaf ≡ 0 → any_packet bytes ≡ Ok p
    → agent_on_packet w.packages w.agent bytes w.now ≡ agent_on_packet_at w.packages w.agent bytes w.now (half_place w.agent.halves p.0.source) (half_for w.agent p.0.source)
heard_from w bytes p hears reads = rw (eq-eqb w.agent.deaf 0 hears, reads) refl

pub unheard : (packages : List PackageText) (n : AgentOf) (bytes : List ℕ) (now : ℕ) (o : Option ℕ) (s : Option (HalfOf TimedOf)) → s ≡ None → agent_on_packet_at packages n bytes now o s ≡ agent_unmoved n
unheard packages n bytes now None s e = refl
unheard packages n bytes now (Some place) None e = refl
unheard packages n bytes now (Some place) (Some h) e = absurd (cc)

pub stranger_at : (w : WorldOf) (bytes : List ℕ) (p : Head × List ℕ) (eid : ℕ) → w.agent.deaf ≡ 0 → any_packet bytes ≡ Ok p → half_for w.agent p.0.source ≡ None
    → link_at (at_agent w bytes) eid ≡ link_at w eid
stranger_at w bytes p eid hears reads none =
    unmoved_at w bytes eid (heard_from w bytes p hears reads ∙ unheard w.packages w.agent bytes w.now (half_place w.agent.halves p.0.source) (half_for w.agent p.0.source) none)

-- the half that handles it
abbrev pub heard_half : WorldOf → List ℕ → HalfOf TimedOf → HalfOf TimedOf
heard_half w bytes h = (node_outcome_of roles.Agent w.agent.endpoint w.agent.tid (half_on_packet (session_core w.packages) true h bytes)).half

pub heard_half_peer : (w : WorldOf) (bytes : List ℕ) (h : HalfOf TimedOf) → (heard_half w bytes h).peer ≡ h.peer
heard_half_peer w bytes h =
    finished_peer roles.Agent w.agent.endpoint w.agent.tid (half_on_packet (session_core w.packages) true h bytes)
    ∙ rows_peer (session_core w.packages) true h (asker_row h.unit h.own h.peer h.asker bytes) (taker_row h.unit h.own h.peer h.taker bytes)

pub hears_put : (w : WorldOf) (bytes : List ℕ) (o : Option ℕ) (s : Option (HalfOf TimedOf))
    → (agent_on_packet_at w.packages w.agent bytes w.now o s).agent.halves ≡ put_at (heard_half w bytes) w.agent.halves o s
hears_put w bytes None s = refl
hears_put w bytes (Some place) None = refl
hears_put w bytes (Some place) (Some h) = refl

hears_sends : (w : WorldOf) (bytes : List ℕ) (o : Option ℕ) (s : Option (HalfOf TimedOf)) (h : HalfOf TimedOf) → half_at w.agent.halves o ≡ s → s ≡ Some h
    → (agent_on_packet_at w.packages w.agent bytes w.now o s).sent ≡ all_packets h.unit (node_outcome_of roles.Agent w.agent.endpoint w.agent.tid (half_on_packet (session_core w.packages) true h bytes)).sent
hears_sends w bytes None s h at is = absurd (let none : None ≡ Some h = at ∙ is in cc)
hears_sends w bytes (Some place) None h at is = absurd (cc)
hears_sends w bytes (Some place) (Some g) h at is =
    let same : g ≡ h = cc in
    ap (λ x. all_packets x.unit (node_outcome_of roles.Agent w.agent.endpoint w.agent.tid (half_on_packet (session_core w.packages) true x bytes)).sent) same

-- on a link
abbrev pub heard_on_agent : List PackageText → (now : ℕ) → List ℕ → LinkOf → LinkOf
heard_on_agent packages now bytes l = record l {
  agent = half_in (half_on_packet (session_core packages) true l.agent bytes);
  packets = packets_with_messages l.agent.unit now l.packets (sent_in (half_on_packet (session_core packages) true l.agent bytes));
}

heard_link : (w : WorldOf) (bytes : List ℕ) (h : HalfOf TimedOf) (s : Option SiteOf) → IsPassed (half_on_packet (session_core w.packages) true h bytes)
    → link_from w.since_miss (Some (heard_half w bytes h)) (option_map (with_packets w.now (all_packets h.unit (sent_in (half_on_packet (session_core w.packages) true h bytes)))) s)
    ≡ option_map (heard_on_agent w.packages w.now bytes) (link_from w.since_miss (Some h) s)
heard_link w bytes h None k = refl
heard_link w bytes h (Some x) k =
    let heard = half_on_packet (session_core w.packages) true h bytes in
    ap (λ a. Some (record { agent = a; device = x.node.half; packets = x.packets ++ sent_now w.now (all_packets h.unit (sent_in heard)); agent_since_miss = w.since_miss; device_since_miss = x.since_miss }))
    (finished_half roles.Agent w.agent.endpoint w.agent.tid heard k)
    ∙ ap (λ ps. Some (record { agent = half_in heard; device = x.node.half; packets = ps; agent_since_miss = w.since_miss; device_since_miss = x.since_miss })) (sym (posted_behind h.unit w.now x.packets (sent_in heard)))

heard_links : (w : WorldOf) (bytes : List ℕ) (source eid : ℕ) (h : HalfOf TimedOf) (o : Option (HalfOf TimedOf)) (s : Option SiteOf)
    → (source ≡ eid → o ≡ Some h) → IsPassed (half_on_packet (session_core w.packages) true h bytes)
    → AllByRecursion (GoesTo source) (all_packets h.unit (sent_in (half_on_packet (session_core w.packages) true h bytes)))
    → link_from w.since_miss (if source == eid then option_map (heard_half w bytes) o else o)
    (option_map (with_packets w.now (filter (is_to eid) (all_packets h.unit (sent_in (half_on_packet (session_core w.packages) true h bytes))))) s)
    ≡ (if source == eid then option_map (heard_on_agent w.packages w.now bytes) (link_from w.since_miss o s) else link_from w.since_miss o s)
heard_links w bytes source eid h o s mine k home = elim (eqb_tells source eid) [
  | inl same ↦
      let sent = all_packets h.unit (sent_in (half_on_packet (session_core w.packages) true h bytes)) in
      let here : o ≡ Some h = mine same.1 in
      let all : filter (is_to eid) sent ≡ sent = all_mine eid sent (subst (λ d. AllByRecursion (GoesTo d) sent) same.1 home) in
      rw same.0
      (ap (λ x. link_from w.since_miss (option_map (heard_half w bytes) x) (option_map (with_packets w.now (filter (is_to eid) sent)) s)) here
      ∙ ap (λ ps. link_from w.since_miss (Some (heard_half w bytes h)) (option_map (with_packets w.now ps) s)) all
      ∙ heard_link w bytes h s k
      ∙ ap (λ x. option_map (heard_on_agent w.packages w.now bytes) (link_from w.since_miss x s)) (sym here))
  | inr other ↦
      let sent = all_packets h.unit (sent_in (half_on_packet (session_core w.packages) true h bytes)) in
      let none : filter (is_to eid) sent ≡ [] = none_mine eid source sent other.1 home in
      rw other.0
      (ap (λ ps. link_from w.since_miss o (option_map (with_packets w.now ps) s)) none ∙ ap (link_from w.since_miss o) (sym (none_behind w.now s)))
]

-- A packet from a device that is delivered to a hearing agent, and goes through the device's half,
-- is delivered on the device's link, and on no other.
pub agent_hears_at : (w : WorldOf) (bytes : List ℕ) (p : Head × List ℕ) (h : HalfOf TimedOf) (eid : ℕ) → w.agent.deaf ≡ 0 → any_packet bytes ≡ Ok p
    → half_for w.agent p.0.source ≡ Some h → IsPassed (half_on_packet (session_core w.packages) true h bytes)
    → AllByRecursion (GoesTo p.0.source) (all_packets h.unit (sent_in (half_on_packet (session_core w.packages) true h bytes)))
    → link_at (at_agent w bytes) eid ≡ (if p.0.source == eid then option_map (heard_on_agent w.packages w.now bytes) (link_at w eid) else link_at w eid)
agent_hears_at w bytes p h eid hears reads there k home =
    let place = half_place w.agent.halves p.0.source in
    let half = half_for w.agent p.0.source in
    let heard = half_on_packet (session_core w.packages) true h bytes in
    let sent : (agent_on_packet_at w.packages w.agent bytes w.now place half).sent ≡ all_packets h.unit (sent_in heard) =
    hears_sends w bytes place half h refl there ∙ ap (all_packets h.unit) (finished_sent roles.Agent w.agent.endpoint w.agent.tid heard k) in
    let sites : site_for (posts w.now w.sites (agent_on_packet_at w.packages w.agent bytes w.now place half).sent) eid
    ≡ option_map (with_packets w.now (filter (is_to eid) (all_packets h.unit (sent_in heard)))) (site_for w.sites eid) =
    ap (λ ms. site_for (posts w.now w.sites ms) eid) sent ∙ posts_at w.now (all_packets h.unit (sent_in heard)) w.sites eid in
    ap (λ n. link_from w.since_miss (half_for n.agent eid) (site_for (posts w.now w.sites n.sent) eid)) (heard_from w bytes p hears reads)
    ∙ ap (λ s. link_from w.since_miss (half_for (agent_on_packet_at w.packages w.agent bytes w.now place half).agent eid) s) sites
    ∙ ap (λ hs. link_from w.since_miss (half_at hs (half_place hs eid)) (option_map (with_packets w.now (filter (is_to eid) (all_packets h.unit (sent_in heard)))) (site_for w.sites eid))) (hears_put w bytes place half)
    ∙ ap (λ o. link_from w.since_miss o (option_map (with_packets w.now (filter (is_to eid) (all_packets h.unit (sent_in heard)))) (site_for w.sites eid)))
    (half_put (heard_half w bytes) (heard_half_peer w bytes) w.agent.halves p.0.source eid)
    ∙ heard_links w bytes p.0.source eid h (half_for w.agent eid) (site_for w.sites eid) (λ e. ap (half_for w.agent) (sym e) ∙ there) k home
