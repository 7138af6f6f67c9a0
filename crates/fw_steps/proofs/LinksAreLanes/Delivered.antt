-- A packet that is delivered in the world is delivered on its device's link, and on no other.
use Rattle.std.proofs.Common.{◌≡◌, ◌≢◌, ◌⊎◌, ◌∙◌, ◌+◌, ◌==◌, ◌≤◌, ℕ, Bool, true, false, if◌then◌else◌, List, [], Option, Some, None, IfSome, IsSomeAnd, Ok, inl, inr, refl, sym, ap, subst}
use Rattle.std.specs.List.{AllByRecursion}
use Rattle.std.specs.Option.{option_map}
use Rattle.std.proofs.lemmas.Bool.{le-ltb}
use Rattle.std.proofs.lemmas.Bool.Decides.{eqb_tells}
use Rattle.mctp_wire.specs.declared.layout.Head.{Head}
use Rattle.exch_lane.specs.Lanes.{Sent, item_numbered}
use Rattle.exch_lane.specs.Laws.{LaneIsACell}
use Rattle.fw_package.specs.Package.{PackageText}
use Rattle.ua_core.specs.Session.{TimedOf}
use Rattle.fw_message.specs.declared.side.Side.TheVariants as sides
use Rattle.fw_node.specs.Agents.{any_packet, half_for}
use Rattle.fw_node.specs.Cores.{TimedDevice, device_core, session_core}
use Rattle.fw_node.specs.Halves.{HalfOutcome, half_on_packet}
use Rattle.fw_node.specs.Packets.{all_packets}
use Rattle.fw_steps.specs.Lanes.{LinkExplained, times_of, turned_times}
use Rattle.fw_steps.specs.LinksAreLanes.{AnswerRoundTripsOn}
use Rattle.fw_steps.specs.Links.{LinkOf, LinkStep, link_step_of_agent, delivers_on, link_step_of_device, link_after, packets_with_messages}
use Rattle.fw_steps.specs.Worlds.{SiteOf, WorldOf, at_agent, at_device, packets_at, packets_of, place_of, site_for}
use Rattle.fw_steps.proofs.LinksAreLanes.AgentArrivals.{agent_hears_at, deaf_agent_at, heard_on_agent, stranger_at}
use Rattle.fw_steps.proofs.LinksAreLanes.Arrivals.{device_hears_at, heard_on_device}
use Rattle.fw_steps.proofs.LinksAreLanes.Comings.{hears_in_lane}
use Rattle.fw_steps.proofs.LinksAreLanes.Hears.{IsPassed, half_in, sent_in}
use Rattle.fw_steps.proofs.LinksAreLanes.InLanes.{told_any, told_fits, ways_of}
use Rattle.fw_steps.proofs.LinksAreLanes.Misses.{GoesBetween, deaf_hears_nothing, link_packet_between, others_packet}
use Rattle.fw_steps.proofs.LinksAreLanes.Projected.{LinkStepsTo, comes_as, leads_to, link_half, link_site, where_mine}
use Rattle.fw_steps.proofs.LinksAreLanes.Projection.{link_at}
use Rattle.fw_steps.proofs.LinksAreLanes.Sendings.{GoesTo, agent_heard_to}
use Rattle.fw_steps.proofs.LinksAreLanes.Ways.{turned}

-- the link of a device in a world
pub record IsLinkOf (w : WorldOf) (eid : ℕ) (l : LinkOf) : Type 0 where
  pub explained : LinkExplained w.now l
  pub agent : l.agent.own ≡ w.agent.endpoint.eid
  pub device : l.device.own ≡ eid
  pub asking : l.agent.asker.deaf ≡ w.agent.deaf
  pub answering : l.agent.taker.deaf ≡ w.agent.deaf

-- a packet of a link goes through the half that it is delivered to
agent_passed : (law : LaneIsACell) (now : ℕ) (packages : List PackageText) (l : LinkOf) (number : ℕ) (p : Sent) → LinkExplained now l
    → item_numbered l.packets number ≡ Some p → now ≤ p.date + 8 → AnswerRoundTripsOn packages l sides.Agent true p.bytes → IsPassed (half_on_packet (session_core packages) true l.agent p.bytes)
agent_passed law now packages l number p e is soon told =
    (hears_in_lane law (session_core packages) true (times_of now l) l.agent l.device l.packets (ways_of now l e) number p is soon (told_fits l.agent.core.session.unit l.agent.unit _ e.session_unit told)).passed

device_passed : (law : LaneIsACell) (now : ℕ) (packages : List PackageText) (l : LinkOf) (works : Bool) (number : ℕ) (p : Sent) → LinkExplained now l
    → item_numbered l.packets number ≡ Some p → now ≤ p.date + 8 → AnswerRoundTripsOn packages l sides.Device works p.bytes → IsPassed (half_on_packet device_core works l.device p.bytes)
device_passed law now packages l works number p e is soon told =
    (hears_in_lane law device_core works (turned_times (times_of now l)) l.device l.agent l.packets (turned (times_of now l) l.agent l.device l.packets (ways_of now l e)) number p is soon (told_any l.device.unit (half_on_packet device_core works l.device p.bytes) told)).passed

-- the link's own step
agent_heard_after : (now : ℕ) (packages : List PackageText) (l : LinkOf) (heard : HalfOutcome TimedOf) → IsPassed heard
    → IsSomeAnd (link_step_of_agent now packages l heard) (λ t. record l { agent = half_in heard; packets = packets_with_messages l.agent.unit now l.packets (sent_in heard) } ≡ t.after)
agent_heard_after now packages l (HalfOutcome.Went h sent) k = refl
agent_heard_after now packages l (HalfOutcome.Took h sent c answer) k = refl
agent_heard_after now packages l (HalfOutcome.Asks h m head body) k = absurd k
agent_heard_after now packages l (HalfOutcome.Strayed h m) k = absurd k

device_heard_after : (now : ℕ) (works : Bool) (l : LinkOf) (heard : HalfOutcome TimedDevice) → IsPassed heard
    → IsSomeAnd (link_step_of_device now works l heard) (λ t. record l { device = half_in heard; packets = packets_with_messages l.device.unit now l.packets (sent_in heard) } ≡ t.after)
device_heard_after now works l (HalfOutcome.Went h sent) k = refl
device_heard_after now works l (HalfOutcome.Took h sent c answer) k = refl
device_heard_after now works l (HalfOutcome.Asks h m head body) k = absurd k
device_heard_after now works l (HalfOutcome.Strayed h m) k = absurd k

agent_deliver : (now : ℕ) (packages : List PackageText) (l : LinkOf) (works : Bool) (number : ℕ) (p : Sent) → item_numbered l.packets number ≡ Some p → now ≤ p.date + 8
    → IsPassed (half_on_packet (session_core packages) true l.agent p.bytes)
    → IsSomeAnd (link_after now packages l (LinkStep.Deliver number sides.Agent works)) (λ t. heard_on_agent packages now p.bytes l ≡ t.after)
agent_deliver now packages l works number p is soon k =
    subst (λ o. IsSomeAnd (delivers_on now packages l sides.Agent works o) (λ t. heard_on_agent packages now p.bytes l ≡ t.after)) (sym is)
    (rw (le-ltb (p.date + 8) now soon) (agent_heard_after now packages l (half_on_packet (session_core packages) true l.agent p.bytes) k))

device_deliver : (now : ℕ) (packages : List PackageText) (l : LinkOf) (works : Bool) (number : ℕ) (p : Sent) → item_numbered l.packets number ≡ Some p → now ≤ p.date + 8
    → IsPassed (half_on_packet device_core works l.device p.bytes)
    → IsSomeAnd (link_after now packages l (LinkStep.Deliver number sides.Device works)) (λ t. heard_on_device works now p.bytes l ≡ t.after)
device_deliver now packages l works number p is soon k =
    subst (λ o. IsSomeAnd (delivers_on now packages l sides.Device works o) (λ t. heard_on_device works now p.bytes l ≡ t.after)) (sym is)
    (rw (le-ltb (p.date + 8) now soon) (device_heard_after now works l (half_on_packet device_core works l.device p.bytes) k))

-- if a half handles nothing, its link stays
agent_same : (packages : List PackageText) (now : ℕ) (bytes : List ℕ) (l : LinkOf) → half_on_packet (session_core packages) true l.agent bytes ≡ HalfOutcome.Went l.agent []
    → heard_on_agent packages now bytes l ≡ l
agent_same packages now bytes l e = ap (λ heard. record l { agent = half_in heard; packets = packets_with_messages l.agent.unit now l.packets (sent_in heard) }) e

device_same : (works : Bool) (now : ℕ) (bytes : List ℕ) (l : LinkOf) → half_on_packet device_core works l.device bytes ≡ HalfOutcome.Went l.device []
    → heard_on_device works now bytes l ≡ l
device_same works now bytes l e = ap (λ heard. record l { device = half_in heard; packets = packets_with_messages l.device.unit now l.packets (sent_in heard) }) e

-- the packets of a device are those of its link
link_packets : (s : Option SiteOf) (l : LinkOf) → IsSomeAnd s (λ x. (x.node.half ≡ l.device) × (x.packets ≡ l.packets)) → packets_at s ≡ l.packets
link_packets None l k = absurd k
link_packets (Some x) l k = k.1

pub packets_on : (w : WorldOf) (eid : ℕ) (l : LinkOf) → link_at w eid ≡ Some l → packets_of w eid ≡ l.packets
packets_on w eid l is = link_packets (site_for w.sites eid) l (link_site _ (half_for w.agent eid) (site_for w.sites eid) l is)

-- The agent: a packet from any sender, even if the agent is deaf, is delivered only on the device's
-- link.
on_its_link : (w : WorldOf) (packages : List PackageText) (bytes : List ℕ) (device eid : ℕ) (d : LinkOf) → link_at w device ≡ Some d
    → half_on_packet (session_core packages) true d.agent bytes ≡ HalfOutcome.Went d.agent []
    → link_at w eid ≡ (if device == eid then option_map (heard_on_agent packages w.now bytes) (link_at w eid) else link_at w eid)
on_its_link w packages bytes device eid d there e = elim (eqb_tells device eid) [
  | inl same ↦
      let here : link_at w eid ≡ Some d = ap (link_at w) (sym same.1) ∙ there in
      rw same.0 (here ∙ sym (ap (option_map (heard_on_agent packages w.now bytes)) here ∙ ap Some (agent_same packages w.now bytes d e)))
  | inr other ↦ rw other.0 refl
]

from_end : (w : WorldOf) (bytes : List ℕ) (device eid : ℕ) (d : LinkOf) (p : Head × List ℕ) → IsLinkOf w device d → link_at w device ≡ Some d → half_for w.agent w.agent.endpoint.eid ≡ None
    → w.agent.deaf ≡ 0 → any_packet bytes ≡ Ok p → IsPassed (half_on_packet (session_core w.packages) true d.agent bytes)
    → ((p.0.source ≡ d.agent.own) × (p.0.dest ≡ d.device.own)) ⊎ ((p.0.source ≡ d.device.own) × (p.0.dest ≡ d.agent.own))
    → link_at (at_agent w bytes) eid ≡ (if device == eid then option_map (heard_on_agent w.packages w.now bytes) (link_at w eid) else link_at w eid)
from_end w bytes device eid d p k there own hears reads passed (inl away) =
    let source : p.0.source ≡ w.agent.endpoint.eid = away.0 ∙ k.agent in
    let far : p.0.dest ≢ d.agent.own = λ z. k.explained.ends.differ (sym z ∙ away.1) in
    stranger_at w bytes p eid hears reads (ap (half_for w.agent) source ∙ own)
    ∙ on_its_link w w.packages bytes device eid d there
    (others_packet (session_core w.packages) true d.agent bytes
    (λ q e. let same : p ≡ q = (let both : Ok p ≡ Ok q = sym reads ∙ e in cc) in subst (λ x. x.0.dest ≢ d.agent.own) same far))
from_end w bytes device eid d p k there own hears reads passed (inr home) =
    let source : p.0.source ≡ device = home.0 ∙ k.device in
    let half : half_for w.agent p.0.source ≡ Some d.agent = ap (half_for w.agent) source ∙ link_half _ (half_for w.agent device) (site_for w.sites device) d there in
    let goes = subst (λ e. AllByRecursion (GoesTo e) (all_packets d.agent.unit (sent_in (half_on_packet (session_core w.packages) true d.agent bytes)))) (sym home.0) (agent_heard_to w.now w.packages d true bytes k.explained) in
    subst (λ e. link_at (at_agent w bytes) eid ≡ (if e == eid then option_map (heard_on_agent w.packages w.now bytes) (link_at w eid) else link_at w eid)) source
    (agent_hears_at w bytes p d.agent eid hears reads half passed goes)

agent_gets : (w : WorldOf) (bytes : List ℕ) (device eid : ℕ) (d : LinkOf) → IsLinkOf w device d → link_at w device ≡ Some d → half_for w.agent w.agent.endpoint.eid ≡ None
    → GoesBetween d.agent.own d.device.own bytes → IsPassed (half_on_packet (session_core w.packages) true d.agent bytes)
    → link_at (at_agent w bytes) eid ≡ (if device == eid then option_map (heard_on_agent w.packages w.now bytes) (link_at w eid) else link_at w eid)
agent_gets w bytes device eid d k there own between passed = elim (eqb_tells w.agent.deaf 0) [
  | inl hears ↦ from_end w bytes device eid d (between.head, between.body) k there own hears.1 between.reads passed between.ends
  | inr deaf ↦
      deaf_agent_at w bytes eid deaf.1
      ∙ on_its_link w w.packages bytes device eid d there
      (deaf_hears_nothing (session_core w.packages) true d.agent bytes (λ z. deaf.1 (sym k.asking ∙ z)) (λ z. deaf.1 (sym k.answering ∙ z)))
]

-- a packet that isn't for the link's nodes
comes_none : (works : Bool) (number : ℕ) (mine : Bool) → where_mine mine (comes_as works number false false) ≡ None
comes_none works number true = refl
comes_none works number false = refl

neither : (source dest own x y : ℕ) → own ≢ x → own ≢ y → ((source ≡ x) × (dest ≡ y)) ⊎ ((source ≡ y) × (dest ≡ x)) → dest ≢ own
neither source dest own x y first second (inl e) = λ z. second (sym z ∙ e.1)
neither source dest own x y first second (inr e) = λ z. first (sym z ∙ e.1)

-- a packet of another device's link, at a device
pub strange_packet : (works : Bool) (l d : LinkOf) (bytes : List ℕ) (g : GoesBetween d.agent.own d.device.own bytes) → l.device.own ≢ d.agent.own → l.device.own ≢ d.device.own
    → half_on_packet device_core works l.device bytes ≡ HalfOutcome.Went l.device []
strange_packet works l d bytes g agent device =
    others_packet device_core works l.device bytes
    (λ q e. let same : (g.head, g.body) ≡ q = (let both : Ok (g.head, g.body) ≡ Ok q = sym g.reads ∙ e in cc) in
    subst (λ x. x.0.dest ≢ l.device.own) same (neither g.head.source g.head.dest l.device.own d.agent.own d.device.own agent device g.ends))

-- A device: a packet is delivered only on its link.
pub device_gets : (law : LaneIsACell) (works : Bool) (faults : ℕ) (w : WorldOf) (device number node eid : ℕ) (d l : LinkOf) (p : Sent) → IsLinkOf w device d → IsLinkOf w eid l
    → link_at w device ≡ Some d → link_at w eid ≡ Some l → item_numbered d.packets number ≡ Some p → w.now ≤ p.date + 8 → node ≢ w.agent.endpoint.eid
    → (node ≡ device → AnswerRoundTripsOn w.packages d sides.Device works p.bytes)
    → LinkStepsTo w.now w.packages l (where_mine (device == eid) (comes_as works number false (node == eid)))
    (link_at (at_device works faults w p.bytes (place_of w.sites node) (site_for w.sites node)) eid)
device_gets law works faults w device number node eid d l p kd kl there is at soon other told =
    let after = link_at (at_device works faults w p.bytes (place_of w.sites node) (site_for w.sites node)) eid in
    let between = link_packet_between w.now d number p kd.explained at soon in
    elim (eqb_tells node eid) [
      | inr elsewhere ↦
          let stays : after ≡ Some l =
          device_hears_at works faults w p.bytes node eid (λ e. absurd (let no = elsewhere.0 in cc))
          ∙ ap (λ b. if b then option_map (heard_on_device works w.now p.bytes) (link_at w eid) else link_at w eid) elsewhere.0 ∙ is in
          subst (λ s. LinkStepsTo w.now w.packages l s after)
          (sym (ap (λ b. where_mine (device == eid) (comes_as works number false b)) elsewhere.0 ∙ comes_none works number (device == eid))) stays
      | inl here ↦ elim (eqb_tells device eid) [
        | inl mine ↦
            let same : d ≡ l = (let both : Some d ≡ Some l = sym there ∙ ap (link_at w) mine.1 ∙ is in cc) in
            let passed : IsPassed (half_on_packet device_core works l.device p.bytes) =
            subst (λ x. IsPassed (half_on_packet device_core works x.device p.bytes)) same
            (device_passed law w.now w.packages d works number p kd.explained at soon (told (here.1 ∙ sym mine.1))) in
            let goes : after ≡ Some (heard_on_device works w.now p.bytes l) =
            device_hears_at works faults w p.bytes node eid (λ e. subst (λ o. IfSome o (λ x. IsPassed (half_on_packet device_core works x.device p.bytes))) (sym is) passed)
            ∙ ap (λ b. if b then option_map (heard_on_device works w.now p.bytes) (link_at w eid) else link_at w eid) here.0
            ∙ ap (option_map (heard_on_device works w.now p.bytes)) is in
            subst (λ s. LinkStepsTo w.now w.packages l s after)
            (sym (ap (λ b. where_mine b (comes_as works number false (node == eid))) mine.0 ∙ ap (λ b. comes_as works number false b) here.0))
            (leads_to (link_after w.now w.packages l (LinkStep.Deliver number sides.Device works)) (heard_on_device works w.now p.bytes) after l goes
            (device_deliver w.now w.packages l works number p (subst (λ x. item_numbered x.packets number ≡ Some p) same at) soon passed))
        | inr strange ↦
            let silent : half_on_packet device_core works l.device p.bytes ≡ HalfOutcome.Went l.device [] =
            strange_packet works l d p.bytes between (λ z. other (here.1 ∙ sym kl.device ∙ z ∙ kd.agent)) (λ z. strange.1 (sym kd.device ∙ sym z ∙ kl.device)) in
            let passed : IsPassed (half_on_packet device_core works l.device p.bytes) = subst IsPassed (sym silent) tt in
            let stays : after ≡ Some l =
            device_hears_at works faults w p.bytes node eid (λ e. subst (λ o. IfSome o (λ x. IsPassed (half_on_packet device_core works x.device p.bytes))) (sym is) passed)
            ∙ ap (λ b. if b then option_map (heard_on_device works w.now p.bytes) (link_at w eid) else link_at w eid) here.0
            ∙ ap (option_map (heard_on_device works w.now p.bytes)) is
            ∙ ap Some (device_same works w.now p.bytes l silent) in
            subst (λ s. LinkStepsTo w.now w.packages l s after)
            (sym (ap (λ b. where_mine b (comes_as works number false (node == eid))) strange.0)) stays
      ]
    ]

-- The agent: likewise.
pub agent_comes : (law : LaneIsACell) (works : Bool) (w : WorldOf) (device number eid : ℕ) (here : Bool) (d l : LinkOf) (p : Sent) → IsLinkOf w device d → half_for w.agent w.agent.endpoint.eid ≡ None
    → link_at w device ≡ Some d → link_at w eid ≡ Some l → item_numbered d.packets number ≡ Some p → w.now ≤ p.date + 8
    → AnswerRoundTripsOn w.packages d sides.Agent true p.bytes
    → LinkStepsTo w.now w.packages l (where_mine (device == eid) (comes_as works number true here)) (link_at (at_agent w p.bytes) eid)
agent_comes law works w device number eid here d l p kd own there is at soon told =
    let after = link_at (at_agent w p.bytes) eid in
    let passed = agent_passed law w.now w.packages d number p kd.explained at soon told in
    let goes = agent_gets w p.bytes device eid d kd there own (link_packet_between w.now d number p kd.explained at soon) passed in
    elim (eqb_tells device eid) [
      | inl mine ↦
          let same : d ≡ l = (let both : Some d ≡ Some l = sym there ∙ ap (link_at w) mine.1 ∙ is in cc) in
          subst (λ s. LinkStepsTo w.now w.packages l s after) (sym (ap (λ b. where_mine b (comes_as works number true here)) mine.0))
          (leads_to (link_after w.now w.packages l (LinkStep.Deliver number sides.Agent works)) (heard_on_agent w.packages w.now p.bytes) after l
          (goes ∙ ap (λ b. if b then option_map (heard_on_agent w.packages w.now p.bytes) (link_at w eid) else link_at w eid) mine.0
          ∙ ap (option_map (heard_on_agent w.packages w.now p.bytes)) is)
          (agent_deliver w.now w.packages l works number p (subst (λ x. item_numbered x.packets number ≡ Some p) same at) soon
          (subst (λ x. IsPassed (half_on_packet (session_core w.packages) true x.agent p.bytes)) same passed)))
      | inr strange ↦
          subst (λ s. LinkStepsTo w.now w.packages l s after) (sym (ap (λ b. where_mine b (comes_as works number true here)) strange.0))
          (goes ∙ ap (λ b. if b then option_map (heard_on_agent w.packages w.now p.bytes) (link_at w eid) else link_at w eid) strange.0 ∙ is)
    ]
