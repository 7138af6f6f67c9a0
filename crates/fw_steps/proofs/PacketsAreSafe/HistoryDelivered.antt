-- The entries of a packet that is delivered to a node of the world.
use Rattle.std.proofs.Common.{◌≡◌, ◌≢◌, ◌⊎◌, ◌∙◌, ◌+◌, ◌==◌, ◌++◌, ◌≤◌, ℕ, Bool, true, false, List, [], is_some, map, Option, Some, None, IsSomeAnd, Ok, append-nil, inl, inr, refl, sym, ap, subst}
use Rattle.std.proofs.lemmas.Bool.{cases_lt, le-ltb, lt-ltb}
use Rattle.std.proofs.lemmas.Bool.Decides.{eqb_tells}
use Rattle.mctp_wire.specs.declared.layout.Head.{Head}
use Rattle.exch_lane.specs.Lanes.{Sent, item_numbered}
use Rattle.fw_package.specs.Package.{PackageText}
use Rattle.fw_message.specs.Worlds.{noted_of}
use Rattle.fw_message.specs.declared.side.Side.{Side}
use Rattle.fw_message.specs.declared.side.Side.TheVariants as sides
use Rattle.fw_node.specs.Agents.{any_packet, agent_on_packet, half_for}
use Rattle.fw_node.specs.Cores.{device_core, session_core}
use Rattle.fw_node.specs.Halves.{HalfOutcome, half_on_packet}
use Rattle.fw_steps.specs.Steps.{packet_fault}
use Rattle.fw_steps.specs.Links.{LinkOf, LinkStep, link_step_of_agent, delivers_on, link_step_of_packet, link_after}
use Rattle.fw_steps.specs.Worlds.{SiteOf, WorldOf, at_device, world_after_packet, world_after_deliver, place_of, recorded_from, sender_of, site_for}
use Rattle.fw_steps.specs.declared.step.StepFault.TheVariants as faults
use Rattle.fw_steps.proofs.LinksAreLanes.Delivered.{IsLinkOf}
use Rattle.fw_steps.proofs.LinksAreLanes.Misses.{GoesBetween, deaf_hears_nothing, link_packet_between, others_packet}
use Rattle.fw_steps.proofs.LinksAreLanes.Projected.{comes_as, link_half, link_site}
use Rattle.fw_steps.proofs.LinksAreLanes.Projection.{link_at}
use Rattle.fw_steps.proofs.LinksAreLanes.WorldSteps.{AreLinked}
use Rattle.fw_steps.proofs.PacketsAreSafe.HistoryAgent.{deaf_agent_records, device_records, stranger_records}
use Rattle.fw_steps.proofs.PacketsAreSafe.HistoryDevice.{activates_of, device_activates, link_activates, nowhere, silent_activates}
use Rattle.fw_steps.proofs.PacketsAreSafe.HistoryNoted.{noted_in}

-- a packet that lives is delivered on its link
soon_enough : (now : ℕ) (p : Sent) → packet_fault now (Some p) ≡ None → now ≤ p.date + 8
soon_enough now p e = elim (cases_lt (p.date + 8) now) [
  | inl dead ↦ let no : Some faults.Dead ≡ None = rw (lt-ltb (p.date + 8) now dead) at e in absurd (cc)
  | inr lives ↦ lives
]

deliver_is : (now : ℕ) (packages : List PackageText) (l : LinkOf) (to : Side) (works : Bool) (number : ℕ) (p : Sent) → item_numbered l.packets number ≡ Some p → now ≤ p.date + 8
    → link_after now packages l (LinkStep.Deliver number to works) ≡ link_step_of_packet now packages l to works p.bytes
deliver_is now packages l to works number p at soon = ap (delivers_on now packages l to works) at ∙ (rw (le-ltb (p.date + 8) now soon) refl)

-- The agent: a packet without effect on its half has none on the link.
silent_notes : (now : ℕ) (packages : List PackageText) (l : LinkOf) (bytes : List ℕ) → half_on_packet (session_core packages) true l.agent bytes ≡ HalfOutcome.Went l.agent []
    → noted_in (link_step_of_agent now packages l (half_on_packet (session_core packages) true l.agent bytes)) ≡ []
silent_notes now packages l bytes e = ap (λ heard. noted_in (link_step_of_agent now packages l heard)) e

from_end : (w : WorldOf) (bytes : List ℕ) (device : ℕ) (d : LinkOf) (p : Head × List ℕ) → IsLinkOf w device d → link_at w device ≡ Some d → half_for w.agent w.agent.endpoint.eid ≡ None
    → w.agent.deaf ≡ 0 → any_packet bytes ≡ Ok p
    → ((p.0.source ≡ d.agent.own) × (p.0.dest ≡ d.device.own)) ⊎ ((p.0.source ≡ d.device.own) × (p.0.dest ≡ d.agent.own))
    → recorded_from w.agent (agent_on_packet w.packages w.agent bytes w.now).agent (sender_of (any_packet bytes))
    ≡ map (noted_of device) (noted_in (link_step_of_agent w.now w.packages d (half_on_packet (session_core w.packages) true d.agent bytes)))
from_end w bytes device d p k there own hears reads (inl away) =
    let far : p.0.dest ≢ d.agent.own = λ z. k.explained.ends.differ (sym z ∙ away.1) in
    stranger_records w bytes p hears reads (ap (half_for w.agent) (away.0 ∙ k.agent) ∙ own)
    ∙ sym (ap (map (noted_of device)) (silent_notes w.now w.packages d bytes
    (others_packet (session_core w.packages) true d.agent bytes
    (λ q e. let same : p ≡ q = (let both : Ok p ≡ Ok q = sym reads ∙ e in cc) in subst (λ x. x.0.dest ≢ d.agent.own) same far))))
from_end w bytes device d p k there own hears reads (inr home) =
    let source : p.0.source ≡ device = home.0 ∙ k.device in
    device_records w bytes p d hears reads (ap (half_for w.agent) source ∙ link_half _ (half_for w.agent device) (site_for w.sites device) d there)
    ∙ ap (λ eid. map (noted_of eid) (noted_in (link_step_of_agent w.now w.packages d (half_on_packet (session_core w.packages) true d.agent bytes)))) source

agent_notes : (w : WorldOf) (bytes : List ℕ) (device : ℕ) (d : LinkOf) → IsLinkOf w device d → link_at w device ≡ Some d → half_for w.agent w.agent.endpoint.eid ≡ None
    → GoesBetween d.agent.own d.device.own bytes
    → recorded_from w.agent (agent_on_packet w.packages w.agent bytes w.now).agent (sender_of (any_packet bytes))
    ≡ map (noted_of device) (noted_in (link_step_of_agent w.now w.packages d (half_on_packet (session_core w.packages) true d.agent bytes)))
agent_notes w bytes device d k there own between = elim (eqb_tells w.agent.deaf 0) [
  | inl hears ↦ from_end w bytes device d (between.head, between.body) k there own hears.1 between.reads between.ends
  | inr deaf ↦
      deaf_agent_records w bytes (sender_of (any_packet bytes)) deaf.1
      ∙ sym (ap (map (noted_of device)) (silent_notes w.now w.packages d bytes
      (deaf_hears_nothing (session_core w.packages) true d.agent bytes (λ z. deaf.1 (sym k.asking ∙ z)) (λ z. deaf.1 (sym k.answering ∙ z)))))
]

-- A device that has a link activates the images of its half.
device_by : (works : Bool) (faults : ℕ) (w : WorldOf) (bytes : List ℕ) (node : ℕ) (s : Option SiteOf) (l : LinkOf) → site_for w.sites node ≡ s
    → IsSomeAnd s (λ x. (x.node.half ≡ l.device) × (x.packets ≡ l.packets))
    → (at_device works faults w bytes (place_of w.sites node) (site_for w.sites node)).history ≡ w.history ++ map (noted_of node) (activates_of works bytes l.device)
device_by works faults w bytes node None l is k = absurd k
device_by works faults w bytes node (Some x) l is k = device_activates works faults w bytes node x l.device is k.0

pub linked_activates : (works : Bool) (faults : ℕ) (w : WorldOf) (bytes : List ℕ) (node : ℕ) (l : LinkOf) → link_at w node ≡ Some l
    → (at_device works faults w bytes (place_of w.sites node) (site_for w.sites node)).history ≡ w.history ++ map (noted_of node) (activates_of works bytes l.device)
linked_activates works faults w bytes node l is =
    device_by works faults w bytes node (site_for w.sites node) l refl (link_site _ (half_for w.agent node) (site_for w.sites node) l is)

-- The link to which a packet is delivered notes its entries.
comes_noting : (works : Bool) (faults : ℕ) (w : WorldOf) (device number node : ℕ) (d : LinkOf) (p : Sent) (s : LinkStep) → AreLinked w → link_at w device ≡ Some d
    → item_numbered d.packets number ≡ Some p → w.now ≤ p.date + 8 → comes_as works number (node == w.agent.endpoint.eid) (node == device) ≡ Some s
    → (world_after_packet works faults w node p.bytes).history ≡ w.history ++ map (noted_of device) (noted_in (link_after w.now w.packages d s))
comes_noting works faults w device number node d p s k there at soon is = elim (eqb_tells node w.agent.endpoint.eid) [
  | inl agent ↦
      let step : Some (LinkStep.Deliver number sides.Agent works) ≡ Some s = sym (ap (λ a. comes_as works number a (node == device)) agent.0) ∙ is in
      let same : LinkStep.Deliver number sides.Agent works ≡ s = cc in
      rw agent.0
      (ap (λ ns. w.history ++ ns) (agent_notes w p.bytes device d (k.links device d there) there k.own (link_packet_between w.now d number p (k.links device d there).explained at soon))
      ∙ ap (λ o. w.history ++ map (noted_of device) (noted_in o)) (sym (deliver_is w.now w.packages d sides.Agent works number p at soon))
      ∙ ap (λ x. w.history ++ map (noted_of device) (noted_in (link_after w.now w.packages d x))) same)
  | inr other ↦ elim (eqb_tells node device) [
    | inl here ↦
        let step : Some (LinkStep.Deliver number sides.Device works) ≡ Some s =
        sym (ap (λ a. comes_as works number a (node == device)) other.0 ∙ ap (comes_as works number false) here.0) ∙ is in
        let same : LinkStep.Deliver number sides.Device works ≡ s = cc in
        rw other.0
        (linked_activates works faults w p.bytes node d (ap (link_at w) here.1 ∙ there)
        ∙ ap (λ eid. w.history ++ map (noted_of eid) (activates_of works p.bytes d.device)) here.1
        ∙ ap (λ es. w.history ++ map (noted_of device) es) (link_activates w.now works p.bytes d)
        ∙ ap (λ o. w.history ++ map (noted_of device) (noted_in o)) (sym (deliver_is w.now w.packages d sides.Device works number p at soon))
        ∙ ap (λ x. w.history ++ map (noted_of device) (noted_in (link_after w.now w.packages d x))) same)
    | inr elsewhere ↦
        let none : None ≡ Some s = sym (ap (λ a. comes_as works number a (node == device)) other.0 ∙ ap (comes_as works number false) elsewhere.0) ∙ is in
        absurd (cc)
  ]
]

pub delivers_noting : (works : Bool) (faults : ℕ) (w : WorldOf) (device number node : ℕ) (d : LinkOf) (q : Option Sent) (s : LinkStep) → AreLinked w → link_at w device ≡ Some d
    → item_numbered d.packets number ≡ q → packet_fault w.now q ≡ None → comes_as works number (node == w.agent.endpoint.eid) (node == device) ≡ Some s
    → (world_after_deliver works faults w node q).history ≡ w.history ++ map (noted_of device) (noted_in (link_after w.now w.packages d s))
delivers_noting works faults w device number node d None s k there at may is = absurd (cc)
delivers_noting works faults w device number node d (Some p) s k there at may is =
    comes_noting works faults w device number node d p s k there at (soon_enough w.now p may) is

-- A packet that is delivered to none of its nodes adds nothing.
unsent_to : (source dest own x y : ℕ) → own ≢ x → own ≢ y → ((source ≡ x) × (dest ≡ y)) ⊎ ((source ≡ y) × (dest ≡ x)) → dest ≢ own
unsent_to source dest own x y first second (inl e) = λ z. second (sym z ∙ e.1)
unsent_to source dest own x y first second (inr e) = λ z. first (sym z ∙ e.1)

nothing_heard : (works : Bool) (l d : LinkOf) (bytes : List ℕ) (g : GoesBetween d.agent.own d.device.own bytes) → l.device.own ≢ d.agent.own → l.device.own ≢ d.device.own
    → activates_of works bytes l.device ≡ []
nothing_heard works l d bytes g agent device =
    silent_activates works bytes l.device l.device (others_packet device_core works l.device bytes
    (λ q e. let same : (g.head, g.body) ≡ q = (let both : Ok (g.head, g.body) ≡ Ok q = sym g.reads ∙ e in cc) in
    subst (λ x. x.0.dest ≢ l.device.own) same (unsent_to g.head.source g.head.dest l.device.own d.agent.own d.device.own agent device g.ends)))

strange_by : (works : Bool) (faults : ℕ) (w : WorldOf) (device node : ℕ) (d : LinkOf) (bytes : List ℕ) (o : Option LinkOf) → AreLinked w → link_at w device ≡ Some d
    → GoesBetween d.agent.own d.device.own bytes → node ≢ w.agent.endpoint.eid → node ≢ device → link_at w node ≡ o → is_some o ≡ true
    → (at_device works faults w bytes (place_of w.sites node) (site_for w.sites node)).history ≡ w.history
strange_by works faults w device node d bytes None k there between agent other at some = absurd (cc)
strange_by works faults w device node d bytes (Some l) k there between agent other at some =
    let mine = k.links node l at in
    let its = k.links device d there in
    linked_activates works faults w bytes node l at
    ∙ ap (λ es. w.history ++ map (noted_of node) es)
    (nothing_heard works l d bytes between (λ z. agent (sym mine.device ∙ z ∙ its.agent)) (λ z. other (sym mine.device ∙ z ∙ its.device)))
    ∙ append-nil w.history

strange_site : (works : Bool) (faults : ℕ) (w : WorldOf) (device node : ℕ) (d : LinkOf) (bytes : List ℕ) (s : Option SiteOf) → AreLinked w → link_at w device ≡ Some d
    → GoesBetween d.agent.own d.device.own bytes → node ≢ w.agent.endpoint.eid → node ≢ device → site_for w.sites node ≡ s
    → (at_device works faults w bytes (place_of w.sites node) (site_for w.sites node)).history ≡ w.history
strange_site works faults w device node d bytes None k there between agent other at = nowhere works faults w bytes (place_of w.sites node) (site_for w.sites node) at
strange_site works faults w device node d bytes (Some x) k there between agent other at =
    strange_by works faults w device node d bytes (link_at w node) k there between agent other refl (k.known node (ap is_some at))

pub delivers_nothing : (works : Bool) (faults : ℕ) (w : WorldOf) (device number node : ℕ) (d : LinkOf) (q : Option Sent) → AreLinked w → link_at w device ≡ Some d
    → item_numbered d.packets number ≡ q → packet_fault w.now q ≡ None → comes_as works number (node == w.agent.endpoint.eid) (node == device) ≡ None
    → (world_after_deliver works faults w node q).history ≡ w.history
delivers_nothing works faults w device number node d None k there at may is = absurd (cc)
delivers_nothing works faults w device number node d (Some p) k there at may is = elim (eqb_tells node w.agent.endpoint.eid) [
  | inl agent ↦
      let some : Some (LinkStep.Deliver number sides.Agent works) ≡ None = sym (ap (λ a. comes_as works number a (node == device)) agent.0) ∙ is in
      absurd (cc)
  | inr other ↦ elim (eqb_tells node device) [
    | inl here ↦
        let some : Some (LinkStep.Deliver number sides.Device works) ≡ None =
        sym (ap (λ a. comes_as works number a (node == device)) other.0 ∙ ap (comes_as works number false) here.0) ∙ is in
        absurd (cc)
    | inr elsewhere ↦
        rw other.0
        (strange_site works faults w device node d p.bytes (site_for w.sites node) k there
        (link_packet_between w.now d number p (k.links device d there).explained at (soon_enough w.now p may)) other.1 elsewhere.1 refl)
  ]
]
