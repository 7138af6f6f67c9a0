-- On each link of a world that matches one over whole messages, all messages round-trip after any
-- step.
use Rattle.std.proofs.Common.{◌≡◌, ◌∙◌, ℕ, zero, suc, List, [], ◌∷◌, slice_get, Option, Some, None, IfSome, refl, subst}
use Rattle.std.specs.List.{AllByRecursion}
use Rattle.fw_package.specs.Package.{PackageText}
use Rattle.ua_core.proofs.InPlan.{learns_in_plan, serves_in_plan}
use Rattle.fw_message.specs.Worlds.{NodeOf}
use Rattle.fw_steps.specs.LinksAreLanes.{LinkStepRoundTrips}
use Rattle.fw_steps.specs.Links.{LinkOf, LinkStep}
use Rattle.fw_steps.specs.MessagesRoundTrip.{RoundTrips}
use Rattle.fw_steps.specs.Widths.{HasDeviceWidths, HaveMessageWidths, HavePackageWidths, HasPairWidths, SessionIsInPlan}
use Rattle.fw_steps.specs.Worlds.{WorldOf, site_for}
use Rattle.fw_steps.proofs.LinksAreLanes.Linked.{linked_site, site_stood}
use Rattle.fw_steps.proofs.LinksAreLanes.Listed.{link_by_place, links_of}
use Rattle.fw_steps.proofs.LinksAreLanes.Projection.{link_at}
use Rattle.fw_steps.proofs.PacketsAreSafe.SafeStands.{PairThere, Stand, messages_of, pair_there}
use Rattle.fw_steps.proofs.ReadingBack.LinkRoundTrips.{agent_answers, agent_asks, device_answers, device_asks, link_says}
use Rattle.fw_steps.proofs.ReadingBack.WorldKeepsWidths.{along_speaks}
use Rattle.fwup_wire.proofs.WrittenAnswers.{writes_answers}

-- the values of the reached world of messages fit
pub messages_say : (opening w : WorldOf) → (k : Stand opening w) → HaveMessageWidths k.messages
messages_say opening w k =
    subst (λ o. IfSome o HaveMessageWidths) k.reaches.along (along_speaks serves_in_plan learns_in_plan k.reaches.steps (Some (messages_of opening)) k.speaks)

pair_at_place : (packages : List PackageText) (ns : List NodeOf) (i : ℕ) (n : NodeOf) → AllByRecursion (λ (x : NodeOf). HasPairWidths packages x.pair) ns → slice_get ns i ≡ Some n → HasPairWidths packages n.pair
pair_at_place packages [] i n all e = absurd (cc)
pair_at_place packages (x ∷ ns) zero n all e = let same : x ≡ n = cc in subst (λ (y : NodeOf). HasPairWidths packages y.pair) same all.0
pair_at_place packages (x ∷ ns) (suc i) n all e = pair_at_place packages ns i n all.1 e

-- the conditions under which all messages on a link round-trip
record LinkSpeaks (packages : List PackageText) (l : LinkOf) : Type 0 where
  lent : HavePackageWidths packages
  device : HasDeviceWidths l.device.core.device
  session : SessionIsInPlan packages l.agent.core.session

-- a link meets them if its pair does
speaks_as : (packages : List PackageText) (now : ℕ) (ns : List NodeOf) (i : ℕ) (l : LinkOf) → HavePackageWidths packages → AllByRecursion (λ (x : NodeOf). HasPairWidths packages x.pair) ns → PairThere packages now ns i l → LinkSpeaks packages l
speaks_as packages now ns i l ps all there =
    let pair = pair_at_place packages ns i there.node all there.at in
    record { lent = ps; device = subst HasDeviceWidths there.stands.joined.device pair.device; session = subst (SessionIsInPlan packages) there.stands.joined.session pair.session }

link_speaks : (opening w : WorldOf) (eid : ℕ) (l : LinkOf) → Stand opening w → link_at w eid ≡ Some l → LinkSpeaks w.packages l
link_speaks opening w eid l k is =
    let at = site_stood w eid (site_for w.sites eid) refl (linked_site _ _ (site_for w.sites eid) l is) in
    let all = messages_say opening w k in
    let there = pair_there k.messages.packages w.now (links_of w) k.messages.nodes at.place l k.stands.stand (link_by_place w at.place eid k.halves k.apart.1 at.at ∙ is) in
    subst (λ ps. LinkSpeaks ps l) k.packages (speaks_as k.messages.packages w.now k.messages.nodes at.place l all.packages all.pairs there)

pub world_says : (opening w : WorldOf) (eid : ℕ) (l : LinkOf) (s : LinkStep) → Stand opening w → link_at w eid ≡ Some l → LinkStepRoundTrips w.packages l s
world_says opening w eid l s k is = let speaks = link_speaks opening w eid l k is in link_says writes_answers w.packages l s speaks.lent speaks.device speaks.session

said_if : (packages : List PackageText) (l : LinkOf) (o : Option LinkStep) → ((s : LinkStep) → LinkStepRoundTrips packages l s) → IfSome o (LinkStepRoundTrips packages l)
said_if packages l None k = tt
said_if packages l (Some s) k = k s

-- for any step of the link in a step of the world
pub links_say : (opening w : WorldOf) (eid : ℕ) (l : LinkOf) (o : Option LinkStep) → Stand opening w → link_at w eid ≡ Some l → IfSome o (LinkStepRoundTrips w.packages l)
links_say opening w eid l o k is = said_if w.packages l o (λ s. world_says opening w eid l s k is)

-- So the messages of both halves on a link round-trip, at any packet.
pub link_round_trips : (opening w : WorldOf) (eid : ℕ) (l : LinkOf) → Stand opening w → link_at w eid ≡ Some l → RoundTrips w.packages l.agent l.device
link_round_trips opening w eid l k is =
    let speaks = link_speaks opening w eid l k is in
    record {
      agent_answers = agent_answers w.packages l.agent;
      device_answers = λ works bytes. device_answers writes_answers l.device works bytes speaks.device;
      agent_asks = agent_asks w.packages l.agent speaks.lent speaks.session;
      device_asks = device_asks l.device speaks.device;
    }
