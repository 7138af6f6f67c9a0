-- Along a run the messages on each link round-trip (`messages_round_trip`).
use Rattle.std.proofs.Common.{◌≡◌, ◌∙◌, ℕ, true, is_some, Option, Some, None, IsSomeAnd, refl, sym, ap}
use Rattle.exch_lane.specs.Laws.{LaneIsACell}
use Rattle.ua_core.specs.Session.{TimedOf}
use Rattle.fw_node.specs.Agents.{half_for}
use Rattle.fw_node.specs.Halves.{HalfOf}
use Rattle.fw_steps.specs.LinksAreLanes.{LinksAreLanes}
use Rattle.fw_steps.specs.LinksAreMessages.{LinksAreMessages}
use Rattle.fw_steps.specs.MessagesRoundTrip.{MessagesRoundTrip, RoundTrips}
use Rattle.fw_steps.specs.Worlds.{SiteOf, WorldOf, site_for}
use Rattle.fw_steps.proofs.LinksAreLanes.Linked.{link_there, site_stood}
use Rattle.fw_steps.proofs.LinksAreLanes.Listed.{link_by_place}
use Rattle.fw_steps.proofs.LinksAreLanes.Projection.{link_at, link_from}
use Rattle.fw_steps.proofs.PacketsAreSafe.Safe.{stand_along}
use Rattle.fw_steps.proofs.PacketsAreSafe.SafeOpening.{opening_stands}
use Rattle.fw_steps.proofs.PacketsAreSafe.SafeStands.{Stand, known_links}
use Rattle.fw_steps.proofs.PlaysAreRuns.Sites.{some_site}
use Rattle.fw_steps.proofs.Reaching.{run_eids}
use Rattle.fw_steps.proofs.ReadingBack.WorldRoundTrips.{link_round_trips}

-- The agent has a link with each device of a world.
linked : (opening w : WorldOf) (eid : ℕ) → Stand opening w → is_some (site_for w.sites eid) ≡ true → is_some (link_at w eid) ≡ true
linked opening w eid k some =
    let at = site_stood w eid (site_for w.sites eid) refl some in
    ap is_some (sym (link_by_place w at.place eid k.halves k.apart.1 at.at)) ∙ link_there w at.place eid (known_links opening w k) at.at

round_trips : (opening w : WorldOf) (eid : ℕ) (o : Option (HalfOf TimedOf)) (s : Option SiteOf) → Stand opening w → half_for w.agent eid ≡ o → site_for w.sites eid ≡ s
    → is_some (link_from w.since_miss o s) ≡ true → IsSomeAnd o (λ agent. IsSomeAnd s (λ x. RoundTrips w.packages agent x.node.half))
round_trips opening w eid None s k e f some = absurd (cc)
round_trips opening w eid (Some agent) None k e f some = absurd (cc)
round_trips opening w eid (Some agent) (Some x) k e f some =
    link_round_trips opening w eid _ k (ap (λ o. link_from w.since_miss o (site_for w.sites eid)) e ∙ ap (link_from w.since_miss (Some agent)) f)

pub messages_round_trip : LaneIsACell → LinksAreLanes → LinksAreMessages → MessagesRoundTrip
messages_round_trip law lanes messages opening w steps opens run eid known =
    let k = stand_along law lanes messages opening opening w steps (opening_stands law opening opens) run in
    let there = some_site w.sites opening.sites (run_eids opening w steps run) eid ∙ known in
    round_trips opening w eid (half_for w.agent eid) (site_for w.sites eid) k refl refl (linked opening w eid k there)
