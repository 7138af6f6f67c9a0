-- A world of which each link is explained is linked.
use Rattle.std.proofs.Common.{◌≡◌, ◌≢◌, ◌∙◌, ℕ, zero, suc, true, is_some, List, [], ◌∷◌, map, slice_get, Option, Some, None, IsSomeAnd, inl, inr, refl, sym, ap, subst}
use Rattle.std.specs.List.{AllByRecursion}
use Rattle.std.proofs.lemmas.Bool.Decides.{eqb_tells}
use Rattle.ua_core.specs.Session.{TimedOf}
use Rattle.fw_node.specs.Agents.{half_for}
use Rattle.fw_node.specs.Halves.{HalfOf}
use Rattle.fw_steps.specs.Opening.{AreDifferent}
use Rattle.fw_steps.specs.Lanes.{times_of}
use Rattle.fw_steps.specs.Links.{LinkOf}
use Rattle.fw_steps.specs.Worlds.{SiteOf, WorldOf, site_for}
use Rattle.fw_steps.proofs.LinksAreLanes.AgentTicks.{AreApart, IsHalfOf, half_found, half_is_first, half_peer}
use Rattle.fw_steps.proofs.LinksAreLanes.Comings.{fact_at}
use Rattle.fw_steps.proofs.LinksAreLanes.Delivered.{IsLinkOf}
use Rattle.fw_steps.proofs.LinksAreLanes.Firsts.{first_of}
use Rattle.fw_steps.proofs.LinksAreLanes.InLanes.{ways_of}
use Rattle.fw_steps.proofs.LinksAreLanes.Keys.{eids_of, peers_of}
use Rattle.fw_steps.proofs.LinksAreLanes.Listed.{every, get_map, link_by_place, link_in_place, links_of, map_get}
use Rattle.fw_steps.proofs.LinksAreLanes.Posting.{site_eid, site_found, site_is_first}
use Rattle.fw_steps.proofs.LinksAreLanes.Projection.{link_at, link_from}
use Rattle.fw_steps.proofs.LinksAreLanes.Sendings.{routed_half}
use Rattle.fw_steps.proofs.LinksAreLanes.WorldSteps.{AreLinked}

-- the devices are different, the agent has a half for each, in the same order, and each link is
-- explained
pub record KnownLinks (w : WorldOf) : Type 0 where
  pub halves : peers_of w ≡ eids_of w
  pub apart : AreDifferent (w.agent.endpoint.eid ∷ eids_of w)
  pub links : (i eid : ℕ) (l : LinkOf) → slice_get (eids_of w) i ≡ Some eid → slice_get (links_of w) i ≡ Some l → IsLinkOf w eid l

-- the place of an element
pub record Stood {A : Type 0} (xs : List A) (x : A) : Type 0 where
  pub place : ℕ
  pub at : slice_get xs place ≡ Some x

stood_first : {A : Type 0} (key : A → ℕ) (xs : List A) (eid : ℕ) (x : A) → first_of key xs eid ≡ Some x → Stood xs x
stood_first key [] eid x e = absurd (cc)
stood_first key (y ∷ ys) eid x e = elim (eqb_tells (key y) eid) [
  | inl here ↦ record { place = zero; at = (rw here.0 at e) }
  | inr other ↦ let rest = stood_first key ys eid x (rw other.0 at e) in record { place = suc rest.place; at = rest.at }
]

pub site_stood : (w : WorldOf) (eid : ℕ) (s : Option SiteOf) → site_for w.sites eid ≡ s → is_some s ≡ true → Stood (eids_of w) eid
site_stood w eid None e some = absurd (cc)
site_stood w eid (Some x) e some =
    let at = stood_first site_eid w.sites eid x (sym (site_is_first w.sites eid) ∙ e) in
    record { place = at.place; at = map_get site_eid w.sites at.place x at.at ∙ ap Some (site_found w.sites eid x e) }

half_stood : (w : WorldOf) (eid : ℕ) (h : HalfOf TimedOf) → half_for w.agent eid ≡ Some h → Stood (peers_of w) eid
half_stood w eid h e =
    let at = stood_first half_peer w.agent.halves eid h (sym (half_is_first w.agent.halves eid) ∙ e) in
    record { place = at.place; at = map_get half_peer w.agent.halves at.place h at.at ∙ ap Some (half_found w.agent.halves eid h e) }

-- the agent is none of its devices
own_none : (w : WorldOf) (o : Option (HalfOf TimedOf)) → KnownLinks w → half_for w.agent w.agent.endpoint.eid ≡ o → o ≡ None
own_none w None k e = refl
own_none w (Some h) k e =
    let at = half_stood w w.agent.endpoint.eid h e in
    absurd (fact_at (λ y. w.agent.endpoint.eid ≢ y) (eids_of w) at.place w.agent.endpoint.eid (every (λ y. w.agent.endpoint.eid ≢ y) (eids_of w) k.apart.0)
    (ap (λ ks. slice_get ks at.place) (sym k.halves) ∙ at.at) refl)

both_there : (since : ℕ) (P : HalfOf TimedOf → Type 0) (Q : SiteOf → Type 0) (o : Option (HalfOf TimedOf)) (s : Option SiteOf) → IsSomeAnd o P → IsSomeAnd s Q → is_some (link_from since o s) ≡ true
both_there since P Q None s p q = absurd p
both_there since P Q (Some h) None p q = absurd q
both_there since P Q (Some h) (Some x) p q = refl

pub link_there : (w : WorldOf) (i eid : ℕ) → KnownLinks w → slice_get (eids_of w) i ≡ Some eid → is_some (slice_get (links_of w) i) ≡ true
link_there w i eid k e =
    ap is_some (link_in_place _ w.agent.halves w.sites i)
    ∙ both_there _ (λ h. half_peer h ≡ eid) (λ x. site_eid x ≡ eid) (slice_get w.agent.halves i) (slice_get w.sites i)
    (get_map half_peer w.agent.halves i eid (ap (λ ks. slice_get ks i) k.halves ∙ e)) (get_map site_eid w.sites i eid e)

pub linked_site : (since : ℕ) (o : Option (HalfOf TimedOf)) (s : Option SiteOf) (l : LinkOf) → link_from since o s ≡ Some l → is_some s ≡ true
linked_site since None s l e = absurd (cc)
linked_site since (Some h) None l e = absurd (cc)
linked_site since (Some h) (Some x) l e = refl

known_link : (w : WorldOf) (eid : ℕ) (l : LinkOf) → KnownLinks w → link_at w eid ≡ Some l → IsLinkOf w eid l
known_link w eid l k e =
    let at = site_stood w eid (site_for w.sites eid) refl (linked_site _ (half_for w.agent eid) (site_for w.sites eid) l e) in
    k.links at.place eid l at.at (link_by_place w at.place eid k.halves k.apart.1 at.at ∙ e)

known_some : (w : WorldOf) (eid : ℕ) → KnownLinks w → is_some (site_for w.sites eid) ≡ true → is_some (link_at w eid) ≡ true
known_some w eid k some =
    let at = site_stood w eid (site_for w.sites eid) refl some in
    ap is_some (sym (link_by_place w at.place eid k.halves k.apart.1 at.at)) ∙ link_there w at.place eid k at.at

-- the agent's halves
all_places : {A : Type 0} (P : A → Type 0) (xs : List A) → ((i : ℕ) (x : A) → slice_get xs i ≡ Some x → P x) → AllByRecursion P xs
all_places P [] h = tt
all_places P (x ∷ xs) h = (h 0 x refl, all_places P xs (λ i y e. h (suc i) y e))

half_of_link : (w : WorldOf) (eid : ℕ) (h : HalfOf TimedOf) (l : LinkOf) → l.agent ≡ h → IsLinkOf w eid l → IsHalfOf w.agent.deaf h
half_of_link w eid h l is k = subst (IsHalfOf w.agent.deaf) is (record {
  asking = k.asking;
  answering = k.answering;
  routed = routed_half (times_of w.now l) l.agent l.device l.packets (ways_of w.now l k.explained);
})

half_by : (w : WorldOf) (i eid : ℕ) (h : HalfOf TimedOf) (s : Option SiteOf) → KnownLinks w → slice_get (eids_of w) i ≡ Some eid → slice_get w.agent.halves i ≡ Some h → slice_get w.sites i ≡ s
    → IsSomeAnd s (λ x. site_eid x ≡ eid) → IsHalfOf w.agent.deaf h
half_by w i eid h None k e half site some = absurd some
half_by w i eid h (Some x) k e half site some =
    let l : LinkOf = record { agent = h; device = x.node.half; packets = x.packets; agent_since_miss = w.since_miss; device_since_miss = x.since_miss } in
    half_of_link w eid h l refl
    (k.links i eid l e (link_in_place _ w.agent.halves w.sites i ∙ ap (λ o. link_from w.since_miss o (slice_get w.sites i)) half ∙ ap (link_from w.since_miss (Some h)) site))

half_known : (w : WorldOf) (i : ℕ) (h : HalfOf TimedOf) → KnownLinks w → slice_get w.agent.halves i ≡ Some h → IsHalfOf w.agent.deaf h
half_known w i h k e =
    let there : slice_get (eids_of w) i ≡ Some h.peer = ap (λ ks. slice_get ks i) (sym k.halves) ∙ map_get half_peer w.agent.halves i h e in
    half_by w i h.peer h (slice_get w.sites i) k there e refl (get_map site_eid w.sites i h.peer there)

peers_differ : (n : ℕ) (hs : List (HalfOf TimedOf)) → AllByRecursion (λ y. n ≢ y) (map half_peer hs) → AllByRecursion (λ g. n ≢ g.peer) hs
peers_differ n [] k = tt
peers_differ n (h ∷ hs) k = (k.0, peers_differ n hs k.1)

halves_apart : (hs : List (HalfOf TimedOf)) → AreDifferent (map half_peer hs) → AreApart hs
halves_apart [] k = tt
halves_apart (h ∷ hs) k = (peers_differ h.peer hs (every (λ y. h.peer ≢ y) (map half_peer hs) k.0), halves_apart hs k.1)

-- So each step of such a world is a step of its links.
pub linked_world : (w : WorldOf) → KnownLinks w → AreLinked w
linked_world w k = record {
  halves = all_places (IsHalfOf w.agent.deaf) w.agent.halves (λ i h e. half_known w i h k e);
  apart = halves_apart w.agent.halves (subst AreDifferent (sym k.halves) k.apart.1);
  known = λ eid some. known_some w eid k some;
  own = own_none w (half_for w.agent w.agent.endpoint.eid) k refl;
  links = λ eid l e. known_link w eid l k e;
}
