-- Two worlds with the same endpoint identifiers have the same devices.
use Rattle.std.proofs.Common.{◌≡◌, ◌≢◌, ◌∙◌, ◌==◌, ℕ, Bool, true, false, if◌then◌else◌, is_some, List, [], ◌∷◌, Option, Some, refl, sym, ap}
use Rattle.fw_steps.specs.Opening.{AreDifferent}
use Rattle.fw_steps.specs.Worlds.{SiteOf, WorldOf, eids_of, site_for}
use Rattle.fw_steps.proofs.Leading.{differs}
use Rattle.fw_steps.proofs.LinksAreLanes.Comings.{fact_at}
use Rattle.fw_steps.proofs.LinksAreLanes.Firsts.{first_of}
use Rattle.fw_steps.proofs.LinksAreLanes.Linked.{site_stood}
use Rattle.fw_steps.proofs.LinksAreLanes.Listed.{every}
use Rattle.fw_steps.proofs.LinksAreLanes.Posting.{site_eid, site_is_first}
use Rattle.fw_steps.proofs.PlaysAreRuns.Options.{Found, found}

-- Whether there is a device depends only on the identifiers.
abbrev known_in : List ℕ → ℕ → Bool
known_in [] eid = false
known_in (k ∷ ks) eid = if k == eid then true else known_in ks eid

some_if : (b : Bool) (x : SiteOf) (o : Option SiteOf) → is_some (if b then Some x else o) ≡ (if b then true else is_some o)
some_if true x o = refl
some_if false x o = refl

first_known : (xs : List SiteOf) (eid : ℕ) → is_some (first_of site_eid xs eid) ≡ known_in (eids_of xs) eid
first_known [] eid = refl
first_known (x ∷ xs) eid = some_if (site_eid x == eid) x (first_of site_eid xs eid) ∙ ap (λ b. if site_eid x == eid then true else b) (first_known xs eid)

pub some_site : (xs ys : List SiteOf) → eids_of xs ≡ eids_of ys → (eid : ℕ) → is_some (site_for xs eid) ≡ is_some (site_for ys eid)
some_site xs ys e eid =
    ap is_some (site_is_first xs eid) ∙ first_known xs eid ∙ ap (λ ks. known_in ks eid) e ∙ sym (first_known ys eid) ∙ sym (ap is_some (site_is_first ys eid))

-- A device of one world is a device of the other.
pub site_in : (xs ys : List SiteOf) (eid : ℕ) (y : SiteOf) → eids_of xs ≡ eids_of ys → site_for ys eid ≡ Some y → Found (site_for xs eid)
site_in xs ys eid y e f = found (site_for xs eid) (some_site xs ys e eid ∙ ap is_some f)

-- No device has the agent's identifier.
pub device_differs : (w : WorldOf) (eid : ℕ) (y : SiteOf) → AreDifferent (w.agent.endpoint.eid ∷ eids_of w.sites) → site_for w.sites eid ≡ Some y → (eid == w.agent.endpoint.eid) ≡ false
device_differs w eid y apart e =
    let at = site_stood w eid (site_for w.sites eid) refl (ap is_some e) in
    differs eid w.agent.endpoint.eid (λ z. fact_at (λ x. w.agent.endpoint.eid ≢ x) (eids_of w.sites) at.place eid (every (λ x. w.agent.endpoint.eid ≢ x) (eids_of w.sites) apart.0) at.at (sym z))
