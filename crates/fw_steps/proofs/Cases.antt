-- The differences that worlds that agree in a device can't have.
use Rattle.std.specs.Prelude.{ℕ, ◌≡◌, Option, None, Some}
use Rattle.std.proofs.Common.{◌∙◌, ap, sym}
use Rattle.ua_core.specs.Session.{TimedOf}
use Rattle.fw_node.specs.Agents.{half_for}
use Rattle.fw_node.specs.Halves.{HalfOf}
use Rattle.fw_steps.specs.Isolation.{SharedOf, shared_by, shared_with}
use Rattle.fw_steps.specs.Worlds.{SiteOf, WorldOf, site_for}
use Rattle.fw_steps.specs.Cases.{AgreementSeesThePair}

-- the shared state, if it is there
abbrev shared_or : SharedOf → Option SharedOf → SharedOf
shared_or other None = other
shared_or other (Some s) = s

shared_at : (device : ℕ) (w : WorldOf) (h : HalfOf TimedOf) (x : SiteOf) → half_for w.agent device ≡ Some h → site_for w.sites device ≡ Some x
    → shared_with w device ≡ shared_by w device (Some h) (Some x)
shared_at device w h x half site = ap (λ o. shared_by w device o (site_for w.sites device)) half ∙ ap (λ o. shared_by w device (Some h) o) site

there : (s t : SharedOf) → Some s ≡ Some t → s ≡ t
there s t e = ap (shared_or s) e

pub agreement_sees_the_pair : AgreementSeesThePair
agreement_sees_the_pair device w v one other x y have agree =
    let same : shared_by v device (Some other) (Some y) ≡ shared_by w device (Some one) (Some x) =
    sym (shared_at device v other y have.other_half have.other_site) ∙ agree.shared ∙ shared_at device w one x have.half have.site in
    let parts = there _ _ same in
    record {
      packages = agree.packages;
      now = agree.now;
      node = ap (λ (s : SharedOf). s.node) parts;
      half = ap (λ (s : SharedOf). s.half) parts;
      deaf = ap (λ (s : SharedOf). s.deaf) parts;
      agent_since_miss = ap (λ (s : SharedOf). s.agent_since_miss) parts;
      device_since_miss = ap (λ (s : SharedOf). s.device_since_miss) parts;
      packets = ap (λ (s : SharedOf). s.packets) parts;
      history = ap (λ (s : SharedOf). s.history) parts;
    }
