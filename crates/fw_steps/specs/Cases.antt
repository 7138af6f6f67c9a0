-- The definition of worlds that agree in a device, tested: the differences that it detects.
use Rattle.std.specs.Prelude.{ℕ, ◌≡◌, Some}
use Rattle.ua_core.specs.Session.{TimedOf}
use Rattle.fw_message.specs.WorldLaws.{history_of}
use Rattle.fw_node.specs.Agents.{half_for}
use Rattle.fw_node.specs.Halves.{HalfOf}
use Rattle.fw_steps.specs.Isolation.{AgreeIn, node_without_faults}
use Rattle.fw_steps.specs.Worlds.{SiteOf, WorldOf, site_for}

-- two worlds that have a device, with the agent's half for it and the device's site in each
pub record HaveDevice (device : ℕ) (w v : WorldOf) (one other : HalfOf TimedOf) (x y : SiteOf) : Type 0 where
  pub half : half_for w.agent device ≡ Some one
  pub other_half : half_for v.agent device ≡ Some other
  pub site : site_for w.sites device ≡ Some x
  pub other_site : site_for v.sites device ≡ Some y

-- the parts that are equal in both
pub record AreAlike (device : ℕ) (w v : WorldOf) (one other : HalfOf TimedOf) (x y : SiteOf) : Type 0 where
  pub packages : v.packages ≡ w.packages
  pub now : v.now ≡ w.now
  pub node : node_without_faults y.node ≡ node_without_faults x.node
  pub half : other ≡ one
  pub deaf : v.agent.deaf ≡ w.agent.deaf
  pub agent_since_miss : v.since_miss ≡ w.since_miss
  pub device_since_miss : y.since_miss ≡ x.since_miss
  pub packets : y.packets ≡ x.packets
  pub history : history_of device v.history ≡ history_of device w.history

-- Worlds that differ in one of these parts don't agree.
abbrev pub AgreementSeesThePair : Type 0
AgreementSeesThePair =
    (device : ℕ) (w v : WorldOf) (one other : HalfOf TimedOf) (x y : SiteOf) → HaveDevice device w v one other x y → AgreeIn device w v
    → AreAlike device w v one other x y
