-- The steps that may follow in a play, for a world that agrees with it (`may_at`).
use Rattle.std.proofs.Common.{◌≡◌, Bool, ◌∙◌, ◌+◌, ◌-◌, ◌^◌, ◌==◌, ◌<◌, ◌≤◌, ℕ, true, List, [], ◌∷◌, map, Option, Some, None, refl, sym, ap, subst}
use Rattle.std.specs.List.{AllByRecursion, Contains, list_all}
use Rattle.std.proofs.lemmas.Bool.{lt-ltb}
use Rattle.exch_lane.specs.Lanes.{Sent, item_numbered}
use Rattle.exch_lane.specs.Steps.{sent_at}
use Rattle.fw_package.specs.Package.{PackageText}
use Rattle.fw_node.specs.Agents.{AgentOf}
use Rattle.fw_node.specs.Nodes.{DeviceNodeOf}
use Rattle.fw_steps.specs.Alone.{is_for}
use Rattle.fw_steps.specs.Opening.{AreDifferent, IsOpeningWorld}
use Rattle.fw_steps.specs.Steps.{is_device, is_node, may_site_beat, may_step}
use Rattle.fw_steps.specs.Plays.{AgentMayCall, CallsBank, DeviceMayCall, PlayStep, IsCarried, MayFollow, agent_calls_of, agent_process_after, device_calls_of, device_process_after}
use Rattle.fw_steps.specs.Worlds.{SiteOf, WorldOf, eids_of, full_tick, packets_at, packets_of, site_for}
use Rattle.fw_steps.specs.declared.step.Step.TheVariants as steps
use Rattle.fw_steps.proofs.Leading.{equals, tick_goes}
use Rattle.fw_steps.proofs.Reaching.{new_eids}
use Rattle.fw_steps.proofs.DevicesAreIsolated.Seen.{found_in}
use Rattle.fw_steps.proofs.PlaysAreRuns.Options.{fact_there}
use Rattle.fw_steps.proofs.PlaysAreRuns.Sendings.{number_contained, living}
use Rattle.fw_steps.proofs.PlaysAreRuns.Sites.{some_site, site_in}
use Rattle.fw_steps.proofs.PlaysAreRuns.Agreeing.{Agrees, ComesFrom}

-- The packet that a step delivers is there in the world.
abbrev CarriedAt : WorldOf → PlayStep → Type 0
CarriedAt w PlayStep.UnitPasses = w.now < 2 ^ 32 - 1
CarriedAt w (PlayStep.AgentReceives device stamp bytes) = ComesFrom w device stamp bytes
CarriedAt w (PlayStep.DeviceReceives device works faults stamp bytes) = ComesFrom w device stamp bytes
CarriedAt w (PlayStep.Judges device works faults verdict) = is_device w device ≡ true
CarriedAt w (PlayStep.DeviceRestarts device) = is_device w device ≡ true
CarriedAt w h = Unit {0}

pub record MayAt (w : WorldOf) (h : PlayStep) : Type 0 where
  pub apart : AreDifferent (w.agent.endpoint.eid ∷ eids_of w.sites)
  pub carried : CarriedAt w h
  pub agent : AllByRecursion (AgentMayCall w.packages w.agent) (agent_calls_of w.now h)
  pub devices : (eid : ℕ) (y : SiteOf) → site_for w.sites eid ≡ Some y → AllByRecursion (DeviceMayCall y.node) (device_calls_of eid h)

-- The packets that a device sent, and those that the agent sent to it, are among the packets of the
-- device.
carried_from : (opening w : WorldOf) (before : List PlayStep) (device stamp : ℕ) (bytes : List ℕ) (x : SiteOf) → Agrees opening before w → site_for opening.sites device ≡ Some x
    → Contains (device_process_after device x.node before).sent (sent_at stamp bytes) → w.now ≤ stamp + 8 → ComesFrom w device stamp bytes
carried_from opening w before device stamp bytes x a e is soon =
    let y = a.devices device x e in
    let k = number_contained (sent_at stamp bytes) y.site.packets (y.agrees.sent (sent_at stamp bytes) is) in
    record { site = y.site; there = y.there; number = k.number; at = ap (λ (o : Option SiteOf). item_numbered (packets_at o) k.number) y.there ∙ k.at; soon = soon }

carried_to : (opening w : WorldOf) (before : List PlayStep) (device stamp : ℕ) (bytes : List ℕ) (x : SiteOf) → Agrees opening before w → site_for opening.sites device ≡ Some x
    → Contains (agent_process_after opening before).sent (sent_at stamp bytes) → is_for device bytes ≡ true → w.now ≤ stamp + 8 → ComesFrom w device stamp bytes
carried_to opening w before device stamp bytes x a e is for soon =
    let y = a.devices device x e in
    let k = number_contained (sent_at stamp bytes) y.site.packets (a.agent.sent device y.site y.there (sent_at stamp bytes) for is) in
    record { site = y.site; there = y.there; number = k.number; at = ap (λ (o : Option SiteOf). item_numbered (packets_at o) k.number) y.there ∙ k.at; soon = soon }

-- A device of the opening world is one of this world.
is_there : (opening w : WorldOf) (before : List PlayStep) (device : ℕ) → Agrees opening before w → is_device opening device ≡ true → is_device w device ≡ true
is_there opening w before device a e = some_site w.sites opening.sites a.eids device ∙ e

carried_at : (opening w : WorldOf) (before : List PlayStep) (h : PlayStep) → Agrees opening before w → IsCarried opening before h → CarriedAt w h
carried_at opening w before PlayStep.UnitPasses a c = subst (λ (n : ℕ). n < 2 ^ 32 - 1) (sym a.agent.unit) c
carried_at opening w before (PlayStep.AgentReceives device stamp bytes) a c =
    let x = found_in _ (site_for opening.sites device) c.0 in
    carried_from opening w before device stamp bytes x.value a x.is x.fact (subst (λ (n : ℕ). n ≤ stamp + 8) (sym a.agent.unit) c.1)
carried_at opening w before (PlayStep.DeviceReceives device works faults stamp bytes) a c =
    let x = found_in _ (site_for opening.sites device) c.0 in
    let y = a.devices device x.value x.is in
    carried_to opening w before device stamp bytes x.value a x.is c.1 c.2 (subst (λ (n : ℕ). n ≤ stamp + 8) (sym y.agrees.unit) x.fact)
carried_at opening w before (PlayStep.Judges device works faults verdict) a c = is_there opening w before device a c
carried_at opening w before (PlayStep.DeviceRestarts device) a c = is_there opening w before device a c
carried_at opening w before (PlayStep.Starts device number) a c = tt
carried_at opening w before (PlayStep.Cancels device) a c = tt
carried_at opening w before (PlayStep.Activates device) a c = tt
carried_at opening w before (PlayStep.AsksLog bytes) a c = tt
carried_at opening w before PlayStep.AgentRestarts a c = tt

-- All endpoint identifiers are different.
apart_at : (opening w : WorldOf) (before : List PlayStep) → IsOpeningWorld opening → Agrees opening before w → AreDifferent (w.agent.endpoint.eid ∷ eids_of w.sites)
apart_at opening w before opens a =
    let first : opening.agent.endpoint.eid ≡ opens.agent.eid = ap (λ (x : WorldOf). x.agent.endpoint.eid) opens.is in
    let rest : eids_of opening.sites ≡ map (λ n. n.endpoint.eid) opens.nodes = ap (λ (x : WorldOf). eids_of x.sites) opens.is ∙ new_eids opens.nodes in
    subst (λ (k : ℕ). AreDifferent (k ∷ eids_of w.sites)) (sym (a.eid ∙ first)) (subst (λ (ks : List ℕ). AreDifferent (opens.agent.eid ∷ ks)) (sym (a.eids ∙ rest)) opens.are.apart)

pub may_at : (opening w : WorldOf) (before : List PlayStep) (h : PlayStep) → IsOpeningWorld opening → Agrees opening before w → MayFollow opening before h → MayAt w h
may_at opening w before h opens a may =
    let q = agent_process_after opening before in
    record {
      apart = apart_at opening w before opens a;
      carried = carried_at opening w before h a may.carried;
      agent =
          subst (λ (ps : List PackageText). AllByRecursion (AgentMayCall ps w.agent) (agent_calls_of w.now h)) (sym a.packages)
          (subst (λ (n : AgentOf). AllByRecursion (AgentMayCall opening.packages n) (agent_calls_of w.now h)) (sym a.agent.node)
          (subst (λ (u : ℕ). AllByRecursion (AgentMayCall opening.packages q.node) (agent_calls_of u h)) (sym a.agent.unit) may.agent));
      devices = λ eid y e.
          let x = site_in opening.sites w.sites eid y (sym a.eids) e in
          let z = a.devices eid x.one x.is in
          let same : z.site ≡ y = (let both : Some z.site ≡ Some y = sym z.there ∙ e in cc) in
          subst (λ (n : DeviceNodeOf). AllByRecursion (DeviceMayCall n) (device_calls_of eid h)) (sym z.agrees.node ∙ ap (λ (u : SiteOf). u.node) same)
          (fact_there (λ (u : SiteOf). AllByRecursion (DeviceMayCall (device_process_after eid u.node before).node) (device_calls_of eid h)) (site_for opening.sites eid) x.one x.is (may.devices eid));
    }

-- No bank is called.
pub no_bank : (calls : Bool) (faults : ℕ) → CallsBank calls faults true faults
no_bank calls faults = record { worked = λ e. refl; failed = λ e. absurd (cc); called = λ e. absurd (cc) }

-- Every node may count a tick.
all_beat : (xs : List SiteOf) → list_all (may_site_beat []) xs ≡ true
all_beat [] = refl
all_beat (x ∷ xs) = all_beat xs

pub tick_may : (w : WorldOf) → w.now < 2 ^ 32 - 1 → may_step w full_tick ≡ None
tick_may w soon = tick_goes refl (lt-ltb w.now (2 ^ 32 - 1) soon) (all_beat w.sites)

pub may_come : (w : WorldOf) (device number node : ℕ) (p : Sent) → is_device w device ≡ true → is_node w node ≡ true → item_numbered (packets_of w device) number ≡ Some p → w.now ≤ p.date + 8
    → may_step w (steps.Deliver device number node) ≡ None
may_come w device number node p known to at soon = rw (known, to, at) (living w.now p soon)

pub agent_own : (w : WorldOf) → (w.agent.endpoint.eid == w.agent.endpoint.eid) ≡ true
agent_own w = equals w.agent.endpoint.eid w.agent.endpoint.eid refl
