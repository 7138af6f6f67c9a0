-- A world agrees with processes if it has their nodes, and among its packets those that they sent.
-- It agrees with them again after a step that gives each of them the calls of a step of the play
-- (`steps_on`).
use Rattle.std.proofs.Common.{◌≡◌, ◌∙◌, ◌+◌, ◌++◌, ◌≤◌, ℕ, Bool, true, List, [], ◌∷◌, Option, Some, None, IsSomeAnd, inl, inr, refl, sym, ap, subst}
use Rattle.std.specs.List.{Contains, filter}
use Rattle.std.proofs.lemmas.List.Elements.{Contains-append_cases, Contains-append_left, Contains-append_right}
use Rattle.exch_lane.specs.Lanes.{Sent, item_numbered}
use Rattle.exch_lane.specs.Steps.{sent_at}
use Rattle.fw_package.specs.Package.{PackageText}
use Rattle.fw_message.specs.WorldLaws.{history_of}
use Rattle.fw_node.specs.Agents.{AgentOf}
use Rattle.fw_node.specs.Nodes.{DeviceNodeOf}
use Rattle.fw_steps.specs.Alone.{AgentCall, DeviceCall, agent_after_calls, agent_step_calls, agent_step_packets, device_after_calls, device_step_calls, site_step_packets, is_for, pair_step_packets, step_date, device_step_packets}
use Rattle.fw_steps.specs.Steps.{faults_before, may_step, world_after}
use Rattle.fw_steps.specs.BankCalls.{step_calls_bank}
use Rattle.fw_steps.specs.Plays.{AgentProcess, CallsBank, DeviceProcess, PlayStep, agent_calls_of, agent_process_after_step, agent_process_after, agent_process_after_steps, device_calls_of, device_process_after_step, device_process_after, device_process_after_steps, pair_step_entries, unit_after_step}
use Rattle.fw_steps.specs.Worlds.{SiteOf, WorldOf, eids_of, packets_of, sent_now, site_for}
use Rattle.fw_steps.specs.declared.step.Step.{Step}
use Rattle.fw_steps.proofs.LinksAreLanes.Keys.{eids_stay}
use Rattle.fw_steps.proofs.NodesAlone.{agent_steps, device_steps}
use Rattle.fw_steps.proofs.PacketsAreSafe.KnownDeaf.{agent_stays}
use Rattle.fw_steps.proofs.PacketsAreSafe.SafeSteps.{now_then, packages_stay, time_goes}
use Rattle.fw_steps.proofs.PacketsAreTheirs.{packets_steps}
use Rattle.fw_steps.proofs.PlaysAreRuns.Sendings.{contained_for}
use Rattle.fw_steps.proofs.PlaysAreRuns.Sites.{site_in}

-- ONE MORE STEP

pub agent_more : (packages : List PackageText) (p : AgentProcess) (hs : List PlayStep) (h : PlayStep) → agent_process_after_steps packages p (hs ++ h ∷ []) ≡ agent_process_after_step packages (agent_process_after_steps packages p hs) h
agent_more packages p [] h = refl
agent_more packages p (x ∷ hs) h = agent_more packages (agent_process_after_step packages p x) hs h

pub device_more : (eid : ℕ) (p : DeviceProcess) (hs : List PlayStep) (h : PlayStep) → device_process_after_steps eid p (hs ++ h ∷ []) ≡ device_process_after_step eid (device_process_after_steps eid p hs) h
device_more eid p [] h = refl
device_more eid p (x ∷ hs) h = device_more eid (device_process_after_step eid p x) hs h

-- AGREEMENT

pub record DeviceAgrees (now : ℕ) (q : DeviceProcess) (y : SiteOf) : Type 0 where
  pub unit : now ≡ q.unit
  pub node : y.node ≡ q.node
  pub sent : (p : Sent) → Contains q.sent p → Contains y.packets p

pub record AgentAgrees (q : AgentProcess) (w : WorldOf) : Type 0 where
  pub unit : w.now ≡ q.unit
  pub node : w.agent ≡ q.node
  pub sent : (eid : ℕ) (y : SiteOf) → site_for w.sites eid ≡ Some y → (p : Sent) → is_for eid p.bytes ≡ true → Contains q.sent p → Contains y.packets p

pub record IsSite (now : ℕ) (q : DeviceProcess) (o : Option SiteOf) : Type 0 where
  pub site : SiteOf
  pub there : o ≡ Some site
  pub agrees : DeviceAgrees now q site

pub record Agrees (opening : WorldOf) (before : List PlayStep) (w : WorldOf) : Type 0 where
  pub packages : w.packages ≡ opening.packages
  pub eid : w.agent.endpoint.eid ≡ opening.agent.endpoint.eid
  pub eids : eids_of w.sites ≡ eids_of opening.sites
  pub agent : AgentAgrees (agent_process_after opening before) w
  pub devices : (eid : ℕ) (x : SiteOf) → site_for opening.sites eid ≡ Some x → IsSite w.now (device_process_after eid x.node before) (site_for w.sites eid)

-- A STEP

-- This step of the world gives each node its calls of this step of the play, at the same time, and
-- has the same entries.
pub record IsStepOf (w : WorldOf) (works : Bool) (faults : ℕ) (h : PlayStep) (s : Step) : Type 0 where
  pub may : may_step w s ≡ None
  pub bank : CallsBank (step_calls_bank w s) (faults_before w s) works faults
  pub unit : now_then w.now s ≡ unit_after_step w.now h
  pub dated : step_date w.now s ≡ unit_after_step w.now h
  pub agent : agent_step_calls w s ≡ agent_calls_of w.now h
  pub device : (eid : ℕ) (y : SiteOf) → site_for w.sites eid ≡ Some y → device_step_calls eid works faults w s ≡ device_calls_of eid h
  pub noted : (eid : ℕ) (y : SiteOf) → site_for w.sites eid ≡ Some y
      → history_of eid (world_after works faults w s).history ≡ history_of eid w.history ++ pair_step_entries eid w.packages w.agent w.now y.node h

pub record HasStep (w : WorldOf) (h : PlayStep) : Type 0 where
  pub works : Bool
  pub faults : ℕ
  pub step : Step
  pub is : IsStepOf w works faults h step

-- A packet between the agent and a device has a number, and lives.
pub record ComesFrom (w : WorldOf) (device stamp : ℕ) (bytes : List ℕ) : Type 0 where
  pub site : SiteOf
  pub there : site_for w.sites device ≡ Some site
  pub number : ℕ
  pub at : item_numbered (packets_of w device) number ≡ Some (sent_at stamp bytes)
  pub soon : w.now ≤ stamp + 8

packets_then : (works : Bool) (faults : ℕ) (w : WorldOf) (s : Step) (eid : ℕ) (y z : SiteOf) → site_for w.sites eid ≡ Some y → site_for (world_after works faults w s).sites eid ≡ Some z
    → z.packets ≡ y.packets ++ pair_step_packets eid works faults w s
packets_then works faults w s eid y z e f =
    subst (λ (o : Option SiteOf). IsSomeAnd o (λ x. x.packets ≡ y.packets ++ pair_step_packets eid works faults w s)) f (packets_steps works faults w s eid y e)

node_then : (works : Bool) (faults : ℕ) (w : WorldOf) (s : Step) (eid : ℕ) (y z : SiteOf) → site_for w.sites eid ≡ Some y → site_for (world_after works faults w s).sites eid ≡ Some z
    → z.node ≡ device_after_calls y.node (device_step_calls eid works faults w s)
node_then works faults w s eid y z e f =
    subst (λ (o : Option SiteOf). IsSomeAnd o (λ x. x.node ≡ device_after_calls y.node (device_step_calls eid works faults w s))) f (device_steps works faults w s eid y e)

-- A device agrees after the step, and the agent does.
device_on : (works : Bool) (faults : ℕ) (w : WorldOf) (s : Step) (h : PlayStep) (eid : ℕ) (q : DeviceProcess) (y z : SiteOf) → site_for w.sites eid ≡ Some y
    → site_for (world_after works faults w s).sites eid ≡ Some z → DeviceAgrees w.now q y
    → now_then w.now s ≡ unit_after_step w.now h → step_date w.now s ≡ unit_after_step w.now h → device_step_calls eid works faults w s ≡ device_calls_of eid h
    → DeviceAgrees (world_after works faults w s).now (device_process_after_step eid q h) z
device_on works faults w s h eid q y z e f a unit dated calls =
    let packets : z.packets ≡ y.packets ++ pair_step_packets eid works faults w s = packets_then works faults w s eid y z e f in
    let theirs = sent_now (step_date w.now s) (filter (is_for eid) (agent_step_packets w.packages w.agent (agent_step_calls w s))) in
    let mine = sent_now (step_date w.now s) (site_step_packets (site_for w.sites eid) (device_step_calls eid works faults w s)) in
    let new = sent_now (unit_after_step q.unit h) (device_step_packets q.node (device_calls_of eid h)) in
    let same : mine ≡ new =
    ap (λ (o : Option SiteOf). sent_now (step_date w.now s) (site_step_packets o (device_step_calls eid works faults w s))) e
    ∙ ap (λ (cs : List DeviceCall). sent_now (step_date w.now s) (device_step_packets y.node cs)) calls
    ∙ ap (λ (n : DeviceNodeOf). sent_now (step_date w.now s) (device_step_packets n (device_calls_of eid h))) a.node
    ∙ ap (λ (t : ℕ). sent_now t (device_step_packets q.node (device_calls_of eid h))) (dated ∙ ap (λ (u : ℕ). unit_after_step u h) a.unit) in
    record {
      unit = time_goes works faults w s ∙ unit ∙ ap (λ (u : ℕ). unit_after_step u h) a.unit;
      node = node_then works faults w s eid y z e f ∙ ap (device_after_calls y.node) calls ∙ ap (λ (n : DeviceNodeOf). device_after_calls n (device_calls_of eid h)) a.node;
      sent = λ p is. subst (λ ps. Contains ps p) (sym packets) (elim (Contains-append_cases q.sent new p is) [
        | inl old ↦ Contains-append_left y.packets (theirs ++ mine) p (a.sent p old)
        | inr now ↦ Contains-append_right y.packets (theirs ++ mine) p (Contains-append_right theirs mine p (subst (λ ps. Contains ps p) (sym same) now))
      ]);
    }

agent_on : (packages : List PackageText) (works : Bool) (faults : ℕ) (w : WorldOf) (s : Step) (h : PlayStep) (q : AgentProcess) → w.packages ≡ packages → AgentAgrees q w
    → now_then w.now s ≡ unit_after_step w.now h → step_date w.now s ≡ unit_after_step w.now h → agent_step_calls w s ≡ agent_calls_of w.now h
    → AgentAgrees (agent_process_after_step packages q h) (world_after works faults w s)
agent_on packages works faults w s h q same a unit dated calls =
    let now : unit_after_step w.now h ≡ unit_after_step q.unit h = ap (λ (u : ℕ). unit_after_step u h) a.unit in
    let does : agent_step_calls w s ≡ agent_calls_of q.unit h = calls ∙ ap (λ (u : ℕ). agent_calls_of u h) a.unit in
    let new = sent_now (unit_after_step q.unit h) (agent_step_packets packages q.node (agent_calls_of q.unit h)) in
    let sends : sent_now (step_date w.now s) (agent_step_packets w.packages w.agent (agent_step_calls w s)) ≡ new =
    ap (λ (ps : List PackageText). sent_now (step_date w.now s) (agent_step_packets ps w.agent (agent_step_calls w s))) same
    ∙ ap (λ (n : AgentOf). sent_now (step_date w.now s) (agent_step_packets packages n (agent_step_calls w s))) a.node
    ∙ ap (λ (cs : List AgentCall). sent_now (step_date w.now s) (agent_step_packets packages q.node cs)) does
    ∙ ap (λ (t : ℕ). sent_now t (agent_step_packets packages q.node (agent_calls_of q.unit h))) (dated ∙ now) in
    record {
      unit = time_goes works faults w s ∙ unit ∙ now;
      node = agent_steps works faults w s ∙ ap (λ (ps : List PackageText). agent_after_calls ps w.agent (agent_step_calls w s)) same
          ∙ ap (λ (n : AgentOf). agent_after_calls packages n (agent_step_calls w s)) a.node ∙ ap (agent_after_calls packages q.node) does;
      sent = λ eid z f p for is.
          let y = site_in w.sites (world_after works faults w s).sites eid z (sym (eids_stay works faults w s)) f in
          let theirs = sent_now (step_date w.now s) (filter (is_for eid) (agent_step_packets w.packages w.agent (agent_step_calls w s))) in
          let mine = sent_now (step_date w.now s) (site_step_packets (site_for w.sites eid) (device_step_calls eid works faults w s)) in
          subst (λ ps. Contains ps p) (sym (packets_then works faults w s eid y.one z y.is f)) (elim (Contains-append_cases q.sent new p is) [
            | inl old ↦ Contains-append_left y.one.packets (theirs ++ mine) p (a.sent eid y.one y.is p for old)
            | inr later ↦ Contains-append_right y.one.packets (theirs ++ mine) p
                (Contains-append_left theirs mine p (contained_for (step_date w.now s) eid (agent_step_packets w.packages w.agent (agent_step_calls w s)) p for (subst (λ ps. Contains ps p) (sym sends) later)))
          ]);
    }

site_on : (works : Bool) (faults : ℕ) (w : WorldOf) (s : Step) (h : PlayStep) (eid : ℕ) (q : DeviceProcess) → IsSite w.now q (site_for w.sites eid)
    → now_then w.now s ≡ unit_after_step w.now h → step_date w.now s ≡ unit_after_step w.now h
    → ((y : SiteOf) → site_for w.sites eid ≡ Some y → device_step_calls eid works faults w s ≡ device_calls_of eid h)
    → IsSite (world_after works faults w s).now (device_process_after_step eid q h) (site_for (world_after works faults w s).sites eid)
site_on works faults w s h eid q a unit dated calls =
    let z = site_in (world_after works faults w s).sites w.sites eid a.site (eids_stay works faults w s) a.there in
    record { site = z.one; there = z.is; agrees = device_on works faults w s h eid q a.site z.one a.there z.is a.agrees unit dated (calls a.site a.there) }

pub steps_on : (opening w : WorldOf) (works : Bool) (faults : ℕ) (before : List PlayStep) (h : PlayStep) (s : Step) → Agrees opening before w → IsStepOf w works faults h s
    → Agrees opening (before ++ h ∷ []) (world_after works faults w s)
steps_on opening w works faults before h s a k = record {
  packages = packages_stay works faults w s ∙ a.packages;
  eid = agent_stays works faults w s ∙ a.eid;
  eids = eids_stay works faults w s ∙ a.eids;
  agent = subst (λ (q : AgentProcess). AgentAgrees q (world_after works faults w s)) (sym (agent_more opening.packages _ before h))
      (agent_on opening.packages works faults w s h (agent_process_after opening before) a.packages a.agent k.unit k.dated k.agent);
  devices = λ eid x e.
      subst (λ (q : DeviceProcess). IsSite (world_after works faults w s).now q (site_for (world_after works faults w s).sites eid)) (sym (device_more eid _ before h))
      (site_on works faults w s h eid (device_process_after eid x.node before) (a.devices eid x e) k.unit k.dated (k.device eid));
}
