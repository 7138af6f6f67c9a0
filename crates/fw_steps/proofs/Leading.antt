-- Each step of the world's code follows its definition.
use Rattle.std.proofs.Common.{◌≡◌, ◌∙◌, ◌++◌, ◌==◌, ◌&&◌, not, ◌<◌, ◌≤◌, ℕ, zero, suc, [], ◌∷◌, Bool, true, false, is_some, length, List, map, nat_le, nat_lt, slice_get, slice_set, Option, Some, None, ap, arith, inl, inr, refl, subst, sym}
use Rattle.std.proofs.lemmas.Bool.{le-leb, lt-ltb}
use Rattle.std.proofs.lemmas.Bool.Decides.{eqb_tells}
use Rattle.std.specs.Option.{option_map}
use Rattle.arrayvec.specs.declared.array_vec.ArrayVec.{ArrayVec}
use Rattle.exch_lane.specs.Lanes.{Sent, item_numbered}
use Rattle.fd_core.specs.Banks.{CountsFailure}
use Rattle.fd_core.specs.Steps.{applied_by}
use Rattle.fd_core.specs.declared.states.Verdict.{Verdict}
use Rattle.fw_package.specs.Package.{PackageText}
use Rattle.ua_core.specs.Session.{SessionOf}
use Rattle.fw_message.specs.Headline.{EntryOf}
use Rattle.fw_message.specs.Worlds.{NotedOf, noted_of}
use Rattle.fw_node.specs.Agents.{AgentOf, half_after_activate, agent_becomes, agent_restarts, half_after_cancel, ready_for, half_after_start}
use Rattle.fw_node.specs.BankCalls.{packet_calls_bank}
use Rattle.fw_node.specs.Cores.{device_core}
use Rattle.fw_node.specs.Nodes.{device_on_packet, device_on_verdict}
use Rattle.fw_node.specs.Packets.{all_packets}
use Rattle.fw_steps.specs.BankCalls.{delivery_calls_bank, judgement_calls_bank, receipt_calls_bank, step_calls_bank}
use Rattle.fw_steps.specs.Deliveries.{DeliversToDevice, GivesVerdict}
use Rattle.fw_steps.specs.Steps.{StepsTo, faults_before, faults_of, has_session, is_package, may_step, ready_fault, start_fault, tick_fault, world_after}
use Rattle.fw_steps.specs.Worlds.{SiteOf, WorldOf, activated_at, activates_on, world_after_log_request, at_agent, at_device, world_after_call, world_after_packet, world_after_deliver, world_after_verdict, node_becomes, packets_of, place_of, sent_now, site_at, site_for, site_restarts, world_after_tick}
use Rattle.fw_steps.specs.declared.step.Step.{Step}
use Rattle.fw_steps.specs.declared.step.Step.TheVariants as steps

-- whether two numbers are equal
pub equals : (a b : ℕ) → a ≡ b → (a == b) ≡ true
equals a b e = elim (eqb_tells a b) [ inl same ↦ same.0 | inr other ↦ absurd (other.1 e) ]

pub differs : (a b : ℕ) → (a ≡ b → ⊥) → (a == b) ≡ false
differs a b e = elim (eqb_tells a b) [ inl same ↦ absurd (e same.1) | inr other ↦ other.0 ]

-- a step that calls no bank
leads : (w v : WorldOf) (s : Step) → may_step w s ≡ None → v ≡ world_after true (faults_before w s) w s → StepsTo w s v
leads w v s may after = record { may = may; works = true; faults = faults_before w s; after = after; worked = λ e. refl; failed = λ e. absurd (cc); called = λ e. absurd (cc) }

pub tick_goes : {known soon may : Bool} → known ≡ true → soon ≡ true → may ≡ true → tick_fault known soon may ≡ None
tick_goes e f g = rw (e, f, g) refl

pub tick_leads : (w v : WorldOf) (missed : ArrayVec ℕ 17 (Unit {0})) → may_step w (steps.Tick missed) ≡ None → v ≡ world_after_tick missed.items w → StepsTo w (steps.Tick missed) v
tick_leads w v missed may after = leads w v (steps.Tick missed) may after

pub start_leads : (w v : WorldOf) (device number : ℕ) → may_step w (steps.Start device number) ≡ None → v ≡ world_after_call w device (λ h. half_after_start w.packages h number) → StepsTo w (steps.Start device number) v
start_leads w v device number may after = leads w v (steps.Start device number) may after

-- a start is allowed if its package is there and the session is free
pub may_start_there : (packages : List PackageText) (number : ℕ) (free : Option Bool) → (number ≡ 0 → ⊥) → number ≤ length packages → free ≡ Some true
    → start_fault (is_package packages number) free ≡ None
may_start_there packages number free some there is = rw is (
    let least : nat_lt 0 number ≡ true = lt-ltb 0 number (omega (arith, some)) in
    let most : nat_le number (length packages) ≡ true = le-leb number (length packages) there in
    rw (least, most) refl)

pub cancel_leads : (w v : WorldOf) (device : ℕ) → may_step w (steps.Cancel device) ≡ None → v ≡ world_after_call w device (half_after_cancel w.packages) → StepsTo w (steps.Cancel device) v
cancel_leads w v device may after = leads w v (steps.Cancel device) may after

pub activate_leads : (w v : WorldOf) (device : ℕ) → may_step w (steps.Activate device) ≡ None → v ≡ activates_on w device (ready_for w.agent device) → StepsTo w (steps.Activate device) v
activate_leads w v device may after = leads w v (steps.Activate device) may after

-- a session that was ready is there, and the agent is the one after its call
activated_so : (w v : WorldOf) (device : ℕ) (n : AgentOf) (o : Option SessionOf) → v ≡ record w { agent = n }
    → option_map (λ s. agent_becomes w.agent w.now device (λ h. half_after_activate w.packages h s)) o ≡ Some n → (ready_fault o ≡ None) × (v ≡ activates_on w device o)
activated_so w v device n None is e = absurd (cc)
activated_so w v device n (Some s) is e =
    let same : n ≡ agent_becomes w.agent w.now device (λ h. half_after_activate w.packages h s) = cc in
    (refl, is ∙ ap (λ a. record w { agent = a }) same)

pub activated_leads : (w v : WorldOf) (device : ℕ) (n : AgentOf) → has_session w device ≡ true → v ≡ record w { agent = n }
    → option_map (λ s. agent_becomes w.agent w.now device (λ h. half_after_activate w.packages h s)) (ready_for w.agent device) ≡ Some n → StepsTo w (steps.Activate device) v
activated_leads w v device n there is e =
    let done = activated_so w v device n (ready_for w.agent device) is e in
    activate_leads w v device (rw there done.0) done.1

pub agent_restart_leads : (w v : WorldOf) (node : ℕ) → node ≡ w.agent.endpoint.eid → v ≡ record w { agent = agent_restarts w.packages w.agent } → StepsTo w (steps.Restart node) v
agent_restart_leads w v node is after =
    leads w v (steps.Restart node) (rw (equals node w.agent.endpoint.eid is) refl) (rw (equals node w.agent.endpoint.eid is) after)

something_there : (xs : List SiteOf) (i : ℕ) → i < length xs → is_some (slice_get xs i) ≡ true
something_there [] i lt = absurd (omega (arith, lt))
something_there (x ∷ xs) zero lt = refl
something_there (x ∷ xs) (suc i) lt = something_there xs i (omega (arith, lt))

pub device_restart_leads : (w v : WorldOf) (node place : ℕ) → (node ≡ w.agent.endpoint.eid → ⊥) → place_of w.sites node ≡ Some place → place < length w.sites
    → v ≡ record w { sites = site_restarts w.sites (Some place) (slice_get w.sites place) } → StepsTo w (steps.Restart node) v
device_restart_leads w v node place is at within after =
    let known : is_some (site_for w.sites node) ≡ true = ap (λ p. is_some (site_at w.sites p)) at ∙ something_there w.sites place within in
    leads w v (steps.Restart node) (rw (differs node w.agent.endpoint.eid is, known) refl)
    (rw (differs node w.agent.endpoint.eid is) (after ∙ ap (λ p. record w { sites = site_restarts w.sites p (site_at w.sites p) }) (sym at)))

pub log_leads : (w v : WorldOf) (bytes : ArrayVec ℕ 64 (Unit {0})) → v ≡ world_after_log_request w bytes.items → StepsTo w (steps.Sel bytes) v
log_leads w v bytes after = leads w v (steps.Sel bytes) refl after

-- a packet that is delivered
it_comes : (works : Bool) (faults : ℕ) (w : WorldOf) (node : ℕ) (p : Option Sent) (bytes : List ℕ) → option_map (λ s. s.bytes) p ≡ Some bytes
    → world_after_deliver works faults w node p ≡ world_after_packet works faults w node bytes
it_comes works faults w node None bytes e = absurd (cc)
it_comes works faults w node (Some p) bytes e = let same : p.bytes ≡ bytes = cc in ap (world_after_packet works faults w node) same

pub agent_leads : (w v : WorldOf) (device number node : ℕ) (bytes : List ℕ) → may_step w (steps.Deliver device number node) ≡ None
    → option_map (λ s. s.bytes) (item_numbered (packets_of w device) number) ≡ Some bytes → (node == w.agent.endpoint.eid) ≡ true → v ≡ at_agent w bytes
    → StepsTo w (steps.Deliver device number node) v
agent_leads w v device number node bytes may there is after =
    leads w v (steps.Deliver device number node) may
    (after ∙ sym (it_comes true (faults_before w (steps.Deliver device number node)) w node (item_numbered (packets_of w device) number) bytes there ∙ rw is refl))

-- the node at a place changes
site_there : (w : WorldOf) (eid place : ℕ) (x : SiteOf) → place_of w.sites eid ≡ Some place → slice_get w.sites place ≡ Some x → site_for w.sites eid ≡ Some x
site_there w eid place x at there = ap (site_at w.sites) at ∙ there

becomes : (w v : WorldOf) (sites : List SiteOf) (history : List NotedOf) → v ≡ record w { sites = v.sites; history = v.history } → v.sites ≡ sites → v.history ≡ history
    → v ≡ record w { sites = sites; history = history }
becomes w v sites history rest a b = rest ∙ ap (λ xs. record w { sites = xs; history = v.history }) a ∙ ap (λ hs. record w { sites = sites; history = hs }) b

comes_there : (w v : WorldOf) (node : ℕ) (bytes : List ℕ) (k : DeliversToDevice w node bytes v) → v ≡ at_device k.heard.heard.heard.works k.heard.became.node.faults w bytes (place_of w.sites node) (site_for w.sites node)
comes_there w v node bytes k =
    let h = k.heard.heard.heard in
    becomes w v
    (slice_set w.sites k.place (record k.heard.site {
      node = node_becomes k.heard.site.node k.heard.became.node.faults (device_on_packet h.works k.heard.site.node bytes).tid (device_on_packet h.works k.heard.site.node bytes).half;
      packets = k.heard.site.packets ++ sent_now w.now (all_packets k.heard.site.node.half.unit (device_on_packet h.works k.heard.site.node bytes).sent);
    }))
    (w.history ++ map (λ p. noted_of k.heard.site.node.endpoint.eid (EntryOf.Activated p)) (activated_at h.works k.heard.site.node bytes))
    k.rest
    (k.heard.put ∙ ap (λ n. slice_set w.sites k.place (record { node = n; since_miss = k.heard.became.since_miss; packets = k.heard.became.packets })) h.node
    ∙ ap (λ ps. slice_set w.sites k.place (record { node = node_becomes k.heard.site.node k.heard.became.node.faults (device_on_packet h.works k.heard.site.node bytes).tid (device_on_packet h.works k.heard.site.node bytes).half; since_miss = k.heard.became.since_miss; packets = ps })) h.packets
    ∙ ap (λ n. slice_set w.sites k.place (record { node = node_becomes k.heard.site.node k.heard.became.node.faults (device_on_packet h.works k.heard.site.node bytes).tid (device_on_packet h.works k.heard.site.node bytes).half; since_miss = n; packets = k.heard.site.packets ++ sent_now w.now (all_packets k.heard.site.node.half.unit (device_on_packet h.works k.heard.site.node bytes).sent) })) h.since_miss)
    k.heard.heard.history
    ∙ sym (ap (at_device h.works k.heard.became.node.faults w bytes (place_of w.sites node)) (site_there w node k.place k.heard.site k.at k.heard.there)
    ∙ ap (λ p. at_device h.works k.heard.became.node.faults w bytes p (Some k.heard.site)) k.at)

-- whether it calls a bank
calls_there : (w : WorldOf) (node : ℕ) (p : Option Sent) (bytes : List ℕ) → option_map (λ s. s.bytes) p ≡ Some bytes
    → delivery_calls_bank w node p ≡ (not (node == w.agent.endpoint.eid) && receipt_calls_bank bytes (site_for w.sites node))
calls_there w node None bytes e = absurd (cc)
calls_there w node (Some p) bytes e = let same : p.bytes ≡ bytes = cc in ap (λ bs. not (node == w.agent.endpoint.eid) && receipt_calls_bank bs (site_for w.sites node)) same

device_calls : (w : WorldOf) (device number node : ℕ) (bytes : List ℕ) (x : SiteOf) → option_map (λ s. s.bytes) (item_numbered (packets_of w device) number) ≡ Some bytes
    → (node == w.agent.endpoint.eid) ≡ false → site_for w.sites node ≡ Some x → packet_calls_bank device_core x.node.half bytes ≡ true
    → step_calls_bank w (steps.Deliver device number node) ≡ true
device_calls w device number node bytes x there is site called =
    calls_there w node (item_numbered (packets_of w device) number) bytes there ∙ ap (λ b. not b && receipt_calls_bank bytes (site_for w.sites node)) is
    ∙ ap (receipt_calls_bank bytes) site ∙ called

pub device_leads : (w v : WorldOf) (device number node : ℕ) (bytes : List ℕ) → may_step w (steps.Deliver device number node) ≡ None
    → option_map (λ s. s.bytes) (item_numbered (packets_of w device) number) ≡ Some bytes → (node == w.agent.endpoint.eid) ≡ false → DeliversToDevice w node bytes v
    → StepsTo w (steps.Deliver device number node) v
device_leads w v device number node bytes may there is k =
    let site = site_there w node k.place k.heard.site k.at k.heard.there in
    record {
      may = may;
      works = k.heard.heard.heard.works;
      faults = k.heard.became.node.faults;
      after = comes_there w v node bytes k
          ∙ sym (it_comes k.heard.heard.heard.works k.heard.became.node.faults w node (item_numbered (packets_of w device) number) bytes there ∙ rw is refl);
      worked = λ e. k.heard.heard.heard.worked e ∙ sym (ap faults_of site);
      failed = λ e. subst (λ n. CountsFailure n k.heard.became.node.faults) (sym (ap faults_of site)) (k.heard.heard.heard.failed e);
      called = λ e. device_calls w device number node bytes k.heard.site there is site (k.heard.heard.heard.called e);
    }

-- a verdict
judged_there : (w v : WorldOf) (device : ℕ) (verdict : Verdict) (k : GivesVerdict w device verdict v)
    → v ≡ world_after_verdict k.judged.judged.judged.works k.judged.became.node.faults w verdict (place_of w.sites device) (site_for w.sites device)
judged_there w v device verdict k =
    let j = k.judged.judged.judged in
    becomes w v
    (slice_set w.sites k.place (record k.judged.site { node = node_becomes k.judged.site.node k.judged.became.node.faults k.judged.site.node.tid (device_on_verdict j.works k.judged.site.node verdict) }))
    (w.history ++ map (λ p. noted_of k.judged.site.node.endpoint.eid (EntryOf.Applied p)) (applied_by k.judged.site.node.half.core.device verdict j.works))
    k.rest
    (k.judged.put ∙ ap (λ n. slice_set w.sites k.place (record { node = n; since_miss = k.judged.became.since_miss; packets = k.judged.became.packets })) j.node
    ∙ ap (λ ps. slice_set w.sites k.place (record { node = node_becomes k.judged.site.node k.judged.became.node.faults k.judged.site.node.tid (device_on_verdict j.works k.judged.site.node verdict); since_miss = k.judged.became.since_miss; packets = ps })) j.packets
    ∙ ap (λ n. slice_set w.sites k.place (record { node = node_becomes k.judged.site.node k.judged.became.node.faults k.judged.site.node.tid (device_on_verdict j.works k.judged.site.node verdict); since_miss = n; packets = k.judged.site.packets })) j.since_miss)
    k.judged.judged.history
    ∙ sym (ap (world_after_verdict j.works k.judged.became.node.faults w verdict (place_of w.sites device)) (site_there w device k.place k.judged.site k.at k.judged.there)
    ∙ ap (λ p. world_after_verdict j.works k.judged.became.node.faults w verdict p (Some k.judged.site)) k.at)

pub verdict_leads : (w v : WorldOf) (device : ℕ) (verdict : Verdict) → may_step w (steps.Verdict device verdict) ≡ None → GivesVerdict w device verdict v → StepsTo w (steps.Verdict device verdict) v
verdict_leads w v device verdict may k =
    let site = site_there w device k.place k.judged.site k.at k.judged.there in
    record {
      may = may;
      works = k.judged.judged.judged.works;
      faults = k.judged.became.node.faults;
      after = judged_there w v device verdict k;
      worked = λ e. k.judged.judged.judged.worked e ∙ sym (ap faults_of site);
      failed = λ e. subst (λ n. CountsFailure n k.judged.became.node.faults) (sym (ap faults_of site)) (k.judged.judged.judged.failed e);
      called = λ e. ap (judgement_calls_bank verdict) site ∙ k.judged.judged.judged.called e;
    }
