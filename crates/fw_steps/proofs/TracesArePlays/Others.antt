-- An act that is no tick is a step of the play beside the trace (`agent_emits`, `device_emits`).
use Rattle.std.proofs.Common.{◌≡◌, ◌∙◌, ◌+◌, ◌==◌, ◌++◌, ◌≤◌, ℕ, Bool, true, false, if◌then◌else◌, is_some, List, [], ◌∷◌, Option, Some, IsSomeAnd, inl, refl, sym, ap, subst}
use Rattle.std.specs.List.{AllByRecursion, Contains}
use Rattle.std.proofs.lemmas.Bool.{eqb-true}
use Rattle.exch_lane.specs.Steps.{sent_at}
use Rattle.fw_package.specs.Package.{PackageText}
use Rattle.fw_steps.specs.Alone.{DeviceCall}
use Rattle.fw_node.specs.Agents.{AgentOf}
use Rattle.fw_node.specs.Nodes.{DeviceNodeOf}
use Rattle.fw_steps.specs.Plays.{AgentMayCall, AgentProcess, DeviceMayCall, DeviceProcess, PlayStep, IsCarried, MayFollow, agent_calls_of, agent_process_after_step, agent_process_after, device_calls_of, device_process_after_step, device_process_after}
use Rattle.fw_steps.specs.Traces.{Act, AgentAct, AgentMayAct, DeviceAct, DeviceMayAct, MayAct, ProcessesOf, processes_after_act, agent_act_call, agent_unit_after, device_act_call, device_unit_after}
use Rattle.fw_steps.specs.Worlds.{SiteOf, WorldOf, site_for}
use Rattle.fw_steps.proofs.PlaysAreRuns.Options.{if_there, one_there}
use Rattle.fw_steps.proofs.DevicesAreIsolated.Seen.{found_in}
use Rattle.fw_steps.proofs.PlaysAreRuns.Agreeing.{agent_more, device_more}
use Rattle.fw_steps.proofs.TracesArePlays.Keys.{IsOther, IsOtherOf}
use Rattle.fw_steps.proofs.TracesArePlays.Steps.{agent_happens, device_happens, agent_same, device_still, device_same, device_far, agent_still}
use Rattle.fw_steps.proofs.TracesArePlays.Beside.{NearAgent, NearDevice, Beside, now_agent, now_device, near_sent, near_agent_sent, device_acted}

other_unit : (unit : ℕ) (d : AgentAct) → IsOther d → agent_unit_after unit d ≡ unit
other_unit unit AgentAct.Ticks o = absurd o
other_unit unit d o = refl

other_device_unit : (unit : ℕ) (d : DeviceAct) → IsOtherOf d → device_unit_after unit d ≡ unit
other_device_unit unit DeviceAct.Ticks o = absurd o
other_device_unit unit d o = refl

agent_carried : (opening : WorldOf) (before : List PlayStep) (ps : ProcessesOf) (k : ℕ) (d : AgentAct) → IsOther d → Beside opening before ps k → agent_process_after opening before ≡ ps.agent
    → AgentMayAct ps d → IsCarried opening before (agent_happens d)
agent_carried opening before ps k AgentAct.Ticks o b same h = absurd o
agent_carried opening before ps k (AgentAct.Receives device stamp bytes) o b same h =
    let q = found_in (λ (q : DeviceProcess). Contains q.sent (sent_at stamp bytes)) (ps.device device) h.1 in
    let x = b.back device q.value q.is in
    let d = b.devices device x.one x.is in
    let one : q.value ≡ d.process = one_there (ps.device device) q.value d.process q.is d.there in (
      subst (λ (o : Option SiteOf). IsSomeAnd o (λ y. Contains (device_process_after device y.node before).sent (sent_at stamp bytes))) (sym x.is)
          (near_sent k (device_process_after device x.one.node before) d.process (sent_at stamp bytes) d.near (subst (λ (t : DeviceProcess). Contains t.sent (sent_at stamp bytes)) one q.fact)),
      subst (λ (t : AgentProcess). t.unit ≤ stamp + 8) (sym same) h.0.living,
    )
agent_carried opening before ps k (AgentAct.Starts device number) o b same h = tt
agent_carried opening before ps k (AgentAct.Cancels device) o b same h = tt
agent_carried opening before ps k (AgentAct.Activates device) o b same h = tt
agent_carried opening before ps k (AgentAct.AsksLog bytes) o b same h = tt
agent_carried opening before ps k AgentAct.Restarts o b same h = tt

agent_alls : (packages : List PackageText) (p : AgentProcess) (d : AgentAct) → AgentMayCall packages p.node (agent_act_call p.unit d) → AllByRecursion (AgentMayCall packages p.node) (agent_calls_of p.unit (agent_happens d))
agent_alls packages p AgentAct.Ticks h = (h, tt)
agent_alls packages p (AgentAct.Receives device stamp bytes) h = (h, tt)
agent_alls packages p (AgentAct.Starts device number) h = (h, tt)
agent_alls packages p (AgentAct.Cancels device) h = (h, tt)
agent_alls packages p (AgentAct.Activates device) h = (h, tt)
agent_alls packages p (AgentAct.AsksLog bytes) h = (h, tt)
agent_alls packages p AgentAct.Restarts h = (h, tt)

no_device_does : (n : DeviceNodeOf) (eid : ℕ) (d : AgentAct) → IsOther d → AllByRecursion (DeviceMayCall n) (device_calls_of eid (agent_happens d))
no_device_does n eid AgentAct.Ticks o = absurd o
no_device_does n eid (AgentAct.Receives device stamp bytes) o = tt
no_device_does n eid (AgentAct.Starts device number) o = tt
no_device_does n eid (AgentAct.Cancels device) o = tt
no_device_does n eid (AgentAct.Activates device) o = tt
no_device_does n eid (AgentAct.AsksLog bytes) o = tt
no_device_does n eid AgentAct.Restarts o = tt

pub record Emits (opening : WorldOf) (before : List PlayStep) (h : PlayStep) (ps : ProcessesOf) (k : ℕ) : Type 0 where
  pub may : MayFollow opening before h
  pub beside : Beside opening (before ++ h ∷ []) ps k

pub agent_emits : (opening : WorldOf) (before : List PlayStep) (ps : ProcessesOf) (k : ℕ) (d : AgentAct) → IsOther d → Beside opening before ps k → k ≤ ps.agent.unit
    → MayAct opening.packages ps (Act.OfAgent d) → Emits opening before (agent_happens d) (processes_after_act opening.packages ps (Act.OfAgent d)) k
agent_emits opening before ps k d o b low h =
    let now = now_agent opening.packages k (agent_process_after opening before) ps.agent b.agent low in
    record {
      may = record {
        carried = agent_carried opening before ps k d o b now.0 h.0;
        agent = subst (λ (p : AgentProcess). AllByRecursion (AgentMayCall opening.packages p.node) (agent_calls_of p.unit (agent_happens d))) (sym now.0) (agent_alls opening.packages ps.agent d h.1);
        devices = λ eid. if_there (site_for opening.sites eid) (λ x. AllByRecursion (DeviceMayCall (device_process_after eid x.node before).node) (device_calls_of eid (agent_happens d)))
            (λ x e. no_device_does (device_process_after eid x.node before).node eid d o);
      };
      beside = record {
        agent = inl (
          agent_more opening.packages _ before (agent_happens d) ∙ ap (λ (p : AgentProcess). agent_process_after_step opening.packages p (agent_happens d)) now.0 ∙ agent_same opening.packages ps.agent d,
          other_unit ps.agent.unit d o ∙ now.1,
        );
        devices = λ eid x e. record {
          process = (b.devices eid x e).process;
          there = (b.devices eid x e).there;
          near = subst (λ (p : DeviceProcess). NearDevice k p (b.devices eid x e).process)
              (sym (device_more eid _ before (agent_happens d) ∙ device_still eid (device_process_after eid x.node before) d o)) (b.devices eid x e).near;
        };
        back = b.back;
      };
    }

device_carried : (opening : WorldOf) (before : List PlayStep) (ps : ProcessesOf) (k device : ℕ) (d : DeviceAct) (q : DeviceProcess) (x : SiteOf) → IsOtherOf d → Beside opening before ps k
    → site_for opening.sites device ≡ Some x → device_process_after device x.node before ≡ q → DeviceMayAct ps.agent.sent device q.unit d → IsCarried opening before (device_happens device d)
device_carried opening before ps k device DeviceAct.Ticks q x o b e same h = absurd o
device_carried opening before ps k device (DeviceAct.Receives works faults stamp bytes) q x o b e same h = (
  subst (λ (s : Option SiteOf). IsSomeAnd s (λ y. (device_process_after device y.node before).unit ≤ stamp + 8)) (sym e) (subst (λ (t : DeviceProcess). t.unit ≤ stamp + 8) (sym same) h.0.living),
  near_agent_sent opening.packages k (agent_process_after opening before) ps.agent (sent_at stamp bytes) b.agent h.1,
  h.2,
)
device_carried opening before ps k device (DeviceAct.Judges works faults verdict) q x o b e same h = ap is_some e
device_carried opening before ps k device DeviceAct.Restarts q x o b e same h = ap is_some e

no_agent_does : (packages : List PackageText) (n : AgentOf) (unit device : ℕ) (d : DeviceAct) → IsOtherOf d → AllByRecursion (AgentMayCall packages n) (agent_calls_of unit (device_happens device d))
no_agent_does packages n unit device DeviceAct.Ticks o = absurd o
no_agent_does packages n unit device (DeviceAct.Receives works faults stamp bytes) o = tt
no_agent_does packages n unit device (DeviceAct.Judges works faults verdict) o = tt
no_agent_does packages n unit device DeviceAct.Restarts o = tt

one_does : (mine : Bool) (n : DeviceNodeOf) (c : DeviceCall) → (mine ≡ true → DeviceMayCall n c) → AllByRecursion (DeviceMayCall n) (if mine then c ∷ [] else [])
one_does true n c h = (h refl, tt)
one_does false n c h = tt

device_alls : (n : DeviceNodeOf) (device eid : ℕ) (d : DeviceAct) → IsOtherOf d → ((device == eid) ≡ true → DeviceMayCall n (device_act_call d)) → AllByRecursion (DeviceMayCall n) (device_calls_of eid (device_happens device d))
device_alls n device eid DeviceAct.Ticks o h = absurd o
device_alls n device eid (DeviceAct.Receives works faults stamp bytes) o h = one_does (device == eid) n (DeviceCall.Receives works faults bytes) h
device_alls n device eid (DeviceAct.Judges works faults verdict) o h = one_does (device == eid) n (DeviceCall.Judges works faults verdict) h
device_alls n device eid DeviceAct.Restarts o h = one_does (device == eid) n DeviceCall.Restarts h

pub device_emits : (opening : WorldOf) (before : List PlayStep) (ps : ProcessesOf) (k device : ℕ) (d : DeviceAct) (q : DeviceProcess) → IsOtherOf d → Beside opening before ps k → ps.device device ≡ Some q
    → k ≤ q.unit → DeviceMayAct ps.agent.sent device q.unit d → DeviceMayCall q.node (device_act_call d)
    → Emits opening before (device_happens device d) (processes_after_act opening.packages ps (Act.OfDevice device d)) k
device_emits opening before ps k device d q o b is low may call =
    let h = device_happens device d in
    let at : (x : SiteOf) → site_for opening.sites device ≡ Some x → (device_process_after device x.node before ≡ q) × (q.unit ≡ k) =
    λ x e. now_device k (device_process_after device x.node before) q
    (subst (NearDevice k (device_process_after device x.node before)) (one_there (ps.device device) (b.devices device x e).process q (b.devices device x e).there is) (b.devices device x e).near) low in
    let x = b.back device q is in
    record {
      may = record {
        carried = device_carried opening before ps k device d q x.one o b x.is (at x.one x.is).0 may;
        agent = no_agent_does opening.packages (agent_process_after opening before).node (agent_process_after opening before).unit device d o;
        devices = λ eid. if_there (site_for opening.sites eid) (λ y. AllByRecursion (DeviceMayCall (device_process_after eid y.node before).node) (device_calls_of eid h))
            (λ y e. device_alls (device_process_after eid y.node before).node device eid d o
            (λ mine. let same : device ≡ eid = eqb-true device eid mine in
            subst (λ (j : ℕ). DeviceMayCall (device_process_after j y.node before).node (device_act_call d)) same
            (subst (λ (p : DeviceProcess). DeviceMayCall p.node (device_act_call d)) (sym (at y (ap (site_for opening.sites) same ∙ e)).0) call)));
      };
      beside = device_acted opening before (before ++ h ∷ []) ps k device d q is b
          (subst (λ (p : AgentProcess). NearAgent opening.packages k p ps.agent)
          (sym (agent_more opening.packages _ before h ∙ agent_still opening.packages (agent_process_after opening before) device d o)) b.agent)
          (λ y e. inl (device_more device _ before h ∙ ap (λ (p : DeviceProcess). device_process_after_step device p h) (at y e).0 ∙ device_same device q d, other_device_unit q.unit d o ∙ (at y e).1))
          (λ eid y far. device_more eid _ before h ∙ device_far device eid (device_process_after eid y.node before) d o far);
    }

pub near_there : (opening : WorldOf) (before : List PlayStep) (ps : ProcessesOf) (k device : ℕ) (q : DeviceProcess) → (is : ps.device device ≡ Some q) → (b : Beside opening before ps k)
    → NearDevice k (device_process_after device (b.back device q is).one.node before) q
near_there opening before ps k device q is b =
    let x = b.back device q is in
    subst (NearDevice k (device_process_after device x.one.node before)) (one_there (ps.device device) (b.devices device x.one x.is).process q (b.devices device x.one x.is).there is) (b.devices device x.one x.is).near
