-- The acts of served processes, each of which is received after it was sent, are a trace, so the
-- headline holds for them (`served_processes_are_safe`).
use Rattle.std.proofs.Common.{◌≡◌, ◌∙◌, ◌==◌, ◌++◌, ℕ, Bool, true, false, if◌then◌else◌, List, [], ◌∷◌, Option, Some, None, IfSome, IsSomeAnd, ap, refl, sym, subst}
use Rattle.std.specs.Option.{option_map}
use Rattle.std.proofs.lemmas.Bool.{eq-eqb}
use Rattle.fw_package.specs.Package.{PackageText}
use Rattle.fw_steps.specs.Plays.{AgentProcess, DeviceMayCall, DeviceProcess}
use Rattle.fw_steps.specs.Traces.{Act, AgentAct, AgentMayAct, DeviceAct, DeviceMayAct, EachMayAct, ProcessesOf, TracesAreSafe, device_act_call, device_process_after_act, new_process, processes_after, processes_after_act, processes_of}
use Rattle.fw_steps.specs.Worlds.{SiteOf, site_for}
use Rattle.fw_steps.proofs.LinksAreLanes.Posting.{site_eid, site_of}
use Rattle.fw_serve.specs.Traced.{AgentKnows, AgentMayDo, AgentServes, DeviceEndsAsServed, DeviceKnows, DeviceMayDo, DeviceServes, DeviceServesIf, EachIsAfterSending, IsAfterSending, ServedProcessesAreSafe, ServedProcessesEnd, ServicesAct, acts_of_agent, acts_of_device, agent_process_after_acts, agent_process_of, device_process_after_acts, device_process_of}
use Rattle.fw_serve.proofs.TracedAgent.{agent_after_on, agent_may_on, agents_act}
use Rattle.fw_serve.proofs.TracedDeeds.{rounds_are_timely}
use Rattle.fw_serve.proofs.TracedDevices.{acts_keep, after_on, devices_act, may_on}

-- SERVICES

pub services_act : ServicesAct
services_act = (
  λ q h.
      let all = devices_act h.first h.last _ h.before h.serves.serves.sent h.serves.serves.done (rounds_are_timely h.first.unit h.serves.rounds) in
      record { acts = h.earlier ++ all.0; serves = record { service = h; served = all.0; are = all.1; all = refl }; same = refl },
  λ packages p h.
      let all = agents_act h.first h.last _ h.before h.serves.serves.sent h.serves.serves.done (rounds_are_timely h.first.now h.serves.rounds) h.clock in
      record { acts = h.earlier ++ all.0; serves = record { service = h; served = all.0; are = all.1; all = refl }; same = refl },
)

agent_may : (packages : List PackageText) (p : AgentProcess) (acts : List AgentAct) → AgentServes packages p acts → AgentMayDo packages p acts
agent_may packages p acts h =
    let s = h.service in
    subst (λ ds. AgentMayDo packages p ds) (sym h.all)
    (agent_may_on packages p s.earlier h.served s.may
    (subst (λ r. AgentMayDo packages r h.served) (sym s.begins) (subst (λ ps. AgentMayDo ps (agent_process_of s.first s.before) h.served) s.packaged h.are.may)))

agent_left : (packages : List PackageText) (p : AgentProcess) (acts : List AgentAct) (h : AgentServes packages p acts)
    → agent_process_after_acts packages p acts ≡ agent_process_of h.service.last (h.service.before ++ h.service.serves.serves.sent)
agent_left packages p acts h =
    let s = h.service in
    ap (agent_process_after_acts packages p) h.all ∙ agent_after_on packages p s.earlier h.served ∙ ap (λ r. agent_process_after_acts packages r h.served) s.begins
    ∙ ap (λ ps. agent_process_after_acts ps (agent_process_of s.first s.before) h.served) (sym s.packaged) ∙ h.are.ends

device_may : (q : DeviceProcess) (acts : List DeviceAct) → DeviceServes q acts → DeviceMayDo q.node.endpoint.eid q acts
device_may q acts h =
    let s = h.service in
    let eid = q.node.endpoint.eid in
    let named : s.first.device.node.endpoint.eid ≡ eid = ap (λ (r : DeviceProcess). r.node.endpoint.eid) (sym s.begins) ∙ ap (λ e. e.eid) (acts_keep q s.earlier) in
    subst (λ ds. DeviceMayDo eid q ds) (sym h.all)
    (may_on eid q s.earlier h.served s.may
    (subst (λ r. DeviceMayDo eid r h.served) (sym s.begins) (subst (λ e. DeviceMayDo e (device_process_of s.first s.before) h.served) named h.are.may)))

device_left : (q : DeviceProcess) (acts : List DeviceAct) (h : DeviceServes q acts)
    → device_process_after_acts q acts ≡ device_process_of h.service.last (h.service.before ++ h.service.serves.serves.sent)
device_left q acts h =
    let s = h.service in
    ap (device_process_after_acts q) h.all ∙ after_on q s.earlier h.served ∙ ap (λ r. device_process_after_acts r h.served) s.begins ∙ h.are.ends

-- THE END OF A TRACE

pub agent_end : (packages : List PackageText) (ps : ProcessesOf) (trace : List Act) → (processes_after packages ps trace).agent ≡ agent_process_after_acts packages ps.agent (acts_of_agent trace)
agent_end packages ps [] = refl
agent_end packages ps (Act.OfAgent d ∷ trace) = agent_end packages (processes_after_act packages ps (Act.OfAgent d)) trace
agent_end packages ps (Act.OfDevice device d ∷ trace) = agent_end packages (processes_after_act packages ps (Act.OfDevice device d)) trace

abbrev pub after_acts : List DeviceAct → Option DeviceProcess → Option DeviceProcess
after_acts acts o = option_map (λ q. device_process_after_acts q acts) o

none_done : (o : Option DeviceProcess) → o ≡ after_acts [] o
none_done None = refl
none_done (Some q) = refl

one_done : (mine : Bool) (o : Option DeviceProcess) (d : DeviceAct) (acts : List DeviceAct)
    → after_acts acts (if mine then option_map (device_process_after_act d) o else o) ≡ after_acts (if mine then d ∷ acts else acts) o
one_done true None d acts = refl
one_done true (Some q) d acts = refl
one_done false o d acts = refl

pub device_end : (packages : List PackageText) (ps : ProcessesOf) (trace : List Act) (eid : ℕ) → (processes_after packages ps trace).device eid ≡ after_acts (acts_of_device eid trace) (ps.device eid)
device_end packages ps [] eid = none_done (ps.device eid)
device_end packages ps (Act.OfAgent d ∷ trace) eid = device_end packages (processes_after_act packages ps (Act.OfAgent d)) trace eid
device_end packages ps (Act.OfDevice device d ∷ trace) eid =
    device_end packages (processes_after_act packages ps (Act.OfDevice device d)) trace eid ∙ one_done (device == eid) (ps.device eid) d (acts_of_device eid trace)

device_ends : (o after : Option DeviceProcess) (acts : List DeviceAct) (h : DeviceServesIf o acts) → after ≡ after_acts acts o → DeviceEndsAsServed o acts h after
device_ends None after acts h is = is
device_ends (Some q) after acts h is = is ∙ ap Some (device_left q acts h)

pub served_processes_end : ServedProcessesEnd
served_processes_end packages ps trace h = record {
  agent = agent_end packages ps trace ∙ agent_left packages ps.agent (acts_of_agent trace) h.agent;
  devices = λ eid. device_ends (ps.device eid) _ (acts_of_device eid trace) (h.devices eid) (device_end packages ps trace eid);
}

-- A TRACE

abbrev pub DeviceMayIf : (eid : ℕ) → Option DeviceProcess → List DeviceAct → Type 0
DeviceMayIf eid None acts = acts ≡ []
DeviceMayIf eid (Some q) acts = DeviceMayDo eid q acts

agent_may_act : (ps : ProcessesOf) (d : AgentAct) → AgentKnows ps.agent.unit d → IsAfterSending ps (Act.OfAgent d) → AgentMayAct ps d
agent_may_act ps AgentAct.Ticks knows sent = knows
agent_may_act ps (AgentAct.Receives device stamp bytes) knows sent = (knows.0, sent)
agent_may_act ps (AgentAct.Starts device number) knows sent = tt
agent_may_act ps (AgentAct.Cancels device) knows sent = tt
agent_may_act ps (AgentAct.Activates device) knows sent = tt
agent_may_act ps (AgentAct.AsksLog bytes) knows sent = tt
agent_may_act ps AgentAct.Restarts knows sent = tt

device_may_act : (ps : ProcessesOf) (device unit : ℕ) (d : DeviceAct) → DeviceKnows device unit d → IsAfterSending ps (Act.OfDevice device d) → DeviceMayAct ps.agent.sent device unit d
device_may_act ps device unit DeviceAct.Ticks knows sent = tt
device_may_act ps device unit (DeviceAct.Receives works faults stamp bytes) knows sent = (knows.0, sent, knows.1)
device_may_act ps device unit (DeviceAct.Judges works faults verdict) knows sent = tt
device_may_act ps device unit DeviceAct.Restarts knows sent = tt

first_may : (ps : ProcessesOf) (device : ℕ) (o : Option DeviceProcess) (d : DeviceAct) (acts : List DeviceAct) → DeviceMayIf device o (d ∷ acts) → IsAfterSending ps (Act.OfDevice device d)
    → IsSomeAnd o (λ q. DeviceMayAct ps.agent.sent device q.unit d × DeviceMayCall q.node (device_act_call d))
first_may ps device None d acts h sent = absurd (cc)
first_may ps device (Some q) d acts h sent = (device_may_act ps device q.unit d h.0.0 sent, h.0.1)

rest_may : (eid : ℕ) (mine : Bool) (o : Option DeviceProcess) (d : DeviceAct) (acts : List DeviceAct) → DeviceMayIf eid o (if mine then d ∷ acts else acts)
    → DeviceMayIf eid (if mine then option_map (device_process_after_act d) o else o) acts
rest_may eid true None d acts h = absurd (cc)
rest_may eid true (Some q) d acts h = h.1
rest_may eid false o d acts h = h

pub each_may : (packages : List PackageText) (ps : ProcessesOf) (trace : List Act) → AgentMayDo packages ps.agent (acts_of_agent trace) → ((eid : ℕ) → DeviceMayIf eid (ps.device eid) (acts_of_device eid trace))
    → EachIsAfterSending packages ps trace → EachMayAct packages ps trace
each_may packages ps [] agent devices sent = tt
each_may packages ps (Act.OfAgent d ∷ trace) agent devices sent =
    ((agent_may_act ps d agent.0.0 sent.0, agent.0.1), each_may packages (processes_after_act packages ps (Act.OfAgent d)) trace agent.1 devices sent.1)
each_may packages ps (Act.OfDevice device d ∷ trace) agent devices sent =
    let mine : DeviceMayIf device (ps.device device) (if true then d ∷ acts_of_device device trace else acts_of_device device trace) =
    subst (λ b. DeviceMayIf device (ps.device device) (if b then d ∷ acts_of_device device trace else acts_of_device device trace)) (eq-eqb device device refl) (devices device) in (
      first_may ps device (ps.device device) d (acts_of_device device trace) mine sent.0,
      each_may packages (processes_after_act packages ps (Act.OfDevice device d)) trace agent
          (λ eid. rest_may eid (device == eid) (ps.device eid) d (acts_of_device eid trace) (devices eid)) sent.1,
    )

-- the processes of an opening world
site_may : (eid : ℕ) (o : Option SiteOf) (acts : List DeviceAct) → IfSome o (λ x. site_eid x ≡ eid) → DeviceServesIf (option_map new_process o) acts → DeviceMayIf eid (option_map new_process o) acts
site_may eid None acts named h = h
site_may eid (Some x) acts named h = subst (λ e. DeviceMayDo e (new_process x) acts) named (device_may (new_process x) acts h)

pub served_processes_are_safe : TracesAreSafe → ServedProcessesAreSafe
served_processes_are_safe safe opening trace unit opens served sent reached =
    let ps = processes_of opening in
    let may = each_may opening.packages ps trace (agent_may opening.packages ps.agent (acts_of_agent trace) served.agent)
    (λ eid. site_may eid (site_for opening.sites eid) (acts_of_device eid trace) (site_of opening.sites eid) (served.devices eid)) sent in
    safe opening trace unit opens may reached
