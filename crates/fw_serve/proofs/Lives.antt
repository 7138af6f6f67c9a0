-- The lives of processes are acts of a trace, and the headline holds for them (`lives_act`,
-- `lives_are_safe`).
use Rattle.std.proofs.Common.{◌≡◌, ◌≤◌, ◌∙◌, ◌+◌, ◌-◌, ◌^◌, ◌++◌, ◌⊎◌, ℕ, List, [], ◌∷◌, map, Option, Some, None, IfSome, inl, inr, ap, arith, refl, sym, subst}
use Rattle.std.specs.List.{AllByRecursion}
use Rattle.std.specs.Option.{option_map}
use Rattle.agent_store.specs.Kept.{kept_lines}
use Rattle.fw_node.specs.Agents.{AgentOf, agent_restarts}
use Rattle.fw_node.specs.Halves.{HalfOf}
use Rattle.fw_node.specs.Nodes.{DeviceNodeOf, device_restarts, new_device_node}
use Rattle.fw_node.specs.Resumed.{IsHalfIn}
use Rattle.fw_package.specs.Package.{PackageText}
use Rattle.fw_steps.specs.Absences.{agent_absence, device_absence}
use Rattle.fw_steps.specs.Alone.{DeviceCall}
use Rattle.fw_steps.specs.Opening.{AreDifferent, IsNewNode, IsOpeningWorld, new_site}
use Rattle.fw_steps.specs.Plays.{AgentProcess, DeviceProcess}
use Rattle.fw_steps.specs.Traces.{Act, AgentAct, DeviceAct, TracesAreSafe, agent_process_after_act, agent_unit_after, new_process, processes_of}
use Rattle.fw_steps.specs.Worlds.{SiteOf, WorldOf, site_for}
use Rattle.fw_steps.proofs.LinksAreLanes.Firsts.{first_fact}
use Rattle.fw_steps.proofs.LinksAreLanes.Posting.{site_eid, site_is_first, site_of}
use Rattle.mctp_ctl.specs.declared.answers.Endpoint.{Endpoint}
use Rattle.mctp_wire.specs.declared.unit.Unit.{«Unit»}
use Rattle.ua_core.specs.Session.{TimedOf}
use Rattle.fw_serve.specs.Anew.{StartedAnewIsAbsence, agent_anew, node_anew}
use Rattle.fw_serve.specs.Lives.{AgentLifeOf, AgentLives, AgentSetupOf, AreActsOfAgentLife, AreActsOfAgentLives, AreActsOfDeviceLife, AreActsOfDeviceLives, AreAgentLives, AreDeviceLives, AreLived, DeviceEndsAsLived, DeviceLifeOf, DeviceLives, DeviceLivesIf, GoesOnWith, IsAgentLife, IsDeviceLife, LivesAct, LivesAreSafe, LivesEnd, agent_after_gone, agent_after_lives, agent_begun, agent_gone, agent_left, agent_of_setup, device_after_gone, device_after_lives, device_anew, device_begun, device_gone, device_left, process_recounted, recounted, served_recounted}
use Rattle.fw_serve.specs.Serving.{TakesCalls}
use Rattle.fw_serve.specs.Traced.{AgentMayDo, DeviceMayDo, acts_of_agent, acts_of_device, agent_process_after_acts, agent_process_of, device_process_after_acts, device_process_of}
use Rattle.fw_serve.proofs.AgentStays.{IsAgentOf, acts_same as agent_acts_same, agent_devices_once, new_agent_of, stays_agent}
use Rattle.fw_serve.proofs.DeviceStays.{IsDeviceNode, acts_same as device_acts_same, anew_restarts, stays_device}
use Rattle.fw_serve.proofs.Recounts.{acts_recounted, are_recounted, count_last}
use Rattle.fw_serve.proofs.TracedAgent.{absence_after as agent_absence_after, absence_may as agent_absence_may, agent_after_on, agent_may_on, agents_act, all_later, same_process as same_agent_process}
use Rattle.fw_serve.proofs.TracedDevices.{absence_after as device_absence_after, absence_may as device_absence_may, after_on, devices_act, may_on, same_process as same_device_process, taken_one}
use Rattle.fw_serve.proofs.TracedProcesses.{DeviceMayIf, after_acts, agent_end, device_end, each_may}

-- THE AGENT

-- The agent may do these acts, and they leave it so.
record AgentDoesActs (packages : List PackageText) (p : AgentProcess) (acts : List AgentAct) (q : AgentProcess) : Type 0 where
  may : AgentMayDo packages p acts
  ends : agent_process_after_acts packages p acts ≡ q

agent_does_more : (packages : List PackageText) (p q r : AgentProcess) (xs ys : List AgentAct) → AgentDoesActs packages p xs q → AgentDoesActs packages q ys r → AgentDoesActs packages p (xs ++ ys) r
agent_does_more packages p q r xs ys h k = record {
  may = agent_may_on packages p xs ys h.may (subst (λ s. AgentMayDo packages s ys) (sym h.ends) k.may);
  ends = agent_after_on packages p xs ys ∙ ap (λ s. agent_process_after_acts packages s ys) h.ends ∙ k.ends;
}

-- no act takes the unit back
unit_on : (unit : ℕ) (d : AgentAct) → unit ≤ agent_unit_after unit d
unit_on unit AgentAct.Ticks = omega arith
unit_on unit (AgentAct.Receives device stamp bytes) = omega arith
unit_on unit (AgentAct.Starts device number) = omega arith
unit_on unit (AgentAct.Cancels device) = omega arith
unit_on unit (AgentAct.Activates device) = omega arith
unit_on unit (AgentAct.AsksLog bytes) = omega arith
unit_on unit AgentAct.Restarts = omega arith

units_on : (packages : List PackageText) (p : AgentProcess) (acts : List AgentAct) → p.unit ≤ (agent_process_after_acts packages p acts).unit
units_on packages p [] = omega arith
units_on packages p (d ∷ acts) =
    let one = unit_on p.unit d in
    let more = units_on packages (agent_process_after_act packages p d) acts in omega (arith, one, more)

shown_soon : (c : AgentSetupOf) (packages : List PackageText) (p : AgentProcess) (l : AgentLifeOf) → IsAgentLife c packages p l → l.shown ≤ 2 ^ 32 - 1
shown_soon c packages p l h =
    let called : (0 + l.shown) ≤ (agent_process_after_acts packages (agent_begun packages p.sent l) l.calls).unit = units_on packages (agent_begun packages p.sent l) l.calls in
    let first : (agent_process_after_acts packages (agent_begun packages p.sent l) l.calls).unit ≡ l.first.now = ap (λ (q : AgentProcess). q.unit) h.called in
    let later = all_later l.first l.last l.deeds l.sent h.done in
    let clock = h.clock in omega (arith, called, first, later, clock)

-- the absence before a life leaves the process as the life begins
anew_node : (c : AgentSetupOf) (n : AgentOf) (m : AgentOf) → IsAgentOf c n → (w : GoesOnWith c (kept_lines n) m)
    → node_anew c.unit n.endpoint (map (λ (h : HalfOf TimedOf). h.peer) n.halves) w.settings (kept_lines n) ≡ m
anew_node c n m is w =
    ap (λ e. node_anew c.unit e (map (λ (h : HalfOf TimedOf). h.peer) n.halves) w.settings (kept_lines n)) is.endpoint
    ∙ ap (λ ds. node_anew c.unit c.endpoint ds w.settings (kept_lines n)) is.devices ∙ sym w.node

absent_until : (c : AgentSetupOf) (packages : List PackageText) (p : AgentProcess) (units shown : ℕ) (m : AgentOf) → StartedAnewIsAbsence → IsAgentOf c p.node → AreDifferent c.devices
    → p.unit + units ≡ shown → (m ≡ p.node) ⊎ GoesOnWith c (kept_lines p.node) m
    → agent_process_after_acts packages p (agent_absence units) ≡ agent_process_of (agent_anew m packages shown) p.sent
absent_until c packages p units shown m law is once total (inl same) =
    agent_absence_after packages units p
    ∙ same_agent_process (p.unit + units) (0 + shown) (agent_restarts packages p.node) (agent_restarts packages m) p.sent p.sent (omega (arith, total)) (ap (agent_restarts packages) (sym same)) refl
absent_until c packages p units shown m law is once total (inr w) =
    (law packages c.unit p units w.settings (agent_devices_once c p.node is once)
    (subst (λ (e : Endpoint). AllByRecursion (IsHalfIn c.unit e.eid) p.node.halves) (sym is.endpoint) is.halves) w.found).ends
    ∙ ap (λ n. agent_process_of (agent_anew n packages (p.unit + units)) p.sent) (anew_node c p.node m is w)
    ∙ ap (λ u. agent_process_of (agent_anew m packages u) p.sent) total

agent_life_does : (c : AgentSetupOf) (packages : List PackageText) (p : AgentProcess) (l : AgentLifeOf) (acts : List AgentAct) → StartedAnewIsAbsence → IsAgentOf c p.node → AreDifferent c.devices
    → IsAgentLife c packages p l → AreActsOfAgentLife p l acts → AgentDoesActs packages p acts (agent_left l)
agent_life_does c packages p l acts law is once h k =
    let units = l.shown - p.unit in
    let later = h.later in
    let total : p.unit + units ≡ l.shown = omega (arith, later) in
    let soon = shown_soon c packages p l h in
    let begun = agent_begun packages p.sent l in
    let called = agent_process_of l.first l.before in
    let absent : AgentDoesActs packages p (agent_absence units) begun =
    record { may = agent_absence_may packages units p (omega (arith, total, soon)); ends = absent_until c packages p units l.shown l.node law is once total h.goes_on } in
    let calls : AgentDoesActs packages begun l.calls called = record { may = h.may; ends = h.called } in
    let serves : AgentDoesActs packages called k.served (agent_left l) = record {
      may = subst (λ ps. AgentMayDo ps called k.served) h.packaged k.are.may;
      ends = ap (λ ps. agent_process_after_acts ps called k.served) (sym h.packaged) ∙ k.are.ends;
    } in
    subst (λ xs. AgentDoesActs packages p xs (agent_left l)) (sym k.all)
    (agent_does_more packages p begun (agent_left l) (agent_absence units) (l.calls ++ k.served) absent (agent_does_more packages begun called (agent_left l) l.calls k.served calls serves))

-- it stays the agent of its configuration
stays_so : (c : AgentSetupOf) (packages : List PackageText) (p q : AgentProcess) (acts : List AgentAct) → IsAgentOf c p.node → AgentDoesActs packages p acts q → IsAgentOf c q.node
stays_so c packages p q acts is h = subst (λ (r : AgentProcess). IsAgentOf c r.node) h.ends (stays_agent c p.node _ (agent_acts_same packages p acts) is)

agent_lives_do : (c : AgentSetupOf) (packages : List PackageText) (p : AgentProcess) (ls : List AgentLifeOf) (acts : List AgentAct) → StartedAnewIsAbsence → IsAgentOf c p.node → AreDifferent c.devices
    → AreAgentLives c packages p ls → AreActsOfAgentLives p ls acts → AgentDoesActs packages p acts (agent_after_lives p ls)
agent_lives_do c packages p [] acts law is once h k = subst (λ xs. AgentDoesActs packages p xs p) (sym k) (record { may = tt; ends = refl })
agent_lives_do c packages p (l ∷ ls) acts law is once h (one, more, k, ks, all) =
    let first = agent_life_does c packages p l one law is once h.0 k in
    subst (λ xs. AgentDoesActs packages p xs (agent_after_lives (agent_left l) ls)) (sym all)
    (agent_does_more packages p (agent_left l) (agent_after_lives (agent_left l) ls) one more first
    (agent_lives_do c packages (agent_left l) ls more law (stays_so c packages p (agent_left l) one is first) once h.1 ks))

agent_gone_does : (packages : List PackageText) (p : AgentProcess) (gone : Option ℕ) → IfSome gone (λ units. p.unit + units ≤ 2 ^ 32 - 1)
    → AgentDoesActs packages p (agent_gone gone) (agent_after_gone packages gone p)
agent_gone_does packages p None clock = record { may = tt; ends = refl }
agent_gone_does packages p (Some units) clock = record { may = agent_absence_may packages units p clock; ends = agent_absence_after packages units p }

agent_lived : (c : AgentSetupOf) (packages : List PackageText) (p : AgentProcess) (acts : List AgentAct) → StartedAnewIsAbsence → IsAgentOf c p.node → AreDifferent c.devices
    → (h : AgentLives c packages p acts) → AgentDoesActs packages p acts (agent_after_gone packages h.gone (agent_after_lives p h.lives))
agent_lived c packages p acts law is once h =
    let left = agent_after_lives p h.lives in
    subst (λ xs. AgentDoesActs packages p xs (agent_after_gone packages h.gone left)) (sym h.all)
    (agent_does_more packages p left (agent_after_gone packages h.gone left) h.acted (agent_gone h.gone)
    (agent_lives_do c packages p h.lives h.acted law is once h.are h.acts_are) (agent_gone_does packages left h.gone h.clock))

-- any lives have acts
agent_lives_act : (c : AgentSetupOf) (packages : List PackageText) (p : AgentProcess) (ls : List AgentLifeOf) → AreAgentLives c packages p ls → (acts : List AgentAct) × AreActsOfAgentLives p ls acts
agent_lives_act c packages p [] h = ([], refl)
agent_lives_act c packages p (l ∷ ls) h =
    let served = agents_act l.first l.last l.deeds l.before l.sent h.0.done h.0.timely h.0.clock in
    let one = agent_absence (l.shown - p.unit) ++ (l.calls ++ served.0) in
    let more = agent_lives_act c packages (agent_left l) ls h.1 in
    (one ++ more.0, (one, more.0, record { served = served.0; are = served.1; all = refl }, more.1, refl))

-- A DEVICE

record DeviceDoesActs (eid : ℕ) (q : DeviceProcess) (acts : List DeviceAct) (r : DeviceProcess) : Type 0 where
  may : DeviceMayDo eid q acts
  ends : device_process_after_acts q acts ≡ r

device_does_more : (eid : ℕ) (q r s : DeviceProcess) (xs ys : List DeviceAct) → DeviceDoesActs eid q xs r → DeviceDoesActs eid r ys s → DeviceDoesActs eid q (xs ++ ys) s
device_does_more eid q r s xs ys h k = record {
  may = may_on eid q xs ys h.may (subst (λ t. DeviceMayDo eid t ys) (sym h.ends) k.may);
  ends = after_on q xs ys ∙ ap (λ t. device_process_after_acts t ys) h.ends ∙ k.ends;
}

-- the node after the restart with which a life begins
restarted_first : (q : DeviceProcess) (l : DeviceLifeOf) → IsDeviceLife q l → l.first.device.node ≡ device_restarts l.node
restarted_first q l h =
    let takes = h.begins.1 in
    (taken_one (device_begun l.node).device l.first.device DeviceCall.Restarts [] (subst (λ cs. TakesCalls (device_begun l.node).device cs l.first.device []) takes.such takes.takes)).node

anew_or_same : (f : ℕ) (n m : DeviceNodeOf) → IsDeviceNode n → (m ≡ n) ⊎ (m ≡ device_anew n) → recounted f (device_restarts n) ≡ recounted f (device_restarts m)
anew_or_same f n m is (inl same) = ap (λ k. recounted f (device_restarts k)) (sym same)
anew_or_same f n m is (inr anew) = sym (anew_restarts n f is) ∙ ap (λ k. recounted f (device_restarts k)) (sym anew)

device_life_does : (eid : ℕ) (q : DeviceProcess) (l : DeviceLifeOf) (f g : ℕ) (acts : List DeviceAct) → IsDeviceNode q.node → q.node.endpoint.eid ≡ eid
    → IsDeviceLife q l → AreActsOfDeviceLife q l f g acts → DeviceDoesActs eid (process_recounted f q) acts (process_recounted g (device_left q.sent l))
device_life_does eid q l f g acts is named h k =
    let units = l.shown - q.unit in
    let later = h.later in
    let shown = h.begins.0 in
    let begun = device_process_of (served_recounted f l.first) q.sent in
    let first = restarted_first q l h in
    let node : recounted f (device_restarts q.node) ≡ recounted f l.first.device.node = anew_or_same f q.node l.node is h.goes_on ∙ ap (recounted f) (sym first) in
    let absent : DeviceDoesActs eid (process_recounted f q) (device_absence units) begun = record {
      may = device_absence_may eid units (process_recounted f q);
      ends = device_absence_after units (process_recounted f q)
          ∙ same_device_process (q.unit + units) l.first.unit (recounted f (device_restarts q.node)) (recounted f l.first.device.node) q.sent q.sent (omega (arith, later, shown)) node refl;
    } in
    let its : l.first.device.node.endpoint.eid ≡ eid = sym (ap (λ (n : DeviceNodeOf). n.endpoint.eid) node) ∙ named in
    let serves : DeviceDoesActs eid begun k.served (process_recounted g (device_left q.sent l)) = record {
      may = subst (λ e. DeviceMayDo e begun k.served) its k.are.may;
      ends = k.are.ends;
    } in
    subst (λ xs. DeviceDoesActs eid (process_recounted f q) xs (process_recounted g (device_left q.sent l))) (sym k.all)
    (device_does_more eid (process_recounted f q) begun (process_recounted g (device_left q.sent l)) (device_absence units) k.served absent serves)

-- it stays a node of its device
record IsItsNode (eid : ℕ) (n : DeviceNodeOf) : Type 0 where
  is : IsDeviceNode n
  named : n.endpoint.eid ≡ eid

same_node : (eid f g : ℕ) (q r : DeviceProcess) (acts : List DeviceAct) → IsItsNode eid q.node → DeviceDoesActs eid (process_recounted f q) acts (process_recounted g r) → IsItsNode eid r.node
same_node eid f g q r acts it h =
    let same = device_acts_same (process_recounted f q) acts in
    let counted : IsDeviceNode (recounted f q.node) = record { own = it.is.own; unit = it.is.unit } in
    let left : IsDeviceNode (recounted g r.node) = subst (λ (x : DeviceProcess). IsDeviceNode x.node) h.ends (stays_device (recounted f q.node) _ same counted) in
    record {
      is = record { own = left.own; unit = left.unit };
      named = sym (ap (λ (x : DeviceProcess). x.node.endpoint.eid) h.ends) ∙ ap (λ (e : Endpoint). e.eid) same.endpoint ∙ it.named;
    }

device_lives_do : (eid : ℕ) (q : DeviceProcess) (ls : List DeviceLifeOf) (f g : ℕ) (acts : List DeviceAct) → IsItsNode eid q.node → AreDeviceLives q ls → AreActsOfDeviceLives q ls f g acts
    → DeviceDoesActs eid (process_recounted f q) acts (process_recounted g (device_after_lives q ls))
device_lives_do eid q [] f g acts it h (none, same) =
    subst (λ xs. DeviceDoesActs eid (process_recounted f q) xs (process_recounted g q)) (sym none) (subst (λ x. DeviceDoesActs eid (process_recounted f q) [] (process_recounted x q)) (sym same) (record { may = tt; ends = refl }))
device_lives_do eid q (l ∷ ls) f g acts it h (mid, one, more, k, ks, all) =
    let left = device_left q.sent l in
    let first = device_life_does eid q l f mid one it.is it.named h.0 k in
    subst (λ xs. DeviceDoesActs eid (process_recounted f q) xs (process_recounted g (device_after_lives left ls))) (sym all)
    (device_does_more eid (process_recounted f q) (process_recounted mid left) (process_recounted g (device_after_lives left ls)) one more first
    (device_lives_do eid left ls mid g more (same_node eid f mid q left one it first) h.1 ks))

device_gone_does : (eid f : ℕ) (q : DeviceProcess) (gone : Option ℕ) → DeviceDoesActs eid (process_recounted f q) (device_gone gone) (process_recounted f (device_after_gone gone q))
device_gone_does eid f q None = record { may = tt; ends = refl }
device_gone_does eid f q (Some units) = record { may = device_absence_may eid units (process_recounted f q); ends = device_absence_after units (process_recounted f q) }

device_lived : (eid : ℕ) (q : DeviceProcess) (acts : List DeviceAct) → IsItsNode eid q.node → (h : DeviceLives q acts)
    → DeviceDoesActs eid q acts (process_recounted h.faults (device_after_gone h.gone (device_after_lives q h.lives)))
device_lived eid q acts it h =
    let left = device_after_lives q h.lives in
    let after = process_recounted h.faults (device_after_gone h.gone left) in
    subst (λ xs. DeviceDoesActs eid q xs after) (sym h.all)
    (device_does_more eid q (process_recounted h.faults left) after h.acted (device_gone h.gone) (device_lives_do eid q h.lives q.node.faults h.faults h.acted it h.are h.acts_are)
    (device_gone_does eid h.faults left h.gone))

-- any lives have acts
device_lives_act : (q : DeviceProcess) (ls : List DeviceLifeOf) (before : ℕ) → AreDeviceLives q ls → (after : ℕ) × (acts : List DeviceAct) × AreActsOfDeviceLives q ls before after acts
device_lives_act q [] before h = (before, [], (refl, refl))
device_lives_act q (l ∷ ls) before h =
    let real = devices_act l.first l.last l.deeds q.sent l.sent h.0.done h.0.timely in
    let mid = count_last before real.0 in
    let served = acts_recounted before real.0 in
    let one = device_absence (l.shown - q.unit) ++ served in
    let more = device_lives_act (device_left q.sent l) ls mid h.1 in
    (more.0, one ++ more.1, (mid, one, more.1, record { served = served; are = are_recounted before q.sent l.first _ l.last l.sent real.0 real.1; all = refl }, more.2, refl))

pub lives_act : LivesAct
lives_act = record { agent = agent_lives_act; device = device_lives_act }

-- AN OPENING WORLD

devices_differ : (opening : WorldOf) (c : AgentSetupOf) → IsOpeningWorld opening → opening.agent ≡ agent_of_setup c → AreDifferent c.devices
devices_differ opening c opens setup =
    let world = opens.is in
    let its : map (λ (h : HalfOf TimedOf). h.peer) opening.agent.halves ≡ map (λ (n : DeviceNodeOf). n.endpoint.eid) opens.nodes =
    ap (λ (w : WorldOf). map (λ (h : HalfOf TimedOf). h.peer) w.agent.halves) world ∙ (new_agent_of (record { unit = _; endpoint = opens.agent; devices = map (λ (n : DeviceNodeOf). n.endpoint.eid) opens.nodes })).devices in
    let same : map (λ (h : HalfOf TimedOf). h.peer) opening.agent.halves ≡ c.devices = ap (λ (n : AgentOf). map (λ (h : HalfOf TimedOf). h.peer) n.halves) setup ∙ (new_agent_of c).devices in
    subst AreDifferent (sym its ∙ same) opens.are.apart.1

new_site_node : (u : «Unit») (agent : ℕ) (n : DeviceNodeOf) → IsNewNode u agent n → IsDeviceNode n
new_site_node u agent n h =
    let at : IsDeviceNode (new_device_node n.endpoint agent h.device) = record { own = refl; unit = refl } in
    subst IsDeviceNode (sym h.is) at

new_sites : (u : «Unit») (agent : ℕ) (ns : List DeviceNodeOf) → AllByRecursion (IsNewNode u agent) ns → AllByRecursion (λ (x : SiteOf). IsDeviceNode x.node) (map new_site ns)
new_sites u agent [] h = tt
new_sites u agent (n ∷ ns) h = (new_site_node u agent n h.0, new_sites u agent ns h.1)

site_nodes : (opening : WorldOf) → IsOpeningWorld opening → (eid : ℕ) → IfSome (site_for opening.sites eid) (λ x. IsDeviceNode x.node)
site_nodes opening opens eid =
    let all : AllByRecursion (λ (x : SiteOf). IsDeviceNode x.node) opening.sites =
    subst (λ (w : WorldOf). AllByRecursion (λ (x : SiteOf). IsDeviceNode x.node) w.sites) (sym opens.is) (new_sites _ opens.agent.eid opens.nodes opens.are.new) in
    subst (λ o. IfSome o (λ x. IsDeviceNode x.node)) (sym (site_is_first opening.sites eid)) (first_fact site_eid (λ x. IsDeviceNode x.node) opening.sites eid all)

-- THE END OF A TRACE

agent_of_trace : StartedAnewIsAbsence → (opening : WorldOf) (c : AgentSetupOf) (trace : List Act) (h : AreLived opening c trace)
    → AgentDoesActs opening.packages (processes_of opening).agent (acts_of_agent trace) (agent_after_gone opening.packages h.agent.gone (agent_after_lives (processes_of opening).agent h.agent.lives))
agent_of_trace law opening c trace h =
    agent_lived c opening.packages (processes_of opening).agent (acts_of_agent trace) law (subst (IsAgentOf c) (sym h.setup) (new_agent_of c)) (devices_differ opening c h.opens h.setup) h.agent

device_ends : (eid : ℕ) (o : Option SiteOf) (acts : List DeviceAct) (h : DeviceLivesIf (option_map new_process o) acts) (after : Option DeviceProcess)
    → IfSome o (λ x. IsDeviceNode x.node) → IfSome o (λ x. site_eid x ≡ eid) → after ≡ after_acts acts (option_map new_process o) → DeviceEndsAsLived (option_map new_process o) acts h after
device_ends eid None acts h after node named is = is
device_ends eid (Some x) acts h after node named is =
    let it : IsItsNode eid x.node = record { is = node; named = named } in is ∙ ap Some (device_lived eid (new_process x) acts it h).ends

pub lives_end : StartedAnewIsAbsence → LivesEnd
lives_end law opening c trace h = record {
  agent = agent_end opening.packages (processes_of opening) trace ∙ (agent_of_trace law opening c trace h).ends;
  devices = λ eid. device_ends eid (site_for opening.sites eid) (acts_of_device eid trace) (h.devices eid) _ (site_nodes opening h.opens eid) (site_of opening.sites eid)
      (device_end opening.packages (processes_of opening) trace eid);
}

device_may : (eid : ℕ) (o : Option SiteOf) (acts : List DeviceAct) → IfSome o (λ x. IsDeviceNode x.node) → IfSome o (λ x. site_eid x ≡ eid) → DeviceLivesIf (option_map new_process o) acts
    → DeviceMayIf eid (option_map new_process o) acts
device_may eid None acts node named h = h
device_may eid (Some x) acts node named h = let it : IsItsNode eid x.node = record { is = node; named = named } in (device_lived eid (new_process x) acts it h).may

pub lives_are_safe : StartedAnewIsAbsence → TracesAreSafe → LivesAreSafe
lives_are_safe law safe opening c trace unit h sent reached =
    let may = each_may opening.packages (processes_of opening) trace (agent_of_trace law opening c trace h).may
    (λ eid. device_may eid (site_for opening.sites eid) (acts_of_device eid trace) (site_nodes opening h.opens eid) (site_of opening.sites eid) (h.devices eid)) sent in
    safe opening trace unit h.opens may reached
