-- The deeds of the served agent are acts that it may do, as far as it knows (`agents_act`).
use Rattle.std.proofs.Common.{◌≡◌, ◌∙◌, ◌≤◌, ◌+◌, ◌-◌, ◌^◌, ◌==◌, ◌++◌, ℕ, zero, suc, Bool, true, false, if◌then◌else◌, is_some, List, [], ◌∷◌, map, Option, Some, None, Result, Ok, Err, arith, append-nil, append_assoc, ap, refl, sym, subst}
use Rattle.std.specs.List.{filter}
use Rattle.std.proofs.lemmas.List.Elements.{filter-append}
use Rattle.exch_lane.specs.Lanes.{Sent}
use Rattle.exch_lane.specs.Steps.{sent_at}
use Rattle.mctp_wire.specs.declared.fault.WireFault.{WireFault}
use Rattle.mctp_wire.specs.declared.layout.Head.{Head}
use Rattle.fw_package.specs.Package.{PackageText}
use Rattle.ua_core.specs.Session.{SessionOf, TimedOf}
use Rattle.fw_node.specs.Agents.{AgentOf, AgentOutcome, agent_on_packet, agent_on_packet_at, agent_restarts, agent_ticks, agent_unmoved, any_packet, half_at, half_for, place_of_sender, ready_for, ready_in}
use Rattle.fw_node.specs.Cores.{session_core}
use Rattle.fw_node.specs.Halves.{HalfOf, half_restarts, half_ticks}
use Rattle.fw_process.specs.Processes.{Deed, Does, DoesAll, unit_after_deed}
use Rattle.fw_script.specs.declared.reports.SentCount.{SentCount}
use Rattle.fw_steps.specs.Absences.{agent_absence}
use Rattle.fw_steps.specs.Alone.{AgentCall}
use Rattle.fw_steps.specs.Plays.{AgentMayCall, AgentProcess}
use Rattle.fw_steps.specs.Steps.{ready_fault}
use Rattle.fw_steps.specs.Traces.{AgentAct, IsTimely, agent_act_call, agent_process_after_act, agent_unit_after}
use Rattle.fw_steps.specs.Worlds.{sender_of, sent_now}
use Rattle.fw_serve.specs.Agents.{ServedAgentOf, activated_if_ready, agent_served, all_activated, now_after, served_packets, turn_ended, turn_packets, turn_taken}
use Rattle.fw_serve.specs.Processes.{AgentDoes, agent_after_missing}
use Rattle.fw_serve.specs.Traced.{AgentKnows, AgentMayDo, AgentsAct, AreAgentActs, AreTimely, IsTimelyDeed, agent_process_after_acts, agent_process_of, received_by_agent, received_by_deed, received_in}
use Rattle.fw_serve.proofs.TracedDevices.{kept_one, left_one}
use Rattle.fw_serve.proofs.Turns.{end_keeps}

abbrev has_sender : Sent → Bool
has_sender p = is_some (sender_of (any_packet p.bytes))

pub same_process : (u v : ℕ) (m n : AgentOf) (ps qs : List Sent) → u ≡ v → m ≡ n → ps ≡ qs → ◌≡◌ {A = AgentProcess} (record { unit = u; node = m; sent = ps }) (record { unit = v; node = n; sent = qs })
same_process u v m n ps qs e f g = λ i. record { unit = e i; node = f i; sent = g i }

-- ACTS AFTER ACTS

pub agent_after_on : (packages : List PackageText) (p : AgentProcess) (xs ys : List AgentAct)
    → agent_process_after_acts packages p (xs ++ ys) ≡ agent_process_after_acts packages (agent_process_after_acts packages p xs) ys
agent_after_on packages p [] ys = refl
agent_after_on packages p (d ∷ xs) ys = agent_after_on packages (agent_process_after_act packages p d) xs ys

pub agent_may_on : (packages : List PackageText) (p : AgentProcess) (xs ys : List AgentAct) → AgentMayDo packages p xs → AgentMayDo packages (agent_process_after_acts packages p xs) ys → AgentMayDo packages p (xs ++ ys)
agent_may_on packages p [] ys h k = k
agent_may_on packages p (d ∷ xs) ys h k = (h.0, agent_may_on packages (agent_process_after_act packages p d) xs ys h.1 k)

received_on : (xs ys : List AgentAct) → received_by_agent (xs ++ ys) ≡ received_by_agent xs ++ received_by_agent ys
received_on [] ys = refl
received_on (AgentAct.Ticks ∷ xs) ys = received_on xs ys
received_on (AgentAct.Receives device stamp bytes ∷ xs) ys = ap (λ (ps : List Sent). sent_at stamp bytes ∷ ps) (received_on xs ys)
received_on (AgentAct.Starts device number ∷ xs) ys = received_on xs ys
received_on (AgentAct.Cancels device ∷ xs) ys = received_on xs ys
received_on (AgentAct.Activates device ∷ xs) ys = received_on xs ys
received_on (AgentAct.AsksLog bytes ∷ xs) ys = received_on xs ys
received_on (AgentAct.Restarts ∷ xs) ys = received_on xs ys

acts_on : (before : List Sent) (s m t : ServedAgentOf) (came more a b : List Sent) (xs ys : List AgentAct)
    → AreAgentActs before s came m a xs → AreAgentActs (before ++ a) m more t b ys → AreAgentActs before s (came ++ more) t (a ++ b) (xs ++ ys)
acts_on before s m t came more a b xs ys h k =
    let p = agent_process_of s before in
    record {
      packages = k.packages ∙ h.packages;
      may = agent_may_on s.packages p xs ys h.may
          (subst (λ r. AgentMayDo s.packages r ys) (sym h.ends) (subst (λ ps. AgentMayDo ps (agent_process_of m (before ++ a)) ys) h.packages k.may));
      ends = agent_after_on s.packages p xs ys ∙ ap (λ r. agent_process_after_acts s.packages r ys) h.ends
          ∙ ap (λ ps. agent_process_after_acts ps (agent_process_of m (before ++ a)) ys) (sym h.packages) ∙ k.ends ∙ ap (agent_process_of t) (append_assoc before a b);
      received = received_on xs ys ∙ ap (λ ps. ps ++ received_by_agent ys) h.received ∙ ap (λ ps. filter has_sender came ++ ps) k.received ∙ sym (filter-append has_sender came more);
    }

-- There are acts between `s` and `t`.
pub record AgentActs (before : List Sent) (s : ServedAgentOf) (came : List Sent) (t : ServedAgentOf) (sent : List Sent) : Type 0 where
  pub acts : List AgentAct
  pub are : AreAgentActs before s came t sent acts

acts_more : (before : List Sent) (s m t : ServedAgentOf) (came more a b : List Sent) → AgentActs before s came m a → AgentActs (before ++ a) m more t b → AgentActs before s (came ++ more) t (a ++ b)
acts_more before s m t came more a b h k = record { acts = h.acts ++ k.acts; are = acts_on before s m t came more a b h.acts k.acts h.are k.are }

-- NO ACT AND ONE

no_acts : (before : List Sent) (s t : ServedAgentOf) (came : List Sent) → t.packages ≡ s.packages → t.now ≡ s.now → t.agent ≡ s.agent → filter has_sender came ≡ [] → AgentActs before s came t []
no_acts before s t came packages now agent none = record {
  acts = [];
  are = record {
    packages = packages;
    may = tt;
    ends = same_process s.now t.now s.agent t.agent before (before ++ []) (sym now) (sym agent) (sym (append-nil before));
    received = sym none;
  };
}

stays : (before : List Sent) (s t : ServedAgentOf) → t ≡ s → AgentActs before s [] t []
stays before s t is = no_acts before s t [] (ap (λ (x : ServedAgentOf). x.packages) is) (ap (λ (x : ServedAgentOf). x.now) is) (ap (λ (x : ServedAgentOf). x.agent) is) refl

one_act : (before : List Sent) (s : ServedAgentOf) (came : List Sent) (d : AgentAct) → AgentKnows s.now d → AgentMayCall s.packages s.agent (agent_act_call s.now d)
    → now_after s.now (agent_act_call s.now d) ≡ agent_unit_after s.now d → received_by_agent (d ∷ []) ≡ filter has_sender came
    → AgentActs before s came (agent_served s (agent_act_call s.now d)) (sent_now (agent_unit_after s.now d) (served_packets s (agent_act_call s.now d)))
one_act before s came d knows may unit received = record {
  acts = d ∷ [];
  are = record {
    packages = refl;
    may = ((knows, may), tt);
    ends = same_process (agent_unit_after s.now d) (now_after s.now (agent_act_call s.now d)) _ _ _ _ (sym unit) refl refl;
    received = received;
  };
}

-- A PACKET

-- A packet whose sender can't be read does nothing.
unread_at : (packages : List PackageText) (n : AgentOf) (bytes : List ℕ) (now : ℕ) (r : Result (Head × List ℕ) WireFault) → sender_of r ≡ None
    → agent_on_packet_at packages n bytes now (place_of_sender n.halves r) (half_at n.halves (place_of_sender n.halves r)) ≡ agent_unmoved n
unread_at packages n bytes now (Ok p) none = absurd (cc)
unread_at packages n bytes now (Err fault) none = refl

either : {A : Type 0} (b : Bool) (x y : A) → x ≡ y → (if b then x else y) ≡ y
either true x y e = e
either false x y e = refl

unread : (packages : List PackageText) (n : AgentOf) (bytes : List ℕ) (now : ℕ) → sender_of (any_packet bytes) ≡ None → agent_on_packet packages n bytes now ≡ agent_unmoved n
unread packages n bytes now none = either (n.deaf == 0) _ _ (unread_at packages n bytes now (any_packet bytes) none)

packet_acts : (before : List Sent) (s : ServedAgentOf) (p : Sent) (o : Option ℕ) → sender_of (any_packet p.bytes) ≡ o → IsTimely p.date s.now
    → AgentActs before s (p ∷ []) (agent_served s (AgentCall.Receives s.now p.bytes)) (sent_now s.now (served_packets s (AgentCall.Receives s.now p.bytes)))
packet_acts before s p (Some device) is timely =
    one_act before s (p ∷ []) (AgentAct.Receives device p.date p.bytes) (timely, is) tt refl (sym (kept_one has_sender p (ap is_some is)))
packet_acts before s p None is timely =
    let same = unread s.packages s.agent p.bytes s.now is in
    subst (λ ps. AgentActs before s (p ∷ []) (agent_served s (AgentCall.Receives s.now p.bytes)) (sent_now s.now ps)) (sym (ap (λ (o : AgentOutcome). o.sent) same))
    (no_acts before s (agent_served s (AgentCall.Receives s.now p.bytes)) (p ∷ []) refl refl (ap (λ (o : AgentOutcome). o.agent) same) (left_one has_sender p (ap is_some is)))

-- A TURN

half_ready : (o : Option (HalfOf TimedOf)) → is_some (ready_in o) ≡ true → is_some o ≡ true
half_ready None ready = ready
half_ready (Some h) ready = refl

none_faulty : (o : Option SessionOf) → is_some o ≡ true → ready_fault o ≡ None
none_faulty None ready = absurd (cc)
none_faulty (Some s) ready = refl

activation_acts : (before : List Sent) (s : ServedAgentOf) (device : ℕ) (ready : Bool) → is_some (ready_for s.agent device) ≡ ready
    → AgentActs before s [] (if ready then agent_served s (AgentCall.Activates s.now device) else s) []
activation_acts before s device true ready =
    one_act before s [] (AgentAct.Activates device) tt (half_ready (half_for s.agent device) ready, none_faulty (ready_for s.agent device) ready) refl refl
activation_acts before s device false ready = stays before s s refl

activations : (before : List Sent) (s : ServedAgentOf) (cs : List SentCount) → AgentActs before s [] (all_activated s cs) []
activations before s [] = stays before s s refl
activations before s (c ∷ cs) =
    acts_more before s (activated_if_ready s c.device) (all_activated (activated_if_ready s c.device) cs) [] [] [] []
    (activation_acts before s c.device (is_some (ready_for s.agent c.device)) refl) (activations (before ++ []) (activated_if_ready s c.device) cs)

turn_acts : (before : List Sent) (s : ServedAgentOf) → s.now + 1 ≤ 2 ^ 32 - 1 → AgentActs before s [] (turn_taken true s) (sent_now (s.now + 1) (turn_packets true s))
turn_acts before s clock =
    let ended = turn_ended true s in
    let now = (end_keeps true s).now in
    subst (λ u. AgentActs before s [] (turn_taken true s) (sent_now (u + 1) (turn_packets true s))) now
    (acts_more before s ended (turn_taken true s) [] [] [] (sent_now (ended.now + 1) (turn_packets true s)) (activations before s s.counts)
    (one_act (before ++ []) ended [] AgentAct.Ticks (omega (arith, clock, now)) tt refl refl))

-- AN ABSENCE

halves_again : (packages : List PackageText) (hs : List (HalfOf TimedOf))
    → map (half_restarts (session_core packages)) (map (λ h. (half_ticks (session_core packages) true h).half) (map (half_restarts (session_core packages)) hs)) ≡ map (half_restarts (session_core packages)) hs
halves_again packages [] = refl
halves_again packages (h ∷ hs) = ap (λ (xs : List (HalfOf TimedOf)). half_restarts (session_core packages) h ∷ xs) (halves_again packages hs)

restarted_again : (packages : List PackageText) (now : ℕ) (n : AgentOf) → agent_restarts packages (agent_ticks packages now (agent_restarts packages n)) ≡ agent_restarts packages n
restarted_again packages now n = rw (halves_again packages n.halves) refl

pub absence_after : (packages : List PackageText) (units : ℕ) (p : AgentProcess)
    → agent_process_after_acts packages p (agent_absence units) ≡ record { unit = p.unit + units; node = agent_restarts packages p.node; sent = p.sent }
absence_after packages zero p = same_process p.unit (p.unit + 0) (agent_restarts packages p.node) (agent_restarts packages p.node) (p.sent ++ []) p.sent (omega arith) refl (append-nil p.sent)
absence_after packages (suc units) p =
    let on = agent_process_after_act packages (agent_process_after_act packages p AgentAct.Restarts) AgentAct.Ticks in
    absence_after packages units on
    ∙ same_process (on.unit + units) (p.unit + suc units) (agent_restarts packages on.node) (agent_restarts packages p.node) on.sent p.sent (omega arith)
    (restarted_again packages (p.unit + 1) p.node) (append-nil (p.sent ++ []) ∙ append-nil p.sent)

pub absence_may : (packages : List PackageText) (units : ℕ) (p : AgentProcess) → p.unit + units ≤ 2 ^ 32 - 1 → AgentMayDo packages p (agent_absence units)
absence_may packages zero p clock = ((tt, tt), tt)
absence_may packages (suc units) p clock =
    let on = agent_process_after_act packages (agent_process_after_act packages p AgentAct.Restarts) AgentAct.Ticks in
    ((tt, tt), ((omega (arith, clock), tt), absence_may packages units on (omega (arith, clock))))

absence_receives : (units : ℕ) → received_by_agent (agent_absence units) ≡ []
absence_receives zero = refl
absence_receives (suc units) = absence_receives units

miss_acts : (before : List Sent) (s : ServedAgentOf) (units : ℕ) → s.now + units ≤ 2 ^ 32 - 1 → AgentActs before s [] (agent_after_missing s units) []
miss_acts before s units clock = record {
  acts = agent_absence units;
  are = record {
    packages = refl;
    may = absence_may s.packages units (agent_process_of s before) clock;
    ends = absence_after s.packages units (agent_process_of s before)
        ∙ ap (λ ps. agent_process_of (agent_after_missing s units) ps) (sym (append-nil before));
    received = absence_receives units;
  };
}

-- ALL DEEDS

deed_unit : (s t : ServedAgentOf) (d : Deed) (sent : List Sent) → Does AgentDoes s d t sent → t.now ≡ unit_after_deed s.now d
deed_unit s t (Deed.Receives p) sent h = ap (λ (x : ServedAgentOf). x.now) h.0
deed_unit s t (Deed.Drops p) sent h = ap (λ (x : ServedAgentOf). x.now) h.0
deed_unit s t Deed.Turns sent h = ap (λ (x : ServedAgentOf). x.now) h.0 ∙ ap (λ n. n + 1) (end_keeps true s).now
deed_unit s t (Deed.Misses units) sent h = ap (λ (x : ServedAgentOf). x.now) h.0

unit_later : (unit : ℕ) (d : Deed) → unit ≤ unit_after_deed unit d
unit_later unit (Deed.Receives p) = omega arith
unit_later unit (Deed.Drops p) = omega arith
unit_later unit Deed.Turns = omega arith
unit_later unit (Deed.Misses units) = omega arith

pub all_later : (s t : ServedAgentOf) (ds : List Deed) (sent : List Sent) → DoesAll AgentDoes s ds t sent → s.now ≤ t.now
all_later s t [] sent h = let same = ap (λ (x : ServedAgentOf). x.now) h.0 in omega (arith, same)
all_later s t (d ∷ ds) sent (mid, a, b, first, rest, is) =
    let more = all_later mid t ds b rest in
    let unit = deed_unit s mid d a first in
    let later = unit_later s.now d in
    omega (arith, more, unit, later)

deed_acts : (before : List Sent) (s t : ServedAgentOf) (d : Deed) (sent : List Sent) → Does AgentDoes s d t sent → IsTimelyDeed s.now d → unit_after_deed s.now d ≤ 2 ^ 32 - 1
    → AgentActs before s (received_by_deed d) t sent
deed_acts before s t (Deed.Receives p) sent h timely clock =
    subst (λ x. AgentActs before s (p ∷ []) x sent) (sym h.0)
    (subst (λ ps. AgentActs before s (p ∷ []) (agent_served s (AgentCall.Receives s.now p.bytes)) ps) (sym h.1) (packet_acts before s p (sender_of (any_packet p.bytes)) refl timely))
deed_acts before s t (Deed.Drops p) sent h timely clock = subst (λ ps. AgentActs before s [] t ps) (sym h.1) (stays before s t h.0)
deed_acts before s t Deed.Turns sent h timely clock =
    subst (λ x. AgentActs before s [] x sent) (sym h.0) (subst (λ ps. AgentActs before s [] (turn_taken true s) ps) (sym h.1) (turn_acts before s clock))
deed_acts before s t (Deed.Misses units) sent h timely clock =
    subst (λ x. AgentActs before s [] x sent) (sym h.0) (subst (λ ps. AgentActs before s [] (agent_after_missing s units) ps) (sym h.1) (miss_acts before s units clock))

all_acts : (s t : ServedAgentOf) (ds : List Deed) (before sent : List Sent) → DoesAll AgentDoes s ds t sent → AreTimely s.now ds → t.now ≤ 2 ^ 32 - 1 → AgentActs before s (received_in ds) t sent
all_acts s t [] before sent h timely clock = subst (λ ps. AgentActs before s [] t ps) (sym h.1) (stays before s t h.0)
all_acts s t (d ∷ ds) before sent (mid, a, b, first, rest, is) timely clock =
    let unit = deed_unit s mid d a first in
    let later = all_later mid t ds b rest in
    subst (λ ps. AgentActs before s (received_in (d ∷ ds)) t ps) (sym is)
    (acts_more before s mid t (received_by_deed d) (received_in ds) a b (deed_acts before s mid d a first timely.0 (omega (arith, unit, later, clock)))
    (all_acts mid t ds (before ++ a) b rest (subst (λ u. AreTimely u ds) (sym unit) timely.1) clock))

pub agents_act : AgentsAct
agents_act s t ds before sent h timely clock = let all = all_acts s t ds before sent h timely clock in (all.acts, all.are)
