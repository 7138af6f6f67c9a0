-- The acts up to a unit that all processes have reached are a trace by themselves
-- (`traces_are_cut`). Each process has its part up to the unit (`Cut`), which the acts after the
-- unit leave unchanged.
use Rattle.std.proofs.Common.{◌≡◌, ◌⊎◌, ◌∙◌, ◌+◌, ◌-◌, ◌^◌, ◌==◌, ◌<◌, ◌≤◌, ℕ, Bool, if◌then◌else◌, List, [], ◌∷◌, Option, Some, None, IfSome, IsSomeAnd, inl, inr, refl, sym, ap, subst, arith}
use Rattle.std.specs.List.{Contains}
use Rattle.std.specs.Option.{option_map}
use Rattle.std.proofs.lemmas.Bool.{le-leb, lt-leb, cases_lt}
use Rattle.std.proofs.lemmas.Bool.Decides.{eqb_tells}
use Rattle.exch_lane.specs.Lanes.{Sent}
use Rattle.exch_lane.specs.Steps.{sent_at}
use Rattle.fw_package.specs.Package.{PackageText}
use Rattle.fw_steps.specs.Plays.{AgentMayCall, AgentProcess, DeviceMayCall, DeviceProcess}
use Rattle.fw_steps.specs.Traces.{Act, AgentAct, AgentMayAct, EachMayAct, DeviceAct, DeviceMayAct, HaveReachedUnit, IsTimely, IsTraceTo, MayAct, ProcessesOf, TracesAreCut, unit_after_act, processes_after_act, agent_process_after_act, agent_act_call, agent_unit_after, processes_after, device_process_after_act, device_act_call, device_unit_after, new_process, processes_of, site_unit_after, acts_until}
use Rattle.fw_steps.specs.Worlds.{SiteOf, site_for}
use Rattle.fw_steps.proofs.DevicesAreIsolated.Seen.{found_in}
use Rattle.fw_steps.proofs.TracesArePlays.Swaps.{kept}

-- A PROCESS AND ITS PART UP TO A UNIT

-- The packets that were sent up to the unit were also sent by the part.
abbrev SameUpTo : ℕ → (all some : List Sent) → Type 0
SameUpTo unit all some = (s : Sent) → s.date ≤ unit → Contains all s → Contains some s

-- The part is the process itself, or stays in the unit after the process has left it.
abbrev CutAgent : ℕ → (p q : AgentProcess) → Type 0
CutAgent unit p q = ((q ≡ p) × (p.unit ≤ unit)) ⊎ ((q.unit ≡ unit) × (unit < p.unit) × SameUpTo unit p.sent q.sent)

abbrev CutDevice : ℕ → (p q : DeviceProcess) → Type 0
CutDevice unit p q = ((q ≡ p) × (p.unit ≤ unit)) ⊎ ((q.unit ≡ unit) × (unit < p.unit) × SameUpTo unit p.sent q.sent)

abbrev CutSite : ℕ → (o r : Option DeviceProcess) → Type 0
CutSite unit None None = Unit {0}
CutSite unit None (Some q) = ⊥
CutSite unit (Some p) None = ⊥
CutSite unit (Some p) (Some q) = CutDevice unit p q

record Cut (unit : ℕ) (ps qs : ProcessesOf) : Type 0 where
  agent : CutAgent unit ps.agent qs.agent
  devices : (eid : ℕ) → CutSite unit (ps.device eid) (qs.device eid)

agent_sent_cut : (unit : ℕ) (p q : AgentProcess) → CutAgent unit p q → SameUpTo unit p.sent q.sent
agent_sent_cut unit p q (inl h) s soon c = subst (λ (x : AgentProcess). Contains x.sent s) (sym h.0) c
agent_sent_cut unit p q (inr h) s soon c = h.2 s soon c

site_sent_cut : (unit : ℕ) (o r : Option DeviceProcess) (s : Sent) → CutSite unit o r → s.date ≤ unit → IsSomeAnd o (λ q. Contains q.sent s) → IsSomeAnd r (λ q. Contains q.sent s)
site_sent_cut unit None r s k soon c = absurd c
site_sent_cut unit (Some p) None s k soon c = absurd k
site_sent_cut unit (Some p) (Some q) s (inl h) soon c = subst (λ (x : DeviceProcess). Contains x.sent s) (sym h.0) c
site_sent_cut unit (Some p) (Some q) s (inr h) soon c = h.2 s soon c

-- The part of a process that hasn't left the unit is the process itself.
agent_within : (unit : ℕ) (p q : AgentProcess) → CutAgent unit p q → p.unit ≤ unit → q ≡ p
agent_within unit p q (inl h) low = h.0
agent_within unit p q (inr h) low = let past = h.1 in absurd (omega (arith, past, low))

device_within : (unit : ℕ) (p q : DeviceProcess) → CutDevice unit p q → p.unit ≤ unit → q ≡ p
device_within unit p q (inl h) low = h.0
device_within unit p q (inr h) low = let past = h.1 in absurd (omega (arith, past, low))

unit_low : (unit : ℕ) (d : AgentAct) → (unit ≤ agent_unit_after unit d) × (agent_unit_after unit d ≤ unit + 1)
unit_low unit AgentAct.Ticks = (omega arith, omega arith)
unit_low unit d = (omega arith, omega arith)

device_unit_low : (unit : ℕ) (d : DeviceAct) → (unit ≤ device_unit_after unit d) × (device_unit_after unit d ≤ unit + 1)
device_unit_low unit DeviceAct.Ticks = (omega arith, omega arith)
device_unit_low unit d = (omega arith, omega arith)

-- an act after the unit
agent_past : (packages : List PackageText) (unit : ℕ) (p q : AgentProcess) (d : AgentAct) → CutAgent unit p q → unit < agent_unit_after p.unit d → CutAgent unit (agent_process_after_act packages p d) q
agent_past packages unit p q d (inl h) past =
    let low = (unit_low p.unit d).1 in
    let within = h.1 in
    let at : p.unit ≡ unit = omega (arith, low, within, past) in
    inr (
      ap (λ (x : AgentProcess). x.unit) h.0 ∙ at,
      past,
      λ s soon c. subst (λ (x : AgentProcess). Contains x.sent s) (sym h.0) (kept s p.sent (agent_unit_after p.unit d) _ (omega (arith, soon, past)) c),
    )
agent_past packages unit p q d (inr h) past = inr (h.0, past, λ s soon c. h.2 s soon (kept s p.sent (agent_unit_after p.unit d) _ (omega (arith, soon, past)) c))

device_past : (unit : ℕ) (p q : DeviceProcess) (d : DeviceAct) → CutDevice unit p q → unit < device_unit_after p.unit d → CutDevice unit (device_process_after_act d p) q
device_past unit p q d (inl h) past =
    let low = (device_unit_low p.unit d).1 in
    let within = h.1 in
    let at : p.unit ≡ unit = omega (arith, low, within, past) in
    inr (
      ap (λ (x : DeviceProcess). x.unit) h.0 ∙ at,
      past,
      λ s soon c. subst (λ (x : DeviceProcess). Contains x.sent s) (sym h.0) (kept s p.sent (device_unit_after p.unit d) _ (omega (arith, soon, past)) c),
    )
device_past unit p q d (inr h) past = inr (h.0, past, λ s soon c. h.2 s soon (kept s p.sent (device_unit_after p.unit d) _ (omega (arith, soon, past)) c))

-- A DEVICE'S ACT

record HasCut (unit : ℕ) (p : DeviceProcess) (r : Option DeviceProcess) : Type 0 where
  process : DeviceProcess
  there : r ≡ Some process
  cut : CutDevice unit p process

has_cut : (unit : ℕ) (o r : Option DeviceProcess) (p : DeviceProcess) → CutSite unit o r → o ≡ Some p → HasCut unit p r
has_cut unit None r p k e = absurd (cc)
has_cut unit (Some x) None p k e = absurd k
has_cut unit (Some x) (Some q) p k e = let same : x ≡ p = cc in record { process = q; there = refl; cut = subst (λ (y : DeviceProcess). CutDevice unit y q) same k }

is_cut : (unit : ℕ) (o r : Option DeviceProcess) (p q : DeviceProcess) → o ≡ Some p → r ≡ Some q → CutDevice unit p q → CutSite unit o r
is_cut unit o r p q e f k = subst (λ (x : Option DeviceProcess). CutSite unit x r) (sym e) (subst (λ (x : Option DeviceProcess). CutSite unit (Some p) x) (sym f) k)

-- An act up to the unit is done in both.
both_act : (unit : ℕ) (ps qs : ProcessesOf) (device : ℕ) (d : DeviceAct) (p : DeviceProcess) → Cut unit ps qs → ps.device device ≡ Some p → (c : HasCut unit p (qs.device device)) → device_unit_after p.unit d ≤ unit
    → (eid : ℕ) → CutSite unit (if device == eid then option_map (device_process_after_act d) (ps.device eid) else ps.device eid) (if device == eid then option_map (device_process_after_act d) (qs.device eid) else qs.device eid)
both_act unit ps qs device d p k e c low eid = elim (eqb_tells device eid) [
  | inl mine ↦
      let least = (device_unit_low p.unit d).0 in
      let same : c.process ≡ p = device_within unit p c.process c.cut (omega (arith, least, low)) in
      rw mine.0 (is_cut unit _ _ (device_process_after_act d p) (device_process_after_act d c.process) (ap (option_map (device_process_after_act d)) (ap ps.device (sym mine.1) ∙ e)) (ap (option_map (device_process_after_act d)) (ap qs.device (sym mine.1) ∙ c.there))
      (inl (ap (device_process_after_act d) same, low)))
  | inr far ↦ rw far.0 (k.devices eid)
]

-- An act after the unit is done only in the whole trace.
one_acts : (unit : ℕ) (ps qs : ProcessesOf) (device : ℕ) (d : DeviceAct) (p : DeviceProcess) → Cut unit ps qs → ps.device device ≡ Some p → (c : HasCut unit p (qs.device device)) → unit < device_unit_after p.unit d
    → (eid : ℕ) → CutSite unit (if device == eid then option_map (device_process_after_act d) (ps.device eid) else ps.device eid) (qs.device eid)
one_acts unit ps qs device d p k e c past eid = elim (eqb_tells device eid) [
  | inl mine ↦
      rw mine.0 (is_cut unit _ _ (device_process_after_act d p) c.process (ap (option_map (device_process_after_act d)) (ap ps.device (sym mine.1) ∙ e)) (ap qs.device (sym mine.1) ∙ c.there) (device_past unit p c.process d c.cut past))
  | inr far ↦ rw far.0 (k.devices eid)
]

-- THE ACT MAY FOLLOW

agent_may_cut : (packages : List PackageText) (unit : ℕ) (ps qs : ProcessesOf) (d : AgentAct) → Cut unit ps qs → qs.agent ≡ ps.agent → ps.agent.unit ≤ unit → AgentMayAct ps d → AgentMayAct qs d
agent_may_cut packages unit ps qs AgentAct.Ticks k same low h = subst (λ (x : AgentProcess). x.unit < 2 ^ 32 - 1) (sym same) h
agent_may_cut packages unit ps qs (AgentAct.Receives device stamp bytes) k same low h =
    let soon = h.0.no_later in
    (subst (λ (x : AgentProcess). IsTimely stamp x.unit) (sym same) h.0, site_sent_cut unit (ps.device device) (qs.device device) (sent_at stamp bytes) (k.devices device) (omega (arith, soon, low)) h.1)
agent_may_cut packages unit ps qs (AgentAct.Starts device number) k same low h = tt
agent_may_cut packages unit ps qs (AgentAct.Cancels device) k same low h = tt
agent_may_cut packages unit ps qs (AgentAct.Activates device) k same low h = tt
agent_may_cut packages unit ps qs (AgentAct.AsksLog bytes) k same low h = tt
agent_may_cut packages unit ps qs AgentAct.Restarts k same low h = tt

device_may_cut : (unit : ℕ) (all some : List Sent) (device own : ℕ) (d : DeviceAct) → SameUpTo unit all some → own ≤ unit → DeviceMayAct all device own d → DeviceMayAct some device own d
device_may_cut unit all some device own DeviceAct.Ticks k low h = tt
device_may_cut unit all some device own (DeviceAct.Receives works faults stamp bytes) k low h =
    let soon = h.0.no_later in (h.0, k (sent_at stamp bytes) (omega (arith, soon, low)) h.1, h.2)
device_may_cut unit all some device own (DeviceAct.Judges works faults verdict) k low h = tt
device_may_cut unit all some device own DeviceAct.Restarts k low h = tt

-- THE END

at_end : (unit : ℕ) (o r : Option DeviceProcess) → CutSite unit o r → IfSome o (λ p. unit ≤ p.unit) → IfSome r (λ q. q.unit ≡ unit)
at_end unit None None k h = tt
at_end unit None (Some q) k h = absurd k
at_end unit (Some p) None k h = tt
at_end unit (Some p) (Some q) (inl k) h = let low = k.1 in ap (λ (x : DeviceProcess). x.unit) k.0 ∙ omega (arith, low, h)
at_end unit (Some p) (Some q) (inr k) h = k.0

agent_at_end : (unit : ℕ) (p q : AgentProcess) → CutAgent unit p q → unit ≤ p.unit → q.unit ≡ unit
agent_at_end unit p q (inl k) h = let low = k.1 in ap (λ (x : AgentProcess). x.unit) k.0 ∙ omega (arith, low, h)
agent_at_end unit p q (inr k) h = k.0

-- an act of the part, and one that is left out
takes : (packages : List PackageText) (unit : ℕ) (ps qs : ProcessesOf) (a : Act) (xs : List Act) → unit_after_act ps a ≤ unit → MayAct packages qs a
    → IsTraceTo packages unit (processes_after_act packages qs a) (acts_until packages unit (processes_after_act packages ps a) xs) → IsTraceTo packages unit qs (acts_until packages unit ps (a ∷ xs))
takes packages unit ps qs a xs low may rest =
    subst (λ (b : Bool). IsTraceTo packages unit qs (if b then a ∷ acts_until packages unit (processes_after_act packages ps a) xs else acts_until packages unit (processes_after_act packages ps a) xs))
    (sym (le-leb (unit_after_act ps a) unit low)) (record { may = (may, rest.may); ends = rest.ends })

leaves : (packages : List PackageText) (unit : ℕ) (ps qs : ProcessesOf) (a : Act) (xs : List Act) → unit < unit_after_act ps a
    → IsTraceTo packages unit qs (acts_until packages unit (processes_after_act packages ps a) xs) → IsTraceTo packages unit qs (acts_until packages unit ps (a ∷ xs))
leaves packages unit ps qs a xs past rest =
    subst (λ (b : Bool). IsTraceTo packages unit qs (if b then a ∷ acts_until packages unit (processes_after_act packages ps a) xs else acts_until packages unit (processes_after_act packages ps a) xs))
    (sym (lt-leb (unit_after_act ps a) unit past)) rest

cuts : (packages : List PackageText) (unit : ℕ) (ps qs : ProcessesOf) (xs : List Act) → Cut unit ps qs → EachMayAct packages ps xs → HaveReachedUnit unit (processes_after packages ps xs)
    → IsTraceTo packages unit qs (acts_until packages unit ps xs)
cuts packages unit ps qs [] k may h = record {
  may = tt;
  ends = record { agent = agent_at_end unit ps.agent qs.agent k.agent h.agent; devices = λ eid. at_end unit (ps.device eid) (qs.device eid) (k.devices eid) (h.devices eid) };
}
cuts packages unit ps qs (Act.OfAgent d ∷ xs) k may h = elim (cases_lt unit (agent_unit_after ps.agent.unit d)) [
  | inl past ↦
      leaves packages unit ps qs (Act.OfAgent d) xs past
      (cuts packages unit (processes_after_act packages ps (Act.OfAgent d)) qs xs (record { agent = agent_past packages unit ps.agent qs.agent d k.agent past; devices = k.devices }) may.1 h)
  | inr low ↦
      let least = (unit_low ps.agent.unit d).0 in
      let within : ps.agent.unit ≤ unit = omega (arith, least, low) in
      let same : qs.agent ≡ ps.agent = agent_within unit ps.agent qs.agent k.agent within in
      takes packages unit ps qs (Act.OfAgent d) xs low
      (agent_may_cut packages unit ps qs d k same within may.0.0, subst (λ (x : AgentProcess). AgentMayCall packages x.node (agent_act_call x.unit d)) (sym same) may.0.1)
      (cuts packages unit (processes_after_act packages ps (Act.OfAgent d)) (processes_after_act packages qs (Act.OfAgent d)) xs
      (record { agent = inl (ap (λ (x : AgentProcess). agent_process_after_act packages x d) same, low); devices = k.devices }) may.1 h)
]
cuts packages unit ps qs (Act.OfDevice device d ∷ xs) k may h =
    let w = found_in (λ q. DeviceMayAct ps.agent.sent device q.unit d × DeviceMayCall q.node (device_act_call d)) (ps.device device) may.0 in
    let c = has_cut unit (ps.device device) (qs.device device) w.value (k.devices device) w.is in
    let its : site_unit_after (ps.device device) d ≡ device_unit_after w.value.unit d = ap (λ (o : Option DeviceProcess). site_unit_after o d) w.is in
    elim (cases_lt unit (device_unit_after w.value.unit d)) [
      | inl past ↦
          leaves packages unit ps qs (Act.OfDevice device d) xs (omega (arith, its, past))
          (cuts packages unit (processes_after_act packages ps (Act.OfDevice device d)) qs xs (record { agent = k.agent; devices = one_acts unit ps qs device d w.value k w.is c past }) may.1 h)
      | inr low ↦
          let least = (device_unit_low w.value.unit d).0 in
          let within : w.value.unit ≤ unit = omega (arith, least, low) in
          let same : c.process ≡ w.value = device_within unit w.value c.process c.cut within in
          takes packages unit ps qs (Act.OfDevice device d) xs (omega (arith, its, low))
          (subst (λ (o : Option DeviceProcess). IsSomeAnd o (λ q. DeviceMayAct qs.agent.sent device q.unit d × DeviceMayCall q.node (device_act_call d))) (sym c.there)
          (subst (λ (x : DeviceProcess). DeviceMayAct qs.agent.sent device x.unit d × DeviceMayCall x.node (device_act_call d)) (sym same)
          (device_may_cut unit ps.agent.sent qs.agent.sent device w.value.unit d (agent_sent_cut unit ps.agent qs.agent k.agent) within w.fact.0, w.fact.1)))
          (cuts packages unit (processes_after_act packages ps (Act.OfDevice device d)) (processes_after_act packages qs (Act.OfDevice device d)) xs
          (record { agent = k.agent; devices = both_act unit ps qs device d w.value k w.is c low }) may.1 h)
    ]

first_cut : (unit : ℕ) (o : Option SiteOf) → CutSite unit (option_map new_process o) (option_map new_process o)
first_cut unit None = tt
first_cut unit (Some x) = inl (refl, omega arith)

pub traces_are_cut : TracesAreCut
traces_are_cut opening trace unit may reached =
    cuts opening.packages unit (processes_of opening) (processes_of opening) trace
    (record { agent = inl (refl, omega arith); devices = λ eid. first_cut unit (site_for opening.sites eid) }) may reached
