-- Two neighbouring acts whose keys are in the wrong order may change places (`swap`), since no
-- packet that is sent in a unit is received before it.
use Rattle.std.proofs.Common.{◌≡◌, ◌∙◌, ◌+◌, ◌*◌, ◌==◌, ◌++◌, ◌<◌, ◌≤◌, ℕ, Bool, true, false, if◌then◌else◌, List, [], ◌∷◌, Option, Some, None, IsSomeAnd, inl, inr, refl, sym, ap, subst, arith}
use Rattle.std.specs.List.{Contains}
use Rattle.std.specs.Option.{option_map}
use Rattle.std.proofs.lemmas.Bool.{eqb-true}
use Rattle.std.proofs.lemmas.Bool.Decides.{eqb_tells}
use Rattle.std.proofs.lemmas.List.Elements.{Contains-append_left, Contains-append_cases}
use Rattle.exch_lane.specs.Lanes.{Sent}
use Rattle.exch_lane.specs.Steps.{sent_at}
use Rattle.fw_package.specs.Package.{PackageText}
use Rattle.fw_steps.specs.Plays.{DeviceMayCall, DeviceProcess}
use Rattle.fw_steps.specs.Traces.{Act, AgentAct, AgentMayAct, DeviceAct, DeviceMayAct, MayAct, ProcessesOf, processes_after_act, agent_unit_after, device_process_after_act, device_act_call, device_unit_after}
use Rattle.fw_steps.specs.Worlds.{sent_now}
use Rattle.fw_steps.proofs.Leading.{differs}
use Rattle.fw_steps.proofs.PlaysAreRuns.Sendings.{contains_cases}
use Rattle.fw_steps.proofs.TracesArePlays.Keys.{agent_key, device_key, key_in, key_of, agent_least, agent_most, device_least, device_most, other_key, other_device_key}

-- PACKETS THAT WERE SENT

dated : (p : Sent) (unit : ℕ) (packets : List (List ℕ)) → Contains (sent_now unit packets) p → unit ≡ p.date
dated p unit [] c = let lt = c.1 in absurd (omega (arith, lt))
dated p unit (q ∷ qs) c = elim (contains_cases (sent_at unit q) p (sent_now unit qs) c) [ inl e ↦ ap (λ (x : Sent). x.date) e | inr rest ↦ dated p unit qs rest ]

-- A packet that was sent in an earlier unit was sent before.
pub kept : (p : Sent) (old : List Sent) (unit : ℕ) (packets : List (List ℕ)) → p.date < unit → Contains (old ++ sent_now unit packets) p → Contains old p
kept p old unit packets lt c = elim (Contains-append_cases old (sent_now unit packets) p c) [
  | inl before ↦ before
  | inr now ↦ let is = dated p unit packets now in absurd (omega (arith, lt, is))
]

-- TWO ACTS CHANGE PLACES

-- A device receives the packets that the agent sent in an earlier unit, also after the swap.
fewer_device : (old : List Sent) (after : ℕ) (packets : List (List ℕ)) (device : ℕ) (unit : ℕ) (d : DeviceAct) (k : ℕ) → device_key unit d < k → k ≤ 2 * after + 1
    → DeviceMayAct (old ++ sent_now after packets) device unit d → DeviceMayAct old device unit d
fewer_device old after packets device unit DeviceAct.Ticks k lt most h = tt
fewer_device old after packets device unit (DeviceAct.Receives works faults stamp bytes) k lt most h =
    let is = other_device_key unit (DeviceAct.Receives works faults stamp bytes) tt in
    let soon : stamp ≤ unit = h.0.no_later in
    (h.0, kept (sent_at stamp bytes) old after packets (omega (arith, lt, most, is, soon)) h.1, h.2)
fewer_device old after packets device unit (DeviceAct.Judges works faults verdict) k lt most h = tt
fewer_device old after packets device unit DeviceAct.Restarts k lt most h = tt

fewer_in : (o : Option DeviceProcess) (old : List Sent) (after : ℕ) (packets : List (List ℕ)) (device : ℕ) (d : DeviceAct) (k : ℕ) → key_in o d < k → k ≤ 2 * after + 1
    → IsSomeAnd o (λ q. DeviceMayAct (old ++ sent_now after packets) device q.unit d × DeviceMayCall q.node (device_act_call d))
    → IsSomeAnd o (λ q. DeviceMayAct old device q.unit d × DeviceMayCall q.node (device_act_call d))
fewer_in None old after packets device d k lt most h = absurd h
fewer_in (Some q) old after packets device d k lt most h = (fewer_device old after packets device q.unit d k lt most h.0, h.1)

more_device : (old new : List Sent) (device unit : ℕ) (d : DeviceAct) → DeviceMayAct old device unit d → DeviceMayAct (old ++ new) device unit d
more_device old new device unit DeviceAct.Ticks h = tt
more_device old new device unit (DeviceAct.Receives works faults stamp bytes) h = (h.0, Contains-append_left old new (sent_at stamp bytes) h.1, h.2)
more_device old new device unit (DeviceAct.Judges works faults verdict) h = tt
more_device old new device unit DeviceAct.Restarts h = tt

more_in : (o : Option DeviceProcess) (old new : List Sent) (device : ℕ) (d : DeviceAct)
    → IsSomeAnd o (λ q. DeviceMayAct old device q.unit d × DeviceMayCall q.node (device_act_call d))
    → IsSomeAnd o (λ q. DeviceMayAct (old ++ new) device q.unit d × DeviceMayCall q.node (device_act_call d))
more_in None old new device d h = absurd h
more_in (Some q) old new device d h = (more_device old new device q.unit d h.0, h.1)

-- The same for the agent, and the packets that a device sent.
abbrev HasSent : Sent → Option DeviceProcess → Type 0
HasSent p o = IsSomeAnd o (λ q. Contains q.sent p)

device_sent_more : (mine : Bool) (d : DeviceAct) (p : Sent) (o : Option DeviceProcess) → HasSent p o → HasSent p (if mine then option_map (device_process_after_act d) o else o)
device_sent_more true d p None h = absurd h
device_sent_more true d p (Some q) h = Contains-append_left q.sent _ p h
device_sent_more false d p o h = h

device_sent_fewer : (mine : Bool) (d : DeviceAct) (p : Sent) (o : Option DeviceProcess) → (mine ≡ true → 2 * p.date + 1 < key_in o d) → HasSent p (if mine then option_map (device_process_after_act d) o else o) → HasSent p o
device_sent_fewer true d p None k h = absurd h
device_sent_fewer true d p (Some q) k h =
    let lt = k refl in
    let most = device_most q.unit d in
    kept p q.sent (device_unit_after q.unit d) _ (omega (arith, lt, most)) h
device_sent_fewer false d p o k h = h

agent_more_received : (packages : List PackageText) (ps : ProcessesOf) (device : ℕ) (b : DeviceAct) (d : AgentAct) → AgentMayAct ps d → AgentMayAct (processes_after_act packages ps (Act.OfDevice device b)) d
agent_more_received packages ps device b AgentAct.Ticks h = h
agent_more_received packages ps device b (AgentAct.Receives from stamp bytes) h = (h.0, device_sent_more (device == from) b (sent_at stamp bytes) (ps.device from) h.1)
agent_more_received packages ps device b (AgentAct.Starts from number) h = tt
agent_more_received packages ps device b (AgentAct.Cancels from) h = tt
agent_more_received packages ps device b (AgentAct.Activates from) h = tt
agent_more_received packages ps device b (AgentAct.AsksLog bytes) h = tt
agent_more_received packages ps device b AgentAct.Restarts h = tt

agent_fewer_received : (packages : List PackageText) (ps : ProcessesOf) (device : ℕ) (a : DeviceAct) (d : AgentAct) → agent_key ps.agent.unit d < key_in (ps.device device) a
    → AgentMayAct (processes_after_act packages ps (Act.OfDevice device a)) d → AgentMayAct ps d
agent_fewer_received packages ps device a AgentAct.Ticks lt h = h
agent_fewer_received packages ps device a (AgentAct.Receives from stamp bytes) lt h =
    let is = other_key ps.agent.unit (AgentAct.Receives from stamp bytes) tt in
    let soon : stamp ≤ ps.agent.unit = h.0.no_later in (
      h.0,
      device_sent_fewer (device == from) a (sent_at stamp bytes) (ps.device from)
          (λ e. let same : key_in (ps.device device) a ≡ key_in (ps.device from) a = ap (λ (k : ℕ). key_in (ps.device k) a) (eqb-true device from e) in omega (arith, lt, is, soon, same)) h.1,
    )
agent_fewer_received packages ps device a (AgentAct.Starts from number) lt h = tt
agent_fewer_received packages ps device a (AgentAct.Cancels from) lt h = tt
agent_fewer_received packages ps device a (AgentAct.Activates from) lt h = tt
agent_fewer_received packages ps device a (AgentAct.AsksLog bytes) lt h = tt
agent_fewer_received packages ps device a AgentAct.Restarts lt h = tt

pub record Swapped (packages : List PackageText) (ps : ProcessesOf) (a b : Act) : Type 0 where
  pub first : MayAct packages ps b
  pub second : MayAct packages (processes_after_act packages ps b) a
  pub same : processes_after_act packages (processes_after_act packages ps a) b ≡ processes_after_act packages (processes_after_act packages ps b) a
  pub key : key_of ps b ≡ key_of (processes_after_act packages ps a) b
  pub last : key_of (processes_after_act packages ps b) a ≡ key_of ps a

-- Two acts of one device are in the right order.
no_back : (o : Option DeviceProcess) (a b : DeviceAct) → key_in (option_map (device_process_after_act a) o) b < key_in o a → ⊥
no_back None a b lt = omega (arith, lt)
no_back (Some q) a b lt =
    let least = device_least (device_unit_after q.unit a) b in
    let most = device_most q.unit a in
    omega (arith, lt, least, most)

-- Acts of two devices may change places.
pointwise : (one other : ℕ) (a b : DeviceAct) (o : Option DeviceProcess) (eid : ℕ) → (one ≡ other → ⊥)
    → (if other == eid then option_map (device_process_after_act b) (if one == eid then option_map (device_process_after_act a) o else o) else (if one == eid then option_map (device_process_after_act a) o else o))
    ≡ (if one == eid then option_map (device_process_after_act a) (if other == eid then option_map (device_process_after_act b) o else o) else (if other == eid then option_map (device_process_after_act b) o else o))
pointwise one other a b o eid apart = elim (eqb_tells one eid) [
  | inl mine ↦ rw (mine.0, differs other eid (λ z. apart (mine.1 ∙ sym z))) refl
  | inr far ↦ rw far.0 refl
]

swap_devices : (packages : List PackageText) (ps : ProcessesOf) (one other : ℕ) (a b : DeviceAct) → (one == other) ≡ false → (one ≡ other → ⊥)
    → MayAct packages ps (Act.OfDevice one a) → MayAct packages (processes_after_act packages ps (Act.OfDevice one a)) (Act.OfDevice other b)
    → Swapped packages ps (Act.OfDevice one a) (Act.OfDevice other b)
swap_devices packages ps one other a b far apart h k =
    let back : (other == one) ≡ false = differs other one (λ z. apart (sym z)) in
    record {
      first = subst (λ (x : Bool). IsSomeAnd (if x then option_map (device_process_after_act a) (ps.device other) else ps.device other)
          (λ q. DeviceMayAct ps.agent.sent other q.unit b × DeviceMayCall q.node (device_act_call b))) far k;
      second = subst (λ (x : Bool). IsSomeAnd (if x then option_map (device_process_after_act b) (ps.device one) else ps.device one)
          (λ q. DeviceMayAct ps.agent.sent one q.unit a × DeviceMayCall q.node (device_act_call a))) (sym back) h;
      same = λ i. record { agent = ps.agent; device = λ eid. pointwise one other a b (ps.device eid) eid apart i };
      key = rw far refl;
      last = rw back refl;
    }

pub swap : (packages : List PackageText) (ps : ProcessesOf) (a b : Act) → MayAct packages ps a → MayAct packages (processes_after_act packages ps a) b → key_of (processes_after_act packages ps a) b < key_of ps a → Swapped packages ps a b
swap packages ps (Act.OfAgent a) (Act.OfAgent b) h k lt =
    let least = agent_least (agent_unit_after ps.agent.unit a) b in
    let most = agent_most ps.agent.unit a in
    absurd (omega (arith, lt, least, most))
swap packages ps (Act.OfAgent a) (Act.OfDevice device b) h k lt = record {
  first = fewer_in (ps.device device) ps.agent.sent (agent_unit_after ps.agent.unit a) _ device b (agent_key ps.agent.unit a) lt (agent_most ps.agent.unit a) k;
  second = (agent_more_received packages ps device b a h.0, h.1);
  same = refl;
  key = refl;
  last = refl;
}
swap packages ps (Act.OfDevice device a) (Act.OfAgent b) h k lt = record {
  first = (agent_fewer_received packages ps device a b lt k.0, k.1);
  second = more_in (ps.device device) ps.agent.sent _ device a h;
  same = refl;
  key = refl;
  last = refl;
}
swap packages ps (Act.OfDevice one a) (Act.OfDevice other b) h k lt = elim (eqb_tells one other) [
  | inl mine ↦
      let here : key_in (option_map (device_process_after_act a) (ps.device other)) b < key_in (ps.device one) a =
      subst (λ (x : Bool). key_in (if x then option_map (device_process_after_act a) (ps.device other) else ps.device other) b < key_in (ps.device one) a) mine.0 lt in
      absurd (no_back (ps.device other) a b (subst (λ (eid : ℕ). key_in (option_map (device_process_after_act a) (ps.device other)) b < key_in (ps.device eid) a) mine.1 here))
  | inr far ↦ swap_devices packages ps one other a b far.0 far.1 h k
]
