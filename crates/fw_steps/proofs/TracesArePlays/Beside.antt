-- A play beside a sorted trace: each process of the play is as in the trace, or one tick further.
-- It stays so when a unit passes in the play (`passing`), and when a process that is a tick late
-- ticks in the trace (`agent_ticked`, `device_ticked`).
use Rattle.std.proofs.Common.{◌≡◌, ◌⊎◌, ◌∙◌, ◌+◌, ◌-◌, ◌*◌, ◌^◌, ◌==◌, ◌++◌, ◌<◌, ◌≤◌, ℕ, Bool, true, false, if◌then◌else◌, List, [], ◌∷◌, Option, Some, None, IfSome, inl, inr, refl, sym, ap, subst, arith}
use Rattle.std.specs.List.{AllByRecursion, Contains}
use Rattle.std.specs.Option.{option_map}
use Rattle.std.proofs.lemmas.Bool.Decides.{eqb_tells}
use Rattle.std.proofs.lemmas.List.Elements.{Contains-append_left}
use Rattle.exch_lane.specs.Lanes.{Sent}
use Rattle.fw_package.specs.Package.{PackageText}
use Rattle.fw_steps.specs.Alone.{DeviceCall}
use Rattle.fw_steps.specs.Plays.{AgentProcess, DeviceMayCall, DeviceProcess, PlayStep, MayFollow, agent_process_after_step, agent_process_after, device_process_after_step, device_process_after}
use Rattle.fw_steps.specs.Traces.{Act, AgentAct, EachMayAct, AreAtUnit, DeviceAct, ProcessesOf, processes_after_act, agent_process_after_act, processes_after, device_process_after_act}
use Rattle.fw_steps.specs.Worlds.{SiteOf, WorldOf, site_for}
use Rattle.fw_steps.proofs.PlaysAreRuns.Options.{Found, if_there, one_there}
use Rattle.fw_steps.proofs.PlaysAreRuns.Agreeing.{agent_more, device_more}
use Rattle.fw_steps.proofs.TracesArePlays.Sorting.{SortedFrom}
use Rattle.fw_steps.proofs.TracesArePlays.Next.{agent_next, device_next}

-- A PLAY BESIDE A SORTED TRACE

-- In this unit of the play, a process of the play is as in the trace, or a tick further.
abbrev pub NearAgent : List PackageText → ℕ → AgentProcess → AgentProcess → Type 0
NearAgent packages k p t = ((p ≡ t) × (t.unit ≡ k)) ⊎ ((p ≡ agent_process_after_act packages t AgentAct.Ticks) × (t.unit + 1 ≡ k))

abbrev pub NearDevice : ℕ → DeviceProcess → DeviceProcess → Type 0
NearDevice k p t = ((p ≡ t) × (t.unit ≡ k)) ⊎ ((p ≡ device_process_after_act DeviceAct.Ticks t) × (t.unit + 1 ≡ k))

pub record NearSite (k : ℕ) (p : DeviceProcess) (o : Option DeviceProcess) : Type 0 where
  pub process : DeviceProcess
  pub there : o ≡ Some process
  pub near : NearDevice k p process

pub record Beside (opening : WorldOf) (before : List PlayStep) (ps : ProcessesOf) (k : ℕ) : Type 0 where
  pub agent : NearAgent opening.packages k (agent_process_after opening before) ps.agent
  pub devices : (eid : ℕ) (x : SiteOf) → site_for opening.sites eid ≡ Some x → NearSite k (device_process_after eid x.node before) (ps.device eid)
  pub back : (eid : ℕ) (q : DeviceProcess) → ps.device eid ≡ Some q → Found (site_for opening.sites eid)

near_unit : (packages : List PackageText) (k : ℕ) (p t : AgentProcess) → NearAgent packages k p t → t.unit ≤ k
near_unit packages k p t (inl h) = let e = h.1 in omega (arith, e)
near_unit packages k p t (inr h) = let e = h.1 in omega (arith, e)

near_device_unit : (k : ℕ) (p t : DeviceProcess) → NearDevice k p t → t.unit ≤ k
near_device_unit k p t (inl h) = let e = h.1 in omega (arith, e)
near_device_unit k p t (inr h) = let e = h.1 in omega (arith, e)

-- A process that has reached the unit is as in the play.
pub now_agent : (packages : List PackageText) (k : ℕ) (p t : AgentProcess) → NearAgent packages k p t → k ≤ t.unit → (p ≡ t) × (t.unit ≡ k)
now_agent packages k p t (inl h) low = h
now_agent packages k p t (inr h) low = let e = h.1 in absurd (omega (arith, e, low))

pub now_device : (k : ℕ) (p t : DeviceProcess) → NearDevice k p t → k ≤ t.unit → (p ≡ t) × (t.unit ≡ k)
now_device k p t (inl h) low = h
now_device k p t (inr h) low = let e = h.1 in absurd (omega (arith, e, low))

-- A process that is a tick late is as in the play after a tick.
late_agent : (packages : List PackageText) (k : ℕ) (p t : AgentProcess) → NearAgent packages k p t → t.unit + 1 ≡ k → p ≡ agent_process_after_act packages t AgentAct.Ticks
late_agent packages k p t (inl h) late = let e = h.1 in absurd (omega (arith, e, late))
late_agent packages k p t (inr h) late = h.0

late_device : (k : ℕ) (p t : DeviceProcess) → NearDevice k p t → t.unit + 1 ≡ k → p ≡ device_process_after_act DeviceAct.Ticks t
late_device k p t (inl h) late = let e = h.1 in absurd (omega (arith, e, late))
late_device k p t (inr h) late = h.0

pub near_sent : (k : ℕ) (q t : DeviceProcess) (p : Sent) → NearDevice k q t → Contains t.sent p → Contains q.sent p
near_sent k q t p (inl h) c = subst (λ (x : DeviceProcess). Contains x.sent p) (sym h.0) c
near_sent k q t p (inr h) c = subst (λ (x : DeviceProcess). Contains x.sent p) (sym h.0) (Contains-append_left t.sent _ p c)

pub near_agent_sent : (packages : List PackageText) (k : ℕ) (q t : AgentProcess) (p : Sent) → NearAgent packages k q t → Contains t.sent p → Contains q.sent p
near_agent_sent packages k q t p (inl h) c = subst (λ (x : AgentProcess). Contains x.sent p) (sym h.0) c
near_agent_sent packages k q t p (inr h) c = subst (λ (x : AgentProcess). Contains x.sent p) (sym h.0) (Contains-append_left t.sent _ p c)

-- A UNIT PASSES

device_waits : (packages : List PackageText) (k n eid : ℕ) (ps : ProcessesOf) (p q : DeviceProcess) (xs : List Act) → ps.device eid ≡ Some q → NearDevice k p q
    → SortedFrom packages (2 * (k + 1)) ps xs → k < n → IfSome ((processes_after packages ps xs).device eid) (λ r. r.unit ≡ n) → (p ≡ q) × (q.unit ≡ k)
device_waits packages k n eid ps p q xs is near sorted lt e =
    let low = near_device_unit k p q near in
    let at = device_next packages (2 * (k + 1)) n eid ps q xs is sorted (omega (arith, low)) (omega (arith, low, lt)) e in
    now_device k p q near (omega (arith, at))

pub record Passing (opening : WorldOf) (before : List PlayStep) (ps : ProcessesOf) (k : ℕ) : Type 0 where
  pub may : MayFollow opening before PlayStep.UnitPasses
  pub beside : Beside opening (before ++ PlayStep.UnitPasses ∷ []) ps (k + 1)

pub passing : (opening : WorldOf) (before : List PlayStep) (ps : ProcessesOf) (k n : ℕ) (xs : List Act) → Beside opening before ps k → SortedFrom opening.packages (2 * (k + 1)) ps xs
    → EachMayAct opening.packages ps xs → AreAtUnit n (processes_after opening.packages ps xs) → k < n → Passing opening before ps k
passing opening before ps k n xs b sorted may ends lt =
    let low = near_unit opening.packages k (agent_process_after opening before) ps.agent b.agent in
    let next = agent_next opening.packages (2 * (k + 1)) n ps xs sorted may (omega (arith, low)) (omega (arith, low, lt)) ends.agent in
    let now = now_agent opening.packages k (agent_process_after opening before) ps.agent b.agent (let at = next.at in omega (arith, at)) in
    let waits : (eid : ℕ) (x : SiteOf) (e : site_for opening.sites eid ≡ Some x)
    → (device_process_after eid x.node before ≡ (b.devices eid x e).process) × ((b.devices eid x e).process.unit ≡ k) =
    λ eid x e. device_waits opening.packages k n eid ps (device_process_after eid x.node before) (b.devices eid x e).process xs (b.devices eid x e).there (b.devices eid x e).near sorted lt (ends.devices eid) in
    record {
      may = record {
        carried = subst (λ (p : AgentProcess). p.unit < 2 ^ 32 - 1) (sym now.0) next.clock;
        agent = (tt, tt);
        devices = λ eid. if_there (site_for opening.sites eid) (λ x. AllByRecursion (DeviceMayCall (device_process_after eid x.node before).node) (DeviceCall.Ticks ∷ [])) (λ x e. (tt, tt));
      };
      beside = record {
        agent = subst (λ (p : AgentProcess). NearAgent opening.packages (k + 1) p ps.agent) (sym (agent_more opening.packages _ before PlayStep.UnitPasses))
            (inr (ap (λ (p : AgentProcess). agent_process_after_step opening.packages p PlayStep.UnitPasses) now.0, ap (λ (u : ℕ). u + 1) now.1));
        devices = λ eid x e. record {
          process = (b.devices eid x e).process;
          there = (b.devices eid x e).there;
          near = subst (λ (p : DeviceProcess). NearDevice (k + 1) p (b.devices eid x e).process) (sym (device_more eid _ before PlayStep.UnitPasses))
              (inr (ap (λ (p : DeviceProcess). device_process_after_step eid p PlayStep.UnitPasses) (waits eid x e).0, ap (λ (u : ℕ). u + 1) (waits eid x e).1));
        };
        back = b.back;
      };
    }

-- A LATE PROCESS TICKS

pub agent_ticked : (opening : WorldOf) (before : List PlayStep) (ps : ProcessesOf) (k : ℕ) → Beside opening before ps k → ps.agent.unit + 1 ≡ k
    → Beside opening before (processes_after_act opening.packages ps (Act.OfAgent AgentAct.Ticks)) k
agent_ticked opening before ps k b late = record {
  agent = inl (late_agent opening.packages k (agent_process_after opening before) ps.agent b.agent late, late);
  devices = b.devices;
  back = b.back;
}

found_before : (mine : Bool) (d : DeviceAct) (o : Option DeviceProcess) (r : DeviceProcess) → (if mine then option_map (device_process_after_act d) o else o) ≡ Some r → Found o
found_before true d None r e = absurd (cc)
found_before true d (Some q) r e = record { one = q; is = refl }
found_before false d o r e = record { one = r; is = e }

-- a device's act, after which its process is as in the play
pub device_acted : (opening : WorldOf) (before after : List PlayStep) (ps : ProcessesOf) (k device : ℕ) (d : DeviceAct) (q : DeviceProcess) → ps.device device ≡ Some q → Beside opening before ps k
    → NearAgent opening.packages k (agent_process_after opening after) ps.agent
    → ((x : SiteOf) → site_for opening.sites device ≡ Some x → NearDevice k (device_process_after device x.node after) (device_process_after_act d q))
    → ((eid : ℕ) (x : SiteOf) → (device == eid) ≡ false → device_process_after eid x.node after ≡ device_process_after eid x.node before)
    → Beside opening after (processes_after_act opening.packages ps (Act.OfDevice device d)) k
device_acted opening before after ps k device d q is b agent mine far = record {
  agent = agent;
  devices = λ eid x e. elim (eqb_tells device eid) [
    | inl here ↦ record {
      process = device_process_after_act d q;
      there = rw here.0 (ap (option_map (device_process_after_act d)) (ap ps.device (sym here.1) ∙ is));
      near = subst (λ (k' : ℕ). NearDevice k (device_process_after k' x.node after) (device_process_after_act d q)) here.1 (mine x (ap (site_for opening.sites) here.1 ∙ e));
    }
    | inr other ↦ record {
      process = (b.devices eid x e).process;
      there = rw other.0 (b.devices eid x e).there;
      near = subst (λ (p : DeviceProcess). NearDevice k p (b.devices eid x e).process) (sym (far eid x other.0)) (b.devices eid x e).near;
    }
  ];
  back = λ eid r e. let o = found_before (device == eid) d (ps.device eid) r e in b.back eid o.one o.is;
}

pub device_ticked : (opening : WorldOf) (before : List PlayStep) (ps : ProcessesOf) (k device : ℕ) (q : DeviceProcess) → ps.device device ≡ Some q → Beside opening before ps k → q.unit + 1 ≡ k
    → Beside opening before (processes_after_act opening.packages ps (Act.OfDevice device DeviceAct.Ticks)) k
device_ticked opening before ps k device q is b late =
    device_acted opening before before ps k device DeviceAct.Ticks q is b b.agent
    (λ x e. let same : (b.devices device x e).process ≡ q = one_there (ps.device device) (b.devices device x e).process q (b.devices device x e).there is in
    inl (late_device k (device_process_after device x.node before) q (subst (NearDevice k (device_process_after device x.node before)) same (b.devices device x e).near) late, late))
    (λ eid x far. refl)
