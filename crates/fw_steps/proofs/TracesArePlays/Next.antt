-- In a sorted trace, a process that is in an earlier unit than the others ticks next.
use Rattle.std.proofs.Common.{◌≡◌, ◌∙◌, ◌+◌, ◌-◌, ◌*◌, ◌^◌, ◌==◌, ◌<◌, ◌≤◌, ℕ, if◌then◌else◌, List, [], ◌∷◌, Option, Some, None, IfSome, inl, inr, ap, arith}
use Rattle.std.specs.Option.{option_map}
use Rattle.std.proofs.lemmas.Bool.Decides.{eqb_tells}
use Rattle.fw_package.specs.Package.{PackageText}
use Rattle.fw_steps.specs.Plays.{AgentProcess, DeviceProcess}
use Rattle.fw_steps.specs.Traces.{Act, AgentAct, EachMayAct, DeviceAct, ProcessesOf, processes_after_act, agent_unit_after, processes_after, device_process_after_act, device_unit_after}
use Rattle.fw_steps.proofs.PlaysAreRuns.Options.{fact_there}
use Rattle.fw_steps.proofs.TracesArePlays.Keys.{agent_key, key_in, other_key, other_device_key, tick_key, device_tick_key}
use Rattle.fw_steps.proofs.TracesArePlays.Sorting.{SortedFrom}

-- A process whose unit isn't the last, and which has no more acts in it, ticks next.
pub record AgentNext (m : ℕ) (p : AgentProcess) : Type 0 where
  pub at : m ≤ 2 * (p.unit + 1)
  pub clock : p.unit < 2 ^ 32 - 1

pub agent_next : (packages : List PackageText) (m n : ℕ) (ps : ProcessesOf) (xs : List Act) → SortedFrom packages m ps xs → EachMayAct packages ps xs → 2 * (ps.agent.unit + 1) ≤ m
    → ps.agent.unit < n → (processes_after packages ps xs).agent.unit ≡ n → AgentNext m ps.agent
agent_next packages m n ps [] sorted may low lt e = absurd (omega (arith, lt, e))
agent_next packages m n ps (Act.OfAgent AgentAct.Ticks ∷ xs) sorted may low lt e =
    record { at = (let is = tick_key ps.agent.unit in let least = sorted.0 in omega (arith, is, least)); clock = may.0.0 }
agent_next packages m n ps (Act.OfAgent d ∷ xs) sorted may low lt e =
    let is = other_key ps.agent.unit d tt in let least = sorted.0 in absurd (omega (arith, is, least, low))
agent_next packages m n ps (Act.OfDevice device d ∷ xs) sorted may low lt e =
    let rest = agent_next packages (key_in (ps.device device) d) n (processes_after_act packages ps (Act.OfDevice device d)) xs sorted.1 may.1 (let least = sorted.0 in omega (arith, low, least)) lt e in
    record { at = (let least = sorted.0 in let at = rest.at in omega (arith, least, at)); clock = rest.clock }

device_now : (m : ℕ) (o : Option DeviceProcess) (q : DeviceProcess) (d : DeviceAct) → o ≡ Some q → m ≤ key_in o d → 2 * (q.unit + 1) ≤ m → m ≤ 2 * (q.unit + 1)
device_now m None q d is least low = absurd (cc)
device_now m (Some r) q DeviceAct.Ticks is least low =
    let same : r.unit ≡ q.unit = cc in
    let key = device_tick_key r.unit in
    omega (arith, key, least, same)
device_now m (Some r) q d is least low =
    let same : r.unit ≡ q.unit = cc in
    let key = other_device_key r.unit d tt in
    absurd (omega (arith, key, least, low, same))

pub device_next : (packages : List PackageText) (m n eid : ℕ) (ps : ProcessesOf) (q : DeviceProcess) (xs : List Act) → ps.device eid ≡ Some q → SortedFrom packages m ps xs
    → 2 * (q.unit + 1) ≤ m → q.unit < n → IfSome ((processes_after packages ps xs).device eid) (λ r. r.unit ≡ n) → m ≤ 2 * (q.unit + 1)
device_next packages m n eid ps q [] is sorted low lt e = let same = fact_there (λ (r : DeviceProcess). r.unit ≡ n) (ps.device eid) q is e in absurd (omega (arith, lt, same))
device_next packages m n eid ps q (Act.OfAgent d ∷ xs) is sorted low lt e =
    let least = sorted.0 in
    let at = device_next packages (agent_key ps.agent.unit d) n eid (processes_after_act packages ps (Act.OfAgent d)) q xs is sorted.1 (omega (arith, low, least)) lt e in
    omega (arith, least, at)
device_next packages m n eid ps q (Act.OfDevice device d ∷ xs) is sorted low lt e = elim (eqb_tells device eid) [
  | inl mine ↦ device_now m (ps.device device) q d (ap ps.device mine.1 ∙ is) sorted.0 low
  | inr far ↦
      let there : (if device == eid then option_map (device_process_after_act d) (ps.device eid) else ps.device eid) ≡ Some q = rw far.0 is in
      let least = sorted.0 in
      let at = device_next packages (key_in (ps.device device) d) n eid (processes_after_act packages ps (Act.OfDevice device d)) q xs there sorted.1 (omega (arith, low, least)) lt e in
      omega (arith, least, at)
]

-- Units only grow.
unit_grows : (unit : ℕ) (d : AgentAct) → unit ≤ agent_unit_after unit d
unit_grows unit AgentAct.Ticks = omega arith
unit_grows unit d = omega arith

device_unit_grows : (unit : ℕ) (d : DeviceAct) → unit ≤ device_unit_after unit d
device_unit_grows unit DeviceAct.Ticks = omega arith
device_unit_grows unit d = omega arith

pub agent_grows : (packages : List PackageText) (ps : ProcessesOf) (xs : List Act) → ps.agent.unit ≤ (processes_after packages ps xs).agent.unit
agent_grows packages ps [] = omega arith
agent_grows packages ps (Act.OfAgent d ∷ xs) =
    let rest = agent_grows packages (processes_after_act packages ps (Act.OfAgent d)) xs in let more = unit_grows ps.agent.unit d in omega (arith, rest, more)
agent_grows packages ps (Act.OfDevice device d ∷ xs) = agent_grows packages (processes_after_act packages ps (Act.OfDevice device d)) xs

pub device_grows : (packages : List PackageText) (n eid : ℕ) (ps : ProcessesOf) (q : DeviceProcess) (xs : List Act) → ps.device eid ≡ Some q → IfSome ((processes_after packages ps xs).device eid) (λ r. r.unit ≡ n) → q.unit ≤ n
device_grows packages n eid ps q [] is e = let same = fact_there (λ (r : DeviceProcess). r.unit ≡ n) (ps.device eid) q is e in omega (arith, same)
device_grows packages n eid ps q (Act.OfAgent d ∷ xs) is e = device_grows packages n eid (processes_after_act packages ps (Act.OfAgent d)) q xs is e
device_grows packages n eid ps q (Act.OfDevice device d ∷ xs) is e = elim (eqb_tells device eid) [
  | inl mine ↦
      let there : (if device == eid then option_map (device_process_after_act d) (ps.device eid) else ps.device eid) ≡ Some (device_process_after_act d q) = rw mine.0 (ap (option_map (device_process_after_act d)) is) in
      let rest = device_grows packages n eid (processes_after_act packages ps (Act.OfDevice device d)) (device_process_after_act d q) xs there e in
      let more = device_unit_grows q.unit d in
      omega (arith, rest, more)
  | inr far ↦
      let there : (if device == eid then option_map (device_process_after_act d) (ps.device eid) else ps.device eid) ≡ Some q = rw far.0 is in
      device_grows packages n eid (processes_after_act packages ps (Act.OfDevice device d)) q xs there e
]
