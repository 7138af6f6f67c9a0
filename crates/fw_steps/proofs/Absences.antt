-- An absence is restarts and ticks, which send nothing and leave a node that restarted
-- (`absences_are_deeds`).
use Rattle.std.proofs.Common.{◌≡◌, ◌∙◌, ◌+◌, ◌==◌, ◌++◌, ℕ, zero, suc, Bool, true, false, if◌then◌else◌, is_some, List, [], ◌∷◌, map, Option, Some, None, IsSomeAnd, refl, ap, arith, append-nil}
use Rattle.std.specs.Option.{option_map}
use Rattle.exch_lane.specs.Lanes.{Sent}
use Rattle.fd_core.specs.Images.{RowOf, rows_after_drop, row_without_applied}
use Rattle.fw_package.specs.Package.{PackageText}
use Rattle.ua_core.specs.Session.{TimedOf}
use Rattle.fw_node.specs.Agents.{AgentOf, agent_restarts, agent_ticks}
use Rattle.fw_node.specs.Cores.{session_core}
use Rattle.fw_node.specs.Halves.{HalfOf, half_restarts, half_ticks}
use Rattle.fw_node.specs.Nodes.{DeviceNodeOf, device_restarts}
use Rattle.fw_steps.specs.Absences.{AbsencesAreDeeds, AgentIsAbsent, DeviceIsAbsent, device_after_absence}
use Rattle.fw_steps.specs.Alone.{DeviceCall, device_after_call}
use Rattle.fw_steps.specs.Plays.{AgentProcess, DeviceProcess}
use Rattle.fw_steps.specs.Traces.{Act, AgentAct, DeviceAct, ProcessesOf, agent_process_after_act, device_process_after_act, processes_after_act}

-- THE AGENT

halves_again : (packages : List PackageText) (hs : List (HalfOf TimedOf))
    → map (half_restarts (session_core packages)) (map (λ h. (half_ticks (session_core packages) true h).half) (map (half_restarts (session_core packages)) hs)) ≡ map (half_restarts (session_core packages)) hs
halves_again packages [] = refl
halves_again packages (h ∷ hs) = ap (λ (xs : List (HalfOf TimedOf)). half_restarts (session_core packages) h ∷ xs) (halves_again packages hs)

-- An agent that restarted, ticked and restarts again is one that restarted.
agent_again : (packages : List PackageText) (now : ℕ) (n : AgentOf) → agent_restarts packages (agent_ticks packages now (agent_restarts packages n)) ≡ agent_restarts packages n
agent_again packages now n = rw (halves_again packages n.halves) refl

abbrev with_agent : ProcessesOf → AgentProcess → ProcessesOf
with_agent ps p = record ps { agent = p }

same_agent : (u v : ℕ) (m n : AgentOf) (ps qs : List Sent) → u ≡ v → m ≡ n → ps ≡ qs → ◌≡◌ {A = AgentProcess} (record { unit = u; node = m; sent = ps }) (record { unit = v; node = n; sent = qs })
same_agent u v m n ps qs e f g = λ i. record { unit = e i; node = f i; sent = g i }

agent_is_absent : (packages : List PackageText) (ps : ProcessesOf) (units : ℕ) → AgentIsAbsent packages ps units
agent_is_absent packages ps zero =
    let p = ps.agent in
    record {
      ends = ap (with_agent ps) (same_agent p.unit (p.unit + 0) (agent_restarts packages p.node) (agent_restarts packages p.node) (p.sent ++ []) p.sent (omega arith) refl (append-nil p.sent));
      may = λ low. ((tt, tt), tt);
    }
agent_is_absent packages ps (suc units) =
    let p = ps.agent in
    let on = agent_process_after_act packages (agent_process_after_act packages p AgentAct.Restarts) AgentAct.Ticks in
    let rest = agent_is_absent packages (with_agent ps on) units in
    record {
      ends = rest.ends ∙ ap (with_agent ps) (same_agent (on.unit + units) (p.unit + suc units) (agent_restarts packages on.node) (agent_restarts packages p.node) on.sent p.sent (omega arith)
          (agent_again packages (p.unit + 1) p.node) (append-nil (p.sent ++ []) ∙ append-nil p.sent));
      may = λ low. ((tt, tt), ((omega (arith, low), tt), rest.may (omega (arith, low))));
    }

-- A DEVICE

dropped_twice : (rows : List RowOf) → rows_after_drop (rows_after_drop rows) ≡ rows_after_drop rows
dropped_twice [] = refl
dropped_twice (r ∷ rs) = ap (λ (xs : List RowOf). row_without_applied r ∷ xs) (dropped_twice rs)

-- A device that restarted, ticked and restarts again is one that restarted.
device_again : (n : DeviceNodeOf) → device_restarts (device_after_call (device_restarts n) DeviceCall.Ticks) ≡ device_restarts n
device_again n = rw (dropped_twice n.half.core.device.rows) refl

same_device : (u v : ℕ) (m n : DeviceNodeOf) (ps qs : List Sent) → u ≡ v → m ≡ n → ps ≡ qs
    → ◌≡◌ {A = DeviceProcess} (record { unit = u; node = m; sent = ps }) (record { unit = v; node = n; sent = qs })
same_device u v m n ps qs e f g = λ i. record { unit = e i; node = f i; sent = g i }

-- an absence of no unit, and one that is a unit longer
absence_ends : (q : DeviceProcess) → device_process_after_act DeviceAct.Restarts q ≡ device_after_absence 0 q
absence_ends q = same_device q.unit (q.unit + 0) (device_restarts q.node) (device_restarts q.node) (q.sent ++ []) q.sent (omega arith) refl (append-nil q.sent)

absence_more : (units : ℕ) (q : DeviceProcess) → device_after_absence units (device_process_after_act DeviceAct.Ticks (device_process_after_act DeviceAct.Restarts q)) ≡ device_after_absence (suc units) q
absence_more units q =
    let on = device_process_after_act DeviceAct.Ticks (device_process_after_act DeviceAct.Restarts q) in
    same_device (on.unit + units) (q.unit + suc units) (device_restarts on.node) (device_restarts q.node) on.sent q.sent (omega arith) (device_again q.node)
    (append-nil (q.sent ++ []) ∙ append-nil q.sent)

-- one of the devices changes
abbrev changed_if : Bool → (DeviceProcess → DeviceProcess) → Option DeviceProcess → Option DeviceProcess
changed_if mine f o = if mine then option_map f o else o

changed_once : (mine : Bool) (f g : DeviceProcess → DeviceProcess) (o : Option DeviceProcess) → ((q : DeviceProcess) → f q ≡ g q) → changed_if mine f o ≡ changed_if mine g o
changed_once true f g None e = refl
changed_once true f g (Some q) e = ap Some (e q)
changed_once false f g o e = refl

changed_thrice : (mine : Bool) (f g h k : DeviceProcess → DeviceProcess) (o : Option DeviceProcess) → ((q : DeviceProcess) → h (g (f q)) ≡ k q)
    → changed_if mine h (changed_if mine g (changed_if mine f o)) ≡ changed_if mine k o
changed_thrice true f g h k None e = refl
changed_thrice true f g h k (Some q) e = ap Some (e q)
changed_thrice false f g h k o e = refl

still_some : (mine : Bool) (f : DeviceProcess → DeviceProcess) (o : Option DeviceProcess) → is_some o ≡ true → is_some (changed_if mine f o) ≡ true
still_some true f None e = absurd (cc)
still_some true f (Some q) e = refl
still_some false f o e = e

-- a property of every process is a property of a process that is there
holds_there : (P : DeviceProcess → Type 0) (o : Option DeviceProcess) → is_some o ≡ true → ((q : DeviceProcess) → P q) → IsSomeAnd o P
holds_there P None e h = absurd (cc)
holds_there P (Some q) e h = h q

device_is_absent : (packages : List PackageText) (ps : ProcessesOf) (device units : ℕ) → DeviceIsAbsent packages ps device units
device_is_absent packages ps device zero = record {
  agent = refl;
  devices = λ eid. changed_once (device == eid) (device_process_after_act DeviceAct.Restarts) (device_after_absence 0) (ps.device eid) absence_ends;
  may = λ some. (holds_there _ (ps.device device) some (λ q. (tt, tt)), tt);
}
device_is_absent packages ps device (suc units) =
    let us = processes_after_act packages ps (Act.OfDevice device DeviceAct.Restarts) in
    let vs = processes_after_act packages us (Act.OfDevice device DeviceAct.Ticks) in
    let rest = device_is_absent packages vs device units in
    record {
      agent = rest.agent;
      devices = λ eid. rest.devices eid ∙ changed_thrice (device == eid) (device_process_after_act DeviceAct.Restarts) (device_process_after_act DeviceAct.Ticks) (device_after_absence units)
          (device_after_absence (suc units)) (ps.device eid) (absence_more units);
      may = λ some.
          let one : is_some (us.device device) ≡ true = still_some (device == device) (device_process_after_act DeviceAct.Restarts) (ps.device device) some in
          let two : is_some (vs.device device) ≡ true = still_some (device == device) (device_process_after_act DeviceAct.Ticks) (us.device device) one in
          (holds_there _ (ps.device device) some (λ q. (tt, tt)), (holds_there _ (us.device device) one (λ q. (tt, tt)), rest.may two));
    }

pub absences_are_deeds : AbsencesAreDeeds
absences_are_deeds = (agent_is_absent, device_is_absent)
