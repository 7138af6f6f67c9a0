-- A sorted trace is a play, and so every trace is a play (`traces_are_plays`).
use Rattle.std.proofs.Common.{◌≡◌, ◌∙◌, ◌+◌, ◌*◌, ◌++◌, ◌<◌, ◌≤◌, ℕ, List, [], ◌∷◌, Option, Some, None, inl, inr, refl, sym, ap, subst, arith, append_assoc, append-nil}
use Rattle.std.specs.Option.{option_map}
use Rattle.fw_steps.specs.Alone.{DeviceCall}
use Rattle.fw_steps.specs.Plays.{EachMayFollow, DeviceMayCall, DeviceProcess, PlayStep, MayFollow, agent_process_after, device_process_after}
use Rattle.fw_steps.specs.Traces.{Act, AgentAct, EachMayAct, AreAtUnit, DeviceAct, DeviceMayAct, IsPlay, ProcessesOf, TracesArePlays, processes_after_act, processes_after, device_process_after_act, device_act_call, new_process, processes_of}
use Rattle.fw_steps.specs.Worlds.{SiteOf, WorldOf, site_for}
use Rattle.fw_steps.proofs.Leading.{equals}
use Rattle.fw_steps.proofs.PlaysAreRuns.Options.{Found, fact_there, if_there}
use Rattle.fw_steps.proofs.DevicesAreIsolated.Seen.{found_in}
use Rattle.fw_steps.proofs.TracesArePlays.Keys.{agent_key, key_in, other_key, other_device_key, tick_key, device_tick_key}
use Rattle.fw_steps.proofs.TracesArePlays.Sorting.{SortedFrom, sorts}
use Rattle.fw_steps.proofs.TracesArePlays.Steps.{agent_happens, device_happens}
use Rattle.fw_steps.proofs.TracesArePlays.Next.{agent_grows, device_grows}
use Rattle.fw_steps.proofs.TracesArePlays.Beside.{Beside, now_agent, now_device, passing, agent_ticked, device_ticked}
use Rattle.fw_steps.proofs.TracesArePlays.Others.{agent_emits, device_emits, near_there}

pub record Plays (opening : WorldOf) (before : List PlayStep) (end : ProcessesOf) : Type 0 where
  pub play : List PlayStep
  pub may : EachMayFollow opening before play
  pub agent : agent_process_after opening (before ++ play) ≡ end.agent
  pub devices : (eid : ℕ) (x : SiteOf) → site_for opening.sites eid ≡ Some x → end.device eid ≡ Some (device_process_after eid x.node (before ++ play))

emit : (opening : WorldOf) (before : List PlayStep) (h : PlayStep) (end : ProcessesOf) → MayFollow opening before h → Plays opening (before ++ h ∷ []) end → Plays opening before end
emit opening before h end may rest = record {
  play = h ∷ rest.play;
  may = (may, rest.may);
  agent = ap (agent_process_after opening) (sym (append_assoc before (h ∷ []) rest.play)) ∙ rest.agent;
  devices = λ eid x e. rest.devices eid x e ∙ ap (λ (hs : List PlayStep). Some (device_process_after eid x.node hs)) (append_assoc before (h ∷ []) rest.play);
}

plays_on : (opening : WorldOf) (before : List PlayStep) (ps : ProcessesOf) (k m n : ℕ) (xs : List Act) → Beside opening before ps k → 2 * k ≤ m → k ≤ n
    → EachMayAct opening.packages ps xs → SortedFrom opening.packages m ps xs → AreAtUnit n (processes_after opening.packages ps xs) → Plays opening before (processes_after opening.packages ps xs)
plays_on opening before ps k m n [] b low high may sorted ends =
    let unit = ends.agent in
    record {
      play = [];
      may = tt;
      agent = ap (agent_process_after opening) (append-nil before) ∙ (now_agent opening.packages k (agent_process_after opening before) ps.agent b.agent (omega (arith, unit, high))).0;
      devices = λ eid x e.
          let d = b.devices eid x e in
          let at = fact_there (λ (q : DeviceProcess). q.unit ≡ n) (ps.device eid) d.process d.there (ends.devices eid) in
          d.there ∙ ap Some (sym (now_device k (device_process_after eid x.node before) d.process d.near (omega (arith, at, high))).0) ∙ ap (λ (hs : List PlayStep). Some (device_process_after eid x.node hs)) (sym (append-nil before));
    }
plays_on opening before ps k m n (Act.OfAgent AgentAct.Ticks ∷ xs) b low high may sorted ends =
    let us = processes_after_act opening.packages ps (Act.OfAgent AgentAct.Ticks) in
    let key = tick_key ps.agent.unit in
    elim b.agent [
      | inl now ↦
          let unit = now.1 in
          let grows = agent_grows opening.packages us xs in
          let end = ends.agent in
          let lt : k < n = omega (arith, grows, end, unit) in
          let pass = passing opening before ps k n (Act.OfAgent AgentAct.Ticks ∷ xs) b (omega (arith, key, unit), sorted.1) may ends lt in
          emit opening before PlayStep.UnitPasses _ pass.may
          (plays_on opening (before ++ PlayStep.UnitPasses ∷ []) us (k + 1) (agent_key ps.agent.unit AgentAct.Ticks) n xs
          (agent_ticked opening (before ++ PlayStep.UnitPasses ∷ []) ps (k + 1) pass.beside (omega (arith, unit))) (omega (arith, key, unit)) (omega (arith, lt)) may.1 sorted.1 ends)
      | inr late ↦
          let unit = late.1 in
          plays_on opening before us k (agent_key ps.agent.unit AgentAct.Ticks) n xs (agent_ticked opening before ps k b unit) (omega (arith, key, unit)) high may.1 sorted.1 ends
    ]
plays_on opening before ps k m n (Act.OfAgent d ∷ xs) b low high may sorted ends =
    let key = other_key ps.agent.unit d tt in
    let least = sorted.0 in
    let on = agent_emits opening before ps k d tt b (omega (arith, key, least, low)) may.0 in
    emit opening before (agent_happens d) _ on.may
    (plays_on opening (before ++ agent_happens d ∷ []) (processes_after_act opening.packages ps (Act.OfAgent d)) k (agent_key ps.agent.unit d) n xs on.beside (omega (arith, least, low)) high may.1 sorted.1 ends)
plays_on opening before ps k m n (Act.OfDevice device DeviceAct.Ticks ∷ xs) b low high may sorted ends =
    let us = processes_after_act opening.packages ps (Act.OfDevice device DeviceAct.Ticks) in
    let w = found_in (λ q. DeviceMayAct ps.agent.sent device q.unit DeviceAct.Ticks × DeviceMayCall q.node DeviceCall.Ticks) (ps.device device) may.0 in
    let key : key_in (ps.device device) DeviceAct.Ticks ≡ 2 * (w.value.unit + 1) = ap (λ (o : Option DeviceProcess). key_in o DeviceAct.Ticks) w.is ∙ device_tick_key w.value.unit in
    elim (near_there opening before ps k device w.value w.is b) [
      | inl now ↦
          let unit = now.1 in
          let there : us.device device ≡ Some (device_process_after_act DeviceAct.Ticks w.value) = rw (equals device device refl) (ap (option_map (device_process_after_act DeviceAct.Ticks)) w.is) in
          let grows = device_grows opening.packages n device us (device_process_after_act DeviceAct.Ticks w.value) xs there (ends.devices device) in
          let lt : k < n = omega (arith, grows, unit) in
          let pass = passing opening before ps k n (Act.OfDevice device DeviceAct.Ticks ∷ xs) b (omega (arith, key, unit), sorted.1) may ends lt in
          emit opening before PlayStep.UnitPasses _ pass.may
          (plays_on opening (before ++ PlayStep.UnitPasses ∷ []) us (k + 1) (key_in (ps.device device) DeviceAct.Ticks) n xs
          (device_ticked opening (before ++ PlayStep.UnitPasses ∷ []) ps (k + 1) device w.value w.is pass.beside (omega (arith, unit))) (omega (arith, key, unit)) (omega (arith, lt)) may.1 sorted.1 ends)
      | inr late ↦
          let unit = late.1 in
          plays_on opening before us k (key_in (ps.device device) DeviceAct.Ticks) n xs (device_ticked opening before ps k device w.value w.is b unit) (omega (arith, key, unit)) high may.1 sorted.1 ends
    ]
plays_on opening before ps k m n (Act.OfDevice device d ∷ xs) b low high may sorted ends =
    let w = found_in (λ q. DeviceMayAct ps.agent.sent device q.unit d × DeviceMayCall q.node (device_act_call d)) (ps.device device) may.0 in
    let key : key_in (ps.device device) d ≡ 2 * w.value.unit + 1 = ap (λ (o : Option DeviceProcess). key_in o d) w.is ∙ other_device_key w.value.unit d tt in
    let least = sorted.0 in
    let on = device_emits opening before ps k device d w.value tt b w.is (omega (arith, key, least, low)) w.fact.0 w.fact.1 in
    emit opening before (device_happens device d) _ on.may
    (plays_on opening (before ++ device_happens device d ∷ []) (processes_after_act opening.packages ps (Act.OfDevice device d)) k (key_in (ps.device device) d) n xs on.beside (omega (arith, least, low)) high may.1 sorted.1 ends)

found_mapped : (o : Option SiteOf) (q : DeviceProcess) → option_map new_process o ≡ Some q → Found o
found_mapped None q e = absurd (cc)
found_mapped (Some x) q e = record { one = x; is = refl }

pub traces_are_plays : TracesArePlays
traces_are_plays opening trace unit may ends =
    let first = processes_of opening in
    let s = sorts opening.packages first trace may in
    let b : Beside opening [] first 0 = record {
      agent = inl (refl, refl);
      devices = λ eid x e. record { process = new_process x; there = ap (option_map new_process) e; near = inl (refl, refl) };
      back = λ eid q e. found_mapped (site_for opening.sites eid) q e;
    } in
    let r = plays_on opening [] first 0 0 unit s.acts b (omega arith) (omega arith) s.may s.sorted (subst (AreAtUnit unit) (sym s.ends) ends) in
    subst (IsPlay opening) s.ends (record {
      play = r.play;
      may = r.may;
      agent = r.agent;
      devices = λ eid. if_there (site_for opening.sites eid) (λ x. (processes_after opening.packages first s.acts).device eid ≡ Some (device_process_after eid x.node r.play)) (λ x e. r.devices eid x e);
    })
