-- A play is a run: each of its steps is a step of a world, from the opening world on
-- (`plays_are_runs`). So the headline holds for its processes (`plays_are_safe`).
use Rattle.std.proofs.Common.{◌≡◌, ◌∙◌, ◌++◌, ℕ, List, [], ◌∷◌, Option, Some, None, IfSome, IsSomeAnd, refl, sym, ap, subst, arith, append_assoc, append-nil}
use Rattle.fw_package.specs.Package.{PackageText}
use Rattle.fw_message.specs.Headline.{EntryOf}
use Rattle.fw_message.specs.WorldLaws.{history_of}
use Rattle.fw_message.specs.Worlds.{NotedOf}
use Rattle.fw_node.specs.Agents.{AgentOf}
use Rattle.fw_node.specs.Nodes.{DeviceNodeOf}
use Rattle.fw_steps.specs.Alone.{AgentCall, DeviceCall, agent_run_calls, device_run_calls}
use Rattle.fw_steps.specs.Opening.{IsOpeningWorld}
use Rattle.fw_steps.specs.Promises.{PacketsAreSafe}
use Rattle.fw_steps.specs.Steps.{StepsTo, Run, world_after}
use Rattle.fw_steps.specs.Plays.{AgentProcess, EachMayFollow, DeviceProcess, PlayStep, PlaysAreRuns, PlaysAreSafe, agent_calls_of, agent_process_after_step, agent_play_calls, agent_process_after, device_calls_of, device_process_after_step, device_play_calls, device_process_after, pair_play_entries, pair_step_entries}
use Rattle.fw_steps.specs.Worlds.{SiteOf, WorldOf, pair_for, site_for}
use Rattle.fw_steps.specs.declared.step.Step.{Step}
use Rattle.fw_steps.proofs.PacketsAreSafe.Safe.{pairs_safe}
use Rattle.fw_steps.proofs.LinksAreLanes.Keys.{eids_stay}
use Rattle.fw_steps.proofs.PacketsAreSafe.SafeSteps.{time_goes}
use Rattle.fw_steps.proofs.ProcessesAreSafe.{at_pair}
use Rattle.fw_steps.proofs.PlaysAreRuns.Options.{found}
use Rattle.fw_steps.proofs.PlaysAreRuns.Sites.{site_in}
use Rattle.fw_steps.proofs.PlaysAreRuns.Agreeing.{agent_more, device_more, Agrees, steps_on}
use Rattle.fw_steps.proofs.PlaysAreRuns.Allowed.{may_at}
use Rattle.fw_steps.proofs.PlaysAreRuns.Steps.{has_step}

opening_agrees : (opening : WorldOf) → IsOpeningWorld opening → Agrees opening [] opening
opening_agrees opening opens =
    let start : opening.now ≡ 0 = ap (λ (x : WorldOf). x.now) opens.is in
    record {
      packages = refl;
      eid = refl;
      eids = refl;
      agent = record { unit = start; node = refl; sent = λ eid y e p for is. let lt = is.1 in absurd (omega (arith, lt)) };
      devices = λ eid x e. record { site = x; there = e; agrees = record { unit = start; node = refl; sent = λ p is. let lt = is.1 in absurd (omega (arith, lt)) } };
    }

-- the rest of a play, from a world that agrees with the processes
pub record RunsOn (opening : WorldOf) (before play : List PlayStep) (w : WorldOf) : Type 0 where
  pub steps : List Step
  pub world : WorldOf
  pub run : Run w steps world
  pub agrees : Agrees opening (before ++ play) world
  pub noted : (eid : ℕ) (x : SiteOf) → site_for opening.sites eid ≡ Some x
      → history_of eid world.history ≡ history_of eid w.history ++ pair_play_entries eid opening.packages (agent_process_after opening before) (device_process_after eid x.node before) play
  pub agent : agent_run_calls w steps world run ≡ agent_play_calls w.now play
  pub device : (eid : ℕ) (y : SiteOf) → site_for w.sites eid ≡ Some y → device_run_calls eid w steps world run ≡ device_play_calls eid play

runs_on : (opening w : WorldOf) (before play : List PlayStep) → IsOpeningWorld opening → Agrees opening before w → EachMayFollow opening before play → RunsOn opening before play w
runs_on opening w before [] opens a may = record { steps = []; world = w; run = refl; agrees = subst (λ hs. Agrees opening hs w) (sym (append-nil before)) a; noted = λ eid x e. sym (append-nil (history_of eid w.history)); agent = refl; device = λ eid y e. refl }
runs_on opening w before (h ∷ hs) opens a may =
    let k = has_step w h (may_at opening w before h opens a may.0) in
    let v = world_after k.works k.faults w k.step in
    let rest = runs_on opening v (before ++ h ∷ []) hs opens (steps_on opening w k.works k.faults before h k.step a k.is) may.1 in
    let leads : StepsTo w k.step v = record { may = k.is.may; works = k.works; faults = k.faults; after = refl; worked = k.is.bank.worked; failed = k.is.bank.failed; called = k.is.bank.called } in
    record {
      steps = k.step ∷ rest.steps;
      world = rest.world;
      run = (v, leads, rest.run);
      agrees = subst (λ ps. Agrees opening ps rest.world) (append_assoc before (h ∷ []) hs) rest.agrees;
      noted = λ eid x e.
          let y = a.devices eid x e in
          let p = agent_process_after opening before in
          let q = device_process_after eid x.node before in
          let now : pair_step_entries eid w.packages w.agent w.now y.site.node h ≡ pair_step_entries eid opening.packages p.node p.unit q.node h =
          ap (λ (ps : List PackageText). pair_step_entries eid ps w.agent w.now y.site.node h) a.packages
          ∙ ap (λ (n : AgentOf). pair_step_entries eid opening.packages n w.now y.site.node h) a.agent.node
          ∙ ap (λ (u : ℕ). pair_step_entries eid opening.packages p.node u y.site.node h) a.agent.unit
          ∙ ap (λ (n : DeviceNodeOf). pair_step_entries eid opening.packages p.node p.unit n h) y.agrees.node in
          rest.noted eid x e
          ∙ ap (λ (z : AgentProcess). history_of eid v.history ++ pair_play_entries eid opening.packages z (device_process_after eid x.node (before ++ h ∷ [])) hs) (agent_more opening.packages _ before h)
          ∙ ap (λ (z : DeviceProcess). history_of eid v.history ++ pair_play_entries eid opening.packages (agent_process_after_step opening.packages p h) z hs) (device_more eid _ before h)
          ∙ ap (λ (es : List EntryOf). es ++ pair_play_entries eid opening.packages (agent_process_after_step opening.packages p h) (device_process_after_step eid q h) hs) (k.is.noted eid y.site y.there ∙ ap (λ (es : List EntryOf). history_of eid w.history ++ es) now)
          ∙ append_assoc (history_of eid w.history) (pair_step_entries eid opening.packages p.node p.unit q.node h) (pair_play_entries eid opening.packages (agent_process_after_step opening.packages p h) (device_process_after_step eid q h) hs);
      agent = ap (λ (cs : List AgentCall). cs ++ agent_run_calls v rest.steps rest.world rest.run) k.is.agent
          ∙ ap (λ (cs : List AgentCall). agent_calls_of w.now h ++ cs) (rest.agent ∙ ap (λ (u : ℕ). agent_play_calls u hs) (time_goes k.works k.faults w k.step ∙ k.is.unit));
      device = λ eid y e.
          let z = site_in v.sites w.sites eid y (eids_stay k.works k.faults w k.step) e in
          ap (λ (cs : List DeviceCall). cs ++ device_run_calls eid v rest.steps rest.world rest.run) (k.is.device eid y e)
          ∙ ap (λ (cs : List DeviceCall). device_calls_of eid h ++ cs) (rest.device eid z.one z.is);
    }

ends_at : (opening v : WorldOf) (play : List PlayStep) (eid : ℕ) (o : Option SiteOf) → site_for opening.sites eid ≡ o → Agrees opening play v
    → IfSome o (λ x. IsSomeAnd (site_for v.sites eid) (λ y. y.node ≡ (device_process_after eid x.node play).node))
ends_at opening v play eid None e a = tt
ends_at opening v play eid (Some x) e a =
    let d = a.devices eid x e in
    subst (λ o. IsSomeAnd o (λ y. y.node ≡ (device_process_after eid x.node play).node)) (sym d.there) d.agrees.node

noted_at : (opening v : WorldOf) (play : List PlayStep) (eid : ℕ) (o : Option SiteOf) → site_for opening.sites eid ≡ o → opening.history ≡ []
    → ((x : SiteOf) → site_for opening.sites eid ≡ Some x
    → history_of eid v.history ≡ history_of eid opening.history ++ pair_play_entries eid opening.packages (agent_process_after opening []) (device_process_after eid x.node []) play)
    → IfSome o (λ x. history_of eid v.history ≡ pair_play_entries eid opening.packages (agent_process_after opening []) (device_process_after eid x.node []) play)
noted_at opening v play eid None e none h = tt
noted_at opening v play eid (Some x) e none h =
    h x e ∙ ap (λ (es : List NotedOf). history_of eid es ++ pair_play_entries eid opening.packages (agent_process_after opening []) (device_process_after eid x.node []) play) none

pub plays_are_runs : PlaysAreRuns
plays_are_runs opening play opens may =
    let r = runs_on opening opening [] play opens (opening_agrees opening opens) may in
    record {
      steps = r.steps;
      world = r.world;
      run = r.run;
      agent = r.agrees.agent.node;
      devices = λ eid. ends_at opening r.world play eid (site_for opening.sites eid) refl r.agrees;
      noted = λ eid. noted_at opening r.world play eid (site_for opening.sites eid) refl (ap (λ (w : WorldOf). w.history) opens.is) (r.noted eid);
      parts = λ eid is.
          let y = found (site_for opening.sites eid) is in
          record { agent = sym (r.agent ∙ ap (λ (u : ℕ). agent_play_calls u play) (ap (λ (x : WorldOf). x.now) opens.is)); device = sym (r.device eid y.one y.is) };
    }

-- So the headline holds for the processes.
pub plays_are_safe : PacketsAreSafe → PlaysAreSafe
plays_are_safe safe opening play opens may =
    let r = plays_are_runs opening play opens may in (
      r,
      λ eid. at_pair opening r.world eid (agent_process_after opening play).node (λ (x : SiteOf). (device_process_after eid x.node play).node) (pair_for opening eid) r.agent (r.devices eid)
          (pairs_safe safe opening r.world r.steps opens r.run eid),
    )
