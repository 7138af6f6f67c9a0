-- Worlds that steps reach: the steps from there, and the laws of these worlds.
use Rattle.std.proofs.Common.{◌≡◌, ◌++◌, ◌∙◌, List, [], ◌∷◌, map, refl, sym, ap, subst}
use Rattle.std.specs.Prelude.{Result, Ok, Err, OnOk, OnErr}
use Rattle.fw_node.specs.Nodes.{DeviceNodeOf}
use Rattle.fw_steps.specs.Clocks.{RunsKeepTime}
use Rattle.fw_steps.specs.Opening.{AreDifferent, IsOpeningWorld, new_site}
use Rattle.fw_steps.specs.Promises.{IsPromised, IsReached, PacketsAreMessages, PacketsAreSafe, RunsArePromised, RunsGrow, RunsStayTied}
use Rattle.fw_steps.specs.Steps.{StepsTo, Run}
use Rattle.fw_steps.specs.Worlds.{WorldOf, eids_of}
use Rattle.fw_steps.specs.declared.step.Step.{Step}
use Rattle.fw_steps.specs.declared.step.StepFault.{StepFault}
use Rattle.fw_steps.proofs.LinksAreLanes.Keys.{eids_stay}
use Rattle.fw_steps.proofs.Running.{run_append}

pub reached_more : (w v : WorldOf) (s : Step) → IsReached w → StepsTo w s v → IsReached v
reached_more w v s r l =
    record { opening = r.opening; before = r.before ++ s ∷ []; opens = r.opens; run = run_append r.opening w v r.before (s ∷ []) r.run (v, l, refl) }

pub reached_on : {A : Type 0} (r : Result A StepFault) (w v : WorldOf) (s : Step) → IsReached w → OnOk r (StepsTo w s v) → OnErr r (v ≡ w) → IsReached v
reached_on (Ok x) w v s h taken same = reached_more w v s h taken
reached_on (Err e) w v s h taken same = subst IsReached (sym same) h

-- the devices stay
pub run_eids : (w v : WorldOf) (ss : List Step) → Run w ss v → eids_of v.sites ≡ eids_of w.sites
run_eids w v [] e = ap (λ x. eids_of x.sites) e
run_eids w v (s ∷ ss) h =
    let l : StepsTo w s h.0 = h.1 in
    run_eids h.0 v ss h.2 ∙ ap (λ x. eids_of x.sites) l.after ∙ eids_stay l.works l.faults w s

pub new_eids : (nodes : List DeviceNodeOf) → eids_of (map new_site nodes) ≡ map (λ n. n.endpoint.eid) nodes
new_eids [] = refl
new_eids (n ∷ nodes) = ap (λ es. n.endpoint.eid ∷ es) (new_eids nodes)

pub opening_apart : (w : WorldOf) → IsOpeningWorld w → AreDifferent (eids_of w.sites)
opening_apart w o = subst AreDifferent (sym (ap (λ x. eids_of x.sites) o.is ∙ new_eids o.nodes)) o.are.apart.1

-- The laws of runs.
pub record LawsOfRuns : Type 0 where
  pub safe : PacketsAreSafe
  pub grow : RunsGrow
  pub tied : RunsStayTied
  pub messages : PacketsAreMessages
  pub time : RunsKeepTime

pub promised_since : LawsOfRuns → RunsArePromised
promised_since laws opening w steps opens run = record {
  devices = run_eids opening w steps run;
  safe = laws.safe opening w steps opens run;
  grown = laws.grow opening w steps run;
  tied = laws.tied opening opening w [] steps opens refl run;
  messages = laws.messages opening w steps opens run;
  clocks = laws.time opening opening w [] steps opens refl run;
}

pub promised : (w : WorldOf) → RunsArePromised → IsReached w → IsPromised w
promised w law r = record {
  apart = subst AreDifferent (sym (run_eids r.opening w r.before r.run)) (opening_apart r.opening r.opens);
  reached = r;
  since = λ opening steps opens run. law opening w steps opens run;
}
