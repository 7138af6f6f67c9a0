-- Each step of a play is a step of a world that agrees with it (`has_step`).
use Rattle.std.proofs.Common.{◌≡◌, ◌∙◌, ◌==◌, ◌++◌, ℕ, Bool, true, false, if◌then◌else◌, is_some, List, [], ◌∷◌, Option, None, refl, sym, ap, subst, append-nil}
use Rattle.std.specs.List.{AllByRecursion}
use Rattle.exch_lane.specs.Steps.{sent_at}
use Rattle.fd_core.specs.declared.states.Verdict.{Verdict}
use Rattle.fd_core.specs.declared.states.Verdict.TheVariants as verdicts
use Rattle.fd_core.specs.declared.states.Progress.TheVariants as progress
use Rattle.fd_core.specs.States.{DeviceState, Phase}
use Rattle.fd_core.specs.Steps.{verdict_at}
use Rattle.fw_message.specs.Headline.{EntryOf}
use Rattle.fw_message.specs.WorldLaws.{history_of}
use Rattle.fw_node.specs.BankCalls.{packet_calls_bank}
use Rattle.fw_node.specs.Cores.{device_core}
use Rattle.fw_steps.specs.Alone.{DeviceCall, agent_step_calls, device_step_calls, step_date}
use Rattle.fw_steps.specs.BankCalls.{judgement_calls_bank, step_calls_bank}
use Rattle.fw_steps.specs.Steps.{faults_before, faults_of, may_step, verdict_fault}
use Rattle.fw_steps.specs.Plays.{CallsBank, DeviceMayCall, PlayStep, agent_calls_of, device_calls_of, pair_step_entries, unit_after_step}
use Rattle.fw_steps.specs.Worlds.{SiteOf, WorldOf, full_tick, site_for}
use Rattle.fw_steps.specs.declared.step.Step.{Step}
use Rattle.fw_steps.specs.declared.step.Step.TheVariants as steps
use Rattle.fw_steps.proofs.Leading.{equals}
use Rattle.fw_steps.proofs.NodesAlone.{receipt_if}
use Rattle.fw_steps.proofs.PacketsAreSafe.SafeSteps.{now_then}
use Rattle.fw_steps.proofs.PacketsAreSafe.HistoryGrows.{IsQuiet, quiet_history}
use Rattle.fw_steps.proofs.PlaysAreRuns.Options.{found}
use Rattle.fw_steps.proofs.PlaysAreRuns.Sites.{device_differs}
use Rattle.fw_steps.proofs.PlaysAreRuns.Agreeing.{HasStep}
use Rattle.fw_steps.proofs.PlaysAreRuns.Allowed.{MayAt, no_bank, tick_may, may_come, agent_own}
use Rattle.fw_steps.proofs.PlaysAreRuns.Entries.{agent_receipt_notes, device_receipt_notes, verdict_notes, no_restart_notes}

-- Whether a device waits for a verdict doesn't depend on its bank.
counts_too : (v : DeviceState) (p : Phase) (verdict : Verdict) (works : Bool) → is_some (verdict_at v p verdict works) ≡ is_some (verdict_at v p verdict true)
counts_too v p verdict true = refl
counts_too v (Phase.Verify u w progress.InProgress) verdicts.VerifyOk false = refl
counts_too v (Phase.Verify u w progress.InProgress) verdicts.VerifyFail false = refl
counts_too v (Phase.Apply u w progress.InProgress) verdicts.ApplyOk false = refl
counts_too v (Phase.Apply u w progress.InProgress) verdicts.ApplyFail false = refl
counts_too v p verdict false = refl

-- a step without entries, which calls no bank
quiet_step : (w : WorldOf) (h : PlayStep) (s : Step) → IsQuiet s → may_step w s ≡ None → now_then w.now s ≡ unit_after_step w.now h → step_date w.now s ≡ unit_after_step w.now h
    → agent_step_calls w s ≡ agent_calls_of w.now h → ((eid : ℕ) → device_step_calls eid true (faults_before w s) w s ≡ device_calls_of eid h)
    → ((eid : ℕ) (y : SiteOf) → pair_step_entries eid w.packages w.agent w.now y.node h ≡ []) → HasStep w h
quiet_step w h s quiet may unit dated agent device none = record {
  works = true;
  faults = faults_before w s;
  step = s;
  is = record {
    may = may;
    bank = no_bank (step_calls_bank w s) (faults_before w s);
    unit = unit;
    dated = dated;
    agent = agent;
    device = λ eid y e. device eid;
    noted = λ eid y e. ap (history_of eid) (quiet_history true (faults_before w s) w s quiet) ∙ sym (append-nil (history_of eid w.history))
        ∙ ap (λ (es : List EntryOf). history_of eid w.history ++ es) (sym (none eid y));
  };
}

pub has_step : (w : WorldOf) (h : PlayStep) → MayAt w h → HasStep w h
has_step w PlayStep.UnitPasses k = quiet_step w PlayStep.UnitPasses full_tick tt (tick_may w k.carried) refl refl refl (λ eid. refl) (λ eid y. refl)
has_step w (PlayStep.AgentReceives device stamp bytes) k =
    let c = k.carried in
    let own = agent_own w in
    let s = steps.Deliver device c.number w.agent.endpoint.eid in
    record {
      works = true;
      faults = faults_before w s;
      step = s;
      is = record {
        may = may_come w device c.number w.agent.endpoint.eid (sent_at stamp bytes) (ap is_some c.there) (rw own refl) c.at c.soon;
        bank = no_bank (step_calls_bank w s) (faults_before w s);
        unit = refl;
        dated = refl;
        agent = rw (own, c.at) refl;
        device = λ eid y e. rw own refl;
        noted = λ eid y e. rw (c.at, own) (agent_receipt_notes w eid bytes);
      };
    }
has_step w (PlayStep.DeviceReceives device works faults stamp bytes) k =
    let c = k.carried in
    let other = device_differs w device c.site k.apart c.there in
    let s = steps.Deliver device c.number device in
    let calls : step_calls_bank w s ≡ packet_calls_bank device_core c.site.node.half bytes = rw (c.at, other, c.there) refl in
    let done = (subst (λ (b : Bool). AllByRecursion (DeviceMayCall c.site.node) (if b then DeviceCall.Receives works faults bytes ∷ [] else [])) (equals device device refl) (k.devices device c.site c.there)).0 in
    record {
      works = works;
      faults = faults;
      step = s;
      is = record {
        may = may_come w device c.number device (sent_at stamp bytes) (ap is_some c.there) (rw (other, ap is_some c.there) refl) c.at c.soon;
        bank = subst (λ (b : Bool). CallsBank b (faults_before w s) works faults) (sym calls)
            (subst (λ (o : Option SiteOf). CallsBank (packet_calls_bank device_core c.site.node.half bytes) (faults_of o) works faults) (sym c.there) done);
        unit = refl;
        dated = refl;
        agent = rw other refl;
        device = λ eid y e. rw (other, c.at) (receipt_if (device == eid) works faults (sent_at stamp bytes));
        noted = λ eid y e. rw (c.at, other) (device_receipt_notes works faults w eid device bytes c.site y c.there e);
      };
    }
has_step w (PlayStep.Starts device number) k =
    quiet_step w (PlayStep.Starts device number) (steps.Start device number) tt k.agent.0 refl refl refl (λ eid. refl) (λ eid y. refl)
has_step w (PlayStep.Cancels device) k =
    quiet_step w (PlayStep.Cancels device) (steps.Cancel device) tt (rw k.agent.0 refl) refl refl refl (λ eid. refl) (λ eid y. refl)
has_step w (PlayStep.Activates device) k =
    quiet_step w (PlayStep.Activates device) (steps.Activate device) tt (rw k.agent.0.0 k.agent.0.1) refl refl refl (λ eid. refl) (λ eid y. refl)
has_step w (PlayStep.AsksLog bytes) k =
    quiet_step w (PlayStep.AsksLog bytes) (steps.Sel bytes) tt refl refl refl refl (λ eid. refl) (λ eid y. refl)
has_step w PlayStep.AgentRestarts k =
    let own = agent_own w in
    quiet_step w PlayStep.AgentRestarts (steps.Restart w.agent.endpoint.eid) tt (rw own refl) refl refl (rw own refl) (λ eid. rw own refl) (λ eid y. refl)
has_step w (PlayStep.Judges device works faults verdict) k =
    let x = found (site_for w.sites device) k.carried in
    let s = steps.Verdict device verdict in
    let done = (subst (λ (b : Bool). AllByRecursion (DeviceMayCall x.one.node) (if b then DeviceCall.Judges works faults verdict ∷ [] else [])) (equals device device refl) (k.devices device x.one x.is)).0 in
    record {
      works = works;
      faults = faults;
      step = s;
      is = record {
        may = subst (λ (o : Option SiteOf). verdict_fault verdict o ≡ None) (sym x.is) (rw (sym (counts_too x.one.node.half.core.device x.one.node.half.core.device.phase verdict works) ∙ done.1) refl);
        bank = subst (λ (o : Option SiteOf). CallsBank (judgement_calls_bank verdict o) (faults_of o) works faults) (sym x.is) done.0;
        unit = refl;
        dated = refl;
        agent = refl;
        device = λ eid y e. refl;
        noted = λ eid y e. verdict_notes works faults w eid device verdict x.one y x.is e;
      };
    }
has_step w (PlayStep.DeviceRestarts device) k =
    let x = found (site_for w.sites device) k.carried in
    let other = device_differs w device x.one k.apart x.is in
    quiet_step w (PlayStep.DeviceRestarts device) (steps.Restart device) tt (rw (other, k.carried) refl) refl refl (rw other refl) (λ eid. rw other refl)
    (λ eid y. no_restart_notes (device == eid) y)
