-- A step in which no call of a device's bank fails changes the state between it and the agent as if
-- every call worked; and a call that fails is counted.
use Rattle.std.proofs.Common.{◌≡◌, ◌⊎◌, ◌∙◌, ◌==◌, ◌&&◌, ℕ, Bool, true, false, not, List, Option, Some, None, inl, inr, refl, sym, ap, subst}
use Rattle.std.proofs.lemmas.Bool.{eqb-true}
use Rattle.exch_lane.specs.Lanes.{Sent, item_numbered}
use Rattle.fw_package.specs.Package.{PackageText}
use Rattle.fd_core.specs.Banks.{CountsFailure}
use Rattle.fd_core.specs.declared.states.Verdict.{Verdict}
use Rattle.fw_message.specs.declared.side.Side.TheVariants as sides
use Rattle.fw_steps.specs.BankCalls.{step_calls_bank}
use Rattle.fw_steps.specs.Steps.{StepsTo, faults_before, world_after}
use Rattle.fw_steps.specs.Isolation.{faults_at}
use Rattle.fw_steps.specs.Links.{LinkOf, LinkStep, LinkStepped, delivers_on}
use Rattle.fw_steps.specs.Worlds.{WorldOf}
use Rattle.fw_steps.specs.declared.step.Step.{Step}
use Rattle.fw_steps.specs.declared.step.Step.TheVariants as steps
use Rattle.fw_steps.proofs.DevicesAreIsolated.Nodes.{calls_bank, count_if}
use Rattle.fw_steps.proofs.DevicesAreIsolated.Seen.{IsSeen, SeenOf, count_after, seen_after, seen_by, seen_then}
use Rattle.fw_steps.proofs.LinksAreLanes.Projected.{comes_as, link_step, where_mine}
use Rattle.fw_steps.proofs.LinksAreLanes.Routes.{both_hold}
use Rattle.fw_steps.proofs.LinksAreLanes.WorldSteps.{AreLinked}
use Rattle.fw_steps.proofs.PacketsAreSafe.SafeStands.{Follows}

-- If its bank isn't called, nothing depends on whether a call works.
agent_alike : (now : ℕ) (packages : List PackageText) (l : LinkOf) (works : Bool) (o : Option Sent) → delivers_on now packages l sides.Agent works o ≡ delivers_on now packages l sides.Agent true o
agent_alike now packages l works None = refl
agent_alike now packages l works (Some p) = refl

by_alike : (p : SeenOf) (number : ℕ) (works : Bool) (o : Option LinkStepped) → seen_by p (LinkStep.Deliver number sides.Agent works) o ≡ seen_by p (LinkStep.Deliver number sides.Agent true) o
by_alike p number works None = refl
by_alike p number works (Some t) = refl

came_alike : (works : Bool) (now : ℕ) (packages : List PackageText) (p : SeenOf) (number : ℕ) (mine agent here : Bool) → (not agent && here) ≡ false
    → seen_then now packages p (where_mine mine (comes_as works number agent here)) ≡ seen_then now packages p (where_mine mine (comes_as true number agent here))
came_alike works now packages p number true true here e =
    ap (seen_by p (LinkStep.Deliver number sides.Agent works)) (agent_alike now packages p.link works (item_numbered p.link.packets number))
    ∙ by_alike p number works (delivers_on now packages p.link sides.Agent true (item_numbered p.link.packets number))
came_alike works now packages p number true false true e = absurd (cc)
came_alike works now packages p number true false false e = refl
came_alike works now packages p number false agent here e = refl

judge_alike : (works : Bool) (now : ℕ) (packages : List PackageText) (p : SeenOf) (verdict : Verdict) (mine : Bool) → mine ≡ false
    → seen_then now packages p (where_mine mine (Some (LinkStep.Judge verdict works))) ≡ seen_then now packages p (where_mine mine (Some (LinkStep.Judge verdict true)))
judge_alike works now packages p verdict true e = absurd (cc)
judge_alike works now packages p verdict false e = refl

alike : (works : Bool) (agent : ℕ) (s : Step) (eid now : ℕ) (packages : List PackageText) (p : SeenOf) → calls_bank agent s eid ≡ false
    → seen_then now packages p (link_step works agent s eid) ≡ seen_then now packages p (link_step true agent s eid)
alike works agent (steps.Deliver device number node) eid now packages p e = came_alike works now packages p number (device == eid) (node == agent) (node == eid) e
alike works agent (steps.Tick missed) eid now packages p e = refl
alike works agent (steps.Start device number) eid now packages p e = refl
alike works agent (steps.Cancel device) eid now packages p e = refl
alike works agent (steps.Activate device) eid now packages p e = refl
alike works agent (steps.Verdict device verdict) eid now packages p e = judge_alike works now packages p verdict (device == eid) e
alike works agent (steps.Restart node) eid now packages p e = refl
alike works agent (steps.Sel bytes) eid now packages p e = refl

-- if it is called, its count is the one that the step reports
called_count : (w : WorldOf) (s : Step) (eid : ℕ) → calls_bank w.agent.endpoint.eid s eid ≡ true → faults_before w s ≡ faults_at w eid
called_count w (steps.Deliver device number node) eid e =
    ap (faults_at w) (eqb-true node eid (both_hold (not (node == w.agent.endpoint.eid)) (node == eid) e).1)
called_count w (steps.Tick missed) eid e = absurd (cc)
called_count w (steps.Start device number) eid e = absurd (cc)
called_count w (steps.Cancel device) eid e = absurd (cc)
called_count w (steps.Activate device) eid e = absurd (cc)
called_count w (steps.Verdict device verdict) eid e = ap (faults_at w) (eqb-true device eid e)
called_count w (steps.Restart node) eid e = absurd (cc)
called_count w (steps.Sel bytes) eid e = absurd (cc)

-- a step in which each call of the bank works
pub record GoesWell (w v : WorldOf) (s : Step) (eid : ℕ) (p : SeenOf) : Type 0 where
  pub seen : IsSeen v eid (seen_then w.now w.packages p (link_step true w.agent.endpoint.eid s eid))
  pub count : faults_at v eid ≡ faults_at w eid

goes_by : (called works : Bool) (w u : WorldOf) (s : Step) (faults eid : ℕ) (p : SeenOf) → calls_bank w.agent.endpoint.eid s eid ≡ called
    → IsSeen u eid (seen_then w.now w.packages p (link_step works w.agent.endpoint.eid s eid)) → faults_at u eid ≡ count_if called faults (faults_at w eid)
    → (works ≡ true → faults ≡ faults_before w s) → (works ≡ false → CountsFailure (faults_before w s) faults)
    → GoesWell w u s eid p ⊎ CountsFailure (faults_at w eid) (faults_at u eid)
goes_by false works w u s faults eid p e seen count worked failed =
    inl (record { seen = subst (IsSeen u eid) (alike works w.agent.endpoint.eid s eid w.now w.packages p e) seen; count = count })
goes_by true true w u s faults eid p e seen count worked failed = inl (record { seen = seen; count = count ∙ worked refl ∙ called_count w s eid e })
goes_by true false w u s faults eid p e seen count worked failed =
    inr (subst (λ n. CountsFailure n (faults_at u eid)) (called_count w s eid e) (subst (λ n. CountsFailure (faults_before w s) n) (sym count) (failed refl)))

-- Each step goes well for a device, or a call of its bank fails and is counted.
pub goes_or_fails : (w v : WorldOf) (s : Step) (eid : ℕ) (p : SeenOf) → AreLinked w → (h : StepsTo w s v) → Follows h.works s w (world_after h.works h.faults w s) → IsSeen w eid p
    → GoesWell w v s eid p ⊎ CountsFailure (faults_at w eid) (faults_at v eid)
goes_or_fails w v s eid p k h f i =
    subst (λ u. GoesWell w u s eid p ⊎ CountsFailure (faults_at w eid) (faults_at u eid)) (sym h.after)
    (goes_by (calls_bank w.agent.endpoint.eid s eid) h.works w (world_after h.works h.faults w s) s h.faults eid p refl
    (seen_after h.works h.faults w s eid p k h.may f i) (count_after h.works h.faults w s eid p k h.may f i) h.worked h.failed)

-- a call that works, or none
stays_by : (called works : Bool) (w u : WorldOf) (s : Step) (faults eid : ℕ) → calls_bank w.agent.endpoint.eid s eid ≡ called
    → faults_at u eid ≡ count_if called faults (faults_at w eid) → (works ≡ true → faults ≡ faults_before w s) → works ≡ true → faults_at u eid ≡ faults_at w eid
stays_by false works w u s faults eid e count worked well = count
stays_by true works w u s faults eid e count worked well = count ∙ worked well ∙ called_count w s eid e

-- a step works if it calls no bank
works_by : (works called : Bool) → (works ≡ false → called ≡ true) → called ≡ false → works ≡ true
works_by true called h e = refl
works_by false called h e = absurd (let f = h refl in cc)

-- If no bank is called, the count stays.
pub count_stays : (w v : WorldOf) (s : Step) (eid : ℕ) (p : SeenOf) → AreLinked w → (h : StepsTo w s v) → Follows h.works s w (world_after h.works h.faults w s) → IsSeen w eid p
    → step_calls_bank w s ≡ false → faults_at v eid ≡ faults_at w eid
count_stays w v s eid p k h f i none =
    ap (λ u. faults_at u eid) h.after
    ∙ stays_by (calls_bank w.agent.endpoint.eid s eid) h.works w (world_after h.works h.faults w s) s h.faults eid refl (count_after h.works h.faults w s eid p k h.may f i)
    h.worked (works_by h.works (step_calls_bank w s) h.called none)
