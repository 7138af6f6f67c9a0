-- A step of the world is a step of the link of each device, or no step of it.
use Rattle.std.proofs.Common.{◌≡◌, ◌∙◌, ◌-◌, ◌^◌, ◌==◌, ◌&&◌, ℕ, Bool, true, false, if◌then◌else◌, is_some, List, [], ◌∷◌, nat_lt, Option, Some, None, IsSomeAnd, inl, inr, refl, sym, ap, subst}
use Rattle.std.specs.List.{AllByRecursion}
use Rattle.std.specs.Option.{option_map}
use Rattle.std.proofs.lemmas.Bool.{eqb-true}
use Rattle.std.proofs.lemmas.Bool.Decides.{eqb_tells}
use Rattle.arrayvec.specs.declared.array_vec.ArrayVec.{ArrayVec}
use Rattle.exch_lane.specs.Clocks.{may_beat}
use Rattle.fd_core.specs.States.{DeviceState, Phase}
use Rattle.fd_core.specs.Steps.{VerdictEffect, device_verdict, judged_or, verdict_at}
use Rattle.fd_core.specs.declared.states.Progress.TheVariants as progress
use Rattle.fd_core.specs.declared.states.Verdict.{Verdict}
use Rattle.fd_core.specs.declared.states.Verdict.TheVariants as verdicts
use Rattle.fw_package.specs.Package.{PackageText}
use Rattle.ua_core.specs.Calls.{agent_activated, is_free}
use Rattle.ua_core.specs.Session.{SessionOf, TimedOf}
use Rattle.fw_message.specs.Pairs.{may_start}
use Rattle.fw_message.specs.declared.side.Side.TheVariants as sides
use Rattle.fw_node.specs.Agents.{half_after_activate, half_after_cancel, free_for, free_in, half_for, ready_for, ready_in, half_after_start}
use Rattle.fw_node.specs.Cores.{device_core, session_core}
use Rattle.fw_node.specs.Halves.{HalfOf, half_restarts, half_with_core}
use Rattle.fw_steps.specs.Steps.{is_package, may_step, ready_fault, start_fault, verdict_fault, where_known}
use Rattle.fw_steps.specs.Links.{LinkOf, LinkStep, LinkStepped, link_step_of_verdict, link_after, link_ticks, link_step_without_entries}
use Rattle.fw_steps.specs.Worlds.{SiteOf, WorldOf, activates_on, world_after_log_request, world_after_call, counts, world_after_verdict, place_of, world_after_restart, site_for, world_after_tick}
use Rattle.fw_steps.specs.declared.step.Step.{Step}
use Rattle.fw_steps.specs.declared.step.Step.TheVariants as steps
use Rattle.fw_steps.specs.declared.step.StepFault.{StepFault}
use Rattle.fw_steps.proofs.LinksAreLanes.AgentTicks.{AreApart, IsHalfOf}
use Rattle.fw_steps.proofs.LinksAreLanes.Beats.{tick_may}
use Rattle.fw_steps.proofs.LinksAreLanes.Projection.{agent_restart_at, call_at, device_restart_at, judged_by, link_at, link_from, on_agent, on_device, tick_at, verdict_at as verdict_on}

-- the step of a device's link in a step of the world, if there is one
abbrev pub comes_as : (works : Bool) → (number : ℕ) → (agent device : Bool) → Option LinkStep
comes_as works number true device = Some (LinkStep.Deliver number sides.Agent works)
comes_as works number false true = Some (LinkStep.Deliver number sides.Device works)
comes_as works number false false = None

abbrev pub where_mine : Bool → Option LinkStep → Option LinkStep
where_mine true s = s
where_mine false s = None

abbrev pub restart_as : (agent device : Bool) → Option LinkStep
restart_as true device = Some (LinkStep.Restart sides.Agent)
restart_as false true = Some (LinkStep.Restart sides.Device)
restart_as false false = None

abbrev pub link_step : (works : Bool) → (agent : ℕ) → Step → (eid : ℕ) → Option LinkStep
link_step works agent (steps.Deliver device number node) eid = where_mine (device == eid) (comes_as works number (node == agent) (node == eid))
link_step works agent (steps.Tick missed) eid = Some (LinkStep.Tick (counts missed.items agent) (counts missed.items eid))
link_step works agent (steps.Start device number) eid = where_mine (device == eid) (Some (LinkStep.Start number))
link_step works agent (steps.Cancel device) eid = where_mine (device == eid) (Some LinkStep.Cancel)
link_step works agent (steps.Activate device) eid = where_mine (device == eid) (Some LinkStep.Activate)
link_step works agent (steps.Verdict device verdict) eid = where_mine (device == eid) (Some (LinkStep.Judge verdict works))
link_step works agent (steps.Restart node) eid = restart_as (node == agent) (node == eid)
link_step works agent (steps.Sel bytes) eid = None

-- The link takes its step, or stays.
abbrev pub LinkStepsTo : (now : ℕ) → List PackageText → LinkOf → Option LinkStep → Option LinkOf → Type 0
LinkStepsTo now packages l None after = after ≡ Some l
LinkStepsTo now packages l (Some s) after = IsSomeAnd (link_after now packages l s) (λ t. after ≡ Some t.after)

-- the halves of a link
pub link_half : (since : ℕ) (o : Option (HalfOf TimedOf)) (s : Option SiteOf) (l : LinkOf) → link_from since o s ≡ Some l → o ≡ Some l.agent
link_half since None s l e = absurd (cc)
link_half since (Some h) None l e = absurd (cc)
link_half since (Some h) (Some x) l e = let is : ◌≡◌ {A = LinkOf} (record { agent = h; device = x.node.half; packets = x.packets; agent_since_miss = since; device_since_miss = x.since_miss }) l = cc in ap (λ z. Some z.agent) is

pub link_site : (since : ℕ) (o : Option (HalfOf TimedOf)) (s : Option SiteOf) (l : LinkOf) → link_from since o s ≡ Some l → IsSomeAnd s (λ x. (x.node.half ≡ l.device) × (x.packets ≡ l.packets))
link_site since None s l e = absurd (cc)
link_site since (Some h) None l e = absurd (cc)
link_site since (Some h) (Some x) l e =
    let is : ◌≡◌ {A = LinkOf} (record { agent = h; device = x.node.half; packets = x.packets; agent_since_miss = since; device_since_miss = x.since_miss }) l = cc in (ap (λ z. z.device) is, ap (λ z. z.packets) is)

-- a link after its step
pub leads_to : (o : Option LinkStepped) (g : LinkOf → LinkOf) (y : Option LinkOf) (l : LinkOf) → y ≡ Some (g l) → IsSomeAnd o (λ t. g l ≡ t.after) → IsSomeAnd o (λ t. y ≡ Some t.after)
leads_to None g y l e k = k
leads_to (Some t) g y l e k = e ∙ ap Some k

-- a step of one link
one_link : (now : ℕ) (packages : List PackageText) (l : LinkOf) (mine : Bool) (s : LinkStep) (g : LinkOf → LinkOf) (y x : Option LinkOf) → x ≡ Some l
    → y ≡ (if mine then option_map g x else x) → (mine ≡ true → IsSomeAnd (link_after now packages l s) (λ t. g l ≡ t.after))
    → LinkStepsTo now packages l (where_mine mine (Some s)) y
one_link now packages l true s g y x is e k = leads_to (link_after now packages l s) g y l (e ∙ ap (option_map g) is) (k refl)
one_link now packages l false s g y x is e k = e ∙ is

-- the event log
pub sel_at : (w : WorldOf) (bytes : List ℕ) (eid : ℕ) → link_at (world_after_log_request w bytes) eid ≡ link_at w eid
sel_at w [] eid = refl
sel_at w (command ∷ bytes) eid = refl

-- a tick
tick_goes : (now : ℕ) (packages : List PackageText) (l : LinkOf) (agent device may : Bool) (y : Option LinkOf) → may ≡ true → y ≡ Some (link_ticks now packages l agent device)
    → IsSomeAnd (if may then Some (link_step_without_entries (link_ticks now packages l agent device)) else None) (λ t. y ≡ Some t.after)
tick_goes now packages l agent device may y e is = rw e is

pub tick_projects : (missed : ArrayVec ℕ 17 (Unit {0})) (w : WorldOf) (eid : ℕ) (l : LinkOf) → AllByRecursion (IsHalfOf w.agent.deaf) w.agent.halves → AreApart w.agent.halves
    → may_step w (steps.Tick missed) ≡ None → link_at w eid ≡ Some l
    → LinkStepsTo w.now w.packages l (Some (LinkStep.Tick (counts missed.items w.agent.endpoint.eid) (counts missed.items eid))) (link_at (world_after_tick missed.items w) eid)
tick_projects missed w eid l halves apart may is =
    let agent = counts missed.items w.agent.endpoint.eid in
    let device = counts missed.items eid in
    tick_goes w.now w.packages l agent device (nat_lt w.now (2 ^ 32 - 1) && (may_beat agent l.agent_since_miss && may_beat device l.device_since_miss)) (link_at (world_after_tick missed.items w) eid)
    (tick_may missed w eid l may is) (tick_at agent missed.items w eid halves apart ∙ ap (option_map (λ x. link_ticks w.now w.packages x agent device)) is)

-- the operator's calls
started_if : (has : Bool) (free : Option Bool) → start_fault has free ≡ None → (has ≡ true) × (free ≡ Some true)
started_if has None e = absurd (cc)
started_if false (Some free) e = absurd (cc)
started_if true (Some false) e = absurd (cc)
started_if true (Some true) e = (refl, refl)

both_true : (a b : Bool) → a ≡ true → b ≡ true → (a && b) ≡ true
both_true a b h k = rw (h, k) refl

-- the agent's half of a link
half_there : (w : WorldOf) (device eid : ℕ) (l : LinkOf) → (device == eid) ≡ true → link_at w eid ≡ Some l → half_for w.agent device ≡ Some l.agent
half_there w device eid l e is = ap (half_for w.agent) (eqb-true device eid e) ∙ link_half _ (half_for w.agent eid) (site_for w.sites eid) l is

free_there : (w : WorldOf) (device eid : ℕ) (l : LinkOf) → (device == eid) ≡ true → link_at w eid ≡ Some l → free_for w.agent device ≡ Some true → is_free l.agent.core.session ≡ true
free_there w device eid l e is free =
    let same : Some (is_free l.agent.core.session) ≡ Some true = sym (ap free_in (half_there w device eid l e is)) ∙ free in
    cc

start_goes : (now : ℕ) (packages : List PackageText) (l : LinkOf) (number : ℕ) → may_start packages l.agent.core.session number ≡ true
    → IsSomeAnd (link_after now packages l (LinkStep.Start number)) (λ t. on_agent (λ h. half_after_start packages h number) l ≡ t.after)
start_goes now packages l number may = rw may refl

pub start_projects : (w : WorldOf) (device number eid : ℕ) (l : LinkOf) → start_fault (is_package w.packages number) (free_for w.agent device) ≡ None → link_at w eid ≡ Some l
    → LinkStepsTo w.now w.packages l (where_mine (device == eid) (Some (LinkStep.Start number))) (link_at (world_after_call w device (λ h. half_after_start w.packages h number)) eid)
start_projects w device number eid l may is =
    let k = started_if (is_package w.packages number) (free_for w.agent device) may in
    one_link w.now w.packages l (device == eid) (LinkStep.Start number) (on_agent (λ h. half_after_start w.packages h number))
    (link_at (world_after_call w device (λ h. half_after_start w.packages h number)) eid) (link_at w eid) is
    (call_at w device eid (λ h. half_after_start w.packages h number) (λ h. refl))
    (λ e. start_goes w.now w.packages l number
    (both_true (is_free l.agent.core.session) (is_package w.packages number)
    (free_there w device eid l e is k.1) k.0))

pub cancel_projects : (w : WorldOf) (device eid : ℕ) (l : LinkOf) → link_at w eid ≡ Some l
    → LinkStepsTo w.now w.packages l (where_mine (device == eid) (Some LinkStep.Cancel)) (link_at (world_after_call w device (half_after_cancel w.packages)) eid)
cancel_projects w device eid l is =
    one_link w.now w.packages l (device == eid) LinkStep.Cancel (on_agent (half_after_cancel w.packages)) (link_at (world_after_call w device (half_after_cancel w.packages)) eid) (link_at w eid) is
    (call_at w device eid (half_after_cancel w.packages) (λ h. refl)) (λ e. refl)

-- an activation
pub known_if : (known : Bool) (fault : Option StepFault) → where_known known fault ≡ None → fault ≡ None
known_if true fault e = e
known_if false fault e = absurd (cc)

activate_goes : (now : ℕ) (packages : List PackageText) (l : LinkOf) (s : SessionOf) → agent_activated l.agent.core.session ≡ Some s
    → IsSomeAnd (link_after now packages l LinkStep.Activate) (λ t. on_agent (λ h. half_after_activate packages h s) l ≡ t.after)
activate_goes now packages l s e = rw e refl

activate_by : (w : WorldOf) (device eid : ℕ) (l : LinkOf) (o : Option SessionOf) → ready_for w.agent device ≡ o → ready_fault o ≡ None → link_at w eid ≡ Some l
    → LinkStepsTo w.now w.packages l (where_mine (device == eid) (Some LinkStep.Activate)) (link_at (activates_on w device o) eid)
activate_by w device eid l None there may is = absurd (cc)
activate_by w device eid l (Some s) there may is =
    one_link w.now w.packages l (device == eid) LinkStep.Activate (on_agent (λ h. half_after_activate w.packages h s))
    (link_at (world_after_call w device (λ h. half_after_activate w.packages h s)) eid) (link_at w eid) is
    (call_at w device eid (λ h. half_after_activate w.packages h s) (λ h. refl))
    (λ e. activate_goes w.now w.packages l s
    (sym (ap ready_in (half_there w device eid l e is)) ∙ there))

pub activate_projects : (w : WorldOf) (device eid : ℕ) (l : LinkOf) (known : Bool) → where_known known (ready_fault (ready_for w.agent device)) ≡ None → link_at w eid ≡ Some l
    → LinkStepsTo w.now w.packages l (where_mine (device == eid) (Some LinkStep.Activate)) (link_at (activates_on w device (ready_for w.agent device)) eid)
activate_projects w device eid l known may is =
    activate_by w device eid l (ready_for w.agent device) refl (known_if known (ready_fault (ready_for w.agent device)) may) is

-- a verdict: whether the device waits for it doesn't depend on the bank
pub verdict_counts : (v : DeviceState) (p : Phase) (verdict : Verdict) (works : Bool) → is_some (verdict_at v p verdict true) ≡ true → is_some (verdict_at v p verdict works) ≡ true
verdict_counts v (Phase.Verify u w progress.InProgress) verdicts.VerifyOk works e = refl
verdict_counts v (Phase.Verify u w progress.InProgress) verdicts.VerifyFail works e = refl
verdict_counts v (Phase.Apply u w progress.InProgress) verdicts.ApplyOk works e = refl
verdict_counts v (Phase.Apply u w progress.InProgress) verdicts.ApplyFail works e = refl
verdict_counts v p verdict works e = absurd (cc)

counts_if : (b : Bool) (fault : StepFault) → (if b then None else Some fault) ≡ None → b ≡ true
counts_if true fault e = refl
counts_if false fault e = absurd (cc)

verdict_found : (verdict : Verdict) (s : Option SiteOf) (l : LinkOf) → verdict_fault verdict s ≡ None → IsSomeAnd s (λ x. (x.node.half ≡ l.device) × (x.packets ≡ l.packets))
    → is_some (device_verdict l.device.core.device verdict true) ≡ true
verdict_found verdict None l may is = absurd is
verdict_found verdict (Some x) l may is =
    subst (λ h. is_some (device_verdict h.core.device verdict true) ≡ true) is.0 (counts_if (is_some (device_verdict x.node.half.core.device verdict true)) _ may)

judged_goes : (l : LinkOf) (o : Option VerdictEffect) → is_some o ≡ true
    → IsSomeAnd (link_step_of_verdict l o) (λ t. on_device (λ h. half_with_core device_core h (record { device = judged_or h.core.device o; idle = 0 })) l ≡ t.after)
judged_goes l None e = absurd (cc)
judged_goes l (Some j) e = refl

verdict_there : (w : WorldOf) (device eid : ℕ) (l : LinkOf) (verdict : Verdict) (works : Bool) → (device == eid) ≡ true → link_at w eid ≡ Some l
    → verdict_fault verdict (site_for w.sites device) ≡ None → is_some (device_verdict l.device.core.device verdict works) ≡ true
verdict_there w device eid l verdict works e is may =
    verdict_counts l.device.core.device l.device.core.device.phase verdict works
    (verdict_found verdict (site_for w.sites eid) l (subst (λ d. verdict_fault verdict (site_for w.sites d) ≡ None) (eqb-true device eid e) may)
    (link_site _ (half_for w.agent eid) (site_for w.sites eid) l is))

pub verdict_projects : (works : Bool) (faults : ℕ) (w : WorldOf) (device eid : ℕ) (verdict : Verdict) (l : LinkOf) → verdict_fault verdict (site_for w.sites device) ≡ None → link_at w eid ≡ Some l
    → LinkStepsTo w.now w.packages l (where_mine (device == eid) (Some (LinkStep.Judge verdict works)))
    (link_at (world_after_verdict works faults w verdict (place_of w.sites device) (site_for w.sites device)) eid)
verdict_projects works faults w device eid verdict l may is =
    one_link w.now w.packages l (device == eid) (LinkStep.Judge verdict works) (on_device (judged_by verdict works))
    (link_at (world_after_verdict works faults w verdict (place_of w.sites device) (site_for w.sites device)) eid) (link_at w eid) is
    (verdict_on works faults w device eid verdict)
    (λ e. judged_goes l (device_verdict l.device.core.device verdict works) (verdict_there w device eid l verdict works e is may))

-- a restart
device_restarts_by : (now : ℕ) (packages : List PackageText) (l : LinkOf) (mine : Bool) (y x : Option LinkOf) → x ≡ Some l
    → y ≡ (if mine then option_map (on_device (half_restarts device_core)) x else x) → LinkStepsTo now packages l (restart_as false mine) y
device_restarts_by now packages l true y x is e = e ∙ ap (option_map (on_device (half_restarts device_core))) is
device_restarts_by now packages l false y x is e = e ∙ is

pub restart_projects : (w : WorldOf) (node eid : ℕ) (l : LinkOf) → link_at w eid ≡ Some l
    → LinkStepsTo w.now w.packages l (restart_as (node == w.agent.endpoint.eid) (node == eid)) (link_at (world_after_restart w node) eid)
restart_projects w node eid l is = elim (eqb_tells node w.agent.endpoint.eid) [
  | inl agent ↦ rw agent.0 (agent_restart_at w eid ∙ ap (option_map (on_agent (half_restarts (session_core w.packages)))) is)
  | inr other ↦ rw other.0 (device_restarts_by w.now w.packages l (node == eid) _ (link_at w eid) is (device_restart_at w node eid))
]
