-- The history of a world grows by the entries of the link that takes the step.
use Rattle.std.proofs.Common.{◌≡◌, ◌∙◌, ◌==◌, ◌&&◌, ◌++◌, ℕ, Bool, true, false, if◌then◌else◌, is_some, List, [], ◌∷◌, append-nil, map, Option, Some, None, IfSome, IsSomeAnd, inl, inr, refl, sym, ap, subst}
use Rattle.std.proofs.lemmas.Bool.{eq-eqb}
use Rattle.std.proofs.lemmas.Bool.Decides.{eqb_tells}
use Rattle.exch_lane.specs.Lanes.{item_numbered}
use Rattle.fd_core.specs.Steps.{device_verdict}
use Rattle.fd_core.specs.declared.states.Verdict.{Verdict}
use Rattle.ua_core.specs.Session.{SessionOf}
use Rattle.fw_message.specs.Worlds.{noted_of}
use Rattle.fw_node.specs.Agents.{half_for, ready_for}
use Rattle.fw_steps.specs.Steps.{is_device, is_node, may_step, packet_fault, verdict_fault, where_known, world_after}
use Rattle.fw_steps.specs.Links.{LinkOf, LinkStep, LinkStepped, link_step_of_verdict, link_after}
use Rattle.fw_steps.specs.Worlds.{SiteOf, WorldOf, activates_on, world_after_log_request, world_after_deliver, world_after_verdict, packets_of, place_of, world_after_restart, site_for}
use Rattle.fw_steps.specs.declared.step.Step.{Step}
use Rattle.fw_steps.specs.declared.step.Step.TheVariants as steps
use Rattle.fw_steps.specs.declared.step.StepFault.{StepFault}
use Rattle.fw_steps.proofs.LinksAreMessages.Each.{AllAfter, notes_of}
use Rattle.fw_steps.proofs.LinksAreLanes.Delivered.{packets_on}
use Rattle.fw_steps.proofs.LinksAreLanes.Linked.{KnownLinks, linked_world}
use Rattle.fw_steps.proofs.LinksAreLanes.Projected.{comes_as, known_if, link_site, link_step, restart_as, where_mine}
use Rattle.fw_steps.proofs.LinksAreLanes.Projection.{link_at}
use Rattle.fw_steps.proofs.LinksAreLanes.Routes.{both_hold}
use Rattle.fw_steps.proofs.LinksAreLanes.WorldSteps.{AreLinked}
use Rattle.fw_steps.proofs.PacketsAreSafe.HistoryDelivered.{delivers_noting, delivers_nothing}
use Rattle.fw_steps.proofs.PacketsAreSafe.HistoryDevice.{device_applies}
use Rattle.fw_steps.proofs.PacketsAreSafe.HistoryNoted.{IsUnnoted, all_unnoted, noted_in, nothing_more, taken_notes, unnoted_step}

-- The entries that a step of the world adds to its history: those of a device if the device's link
-- takes a step, and none if no link does.
pub record Notes (works : Bool) (faults : ℕ) (w : WorldOf) (s : Step) : Type 0 where
  pub taken : (eid : ℕ) (l : LinkOf) (step : LinkStep) (t : LinkStepped) → link_at w eid ≡ Some l → link_step works w.agent.endpoint.eid s eid ≡ Some step
      → link_after w.now w.packages l step ≡ Some t → (world_after works faults w s).history ≡ w.history ++ map (noted_of eid) t.noted
  pub untaken : ((eid : ℕ) (l : LinkOf) → link_at w eid ≡ Some l → link_step works w.agent.endpoint.eid s eid ≡ None) → (world_after works faults w s).history ≡ w.history

-- Every step but a delivery and a verdict leaves the history unchanged, and no link notes an entry
-- of it.
abbrev pub IsQuiet : Step → Type 0
IsQuiet (steps.Deliver device number node) = ⊥
IsQuiet (steps.Verdict device verdict) = ⊥
IsQuiet s = Unit {0}

mine_unnoted : (mine : Bool) (s : LinkStep) → IsUnnoted s → IfSome (where_mine mine (Some s)) IsUnnoted
mine_unnoted true s k = k
mine_unnoted false s k = tt

restart_unnoted : (agent device : Bool) → IfSome (restart_as agent device) IsUnnoted
restart_unnoted true device = tt
restart_unnoted false true = tt
restart_unnoted false false = tt

activation_keeps : (w : WorldOf) (device : ℕ) (o : Option SessionOf) → (activates_on w device o).history ≡ w.history
activation_keeps w device None = refl
activation_keeps w device (Some s) = refl

log_keeps : (w : WorldOf) (bytes : List ℕ) → (world_after_log_request w bytes).history ≡ w.history
log_keeps w [] = refl
log_keeps w (command ∷ bytes) = refl

restart_by : (agent : Bool) (w u v : WorldOf) → u.history ≡ w.history → v.history ≡ w.history → (if agent then u else v).history ≡ w.history
restart_by true w u v h k = h
restart_by false w u v h k = k

restart_keeps : (w : WorldOf) (node : ℕ) → (world_after_restart w node).history ≡ w.history
restart_keeps w node = restart_by (node == w.agent.endpoint.eid) w _ _ refl refl

pub quiet_history : (works : Bool) (faults : ℕ) (w : WorldOf) (s : Step) → IsQuiet s → (world_after works faults w s).history ≡ w.history
quiet_history works faults w (steps.Deliver device number node) k = absurd k
quiet_history works faults w (steps.Tick missed) k = refl
quiet_history works faults w (steps.Start device number) k = refl
quiet_history works faults w (steps.Cancel device) k = refl
quiet_history works faults w (steps.Activate device) k = activation_keeps w device (ready_for w.agent device)
quiet_history works faults w (steps.Verdict device verdict) k = absurd k
quiet_history works faults w (steps.Restart node) k = restart_keeps w node
quiet_history works faults w (steps.Sel bytes) k = log_keeps w bytes.items

quiet_links : (works : Bool) (agent : ℕ) (s : Step) (eid : ℕ) → IsQuiet s → IfSome (link_step works agent s eid) IsUnnoted
quiet_links works agent (steps.Deliver device number node) eid k = absurd k
quiet_links works agent (steps.Tick missed) eid k = tt
quiet_links works agent (steps.Start device number) eid k = mine_unnoted (device == eid) (LinkStep.Start number) tt
quiet_links works agent (steps.Cancel device) eid k = mine_unnoted (device == eid) LinkStep.Cancel tt
quiet_links works agent (steps.Activate device) eid k = mine_unnoted (device == eid) LinkStep.Activate tt
quiet_links works agent (steps.Verdict device verdict) eid k = absurd k
quiet_links works agent (steps.Restart node) eid k = restart_unnoted (node == agent) (node == eid)
quiet_links works agent (steps.Sel bytes) eid k = tt

quiet_notes : (works : Bool) (faults : ℕ) (w : WorldOf) (s : Step) → IsQuiet s → Notes works faults w s
quiet_notes works faults w s k = record {
  taken = λ eid l step t is steps after.
      let quiet : IsUnnoted step = subst (λ o. IfSome o IsUnnoted) steps (quiet_links works w.agent.endpoint.eid s eid k) in
      quiet_history works faults w s k ∙ nothing_more w.history eid t.noted
      (sym (taken_notes (link_after w.now w.packages l step) t after) ∙ unnoted_step w.now w.packages l step quiet);
  untaken = λ none. quiet_history works faults w s k;
}

-- If all links take such a step, the history grows by the entries of all of them, of which there
-- are none.
pub all_note : (works : Bool) (faults : ℕ) (w : WorldOf) (s : Step) (step : LinkOf → LinkStep) (eids : List ℕ) (ls : List LinkOf) (ts : List LinkStepped) → IsQuiet s → ((l : LinkOf) → IsUnnoted (step l))
    → AllAfter w.packages w.now step ls ts → (world_after works faults w s).history ≡ w.history ++ notes_of eids ts
all_note works faults w s step eids ls ts k quiet after =
    quiet_history works faults w s k ∙ sym (append-nil w.history)
    ∙ ap (λ ns. w.history ++ ns) (sym (all_unnoted w.now w.packages step eids ls ts quiet after))

-- a step that is one of a device's link
none_mine : (device : ℕ) (o : Option LinkStep) → where_mine (device == device) o ≡ None → o ≡ None
none_mine device o e = sym (ap (λ b. where_mine b o) (eq-eqb device device refl)) ∙ e

-- A packet.
packet_taken : (works : Bool) (faults : ℕ) (w : WorldOf) (device number node eid : ℕ) (l : LinkOf) (step : LinkStep) → AreLinked w
    → packet_fault w.now (item_numbered (packets_of w device) number) ≡ None → link_at w eid ≡ Some l
    → where_mine (device == eid) (comes_as works number (node == w.agent.endpoint.eid) (node == eid)) ≡ Some step
    → (world_after_deliver works faults w node (item_numbered (packets_of w device) number)).history ≡ w.history ++ map (noted_of eid) (noted_in (link_after w.now w.packages l step))
packet_taken works faults w device number node eid l step k may is e = elim (eqb_tells device eid) [
  | inl mine ↦
      let comes : comes_as works number (node == w.agent.endpoint.eid) (node == eid) ≡ Some step =
      sym (ap (λ b. where_mine b (comes_as works number (node == w.agent.endpoint.eid) (node == eid))) mine.0) ∙ e in
      let there : link_at w device ≡ Some l = ap (link_at w) mine.1 ∙ is in
      delivers_noting works faults w device number node l (item_numbered (packets_of w device) number) step k there
      (ap (λ ps. item_numbered ps number) (sym (packets_on w device l there))) may
      (ap (λ d. comes_as works number (node == w.agent.endpoint.eid) (node == d)) mine.1 ∙ comes)
      ∙ ap (λ d. w.history ++ map (noted_of d) (noted_in (link_after w.now w.packages l step))) mine.1
  | inr other ↦
      let none : None ≡ Some step = sym (ap (λ b. where_mine b (comes_as works number (node == w.agent.endpoint.eid) (node == eid))) other.0) ∙ e in
      absurd (cc)
]

packet_untaken : (works : Bool) (faults : ℕ) (w : WorldOf) (device number node : ℕ) (o : Option LinkOf) → AreLinked w
    → packet_fault w.now (item_numbered (packets_of w device) number) ≡ None → link_at w device ≡ o → is_some o ≡ true
    → ((eid : ℕ) (l : LinkOf) → link_at w eid ≡ Some l → where_mine (device == eid) (comes_as works number (node == w.agent.endpoint.eid) (node == eid)) ≡ None)
    → (world_after_deliver works faults w node (item_numbered (packets_of w device) number)).history ≡ w.history
packet_untaken works faults w device number node None k may there some none = absurd (cc)
packet_untaken works faults w device number node (Some d) k may there some none =
    delivers_nothing works faults w device number node d (item_numbered (packets_of w device) number) k there
    (ap (λ ps. item_numbered ps number) (sym (packets_on w device d there))) may
    (none_mine device (comes_as works number (node == w.agent.endpoint.eid) (node == device)) (none device d there))

-- A verdict.
verdict_by : (works : Bool) (faults : ℕ) (w : WorldOf) (verdict : Verdict) (device : ℕ) (s : Option SiteOf) (l : LinkOf) → site_for w.sites device ≡ s
    → IsSomeAnd s (λ x. (x.node.half ≡ l.device) × (x.packets ≡ l.packets))
    → (world_after_verdict works faults w verdict (place_of w.sites device) (site_for w.sites device)).history
    ≡ w.history ++ map (noted_of device) (noted_in (link_step_of_verdict l (device_verdict l.device.core.device verdict works)))
verdict_by works faults w verdict device None l is k = absurd k
verdict_by works faults w verdict device (Some x) l is k = device_applies works faults w verdict device x l is k.0

verdict_taken : (works : Bool) (faults : ℕ) (w : WorldOf) (verdict : Verdict) (device eid : ℕ) (l : LinkOf) (step : LinkStep) → link_at w eid ≡ Some l
    → where_mine (device == eid) (Some (LinkStep.Judge verdict works)) ≡ Some step
    → (world_after_verdict works faults w verdict (place_of w.sites device) (site_for w.sites device)).history ≡ w.history ++ map (noted_of eid) (noted_in (link_after w.now w.packages l step))
verdict_taken works faults w verdict device eid l step is e = elim (eqb_tells device eid) [
  | inl mine ↦
      let both : Some (LinkStep.Judge verdict works) ≡ Some step = sym (ap (λ b. where_mine b (Some (LinkStep.Judge verdict works))) mine.0) ∙ e in
      let same : LinkStep.Judge verdict works ≡ step = cc in
      verdict_by works faults w verdict device (site_for w.sites device) l refl
      (link_site _ (half_for w.agent device) (site_for w.sites device) l (ap (link_at w) mine.1 ∙ is))
      ∙ ap (λ d. w.history ++ map (noted_of d) (noted_in (link_step_of_verdict l (device_verdict l.device.core.device verdict works)))) mine.1
      ∙ ap (λ x. w.history ++ map (noted_of eid) (noted_in (link_after w.now w.packages l x))) same
  | inr other ↦
      let none : None ≡ Some step = sym (ap (λ b. where_mine b (Some (LinkStep.Judge verdict works))) other.0) ∙ e in
      absurd (cc)
]

judged_site : (verdict : Verdict) (s : Option SiteOf) → verdict_fault verdict s ≡ None → is_some s ≡ true
judged_site verdict None e = absurd (cc)
judged_site verdict (Some x) e = refl

verdict_untaken : (w : WorldOf) (v : WorldOf) (device : ℕ) (step : LinkStep) (o : Option LinkOf) → link_at w device ≡ o → is_some o ≡ true
    → ((eid : ℕ) (l : LinkOf) → link_at w eid ≡ Some l → where_mine (device == eid) (Some step) ≡ None) → v.history ≡ w.history
verdict_untaken w v device step None there some none = absurd (cc)
verdict_untaken w v device step (Some l) there some none =
    let no : Some step ≡ None = none_mine device (Some step) (none device l there) in absurd (cc)

known_there : (known : Bool) (fault : Option StepFault) → where_known known fault ≡ None → known ≡ true
known_there true fault e = refl
known_there false fault e = absurd (cc)

-- So the history grows.
pub history_grows : (works : Bool) (faults : ℕ) (w : WorldOf) (s : Step) → AreLinked w → may_step w s ≡ None → Notes works faults w s
history_grows works faults w (steps.Deliver device number node) k may =
    let fault = packet_fault w.now (item_numbered (packets_of w device) number) in
    let known = both_hold (is_device w device) (is_node w node) (known_there (is_device w device && is_node w node) fault may) in
    let soon = known_if (is_device w device && is_node w node) fault may in
    record {
      taken = λ eid l step t is takes after.
          packet_taken works faults w device number node eid l step k soon is takes
          ∙ ap (λ es. w.history ++ map (noted_of eid) es) (taken_notes (link_after w.now w.packages l step) t after);
      untaken = λ none. packet_untaken works faults w device number node (link_at w device) k soon refl (k.known device known.0) none;
    }
history_grows works faults w (steps.Verdict device verdict) k may = record {
  taken = λ eid l step t is takes after.
      verdict_taken works faults w verdict device eid l step is takes
      ∙ ap (λ es. w.history ++ map (noted_of eid) es) (taken_notes (link_after w.now w.packages l step) t after);
  untaken = λ none.
      verdict_untaken w (world_after works faults w (steps.Verdict device verdict)) device (LinkStep.Judge verdict works) (link_at w device) refl
      (k.known device (judged_site verdict (site_for w.sites device) may)) none;
}
history_grows works faults w s k may = quiet_notes works faults w s tt

-- the same if the links are known one by one
pub known_history_grows : (works : Bool) (faults : ℕ) (w : WorldOf) (s : Step) → KnownLinks w → may_step w s ≡ None → Notes works faults w s
known_history_grows works faults w s k may = history_grows works faults w s (linked_world w k) may
