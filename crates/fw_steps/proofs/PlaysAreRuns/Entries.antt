-- A step adds to the history of a device the entries that the agent and the device note in their
-- own calls.
use Rattle.std.proofs.Common.{◌≡◌, ◌∙◌, ◌==◌, ◌++◌, ℕ, Bool, true, false, if◌then◌else◌, List, [], ◌∷◌, map, Option, Some, None, inl, inr, refl, sym, ap, append-nil}
use Rattle.std.proofs.lemmas.Bool.Decides.{eqb_tells}
use Rattle.fd_core.specs.declared.states.Verdict.{Verdict}
use Rattle.fd_core.specs.Steps.{applied_by}
use Rattle.fw_message.specs.Headline.{EntryOf}
use Rattle.fw_message.specs.WorldLaws.{history_of}
use Rattle.fw_message.specs.Worlds.{NotedOf, noted_of}
use Rattle.fw_message.proofs.Safety.Worlds.{history_more}
use Rattle.fw_steps.proofs.PacketsAreSafe.HistoryNoted.{noted_each}
use Rattle.fw_node.specs.Agents.{agent_on_packet, any_packet}
use Rattle.fw_steps.specs.Alone.{DeviceCall}
use Rattle.fw_steps.specs.Plays.{device_step_entries}
use Rattle.fw_steps.specs.Worlds.{SiteOf, WorldOf, activated_at, at_agent, at_device, world_after_verdict, place_of, recorded_from, sender_of, site_at, site_for}
use Rattle.fw_steps.proofs.DevicesAreIsolated.Seen.{history_other, history_own}
use Rattle.fw_steps.proofs.LinksAreLanes.Posting.{site_found}

pub agent_receipt_notes : (w : WorldOf) (eid : ℕ) (bytes : List ℕ) → history_of eid (at_agent w bytes).history
    ≡ history_of eid w.history ++ (history_of eid (recorded_from w.agent (agent_on_packet w.packages w.agent bytes w.now).agent (sender_of (any_packet bytes))) ++ [])
agent_receipt_notes w eid bytes =
    history_more eid w.history _ ∙ ap (λ (es : List EntryOf). history_of eid w.history ++ es) (sym (append-nil _))

-- A device's entries are in its own history, and in no other.
noted_if : (history : List NotedOf) (device eid : ℕ) (es : List EntryOf) (f : ℕ → List DeviceCall → List EntryOf) (c : DeviceCall) → (device ≡ eid → es ≡ f eid (c ∷ [])) → f eid [] ≡ []
    → history_of eid (history ++ map (noted_of device) es) ≡ history_of eid history ++ f eid (if device == eid then c ∷ [] else [])
noted_if history device eid es f c mine none = elim (eqb_tells device eid) [
  | inl here ↦ history_more eid history (map (noted_of device) es) ∙ ap (λ (ys : List EntryOf). history_of eid history ++ ys)
      (ap (λ (k : ℕ). history_of eid (map (noted_of k) es)) here.1 ∙ history_own eid es ∙ mine here.1 ∙ ap (λ (b : Bool). f eid (if b then c ∷ [] else [])) (sym here.0))
  | inr far ↦ history_more eid history (map (noted_of device) es) ∙ ap (λ (ys : List EntryOf). history_of eid history ++ ys)
      (history_other device eid es far.0 ∙ sym none ∙ ap (λ (b : Bool). f eid (if b then c ∷ [] else [])) (sym far.0))
]

receipt_history : (works : Bool) (faults : ℕ) (w : WorldOf) (bytes : List ℕ) (o : Option ℕ) (s : Option SiteOf) (x : SiteOf) → site_at w.sites o ≡ s → s ≡ Some x
    → (at_device works faults w bytes o s).history ≡ w.history ++ map (noted_of x.node.endpoint.eid) (map EntryOf.Activated (activated_at works x.node bytes))
receipt_history works faults w bytes None None x at e = absurd (cc)
receipt_history works faults w bytes None (Some y) x at e = absurd (cc)
receipt_history works faults w bytes (Some p) None x at e = absurd (cc)
receipt_history works faults w bytes (Some p) (Some y) x at e =
    let same : y ≡ x = cc in
    ap (λ (es : List NotedOf). w.history ++ es) (noted_each y.node.endpoint.eid EntryOf.Activated (activated_at works y.node bytes))
    ∙ ap (λ (z : SiteOf). w.history ++ map (noted_of z.node.endpoint.eid) (map EntryOf.Activated (activated_at works z.node bytes))) same

pub device_receipt_notes : (works : Bool) (faults : ℕ) (w : WorldOf) (eid device : ℕ) (bytes : List ℕ) (x y : SiteOf) → site_for w.sites device ≡ Some x → site_for w.sites eid ≡ Some y
    → history_of eid (at_device works faults w bytes (place_of w.sites device) (site_for w.sites device)).history
    ≡ history_of eid w.history ++ device_step_entries y.node (if device == eid then DeviceCall.Receives works faults bytes ∷ [] else [])
device_receipt_notes works faults w eid device bytes x y there e =
    ap (history_of eid) (receipt_history works faults w bytes (place_of w.sites device) (site_for w.sites device) x refl there
    ∙ ap (λ (k : ℕ). w.history ++ map (noted_of k) (map EntryOf.Activated (activated_at works x.node bytes))) (site_found w.sites device x there))
    ∙ noted_if w.history device eid (map EntryOf.Activated (activated_at works x.node bytes)) (λ k cs. device_step_entries y.node cs) (DeviceCall.Receives works faults bytes)
    (λ here. let same : x ≡ y = (let both : Some x ≡ Some y = sym there ∙ ap (site_for w.sites) here ∙ e in cc) in ap (λ (z : SiteOf). map EntryOf.Activated (activated_at works z.node bytes)) same) refl

verdict_history : (works : Bool) (faults : ℕ) (w : WorldOf) (verdict : Verdict) (o : Option ℕ) (s : Option SiteOf) (x : SiteOf) → site_at w.sites o ≡ s → s ≡ Some x
    → (world_after_verdict works faults w verdict o s).history ≡ w.history ++ map (noted_of x.node.endpoint.eid) (map EntryOf.Applied (applied_by x.node.half.core.device verdict works))
verdict_history works faults w verdict None None x at e = absurd (cc)
verdict_history works faults w verdict None (Some y) x at e = absurd (cc)
verdict_history works faults w verdict (Some p) None x at e = absurd (cc)
verdict_history works faults w verdict (Some p) (Some y) x at e =
    let same : y ≡ x = cc in
    ap (λ (es : List NotedOf). w.history ++ es) (noted_each y.node.endpoint.eid EntryOf.Applied (applied_by y.node.half.core.device verdict works))
    ∙ ap (λ (z : SiteOf). w.history ++ map (noted_of z.node.endpoint.eid) (map EntryOf.Applied (applied_by z.node.half.core.device verdict works))) same

pub verdict_notes : (works : Bool) (faults : ℕ) (w : WorldOf) (eid device : ℕ) (verdict : Verdict) (x y : SiteOf) → site_for w.sites device ≡ Some x → site_for w.sites eid ≡ Some y
    → history_of eid (world_after_verdict works faults w verdict (place_of w.sites device) (site_for w.sites device)).history
    ≡ history_of eid w.history ++ device_step_entries y.node (if device == eid then DeviceCall.Judges works faults verdict ∷ [] else [])
verdict_notes works faults w eid device verdict x y there e =
    ap (history_of eid) (verdict_history works faults w verdict (place_of w.sites device) (site_for w.sites device) x refl there
    ∙ ap (λ (k : ℕ). w.history ++ map (noted_of k) (map EntryOf.Applied (applied_by x.node.half.core.device verdict works))) (site_found w.sites device x there))
    ∙ noted_if w.history device eid (map EntryOf.Applied (applied_by x.node.half.core.device verdict works)) (λ k cs. device_step_entries y.node cs) (DeviceCall.Judges works faults verdict)
    (λ here. let same : x ≡ y = (let both : Some x ≡ Some y = sym there ∙ ap (site_for w.sites) here ∙ e in cc) in ap (λ (z : SiteOf). map EntryOf.Applied (applied_by z.node.half.core.device verdict works)) same) refl

pub no_restart_notes : (mine : Bool) (y : SiteOf) → device_step_entries y.node (if mine then DeviceCall.Restarts ∷ [] else []) ≡ []
no_restart_notes true y = refl
no_restart_notes false y = refl
