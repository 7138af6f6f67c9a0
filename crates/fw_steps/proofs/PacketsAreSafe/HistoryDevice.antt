-- The images that a device activates at a packet and applies at a verdict, and its link's entries
-- for them.
use Rattle.std.proofs.Common.{◌≡◌, ◌∙◌, ◌++◌, ℕ, Bool, List, [], map, Option, Some, None, refl, ap}
use Rattle.pldm_exch.specs.Caller.{is_quiet}
use Rattle.fd_core.specs.Steps.{VerdictEffect, applied_by, device_verdict, images_of_verdict}
use Rattle.fd_core.specs.declared.states.Verdict.{Verdict}
use Rattle.fw_message.specs.Headline.{EntryOf}
use Rattle.fw_message.specs.Worlds.{noted_of}
use Rattle.fw_node.specs.Cores.{TimedDevice, device_core}
use Rattle.fw_node.specs.Halves.{HalfOutcome, HalfOf, half_on_packet}
use Rattle.fw_steps.specs.Links.{LinkOf, link_step_of_device, link_step_of_verdict}
use Rattle.fw_steps.specs.Worlds.{SiteOf, WorldOf, activated_at, activated_when, at_device, world_after_verdict, place_of, site_at, site_for}
use Rattle.fw_steps.proofs.LinksAreLanes.Posting.{site_found}
use Rattle.fw_steps.proofs.PacketsAreSafe.HistoryNoted.{noted_each, noted_in}

-- The link notes the activated images.
heard_noted : (now : ℕ) (works : Bool) (l : LinkOf) (heard : HalfOutcome TimedDevice)
    → map EntryOf.Activated (activated_when l.device.core.device (is_quiet l.device.asker.caller) works heard) ≡ noted_in (link_step_of_device now works l heard)
heard_noted now works l (HalfOutcome.Went half sent) = refl
heard_noted now works l (HalfOutcome.Took half sent command answer) = refl
heard_noted now works l (HalfOutcome.Asks half m head body) = refl
heard_noted now works l (HalfOutcome.Strayed half m) = refl

-- the images that a half activates
abbrev pub activates_of : (works : Bool) → List ℕ → HalfOf TimedDevice → List EntryOf
activates_of works bytes h = map EntryOf.Activated (activated_when h.core.device (is_quiet h.asker.caller) works (half_on_packet device_core works h bytes))

-- A half that handles nothing activates nothing.
pub silent_activates : (works : Bool) (bytes : List ℕ) (h g : HalfOf TimedDevice) → half_on_packet device_core works h bytes ≡ HalfOutcome.Went g [] → activates_of works bytes h ≡ []
silent_activates works bytes h g e = ap (λ heard. map EntryOf.Activated (activated_when h.core.device (is_quiet h.asker.caller) works heard)) e

-- The history after a packet at a device.
at_device_by : (works : Bool) (faults : ℕ) (w : WorldOf) (bytes : List ℕ) (o : Option ℕ) (s : Option SiteOf) (x : SiteOf) → site_at w.sites o ≡ s → s ≡ Some x
    → (at_device works faults w bytes o s).history ≡ w.history ++ map (noted_of x.node.endpoint.eid) (activates_of works bytes x.node.half)
at_device_by works faults w bytes None s x at is = absurd (let none : None ≡ Some x = at ∙ is in cc)
at_device_by works faults w bytes (Some place) None x at is = absurd (cc)
at_device_by works faults w bytes (Some place) (Some y) x at is =
    let same : y ≡ x = cc in
    ap (λ es. w.history ++ es) (noted_each y.node.endpoint.eid EntryOf.Activated (activated_at works y.node bytes))
    ∙ ap (λ z. w.history ++ map (noted_of z.node.endpoint.eid) (activates_of works bytes z.node.half)) same

pub device_activates : (works : Bool) (faults : ℕ) (w : WorldOf) (bytes : List ℕ) (node : ℕ) (x : SiteOf) (h : HalfOf TimedDevice) → site_for w.sites node ≡ Some x → x.node.half ≡ h
    → (at_device works faults w bytes (place_of w.sites node) (site_for w.sites node)).history ≡ w.history ++ map (noted_of node) (activates_of works bytes h)
device_activates works faults w bytes node x h there half =
    at_device_by works faults w bytes (place_of w.sites node) (site_for w.sites node) x refl there
    ∙ ap (λ eid. w.history ++ map (noted_of eid) (activates_of works bytes x.node.half)) (site_found w.sites node x there)
    ∙ ap (λ z. w.history ++ map (noted_of node) (activates_of works bytes z)) half

pub link_activates : (now : ℕ) (works : Bool) (bytes : List ℕ) (l : LinkOf) → activates_of works bytes l.device ≡ noted_in (link_step_of_device now works l (half_on_packet device_core works l.device bytes))
link_activates now works bytes l = heard_noted now works l (half_on_packet device_core works l.device bytes)

-- no such device
pub nowhere : (works : Bool) (faults : ℕ) (w : WorldOf) (bytes : List ℕ) (o : Option ℕ) (s : Option SiteOf) → s ≡ None → (at_device works faults w bytes o s).history ≡ w.history
nowhere works faults w bytes None s e = refl
nowhere works faults w bytes (Some place) None e = refl
nowhere works faults w bytes (Some place) (Some x) e = absurd (cc)

-- The history after a verdict.
judges_by : (works : Bool) (faults : ℕ) (w : WorldOf) (verdict : Verdict) (o : Option ℕ) (s : Option SiteOf) (x : SiteOf) → site_at w.sites o ≡ s → s ≡ Some x
    → (world_after_verdict works faults w verdict o s).history ≡ w.history ++ map (noted_of x.node.endpoint.eid) (map EntryOf.Applied (applied_by x.node.half.core.device verdict works))
judges_by works faults w verdict None s x at is = absurd (let none : None ≡ Some x = at ∙ is in cc)
judges_by works faults w verdict (Some place) None x at is = absurd (cc)
judges_by works faults w verdict (Some place) (Some y) x at is =
    let same : y ≡ x = cc in
    ap (λ es. w.history ++ es) (noted_each y.node.endpoint.eid EntryOf.Applied (applied_by y.node.half.core.device verdict works))
    ∙ ap (λ z. w.history ++ map (noted_of z.node.endpoint.eid) (map EntryOf.Applied (applied_by z.node.half.core.device verdict works))) same

judged_noted : (l : LinkOf) (o : Option VerdictEffect) → map EntryOf.Applied (images_of_verdict o) ≡ noted_in (link_step_of_verdict l o)
judged_noted l None = refl
judged_noted l (Some j) = refl

pub device_applies : (works : Bool) (faults : ℕ) (w : WorldOf) (verdict : Verdict) (device : ℕ) (x : SiteOf) (l : LinkOf) → site_for w.sites device ≡ Some x → x.node.half ≡ l.device
    → (world_after_verdict works faults w verdict (place_of w.sites device) (site_for w.sites device)).history
    ≡ w.history ++ map (noted_of device) (noted_in (link_step_of_verdict l (device_verdict l.device.core.device verdict works)))
device_applies works faults w verdict device x l there half =
    judges_by works faults w verdict (place_of w.sites device) (site_for w.sites device) x refl there
    ∙ ap (λ eid. w.history ++ map (noted_of eid) (map EntryOf.Applied (applied_by x.node.half.core.device verdict works))) (site_found w.sites device x there)
    ∙ ap (λ h. w.history ++ map (noted_of device) (map EntryOf.Applied (applied_by h.core.device verdict works))) half
    ∙ ap (λ es. w.history ++ map (noted_of device) es) (judged_noted l (device_verdict l.device.core.device verdict works))
