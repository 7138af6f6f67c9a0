-- The entries after a verdict.
use Rattle.std.proofs.Common.{◌≡◌, ◌≤◌, ◌∙◌, ◌++◌, ℕ, Bool, true, false, IfSome, is_some, List, [], ◌∷◌, length, map, Option, Some, None, ap, refl, sym, subst}
use Rattle.std.specs.Option.{option_map}
use Rattle.fd_core.specs.Components.{HasComponents}
use Rattle.fd_core.specs.Images.{ImageOf, KeyedImage, RowOf, applied_of, row_of}
use Rattle.fd_core.specs.States.{DeviceState, IsWhole, Phase, staged_of}
use Rattle.fd_core.specs.Steps.{applied_by, device_verdict, verdict_after, verdict_at}
use Rattle.fd_core.specs.Wishes.{has_failed}
use Rattle.fd_core.specs.declared.states.Progress.TheVariants as progress
use Rattle.fd_core.specs.declared.states.Verdict.{Verdict}
use Rattle.fd_core.specs.declared.states.Verdict.TheVariants as verdicts
use Rattle.fwup_wire.specs.declared.values.Key.{Key}
use Rattle.fw_message.specs.Headline.{EntryOf}
use Rattle.fw_message.specs.Worlds.{NotedOf, noted_of}
use Rattle.fw_message.proofs.Sealing.{applies}
use Rattle.fw_message.proofs.Working.{applies_nothing, is_apply_ok}
use Rattle.exch_lane.specs.Lanes.{Sent}
use Rattle.fw_node.specs.Nodes.{DeviceNodeOf, HandlesVerdict}
use Rattle.fw_steps.specs.Sites.{IsCopyOf, HandlesVerdictAtSite, NotesVerdictAtSite}
use Rattle.fw_steps.specs.Worlds.{SiteOf}
use Rattle.fw_steps.proofs.Noting.{append_nil}

-- these images are noted
images_noted : (old new : SiteOf) (verdict : Verdict) (before after : List NotedOf) (images : List KeyedImage) (k : HandlesVerdictAtSite old verdict new)
    → images ≡ applied_by old.node.half.core.device verdict k.works → after ≡ before ++ map (λ p. noted_of old.node.endpoint.eid (EntryOf.Applied p)) images
    → NotesVerdictAtSite old verdict new before after
images_noted old new verdict before after images k are noted =
    record { judged = k; history = noted ∙ ap (λ ps. before ++ map (λ p. noted_of old.node.endpoint.eid (EntryOf.Applied p)) ps) are }

none_noted : (old new : SiteOf) (verdict : Verdict) (entries : List NotedOf) (k : HandlesVerdictAtSite old verdict new)
    → applied_by old.node.half.core.device verdict k.works ≡ [] → NotesVerdictAtSite old verdict new entries entries
none_noted old new verdict entries k none = images_noted old new verdict entries entries [] k (sym none) (sym (append_nil entries))

-- a verdict but ApplyOk applies nothing
pub other_noted : (old new : SiteOf) (verdict : Verdict) (entries : List NotedOf) → HandlesVerdictAtSite old verdict new → is_apply_ok verdict ≡ false → NotesVerdictAtSite old verdict new entries entries
other_noted old new verdict entries k other = none_noted old new verdict entries k (applies_nothing old.node.half.core.device verdict k.works other)

-- a device that waits for ApplyOk is in APPLY: it fails exactly if its bank does
fails_at : (v : DeviceState) (p : Phase) (works : Bool) → v.phase ≡ p → is_some (verdict_at v p verdicts.ApplyOk works) ≡ true
    → (works ≡ false → applied_by v verdicts.ApplyOk works ≡ []) × (works ≡ false → has_failed (verdict_after v verdicts.ApplyOk works).phase ≡ true)
    × (works ≡ true → has_failed (verdict_after v verdicts.ApplyOk works).phase ≡ false) × (is_some (staged_of v.phase) ≡ true)
fails_at v (Phase.Apply u w progress.InProgress) true is counts = (λ e. absurd (cc), λ e. absurd (cc), λ e. rw is refl, rw is refl)
fails_at v (Phase.Apply u w progress.InProgress) false is counts = (λ e. rw is refl, λ e. rw is refl, λ e. absurd (cc), rw is refl)
fails_at v (Phase.Verify u w progress.InProgress) works is counts = absurd (cc)
fails_at v (Phase.Verify u w progress.Succeeded) works is counts = absurd (cc)
fails_at v (Phase.Verify u w (progress.Failed b)) works is counts = absurd (cc)
fails_at v p works is counts = absurd (cc)

judged_phase : (old new : SiteOf) (verdict : Verdict) (k : HandlesVerdictAtSite old verdict new) → new.node.half.core.device ≡ verdict_after old.node.half.core.device verdict k.works
judged_phase old new verdict k = ap (λ n. n.half.core.device) k.node

failed_works : (works : Bool) (v : DeviceState) → is_some (device_verdict v verdicts.ApplyOk works) ≡ true → has_failed (verdict_after v verdicts.ApplyOk works).phase ≡ true → works ≡ false
failed_works true v counts failed = absurd (let f = (fails_at v v.phase true refl counts).2 refl in cc)
failed_works false v counts failed = refl

worked_works : (works : Bool) (v : DeviceState) → is_some (device_verdict v verdicts.ApplyOk works) ≡ true → has_failed (verdict_after v verdicts.ApplyOk works).phase ≡ false → works ≡ true
worked_works true v counts worked = refl
worked_works false v counts worked = absurd (let f = (fails_at v v.phase false refl counts).1 refl in cc)

failed_noted : (old new : SiteOf) (entries : List NotedOf) → HandlesVerdictAtSite old verdicts.ApplyOk new → has_failed new.node.half.core.device.phase ≡ true → NotesVerdictAtSite old verdicts.ApplyOk new entries entries
failed_noted old new entries k failed =
    none_noted old new verdicts.ApplyOk entries k
    ((fails_at old.node.half.core.device old.node.half.core.device.phase k.works refl k.counts).0
    (failed_works k.works old.node.half.core.device k.counts (rw (sym (judged_phase old new verdicts.ApplyOk k)) failed)))

copied_image : (image : Option ImageOf) (key : Key) (bytes : List ℕ) (capacity : ℕ) (images : List KeyedImage) → option_map (λ i. i.bytes) image ≡ Some bytes → length bytes ≤ capacity
    → IfSome image (λ i. length i.bytes ≤ capacity → images ≡ record { key = key; bytes = i.bytes } ∷ []) → images ≡ record { key = key; bytes = bytes } ∷ []
copied_image None key bytes capacity images is fits copy = absurd (cc)
copied_image (Some i) key bytes capacity images is fits copy =
    let same : i.bytes ≡ bytes = cc in
    copy (rw same fits) ∙ ap (λ b. record { key = key; bytes = b } ∷ []) same

applied_at : (v : DeviceState) (rows : List RowOf) (staged : Option (Key × ℕ)) (capacity : ℕ) (images : List KeyedImage) → HasComponents v → IsWhole v.phase (length v.stage)
    → staged_of v.phase ≡ staged → is_some staged ≡ true → is_some (device_verdict v verdicts.ApplyOk true) ≡ true → rows ≡ (verdict_after v verdicts.ApplyOk true).rows
    → IfSome staged (λ s. s.1 ≤ capacity) → IsCopyOf rows capacity images staged → images ≡ applied_by v verdicts.ApplyOk true
applied_at v rows None capacity images h whole is some counts after fits copy = absurd (cc)
applied_at v rows (Some s) capacity images h whole is some counts after fits copy =
    let a = applies v s.0 s.1 h whole is counts in
    copied_image (applied_of (row_of rows s.0)) s.0 v.stage capacity images (rw after a.applied) (rw a.whole fits) copy ∙ sym a.noted

applied_noted : (old new : SiteOf) (before after : List NotedOf) (staged : Option (Key × ℕ)) (capacity : ℕ) (images : List KeyedImage) (k : HandlesVerdictAtSite old verdicts.ApplyOk new)
    → HasComponents old.node.half.core.device → IsWhole old.node.half.core.device.phase (length old.node.half.core.device.stage) → staged ≡ staged_of old.node.half.core.device.phase
    → IfSome staged (λ s. s.1 ≤ capacity) → has_failed new.node.half.core.device.phase ≡ false → IsCopyOf new.node.half.core.device.rows capacity images staged
    → after ≡ before ++ map (λ p. noted_of old.node.endpoint.eid (EntryOf.Applied p)) images → NotesVerdictAtSite old verdicts.ApplyOk new before after
applied_noted old new before after staged capacity images k h whole is fits worked copy noted =
    let works = worked_works k.works old.node.half.core.device k.counts (rw (sym (judged_phase old new verdicts.ApplyOk k)) worked) in
    let counts : is_some (device_verdict old.node.half.core.device verdicts.ApplyOk true) ≡ true = subst (λ b. is_some (device_verdict old.node.half.core.device verdicts.ApplyOk b) ≡ true) works k.counts in
    let there : is_some staged ≡ true = ap is_some is ∙ (fails_at old.node.half.core.device old.node.half.core.device.phase true refl counts).3 in
    let rows : new.node.half.core.device.rows ≡ (verdict_after old.node.half.core.device verdicts.ApplyOk true).rows =
    ap (λ d. d.rows) (judged_phase old new verdicts.ApplyOk k) ∙ ap (λ b. (verdict_after old.node.half.core.device verdicts.ApplyOk b).rows) works in
    images_noted old new verdicts.ApplyOk before after images k
    (applied_at old.node.half.core.device new.node.half.core.device.rows staged capacity images h whole (sym is) there counts rows fits copy
    ∙ ap (applied_by old.node.half.core.device verdicts.ApplyOk) (sym works))
    noted

pub failure_noted : (old new : SiteOf) (verdict : Verdict) (entries : List NotedOf) → verdict ≡ verdicts.ApplyOk → HandlesVerdictAtSite old verdict new → has_failed new.node.half.core.device.phase ≡ true
    → NotesVerdictAtSite old verdict new entries entries
failure_noted old new verdict entries is k failed =
    rw is (failed_noted old new entries (subst (λ v. HandlesVerdictAtSite old v new) is k) failed)

pub application_noted : (old new : SiteOf) (verdict : Verdict) (before after : List NotedOf) (staged : Option (Key × ℕ)) (capacity : ℕ) (images : List KeyedImage) → verdict ≡ verdicts.ApplyOk
    → HandlesVerdictAtSite old verdict new
    → HasComponents old.node.half.core.device → IsWhole old.node.half.core.device.phase (length old.node.half.core.device.stage) → staged ≡ staged_of old.node.half.core.device.phase
    → IfSome staged (λ s. s.1 ≤ capacity) → has_failed new.node.half.core.device.phase ≡ false → IsCopyOf new.node.half.core.device.rows capacity images staged
    → after ≡ before ++ map (λ p. noted_of old.node.endpoint.eid (EntryOf.Applied p)) images → NotesVerdictAtSite old verdict new before after
application_noted old new verdict before after staged capacity images is k h whole at fits worked copy noted =
    rw is (applied_noted old new before after staged capacity images (subst (λ v. HandlesVerdictAtSite old v new) is k) h whole at fits worked copy noted)

-- a verdict that the device waits for, at a device with its packets
pub judged_here : (old new : DeviceNodeOf) (since : ℕ) (packets : List Sent) (verdict : Verdict) → HandlesVerdict old verdict new → new.tid ≡ old.tid → new.endpoint ≡ old.endpoint
    → HandlesVerdictAtSite (record { node = old; since_miss = since; packets = packets }) verdict (record { node = new; since_miss = since; packets = packets })
judged_here old new since packets verdict k tid endpoint = record {
  works = k.works;
  counts = k.counts;
  node = rw (sym tid, sym endpoint, sym k.half) refl;
  since_miss = refl;
  packets = refl;
  worked = k.worked;
  failed = k.failed;
  called = k.called;
}

-- if the device waits for it, it isn't refused
pub never_refused : (v : DeviceState) (verdict : Verdict) {A : Type 0} → ((works : Bool) → is_some (device_verdict v verdict works) ≡ true) → ((works : Bool) → device_verdict v verdict works ≡ None) → A
never_refused v verdict counts refused = absurd (let c = counts true in let r = refused true in cc)
