-- The entries after a device's node handled a packet.
use Rattle.std.proofs.Common.{◌≡◌, ◌∙◌, ◌++◌, ◌&&◌, ℕ, Bool, true, false, List, [], ◌∷◌, map, ap, refl, sym}
use Rattle.fd_core.specs.Images.{KeyedImage, applied_keyed_images}
use Rattle.fw_node.specs.Nodes.{device_on_packet}
use Rattle.fw_message.specs.Headline.{EntryOf}
use Rattle.fw_message.specs.Worlds.{NotedOf, noted_of}
use Rattle.fw_steps.specs.Sites.{HandlesPacketAtSite, NotesPacketAtSite, is_activated, is_ready}
use Rattle.fw_steps.specs.Worlds.{SiteOf, activated_at}
use Rattle.fw_steps.proofs.Activating.{hearing_tells}

pub append_nil : {A : Type 0} (xs : List A) → xs ++ [] ≡ xs
append_nil [] = refl
append_nil (x ∷ xs) = ap (λ ys. x ∷ ys) (append_nil xs)

never : (b : Bool) → (b && false) ≡ false
never true = refl
never false = refl

-- the device after it
same_device : (now : ℕ) (old new : SiteOf) (bytes : List ℕ) (k : HandlesPacketAtSite now old bytes new) → new.node.half ≡ (device_on_packet k.works old.node bytes).half
same_device now old new bytes k = ap (λ n. n.half) k.node

-- a ready device that is in ACTIVATE afterwards activated its applied images
pub activation_noted : (now : ℕ) (old new : SiteOf) (bytes : List ℕ) (before after : List NotedOf) (images : List KeyedImage) → HandlesPacketAtSite now old bytes new
    → is_ready old.node.half.core.device.phase ≡ true → is_activated new.node.half.core.device.phase ≡ true → images ≡ applied_keyed_images old.node.half.core.device.rows
    → after ≡ before ++ map (λ p. noted_of old.node.endpoint.eid (EntryOf.Activated p)) images → NotesPacketAtSite now old bytes new before after
activation_noted now old new bytes before after images k ready active are noted =
    let tells = hearing_tells k.works old.node bytes in
    let there : is_activated (device_on_packet k.works old.node bytes).half.core.device.phase ≡ true = rw (sym (same_device now old new bytes k)) active in
    record {
      heard = k;
      history = noted ∙ ap (λ ps. before ++ map (λ p. noted_of old.node.endpoint.eid (EntryOf.Activated p)) ps) (are ∙ sym (tells.activated ∙ rw (ready, there) refl));
    }

pub nothing_noted : (now : ℕ) (old new : SiteOf) (bytes : List ℕ) (entries : List NotedOf) → HandlesPacketAtSite now old bytes new
    → (is_ready old.node.half.core.device.phase && is_activated new.node.half.core.device.phase) ≡ false → NotesPacketAtSite now old bytes new entries entries
nothing_noted now old new bytes entries k neither =
    let tells = hearing_tells k.works old.node bytes in
    let none : activated_at k.works old.node bytes ≡ [] = tells.activated ∙ rw (sym (same_device now old new bytes k), neither) refl in
    record { heard = k; history = sym (append_nil entries) ∙ ap (λ ps. entries ++ map (λ p. noted_of old.node.endpoint.eid (EntryOf.Activated p)) ps) (sym none) }

pub nothing_ready : (now : ℕ) (old new : SiteOf) (bytes : List ℕ) (entries : List NotedOf) → HandlesPacketAtSite now old bytes new
    → is_ready old.node.half.core.device.phase ≡ false → NotesPacketAtSite now old bytes new entries entries
nothing_ready now old new bytes entries k was = nothing_noted now old new bytes entries k (rw was refl)

pub nothing_active : (now : ℕ) (old new : SiteOf) (bytes : List ℕ) (entries : List NotedOf) → HandlesPacketAtSite now old bytes new
    → is_activated new.node.half.core.device.phase ≡ false → NotesPacketAtSite now old bytes new entries entries
nothing_active now old new bytes entries k is = nothing_noted now old new bytes entries k (rw is (never (is_ready old.node.half.core.device.phase)))

pub still_ready : (now : ℕ) (old new : SiteOf) (bytes : List ℕ) → HandlesPacketAtSite now old bytes new
    → is_ready old.node.half.core.device.phase ≡ true → is_ready new.node.half.core.device.phase ≡ true → new.node.half.core.device.rows ≡ old.node.half.core.device.rows
still_ready now old new bytes k was is =
    let tells = hearing_tells k.works old.node bytes in
    let there : is_ready (device_on_packet k.works old.node bytes).half.core.device.phase ≡ true = rw (sym (same_device now old new bytes k)) is in
    ap (λ h. h.core.device.rows) (same_device now old new bytes k) ∙ tells.kept was there
