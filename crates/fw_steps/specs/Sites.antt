-- A device's node in the world, from the code's type.
use Rattle.std.specs.Prelude.{ℕ, ◌≡◌, ◌≤◌, ◌<◌, ◌⊎◌, ◌++◌, [], ◌∷◌, Bool, false, true, IfSome, is_some, List, length, map, slice_get, slice_set, Option, Some, None}
use Rattle.fd_core.specs.BankCalls.{verdict_calls_bank}
use Rattle.fd_core.specs.Banks.{CountsFailure}
use Rattle.fd_core.specs.States.{DeviceState, Phase}
use Rattle.fd_core.specs.Images.{KeyedImage, RowOf, applied_of, applied_keyed_images, row_of}
use Rattle.fwup_wire.specs.declared.values.Key.{Key}
use Rattle.fd_core.specs.Steps.{applied_by, device_verdict}
use Rattle.fd_core.specs.declared.states.Verdict.{Verdict}
use Rattle.fw_message.specs.Headline.{EntryOf}
use Rattle.fw_message.specs.Worlds.{NotedOf, noted_of}
use Rattle.fw_node.specs.BankCalls.{packet_calls_bank}
use Rattle.fw_node.specs.Cores.{device_core}
use Rattle.fw_node.specs.Nodes.{device_on_packet, device_on_verdict}
use Rattle.fw_node.specs.Packets.{all_packets}
use Rattle.fw_steps.specs.Worlds.{SiteOf, activated_at, node_becomes, sent_now}

-- a device's node with its packets, and the room for more
pub record SiteWithRoom : Type 0 where
  pub site : SiteOf
  pub room : ℕ

-- A device's node and its packets after a packet: `works` says whether its bank's one call
-- succeeded. A call fails only if the packet has the node call its bank, and only if the bank
-- counts the failure.
pub record HandlesPacketAtSite (now : ℕ) (old : SiteOf) (bytes : List ℕ) (new : SiteOf) : Type 0 where
  pub works : Bool
  pub node : new.node ≡ node_becomes old.node new.node.faults (device_on_packet works old.node bytes).tid (device_on_packet works old.node bytes).half
  pub since_miss : new.since_miss ≡ old.since_miss
  pub packets : new.packets ≡ old.packets ++ sent_now now (all_packets old.node.half.unit (device_on_packet works old.node bytes).sent)
  pub worked : works ≡ true → new.node.faults ≡ old.node.faults
  pub failed : works ≡ false → CountsFailure old.node.faults new.node.faults
  pub called : works ≡ false → packet_calls_bank device_core old.node.half bytes ≡ true

-- and the history after it: the images that it activates are noted
pub record NotesPacketAtSite (now : ℕ) (old : SiteOf) (bytes : List ℕ) (new : SiteOf) (before after : List NotedOf) : Type 0 where
  pub heard : HandlesPacketAtSite now old bytes new
  pub history : after ≡ before ++ map (λ p. noted_of old.node.endpoint.eid (EntryOf.Activated p)) (activated_at heard.works old.node bytes)

-- a device's node and its packets after a verdict
pub record HandlesVerdictAtSite (old : SiteOf) (verdict : Verdict) (new : SiteOf) : Type 0 where
  pub works : Bool
  pub counts : is_some (device_verdict old.node.half.core.device verdict works) ≡ true
  pub node : new.node ≡ node_becomes old.node new.node.faults old.node.tid (device_on_verdict works old.node verdict)
  pub since_miss : new.since_miss ≡ old.since_miss
  pub packets : new.packets ≡ old.packets
  pub worked : works ≡ true → new.node.faults ≡ old.node.faults
  pub failed : works ≡ false → CountsFailure old.node.faults new.node.faults
  pub called : works ≡ false → verdict_calls_bank old.node.half.core.device verdict ≡ true

-- and the history after it: the image that it applies is noted
pub record NotesVerdictAtSite (old : SiteOf) (verdict : Verdict) (new : SiteOf) (before after : List NotedOf) : Type 0 where
  pub judged : HandlesVerdictAtSite old verdict new
  pub history : after ≡ before ++ map (λ p. noted_of old.node.endpoint.eid (EntryOf.Applied p)) (applied_by old.node.half.core.device verdict judged.works)

-- the device waits for the next component, or for its activation
abbrev pub is_ready : Phase → Bool
is_ready (Phase.Ready u) = true
is_ready p = false

-- the device has activated
abbrev pub is_activated : Phase → Bool
is_activated Phase.Activated = true
is_activated p = false

-- these copies, if there are any, are the applied images
abbrev pub AreReadyImages : DeviceState → Option (List KeyedImage) → Type 0
AreReadyImages v None = Unit {0}
AreReadyImages v (Some images) = (is_ready v.phase ≡ true) × (images ≡ applied_keyed_images v.rows)

-- a copy of the image that is applied for this component, if there is room for it
abbrev pub IsCopyOf : List RowOf → (capacity : ℕ) → List KeyedImage → Option (Key × ℕ) → Type 0
IsCopyOf rows capacity images None = Unit {0}
IsCopyOf rows capacity images (Some s) = IfSome (applied_of (row_of rows s.0)) (λ image. length image.bytes ≤ capacity → images ≡ record { key = s.0; bytes = image.bytes } ∷ [])

-- each of these sites has room for this number of packets
abbrev pub HaveRoom : ℕ → List SiteWithRoom → Type 0
HaveRoom n [] = Unit {0}
HaveRoom n (s ∷ ss) = (n ≤ s.room) × HaveRoom n ss

-- one of these sites lacks that room
abbrev pub HasFullSite : ℕ → List SiteWithRoom → Type 0
HasFullSite n [] = ⊥
HasFullSite n (s ∷ ss) = (s.room < n) ⊎ HasFullSite n ss

-- the nodes with their packets
abbrev pub sites_of : List SiteWithRoom → List SiteOf
sites_of ss = map (λ s. s.site) ss

-- One of the nodes handles a packet.
pub record NotesPacketAtPlace (now : ℕ) (old : List SiteOf) (place : ℕ) (bytes : List ℕ) (new : List SiteOf) (before after : List NotedOf) : Type 0 where
  pub site : SiteOf
  pub became : SiteOf
  pub there : slice_get old place ≡ Some site
  pub heard : NotesPacketAtSite now site bytes became before after
  pub put : new ≡ slice_set old place became

-- One of them handles a verdict.
pub record NotesVerdictAtPlace (old : List SiteOf) (place : ℕ) (verdict : Verdict) (new : List SiteOf) (before after : List NotedOf) : Type 0 where
  pub site : SiteOf
  pub became : SiteOf
  pub there : slice_get old place ≡ Some site
  pub judged : NotesVerdictAtSite site verdict became before after
  pub put : new ≡ slice_set old place became
