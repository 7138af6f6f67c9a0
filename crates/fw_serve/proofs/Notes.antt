-- The entries after a call of a device's node alone, from those of a device in the world.
use Rattle.std.proofs.Common.{◌≡◌, ◌≤◌, ◌∙◌, ◌++◌, ℕ, true, false, IfSome, List, [], ◌∷◌, length, map, Option, ap, refl, sym}
use Rattle.exch_lane.specs.Lanes.{Sent}
use Rattle.fd_core.specs.Components.{HasComponents}
use Rattle.fd_core.specs.Images.{KeyedImage, applied_keyed_images}
use Rattle.fd_core.specs.States.{IsWhole, staged_of}
use Rattle.fd_core.specs.Wishes.{has_failed}
use Rattle.fd_core.specs.declared.states.Verdict.{Verdict}
use Rattle.fd_core.specs.declared.states.Verdict.TheVariants as verdicts
use Rattle.fwup_wire.specs.declared.values.Key.{Key}
use Rattle.fw_message.specs.Headline.{EntryOf}
use Rattle.fw_message.specs.Worlds.{NotedOf, noted_of}
use Rattle.fw_message.proofs.Working.{is_apply_ok}
use Rattle.fw_node.specs.Nodes.{DeviceNodeOf, HandlesPacket, HandlesVerdict, device_on_packet}
use Rattle.fw_node.specs.Packets.{all_packets}
use Rattle.fw_steps.specs.Sites.{HandlesPacketAtSite, IsCopyOf, NotesPacketAtSite, NotesVerdictAtSite, is_activated, is_ready}
use Rattle.fw_node.specs.Cores.{TimedDevice}
use Rattle.fw_node.specs.Halves.{HalfOf}
use Rattle.fw_steps.specs.Worlds.{SiteOf, node_becomes, sent_now}
use Rattle.fw_steps.proofs.Noting as sites
use Rattle.fw_steps.proofs.Judging as judging
use Rattle.fw_serve.specs.Noting.{NotesPacket, NotesVerdict}

-- the node as a device in a world
abbrev site : DeviceNodeOf → List Sent → SiteOf
site n packets = record { node = n; since_miss = 0; packets = packets }

-- a node with the endpoint of another
pub node_is : (n m : DeviceNodeOf) (tid : ℕ) (half : HalfOf TimedDevice) → m.endpoint ≡ n.endpoint → m.tid ≡ tid → m.half ≡ half → m ≡ node_becomes n m.faults tid half
node_is n m tid half e t h = rw (sym e, sym t, sym h) refl

bytes_back : (ps : List (List ℕ)) → map (λ s. s.bytes) (sent_now 0 ps) ≡ ps
bytes_back [] = refl
bytes_back (p ∷ ps) = ap (λ qs. p ∷ qs) (bytes_back ps)

at_site : (old new : DeviceNodeOf) (bytes : List ℕ) (sent : List (List ℕ)) → HandlesPacket old bytes new sent → new.endpoint ≡ old.endpoint
    → HandlesPacketAtSite 0 (site old []) bytes (site new (sent_now 0 sent))
at_site old new bytes sent k endpoint = record {
  works = k.works;
  node = node_is old new (device_on_packet k.works old bytes).tid (device_on_packet k.works old bytes).half endpoint k.tid k.half;
  since_miss = refl;
  packets = ap (sent_now 0) k.packets;
  worked = k.worked;
  failed = k.failed;
  called = k.called;
}

from_site : (old new : DeviceNodeOf) (bytes : List ℕ) (sent : List (List ℕ)) (before after : List NotedOf) → new.endpoint ≡ old.endpoint
    → NotesPacketAtSite 0 (site old []) bytes (site new (sent_now 0 sent)) before after → NotesPacket old bytes new sent before after
from_site old new bytes sent before after endpoint k = record {
  heard = record {
    works = k.heard.works;
    half = ap (λ n. n.half) k.heard.node;
    tid = ap (λ n. n.tid) k.heard.node;
    packets = sym (bytes_back sent) ∙ ap (map (λ s. s.bytes)) k.heard.packets ∙ bytes_back (all_packets old.half.unit (device_on_packet k.heard.works old bytes).sent);
    worked = k.heard.worked;
    failed = k.heard.failed;
    called = k.heard.called;
  };
  endpoint = endpoint;
  history = k.history;
}

-- a ready device that is in ACTIVATE after a packet activated its applied images
pub activation_noted : (old new : DeviceNodeOf) (bytes : List ℕ) (sent : List (List ℕ)) (before after : List NotedOf) (images : List KeyedImage) → HandlesPacket old bytes new sent → new.endpoint ≡ old.endpoint
    → is_ready old.half.core.device.phase ≡ true → is_activated new.half.core.device.phase ≡ true → images ≡ applied_keyed_images old.half.core.device.rows
    → after ≡ before ++ map (λ p. noted_of old.endpoint.eid (EntryOf.Activated p)) images → NotesPacket old bytes new sent before after
activation_noted old new bytes sent before after images k endpoint ready active are noted =
    from_site old new bytes sent before after endpoint
    (sites.activation_noted 0 (site old []) (site new (sent_now 0 sent)) bytes before after images (at_site old new bytes sent k endpoint) ready active are noted)

pub nothing_ready : (old new : DeviceNodeOf) (bytes : List ℕ) (sent : List (List ℕ)) (entries : List NotedOf) → HandlesPacket old bytes new sent → new.endpoint ≡ old.endpoint
    → is_ready old.half.core.device.phase ≡ false → NotesPacket old bytes new sent entries entries
nothing_ready old new bytes sent entries k endpoint was =
    from_site old new bytes sent entries entries endpoint
    (sites.nothing_ready 0 (site old []) (site new (sent_now 0 sent)) bytes entries (at_site old new bytes sent k endpoint) was)

pub nothing_active : (old new : DeviceNodeOf) (bytes : List ℕ) (sent : List (List ℕ)) (entries : List NotedOf) → HandlesPacket old bytes new sent → new.endpoint ≡ old.endpoint
    → is_activated new.half.core.device.phase ≡ false → NotesPacket old bytes new sent entries entries
nothing_active old new bytes sent entries k endpoint is =
    from_site old new bytes sent entries entries endpoint
    (sites.nothing_active 0 (site old []) (site new (sent_now 0 sent)) bytes entries (at_site old new bytes sent k endpoint) is)

pub still_ready : (old new : DeviceNodeOf) (bytes : List ℕ) (sent : List (List ℕ)) → HandlesPacket old bytes new sent → new.endpoint ≡ old.endpoint
    → is_ready old.half.core.device.phase ≡ true → is_ready new.half.core.device.phase ≡ true → new.half.core.device.rows ≡ old.half.core.device.rows
still_ready old new bytes sent k endpoint was is =
    sites.still_ready 0 (site old []) (site new (sent_now 0 sent)) bytes (at_site old new bytes sent k endpoint) was is

-- verdicts
from_verdict : (old new : DeviceNodeOf) (verdict : Verdict) (before after : List NotedOf) → new.tid ≡ old.tid → new.endpoint ≡ old.endpoint
    → NotesVerdictAtSite (site old []) verdict (site new []) before after → NotesVerdict old verdict new before after
from_verdict old new verdict before after tid endpoint k = record {
  judged = record {
    works = k.judged.works;
    counts = k.judged.counts;
    half = ap (λ n. n.half) k.judged.node;
    worked = k.judged.worked;
    failed = k.judged.failed;
    called = k.judged.called;
  };
  endpoint = endpoint;
  tid = tid;
  history = k.history;
}

pub other_noted : (old new : DeviceNodeOf) (verdict : Verdict) (entries : List NotedOf) → HandlesVerdict old verdict new → new.tid ≡ old.tid → new.endpoint ≡ old.endpoint → is_apply_ok verdict ≡ false
    → NotesVerdict old verdict new entries entries
other_noted old new verdict entries k tid endpoint other =
    from_verdict old new verdict entries entries tid endpoint
    (judging.other_noted (site old []) (site new []) verdict entries (judging.judged_here old new 0 [] verdict k tid endpoint) other)

pub failure_noted : (old new : DeviceNodeOf) (verdict : Verdict) (entries : List NotedOf) → verdict ≡ verdicts.ApplyOk → HandlesVerdict old verdict new → new.tid ≡ old.tid → new.endpoint ≡ old.endpoint
    → has_failed new.half.core.device.phase ≡ true → NotesVerdict old verdict new entries entries
failure_noted old new verdict entries is k tid endpoint failed =
    from_verdict old new verdict entries entries tid endpoint
    (judging.failure_noted (site old []) (site new []) verdict entries is (judging.judged_here old new 0 [] verdict k tid endpoint) failed)

pub application_noted : (old new : DeviceNodeOf) (verdict : Verdict) (before after : List NotedOf) (staged : Option (Key × ℕ)) (capacity : ℕ) (images : List KeyedImage) → verdict ≡ verdicts.ApplyOk
    → HandlesVerdict old verdict new → new.tid ≡ old.tid → new.endpoint ≡ old.endpoint
    → HasComponents old.half.core.device → IsWhole old.half.core.device.phase (length old.half.core.device.stage) → staged ≡ staged_of old.half.core.device.phase
    → IfSome staged (λ s. s.1 ≤ capacity) → has_failed new.half.core.device.phase ≡ false → IsCopyOf new.half.core.device.rows capacity images staged
    → after ≡ before ++ map (λ p. noted_of old.endpoint.eid (EntryOf.Applied p)) images → NotesVerdict old verdict new before after
application_noted old new verdict before after staged capacity images is k tid endpoint h whole at fits worked copy noted =
    from_verdict old new verdict before after tid endpoint
    (judging.application_noted (site old []) (site new []) verdict before after staged capacity images is (judging.judged_here old new 0 [] verdict k tid endpoint) h whole at fits worked copy noted)
