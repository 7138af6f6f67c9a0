-- A device's node after a call, and the history after it.
use Rattle.std.specs.Prelude.{◌≡◌, ◌++◌, List, ℕ, map}
use Rattle.fd_core.specs.Steps.{applied_by}
use Rattle.fd_core.specs.declared.states.Verdict.{Verdict}
use Rattle.fw_message.specs.Headline.{EntryOf}
use Rattle.fw_message.specs.Worlds.{NotedOf, noted_of}
use Rattle.fw_node.specs.Nodes.{DeviceNodeOf, HandlesPacket, HandlesVerdict}
use Rattle.fw_steps.specs.Worlds.{activated_at}

-- A packet: the images that the device activates are noted.
pub record NotesPacket (old : DeviceNodeOf) (bytes : List ℕ) (new : DeviceNodeOf) (sent : List (List ℕ)) (before after : List NotedOf) : Type 0 where
  pub heard : HandlesPacket old bytes new sent
  pub endpoint : new.endpoint ≡ old.endpoint
  pub history : after ≡ before ++ map (λ p. noted_of old.endpoint.eid (EntryOf.Activated p)) (activated_at heard.works old bytes)

-- A verdict: the image that it applies is noted.
pub record NotesVerdict (old : DeviceNodeOf) (verdict : Verdict) (new : DeviceNodeOf) (before after : List NotedOf) : Type 0 where
  pub judged : HandlesVerdict old verdict new
  pub endpoint : new.endpoint ≡ old.endpoint
  pub tid : new.tid ≡ old.tid
  pub history : after ≡ before ++ map (λ p. noted_of old.endpoint.eid (EntryOf.Applied p)) (applied_by old.half.core.device verdict judged.works)
