-- Each message of a run round-trips. A node's answer decodes to itself and fits a message, and a
-- node's pending command can be encoded. The only assumption is that the packages and devices of
-- the opening world fit the fields of messages (`packages` and `devices` of `IsOpeningWorld`).
-- `commands_read_back` of `fwup_wire` says that an encoded command decodes to itself.
use Rattle.std.specs.Prelude.{ℕ, ◌≡◌, Bool, true, List, IfSome, IsSomeAnd}
use Rattle.mctp_wire.specs.declared.unit.Unit.TheVariants.{U64}
use Rattle.fw_package.specs.Package.{PackageText}
use Rattle.fwup_wire.specs.Commands.{CommandRoundTrips}
use Rattle.ua_core.specs.Session.{TimedOf}
use Rattle.fw_node.specs.Agents.{half_for}
use Rattle.fw_node.specs.Cores.{TimedDevice, device_core, session_core}
use Rattle.fw_node.specs.Halves.{HalfOf, half_on_packet, half_ticks}
use Rattle.fw_node.specs.Nodes.{TakenAnswerRoundTrips}
use Rattle.fw_steps.specs.Opening.{IsOpeningWorld}
use Rattle.fw_steps.specs.Steps.{Run, is_device}
use Rattle.fw_steps.specs.Worlds.{WorldOf, site_for}
use Rattle.fw_steps.specs.declared.step.Step.{Step}

-- The agent's half for a device and the device's half for the agent. An answer is to any packet,
-- also to a packet that was never sent (`agent_answers`, `device_answers`). A request is the half's
-- pending command after its next tick (`agent_asks`, `device_asks`).
pub record RoundTrips (packages : List PackageText) (agent : HalfOf TimedOf) (device : HalfOf TimedDevice) : Type 0 where
  pub agent_answers : (bytes : List ℕ) → TakenAnswerRoundTrips agent.core.session.unit (half_on_packet (session_core packages) true agent bytes)
  pub device_answers : (works : Bool) (bytes : List ℕ) → TakenAnswerRoundTrips U64 (half_on_packet device_core works device bytes)
  pub agent_asks : IfSome ((session_core packages).wish (half_ticks (session_core packages) true agent).half.core) CommandRoundTrips
  pub device_asks : IfSome (device_core.wish (half_ticks device_core true device).half.core) CommandRoundTrips

-- Along every run, each device of the opening world is there, the agent has a half for it, and each
-- message between the two round-trips.
abbrev pub MessagesRoundTrip : Type 0
MessagesRoundTrip =
    (opening w : WorldOf) (steps : List Step) → IsOpeningWorld opening → Run opening steps w → (eid : ℕ) → is_device opening eid ≡ true
    → IsSomeAnd (half_for w.agent eid) (λ agent. IsSomeAnd (site_for w.sites eid) (λ x. RoundTrips w.packages agent x.node.half))
