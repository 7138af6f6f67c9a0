-- A run of packets as a run of whole messages: steps of commands that are asked, taken, answered,
-- learned or given up, without packets, tags and time, give the same devices and sessions, with the
-- same history.
use Rattle.std.specs.Prelude.{◌≡◌, List, map}
use Rattle.fw_message.specs.Replays.{CountedWorldOf, MessageRun as MessageRun}
use Rattle.fw_message.specs.WorldLaws.{IsOpeningMessageWorld as IsOpeningMessages}
use Rattle.fw_message.specs.Worlds.{MessageWorldOf as MessageWorldOf}
use Rattle.fw_message.specs.declared.step.MessageStep.{MessageStep}
use Rattle.fw_steps.specs.Worlds.{WorldOf}

-- the same packages and agent, the same devices and sessions in the same order, except for their
-- idle counts, and the same history
pub record IsSameWorld (w : WorldOf) (m : MessageWorldOf) : Type 0 where
  pub packages : m.packages ≡ w.packages
  pub agent : m.agent ≡ w.agent.endpoint.eid
  pub eids : map (λ n. n.eid) m.nodes ≡ map (λ x. x.node.endpoint.eid) w.sites
  pub devices : map (λ n. n.pair.device) m.nodes ≡ map (λ x. x.node.half.core.device) w.sites
  pub peers : map (λ n. n.eid) m.nodes ≡ map (λ h. h.peer) w.agent.halves
  pub sessions : map (λ n. n.pair.session) m.nodes ≡ map (λ h. h.core.session) w.agent.halves
  pub history : m.history ≡ w.history

-- A run of messages from the devices and sessions of one world to those of the other. It begins
-- with empty cells and an empty history.
pub record IsRunOfMessages (opening w : WorldOf) : Type 0 where
  pub first : CountedWorldOf
  pub begins : IsOpeningMessages first.world
  pub from : IsSameWorld opening first.world
  pub steps : List MessageStep
  pub last : CountedWorldOf
  pub run : MessageRun first steps last
  pub to : IsSameWorld w last.world
