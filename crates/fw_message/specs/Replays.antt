-- Replays: steps of a world, in order.
use Rattle.std.specs.Prelude.{ℕ, ◌≡◌, ◌==◌, ◌+◌, ◌||◌, is_some, Bool, true, false, if◌then◌else◌, List, [], ◌∷◌, get_or, set, Option, Some, None, IfSome}
use Rattle.fw_package.specs.Package.{PackageText}
use Rattle.fw_message.specs.Nodes.{CountedOf}
use Rattle.fd_core.specs.Banks.{CountsFailure}
use Rattle.fw_message.specs.BankCalls.{message_step_calls_bank}
use Rattle.fw_message.specs.Worlds.{NodeOf, MessageWorldOf, agent_restarted, device_of, named_step, needs_memory, node_at, refusal_of, restarts_agent, stepped_at, message_world_after}
use Rattle.fw_message.specs.declared.step.MessageStep.{MessageStep}
use Rattle.fw_message.specs.declared.step.MessageStepFault.{MessageStepFault}
use Rattle.fw_message.specs.declared.step.MessageStepFault.TheVariants as faults

-- a world, and the number of failures of each device's bank
pub record CountedWorldOf : Type 0 where
  pub world : MessageWorldOf
  pub faults : List ℕ

-- the place of the device with this identifier, with places counted from this number
abbrev pub place_from : ℕ → List NodeOf → ℕ → Option ℕ
place_from i [] eid = None
place_from i (n ∷ ns) eid = if n.eid == eid then Some i else place_from (i + 1) ns eid

abbrev pub place_at : List NodeOf → ℕ → Option ℕ
place_at ns eid = place_from 0 ns eid

-- the agent restarts, and so the session of this device
abbrev pub counted_restarted : List PackageText → CountedOf → CountedOf
counted_restarted packages p = record { node = agent_restarted packages p.node; faults = p.faults }

-- the bank of the device with this identifier failed: its count rose, or is at its last value, and
-- no other count changed
abbrev pub BankFailed : CountedWorldOf → CountedWorldOf → ℕ → Type 0
BankFailed w v eid = IfSome (place_at w.world.nodes eid)
    (λ place. CountsFailure (get_or w.faults place 0) (get_or v.faults place 0) × (v.faults ≡ set w.faults place (get_or v.faults place 0)))

-- A step from one world to another. Its call of a bank fails only if the step has its device call
-- the bank, and only if the bank counts the failure. All other counts stay. If the call succeeds,
-- or there is none, all counts stay.
pub record StepsToCounted (w : CountedWorldOf) (s : MessageStep) (v : CountedWorldOf) : Type 0 where
  pub works : Bool
  pub after : message_world_after w.world (named_step w.world.agent works s) ≡ Some v.world
  pub worked : works ≡ true → v.faults ≡ w.faults
  pub failed : works ≡ false → BankFailed w v (device_of s)
  pub called : works ≡ false → message_step_calls_bank w.world s ≡ true

-- each step is taken in the world after the step before it
abbrev pub MessageRun : CountedWorldOf → List MessageStep → CountedWorldOf → Type 0
MessageRun w [] v = v ≡ w
MessageRun w (s ∷ ss) v = (mid : CountedWorldOf) × StepsToCounted w s mid × MessageRun mid ss v

-- whether the world has the node of a step
abbrev pub HasNode : MessageWorldOf → MessageStep → Type 0
HasNode w s = (restarts_agent w.agent s || is_some (node_at w.nodes (device_of s))) ≡ true

-- The reason why a step isn't taken: there is no such node; or there is and the step isn't allowed,
-- whether the bank works or not; or it is allowed, and memory that it needs is refused.
abbrev pub RefusesMessageStep : MessageWorldOf → MessageStep → MessageStepFault → Type 0
RefusesMessageStep w s faults.NoSuchNode = (restarts_agent w.agent s ≡ false) × (node_at w.nodes (device_of s) ≡ None)
RefusesMessageStep w s faults.Memory =
    (needs_memory s (stepped_at w.packages s (node_at w.nodes (device_of s))) ≡ true) × HasNode w s
    × ((works : Bool) → is_some (message_world_after w (named_step w.agent works s)) ≡ true)
RefusesMessageStep w s fault = (fault ≡ refusal_of s) × HasNode w s × ((works : Bool) → message_world_after w (named_step w.agent works s) ≡ None)
