-- Steps by hand, to test two definitions: the steps of a schedule that concern a device, and the
-- steps that need memory.
use Rattle.std.specs.Prelude.{ℕ, ◌≡◌, ◌∷◌, [], List, false, true}
use Rattle.fd_core.specs.declared.states.Verdict.TheVariants as verdicts
use Rattle.fw_steps.specs.Isolation.{ConcernOf, steps_of}
use Rattle.fw_steps.specs.Replays.{needs_memory}
use Rattle.fw_steps.specs.Worlds.{WorldOf, full_tick}
use Rattle.fw_steps.specs.declared.step.Step.{Step}
use Rattle.fw_steps.specs.declared.step.Step.TheVariants as steps

-- a tick that these nodes miss
abbrev pub missed_by : List ℕ → Step
missed_by nodes = steps.Tick (record { items = nodes })

-- a request to the event log
abbrev pub log_request : Step
log_request = steps.Sel (record { items = 0x40 ∷ [] })

-- any world whose agent has this identifier
abbrev pub with_agent : WorldOf → ℕ → WorldOf
with_agent w eid = record w { agent = record w.agent { endpoint = record w.agent.endpoint { eid = eid } } }

-- a schedule of agent 8 and devices 9 and 10
abbrev pub schedule : List Step
schedule =
    steps.Start 9 1 ∷ steps.Start 10 2 ∷ full_tick
    ∷ steps.Deliver 9 1 9 ∷ steps.Deliver 10 1 10 ∷ steps.Deliver 9 2 8 ∷ steps.Deliver 10 2 8
    ∷ steps.Deliver 9 3 10 ∷ steps.Deliver 10 3 9
    ∷ missed_by (10 ∷ []) ∷ missed_by (9 ∷ []) ∷ missed_by (8 ∷ 10 ∷ [])
    ∷ steps.Cancel 9 ∷ steps.Cancel 10 ∷ steps.Verdict 9 verdicts.ApplyOk ∷ steps.Verdict 10 verdicts.VerifyOk
    ∷ steps.Activate 9 ∷ steps.Activate 10
    ∷ log_request ∷ steps.Restart 10 ∷ steps.Restart 9 ∷ steps.Restart 8 ∷ []

-- the parts of it that concern device 9: its own packets at either end, and none at another device;
-- and of each tick whether the agent and the device count it
abbrev pub concerns_of_9 : List ConcernOf
concerns_of_9 =
    ConcernOf.Takes (steps.Start 9 1) ∷ ConcernOf.Passes true true
    ∷ ConcernOf.Takes (steps.Deliver 9 1 9) ∷ ConcernOf.Takes (steps.Deliver 9 2 8)
    ∷ ConcernOf.Passes true true ∷ ConcernOf.Passes true false ∷ ConcernOf.Passes false true
    ∷ ConcernOf.Takes (steps.Cancel 9) ∷ ConcernOf.Takes (steps.Verdict 9 verdicts.ApplyOk) ∷ ConcernOf.Takes (steps.Activate 9)
    ∷ ConcernOf.Takes (steps.Restart 9) ∷ ConcernOf.Takes (steps.Restart 8) ∷ []

-- the steps of a schedule that concern a device, in a world of agent 8
abbrev pub steps_for : WorldOf → (device : ℕ) → List Step → List ConcernOf
steps_for w device ss = steps_of (with_agent w 8) device ss

-- Other steps of another device change nothing; another order, or another step of this device,
-- does.
pub record ConcernsAreJudged : Type 0 where
  pub whole : (w : WorldOf) → steps_for w 9 schedule ≡ concerns_of_9
  pub foreign : (w : WorldOf) → steps_for w 9 (steps.Start 10 2 ∷ steps.Deliver 10 1 8 ∷ steps.Restart 10 ∷ log_request ∷ []) ≡ []
  pub number : (w : WorldOf) → steps_for w 9 (steps.Deliver 9 1 9 ∷ []) ≡ steps_for w 9 (steps.Deliver 9 2 9 ∷ []) → ⊥
  pub missing : (w : WorldOf) → steps_for w 9 (missed_by (9 ∷ []) ∷ []) ≡ steps_for w 9 (full_tick ∷ []) → ⊥
  pub order : (w : WorldOf) → steps_for w 9 (steps.Cancel 9 ∷ full_tick ∷ []) ≡ steps_for w 9 (full_tick ∷ steps.Cancel 9 ∷ []) → ⊥
  pub left_out : (w : WorldOf) → steps_for w 9 (steps.Restart 8 ∷ []) ≡ [] → ⊥

-- the steps that add packets, entries or records, and the steps that add none
pub record MemoryIsJudged : Type 0 where
  pub deliver : needs_memory (steps.Deliver 9 1 8) ≡ true
  pub tick : needs_memory full_tick ≡ true
  pub start : needs_memory (steps.Start 9 1) ≡ true
  pub apply : needs_memory (steps.Verdict 9 verdicts.ApplyOk) ≡ true
  pub apply_fails : needs_memory (steps.Verdict 9 verdicts.ApplyFail) ≡ false
  pub verify : needs_memory (steps.Verdict 9 verdicts.VerifyOk) ≡ false
  pub cancel : needs_memory (steps.Cancel 9) ≡ false
  pub activate : needs_memory (steps.Activate 9) ≡ false
  pub restart : needs_memory (steps.Restart 8) ≡ false
  pub log : needs_memory log_request ≡ false
