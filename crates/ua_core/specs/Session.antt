-- The stages of a session, and their data.
use Rattle.std.specs.Prelude.{Bool, List, false, true, ℕ}
use Rattle.mctp_wire.specs.declared.unit.Unit.{«Unit»}
use Rattle.ua_core.specs.declared.planned.Planned.{Planned}
use Rattle.ua_core.specs.declared.planned.Recorded.{Recorded}
use Rattle.ua_core.specs.declared.state.Cause.{Cause}
use Rattle.ua_core.specs.declared.state.Cause.TheVariants as causes
use Rattle.ua_core.specs.declared.state.SessionState.{SessionState}
use Rattle.ua_core.specs.declared.state.SessionState.TheVariants as states

-- the parts that are fixed once the device is known: the package's record for it, and the
-- components to send
pub record JobOf : Type 0 where
  pub chosen : ℕ
  pub plan : List Planned

-- the component being updated, those still to do, and the number that this start has recorded
pub record TaskOf : Type 0 where
  pub job : JobOf
  pub at_hand : Planned
  pub todo : List Planned
  pub made : ℕ

-- The stage of a session. In Pass it passes a component to the device, with the components left to
-- pass and those found to be done.
pub data Stage : Type 0 where
  Idle : Stage
  Query : Stage
  Params : (j : JobOf) → Stage
  ClearOld : (j : JobOf) → Stage
  Request : (j : JobOf) → Stage
  Pass : (j : JobOf) (i : Planned) (left todo : List Planned) → Stage
  Update : (t : TaskOf) → Stage
  Download : (t : TaskOf) → Stage
  Verify : (t : TaskOf) → Stage
  Apply : (t : TaskOf) → Stage
  AllApplied : (j : JobOf) → Stage
  Activate : (j : JobOf) → Stage
  Done : Stage
  Cancelling : Stage
  Failed : (cause : Cause) → Stage

-- a session: its network's transmission unit, its stage, the number of the package that it was last
-- started with, and its records
pub record SessionOf : Type 0 where
  pub unit : «Unit»
  pub stage : Stage
  pub number : ℕ
  pub records : List Recorded

-- the same, with the count of idle ticks
pub record TimedOf : Type 0 where
  pub session : SessionOf
  pub idle : ℕ

-- the state without its data
abbrev pub state_of : Stage → SessionState
state_of Stage.Idle = states.Idle
state_of Stage.Query = states.Query
state_of (Stage.Params _) = states.Params
state_of (Stage.ClearOld _) = states.ClearOld
state_of (Stage.Request _) = states.Request
state_of (Stage.Pass _ _ _ _) = states.Pass
state_of (Stage.Update _) = states.Update
state_of (Stage.Download _) = states.Download
state_of (Stage.Verify _) = states.Verify
state_of (Stage.Apply _) = states.Apply
state_of (Stage.AllApplied _) = states.AllApplied
state_of (Stage.Activate _) = states.Activate
state_of Stage.Done = states.Done
state_of Stage.Cancelling = states.Cancelling
state_of (Stage.Failed cause) = states.Failed cause

-- the states with no update in progress
abbrev pub is_free_state : SessionState → Bool
is_free_state states.Idle = true
is_free_state states.Done = true
is_free_state (states.Failed _) = true
is_free_state _ = false

-- the states of a failed update
abbrev pub is_failed_state : SessionState → Bool
is_failed_state (states.Failed _) = true
is_failed_state _ = false

-- the number of each cause
abbrev pub cause_number : Cause → ℕ
cause_number causes.Silent = 1
cause_number causes.TimeOut = 2
cause_number causes.NoRecord = 3
cause_number causes.Plan = 4
cause_number causes.NothingToUpdate = 5
cause_number causes.Answer = 6
cause_number causes.Refused = 7
cause_number causes.Transfer = 8
cause_number causes.Verify = 9
cause_number causes.Apply = 10

-- the same session at another stage
abbrev pub at_stage : SessionOf → Stage → SessionOf
at_stage s g = record s { stage = g }
