-- The operator's calls, time and restarts.
use Rattle.std.specs.Prelude.{List, None, Option, Some, [], false, true, Bool, if◌then◌else◌, not, ◌+◌, ◌==◌, ℕ}
use Rattle.std.specs.Option.{option_map}
use Rattle.mctp_wire.specs.declared.unit.Unit.{«Unit»}
use Rattle.ua_core.specs.Session.{SessionOf, Stage, TimedOf, at_stage, is_free_state, state_of}
use Rattle.ua_core.specs.declared.planned.Recorded.{Recorded}
use Rattle.ua_core.specs.declared.state.Cause.TheVariants as causes

-- a new session on a network with this unit
abbrev pub new_session : «Unit» → TimedOf
new_session unit = record { session = record { unit = unit; stage = Stage.Idle; number = 0; records = [] }; idle = 0 }

-- a session without an update in progress, with the number of the package that it was last started
-- with, and its records
abbrev pub resumed_session : «Unit» → (number : ℕ) → List Recorded → TimedOf
resumed_session unit number records = record { session = record { unit = unit; stage = Stage.Idle; number = number; records = records }; idle = 0 }

-- no update is in progress
abbrev pub is_free : SessionOf → Bool
is_free s = is_free_state (state_of s.stage)

-- an update with the package of this number starts
abbrev pub agent_started : SessionOf → ℕ → SessionOf
agent_started s number = record { unit = s.unit; stage = Stage.Query; number = number; records = s.records }

-- whether a cancel changes the session
abbrev pub may_cancel : Stage → Bool
may_cancel Stage.Idle = false
may_cancel Stage.Cancelling = false
may_cancel _ = true

-- the session after a cancel
abbrev pub agent_cancelled : SessionOf → SessionOf
agent_cancelled s = if may_cancel s.stage then at_stage s Stage.Cancelling else s

-- the stage after an activation, if it is allowed
abbrev pub activated_stage : Stage → Option Stage
activated_stage (Stage.AllApplied j) = Some (Stage.Activate j)
activated_stage _ = None

abbrev pub agent_activated : SessionOf → Option SessionOf
agent_activated s = option_map (at_stage s) (activated_stage s.stage)

-- the stage after the device gave no answer
abbrev pub silent_stage : Stage → Stage
silent_stage Stage.Cancelling = Stage.Idle
silent_stage _ = Stage.Failed causes.Silent

abbrev pub agent_silent : SessionOf → SessionOf
agent_silent s = at_stage s (silent_stage s.stage)

-- the stages that time out
abbrev pub times_out : Stage → Bool
times_out g = not (is_free_state (state_of g))

-- the stage after a time-out
abbrev pub timeout_stage : Stage → Stage
timeout_stage Stage.Cancelling = Stage.Idle
timeout_stage g = if times_out g then Stage.Failed causes.TimeOut else g

abbrev pub agent_timeout : SessionOf → SessionOf
agent_timeout s = at_stage s (timeout_stage s.stage)

-- an idle tick: the 240th in a row ends the update
abbrev pub idle_ticked : TimedOf → TimedOf
idle_ticked s =
    if not (times_out s.session.stage) then s
    else if s.idle + 1 == 240 then record { session = agent_timeout s.session; idle = 0 }
    else record { session = s.session; idle = s.idle + 1 }

-- the session after a restart: it keeps the records and the number of the package
abbrev pub agent_restart : SessionOf → SessionOf
agent_restart s = at_stage s Stage.Idle
