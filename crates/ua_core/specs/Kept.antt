-- The representation of a session: fields of earlier stages keep their values and are ignored.
use Rattle.std.specs.Prelude.{List, ◌+◌, ◌≤◌, ℕ}
use Rattle.ua_core.specs.Session.{JobOf, Stage}
use Rattle.ua_core.specs.declared.planned.Planned.{Planned}
use Rattle.ua_core.specs.declared.state.SessionState.{SessionState}
use Rattle.ua_core.specs.declared.state.SessionState.TheVariants as states

-- the stage, from the state and the other fields
abbrev pub stage_of : SessionState → JobOf → Planned → List Planned → List Planned → ℕ → Stage
stage_of states.Idle j i left todo made = Stage.Idle
stage_of states.Query j i left todo made = Stage.Query
stage_of states.Params j i left todo made = Stage.Params j
stage_of states.ClearOld j i left todo made = Stage.ClearOld j
stage_of states.Request j i left todo made = Stage.Request j
stage_of states.Pass j i left todo made = Stage.Pass j i left todo
stage_of states.Update j i left todo made = Stage.Update (record { job = j; at_hand = i; todo = todo; made = made })
stage_of states.Download j i left todo made = Stage.Download (record { job = j; at_hand = i; todo = todo; made = made })
stage_of states.Verify j i left todo made = Stage.Verify (record { job = j; at_hand = i; todo = todo; made = made })
stage_of states.Apply j i left todo made = Stage.Apply (record { job = j; at_hand = i; todo = todo; made = made })
stage_of states.AllApplied j i left todo made = Stage.AllApplied j
stage_of states.Activate j i left todo made = Stage.Activate j
stage_of states.Done j i left todo made = Stage.Done
stage_of states.Cancelling j i left todo made = Stage.Cancelling
stage_of (states.Failed cause) j i left todo made = Stage.Failed cause

-- There is room for the records that this start may still make: eight of them until the components
-- are passed, then one for the current component and for each that comes after it.
abbrev pub HasRecordRoom : SessionState → (records rest made room : ℕ) → Type 0
HasRecordRoom states.Query records rest made room = records + 8 ≤ room
HasRecordRoom states.Params records rest made room = records + 8 ≤ room
HasRecordRoom states.ClearOld records rest made room = records + 8 ≤ room
HasRecordRoom states.Request records rest made room = records + 8 ≤ room
HasRecordRoom states.Pass records rest made room = records + (1 + rest) ≤ room
HasRecordRoom states.Update records rest made room = (records + (1 + rest) ≤ room) × (made + rest ≤ 7)
HasRecordRoom states.Download records rest made room = (records + (1 + rest) ≤ room) × (made + rest ≤ 7)
HasRecordRoom states.Verify records rest made room = (records + (1 + rest) ≤ room) × (made + rest ≤ 7)
HasRecordRoom states.Apply records rest made room = (records + (1 + rest) ≤ room) × (made + rest ≤ 7)
HasRecordRoom _ records rest made room = Unit {0}
