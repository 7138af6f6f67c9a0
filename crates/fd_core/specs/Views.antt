-- The representation of a device's state in the code.
use Rattle.std.specs.Prelude.{[], ◌<◌, ◌≡◌, ◌≤◌, List, Option, Some, length, ℕ}
use Rattle.fd_core.specs.Images.{StageOf, staged_bytes}
use Rattle.fd_core.specs.States.{Phase, UpdateOf, WorkOf}
use Rattle.fd_core.specs.declared.parts.Update.{Update}
use Rattle.fd_core.specs.declared.parts.Work.{Work}
use Rattle.fd_core.specs.declared.states.Progress.{Progress}
use Rattle.fd_core.specs.declared.states.Progress.TheVariants as progress
use Rattle.fd_core.specs.declared.states.State.{State}
use Rattle.fd_core.specs.declared.states.State.TheVariants as states

abbrev pub update_of : Update → UpdateOf
update_of u = record { transfer_size = u.transfer_size; components = u.components; table = u.table.items }

abbrev pub work_of : Work → WorkOf
work_of w = record { key = w.key; size = w.size; label = w.label; force = w.force }

-- the phase of the device; fields that have no meaning in a state are ignored
abbrev pub phase_of : State → Progress → Update → Work → Phase
phase_of states.Idle p u w = Phase.Idle
phase_of states.Learn p u w = Phase.Learn (update_of u)
phase_of states.Ready p u w = Phase.Ready (update_of u)
phase_of states.Download p u w = Phase.Download (update_of u) (work_of w) p
phase_of states.Verify p u w = Phase.Verify (update_of u) (work_of w) p
phase_of states.Apply p u w = Phase.Apply (update_of u) (work_of w) p
phase_of states.Activate p u w = Phase.Activated

-- the bytes written so far: those of the bank's stage, if it is used
abbrev pub stage_now : State → Option StageOf → List ℕ
stage_now states.Download s = staged_bytes s
stage_now states.Verify s = staged_bytes s
stage_now states.Apply s = staged_bytes s
stage_now _ s = []

-- The bank's stage is that of the component being updated, with as many bytes as were counted.
abbrev pub IsStaged : Work → Option StageOf → Type 0
IsStaged w s =
    (s ≡ Some (record { key = w.key; size = w.size; label = w.label; bytes = staged_bytes s }))
    × (length (staged_bytes s) ≡ w.received)

-- facts about the stage in a state
abbrev pub HasStage : State → Progress → Work → Option StageOf → Type 0
HasStage states.Download progress.InProgress w s = IsStaged w s × (w.received < w.size)
HasStage states.Download progress.Succeeded w s = IsStaged w s × (w.received ≡ w.size)
HasStage states.Verify progress.InProgress w s = IsStaged w s × (w.received ≡ w.size)
HasStage states.Verify progress.Succeeded w s = IsStaged w s × (w.received ≡ w.size)
HasStage states.Apply progress.InProgress w s = IsStaged w s × (w.received ≡ w.size)
HasStage _ p w s = Unit {0}

-- a table that isn't complete has room
abbrev pub HasTable : State → Update → Type 0
HasTable states.Learn u = (length u.table.items < u.components) × (u.components ≤ 8)
HasTable _ u = Unit {0}
