-- The other events of a device: verdicts on an image, ticks and restarts.
use Rattle.std.specs.Prelude.{[], ◌+◌, ◌∷◌, Bool, List, None, Option, Some, false, if◌then◌else◌, nat_lt, true, ℕ}
use Rattle.fd_core.specs.Codes.{patience}
use Rattle.fd_core.specs.Images.{ImageOf, KeyedImage, rows_after_seal}
use Rattle.fd_core.specs.States.{DeviceState, Phase, UpdateOf, WorkOf, device_after_reset}
use Rattle.fd_core.specs.declared.states.Progress.TheVariants as progress
use Rattle.fd_core.specs.declared.states.Reason.{Reason}
use Rattle.fd_core.specs.declared.states.Reason.TheVariants as reasons
use Rattle.fd_core.specs.declared.states.State.TheVariants as states
use Rattle.fd_core.specs.declared.states.Verdict.{Verdict}
use Rattle.fd_core.specs.declared.states.Verdict.TheVariants as verdicts

-- The effect of a verdict: the device after it, and the image that it applies.
pub record VerdictEffect : Type 0 where
  pub after : DeviceState
  pub applied : List KeyedImage

abbrev pub verdict_effect : DeviceState → Phase → Option VerdictEffect
verdict_effect v p = Some (record { after = record v { phase = p }; applied = [] })

-- the image that was written, with the label of its offer
abbrev pub written_image : DeviceState → WorkOf → ImageOf
written_image v w = record { label = w.label; bytes = v.stage }

abbrev pub apply_judged : DeviceState → UpdateOf → WorkOf → Bool → VerdictEffect
apply_judged v u w true =
    record {
      after = record v { rows = rows_after_seal v.rows w.key (written_image v w); stage = []; phase = Phase.Apply u w progress.Succeeded };
      applied = record { key = w.key; bytes = v.stage } ∷ [];
    }
apply_judged v u w false = record { after = record v { phase = Phase.Apply u w (progress.Failed false) }; applied = [] }

-- A verdict counts in its state while the work is in progress, and in no other state.
abbrev pub verdict_at : DeviceState → Phase → Verdict → Bool → Option VerdictEffect
verdict_at v (Phase.Verify u w progress.InProgress) verdicts.VerifyOk works = verdict_effect v (Phase.Verify u w progress.Succeeded)
verdict_at v (Phase.Verify u w progress.InProgress) verdicts.VerifyFail works =
    verdict_effect v (Phase.Verify u w (progress.Failed false))
verdict_at v (Phase.Apply u w progress.InProgress) verdicts.ApplyOk works = Some (apply_judged v u w works)
verdict_at v (Phase.Apply u w progress.InProgress) verdicts.ApplyFail works =
    verdict_effect v (Phase.Apply u w (progress.Failed false))
verdict_at v p verdict works = None

abbrev pub device_verdict : DeviceState → Verdict → Bool → Option VerdictEffect
device_verdict v verdict works = verdict_at v v.phase verdict works

-- the device after a verdict, unchanged if the verdict doesn't count, and the image that it applies
abbrev pub judged_or : DeviceState → Option VerdictEffect → DeviceState
judged_or v None = v
judged_or v (Some j) = j.after

abbrev pub verdict_after : DeviceState → Verdict → Bool → DeviceState
verdict_after v verdict works = judged_or v (device_verdict v verdict works)

abbrev pub images_of_verdict : Option VerdictEffect → List KeyedImage
images_of_verdict None = []
images_of_verdict (Some j) = j.applied

abbrev pub applied_by : DeviceState → Verdict → Bool → List KeyedImage
applied_by v verdict works = images_of_verdict (device_verdict v verdict works)

-- the reason of a time-out; after an activation the next tick makes the device idle
abbrev pub timeout_reason : Phase → Reason
timeout_reason Phase.Idle = reasons.Initialization
timeout_reason (Phase.Learn u) = reasons.TimeOutInLearn
timeout_reason (Phase.Ready u) = reasons.TimeOutInReady
timeout_reason (Phase.Download u w p) = reasons.TimeOutInDownload
timeout_reason (Phase.Verify u w p) = reasons.TimeOutInVerify
timeout_reason (Phase.Apply u w p) = reasons.TimeOutInApply
timeout_reason Phase.Activated = reasons.Activation

abbrev pub device_timeout : DeviceState → DeviceState
device_timeout v = device_after_reset v (timeout_reason v.phase)

-- whether a tick may change the device: it isn't idle
abbrev pub times_out : Phase → Bool
times_out Phase.Idle = false
times_out p = true

-- A tick: the device after it and the ticks without a change.
abbrev pub tick_at : Phase → DeviceState → ℕ → DeviceState × ℕ
tick_at Phase.Idle v idle = (v, idle)
tick_at Phase.Activated v idle = (device_timeout v, 0)
tick_at p v idle = if nat_lt (idle + 1) patience then (v, idle + 1) else (device_timeout v, 0)

abbrev pub device_tick : DeviceState → ℕ → DeviceState × ℕ
device_tick v idle = tick_at v.phase v idle

-- a device after a restart: its active images stay
abbrev pub device_restart : DeviceState → DeviceState
device_restart v = record (device_after_reset v reasons.Initialization) { previous = states.Idle }
