-- A tick leaves a ready device unchanged.
use Rattle.std.proofs.Common.{◌≡◌, ◌+◌, ◌==◌, ℕ, Bool, true, false, nat_lt, if◌then◌else◌, List, [], ◌∷◌, Option, Some, None, refl}
use Rattle.mctp_reasm.specs.Pieces.{MessageOf}
use Rattle.pldm_exch.specs.Caller.{may_begin}
use Rattle.pldm_exch.specs.Sides.{AskerTick, asker_counts, taker_counts}
use Rattle.fwup_wire.specs.Values.{CommandOf}
use Rattle.fd_core.specs.States.{DeviceState, Phase}
use Rattle.fd_core.specs.Steps.{device_timeout, tick_at}
use Rattle.fw_node.specs.Cores.{TimedDevice, device_core}
use Rattle.fw_node.specs.Halves.{HalfOf, begins_if, begins_wish, half_tick_by_row, half_ticks, tick_if, unwished_abandoned, with_caller}
use Rattle.fw_steps.specs.Sites.{is_ready}

-- a device that is ready is this one
abbrev Keeps : DeviceState → DeviceState → Type 0
Keeps v w = is_ready w.phase ≡ true → w ≡ v

waits_on : (more : Bool) (v : DeviceState) (idle : ℕ) → Keeps v (if◌then◌else◌ {A = DeviceState × ℕ} more (v, idle + 1) (device_timeout v, 0)).0
waits_on true v idle = λ e. refl
waits_on false v idle = λ e. absurd (cc)

own_tick : (p : Phase) (v : DeviceState) (idle : ℕ) → Keeps v (tick_at p v idle).0
own_tick Phase.Idle v idle = λ e. refl
own_tick Phase.Activated v idle = λ e. absurd (cc)
own_tick p v idle = waits_on (nat_lt (idle + 1) 240) v idle

begun : (may : Bool) (v : DeviceState) (h : HalfOf TimedDevice) (c : CommandOf) (sent : List MessageOf) → Keeps v h.core.device → Keeps v (begins_if may h c sent).half.core.device
begun true v h c sent k = k
begun false v h c sent k = k

wished : (wish : Option CommandOf) (v : DeviceState) (h : HalfOf TimedDevice) (sent : List MessageOf) → Keeps v h.core.device → Keeps v (begins_wish wish h sent).half.core.device
wished None v h sent k = k
wished (Some c) v h sent k = begun (may_begin h.asker.caller) v h c sent k

hearing : (hears : Bool) (h : HalfOf TimedDevice) (sent : List MessageOf) → Keeps h.core.device (tick_if hears device_core h sent).half.core.device
hearing true h sent =
    wished
    (device_core.wish (device_core.ticked h.core))
    h.core.device
    (with_caller (record h { core = device_core.ticked h.core }) (unwished_abandoned (device_core.wish (device_core.ticked h.core)) h.asker.caller))
    sent
    (own_tick h.core.device.phase h.core.device h.core.idle)
hearing false h sent = λ e. refl

after_call : (h : HalfOf TimedDevice) (row : AskerTick) → Keeps h.core.device (half_tick_by_row device_core h row).half.core.device
after_call h (AskerTick.Waits a) = hearing (a.deaf == 0) (record h { asker = a }) []
after_call h (AskerTick.Resends a m) = hearing (a.deaf == 0) (record h { asker = a }) (m ∷ [])
after_call h (AskerTick.GivesUp a) = hearing (a.deaf == 0) (record h { asker = a }) []

pub ticks_keep : (h : HalfOf TimedDevice) → is_ready (half_ticks device_core true h).half.core.device.phase ≡ true → (half_ticks device_core true h).half.core.device ≡ h.core.device
ticks_keep h = after_call (record h { taker = taker_counts h.taker }) (asker_counts h.asker)
