use Rattle.std.proofs.Common.{◌≡◌, ◌+◌, ◌<◌}
use Rattle.fw_message.proofs.pair.waiting.wait_for_device.Given as goal

-- only the count of ticks changed
abbrev pub invariant-loop : goal.invariant-loop
invariant-loop g l =
    (l.device.device ≡ l.fn.device.device) × (l.device.idle ≡ l.fn.device.idle + l.counter)
    × (l.device.faults ≡ l.fn.device.faults) × (0 < l.counter → l.device.idle < 240)
