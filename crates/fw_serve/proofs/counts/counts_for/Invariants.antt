use Rattle.std.proofs.Common.{◌≡◌, take}
use Rattle.fw_serve.specs.Agents.{new_counts}
use Rattle.fw_serve.proofs.counts.counts_for.Given as goal

-- the devices before the index have a count
abbrev pub invariant-loop-device : goal.invariant-loop-device
invariant-loop-device l = l.counts.items ≡ new_counts (take l.device-index l.devices)
