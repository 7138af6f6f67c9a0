use Rattle.std.proofs.Common.{◌≡◌, [], drop, map, take}
use Rattle.fw_message.specs.Entries.{entry_of}
use Rattle.fw_script.specs.Seen.{device_of}
use Rattle.fw_soak.specs.Checking.{are_right}
use Rattle.fw_soak.proofs.checker.are_right.Given as goal

-- the result for the remaining entries, after those before the place, is the result for all
abbrev pub invariant-loop-place : goal.invariant-loop-place
invariant-loop-place l =
    are_right l.packages (map device_of l.devices) (map entry_of (take l.place l.history)) (map entry_of (drop l.place l.history))
    ≡ are_right l.packages (map device_of l.devices) [] (map entry_of l.history)
