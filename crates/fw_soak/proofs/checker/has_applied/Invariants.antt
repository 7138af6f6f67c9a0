use Rattle.std.proofs.Common.{◌≡◌, drop, map}
use Rattle.fw_message.specs.Entries.{entry_of}
use Rattle.fw_soak.specs.Checking.{has_applied}
use Rattle.fw_soak.proofs.checker.has_applied.Given as goal

-- the result for the remaining entries is the result for all
abbrev pub invariant-loop-entry : goal.invariant-loop-entry
invariant-loop-entry l =
    has_applied (map entry_of (drop l.entry-index l.history)) l.device (record { key = l.image.key; bytes = l.image.bytes.now })
    ≡ has_applied (map entry_of l.history) l.device (record { key = l.image.key; bytes = l.image.bytes.now })
