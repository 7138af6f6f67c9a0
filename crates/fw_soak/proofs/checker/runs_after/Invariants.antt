use Rattle.std.proofs.Common.{◌≡◌, drop, map}
use Rattle.fw_message.specs.Entries.{entry_of}
use Rattle.fw_soak.specs.Checks.{runs_after}
use Rattle.fw_soak.proofs.checker.runs_after.Given as goal

-- the active image after all entries is that after the remaining entries, from the one so far
abbrev pub invariant-loop-entry : goal.invariant-loop-entry
invariant-loop-entry l =
    runs_after (map entry_of (drop l.entry-index l.history)) l.device l.component.component.key l.runs
    ≡ runs_after (map entry_of l.history) l.device l.component.component.key l.component.image.items
