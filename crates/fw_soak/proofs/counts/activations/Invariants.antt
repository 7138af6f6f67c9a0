use Rattle.std.proofs.Common.{◌≡◌, ◌≤◌, ◌+◌, drop, map}
use Rattle.fw_message.specs.Entries.{entry_of}
use Rattle.fw_soak.specs.Counts.{activations_in}
use Rattle.fw_soak.proofs.counts.activations.Given as goal

-- the count so far, and the remaining entries
abbrev pub invariant-loop-entry : goal.invariant-loop-entry
invariant-loop-entry l = record {
  counted : l.count + activations_in (map entry_of (drop l.entry-index l.history)) ≡ activations_in (map entry_of l.history);
  within : l.count ≤ l.entry-index;
}
