use Rattle.std.proofs.Common.{◌≡◌, ◌≤◌, ◌+◌, drop, filter, length, not}
use Rattle.fw_soak.proofs.counts.unmarked.Given as goal

-- the count so far, and the remaining marks
abbrev pub invariant-loop-mark : goal.invariant-loop-mark
invariant-loop-mark l = record {
  counted : l.count + length (filter not (drop l.mark-index l.marks)) ≡ length (filter not l.marks);
  within : l.count ≤ l.mark-index;
}
