use Rattle.std.proofs.Common.{◌≡◌, ◌<◌, drop, take}
use Rattle.std.specs.List.{AllByRecursion}
use Rattle.fw_store.specs.Active.{next_number, number_from}
use Rattle.fw_store.proofs.opening.next_after.Given as goal

-- the number is above those so far, and those that are left lead from it to the next one
abbrev pub invariant-loop-entry : goal.invariant-loop-entry
invariant-loop-entry l = record {
  above : AllByRecursion (λ e. e.number < l.next) (take l.entry-index l.entries);
  value : number_from l.next (drop l.entry-index l.entries) ≡ next_number l.entries;
}
