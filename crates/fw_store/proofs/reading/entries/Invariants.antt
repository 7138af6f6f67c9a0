use Rattle.std.proofs.Common.{◌≡◌, ◌-◌, length}
use Rattle.fw_store.specs.Active.{entries_from}
use Rattle.fw_store.proofs.EachLine.{with_front}
use Rattle.fw_store.proofs.reading.entries.Given as goal

-- the lines so far are read, and the others are left
abbrev pub invariant-loop : goal.invariant-loop
invariant-loop l = with_front l.entries.items (entries_from (length l.text - l.counter) l.rest) ≡ entries_from (length l.text) l.text
