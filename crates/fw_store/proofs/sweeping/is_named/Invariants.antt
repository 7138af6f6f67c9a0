use Rattle.std.proofs.Common.{◌≡◌, drop}
use Rattle.fw_store.specs.Strays.{names_file}
use Rattle.fw_store.proofs.sweeping.is_named.Given as goal

-- the answer of the lines that are left is the answer of all
abbrev pub invariant-loop-entry : goal.invariant-loop-entry
invariant-loop-entry l = names_file (drop l.entry-index l.entries) l.name ≡ names_file l.entries l.name
